use Rattle.std.proofs.Common.{◌≡◌, ℕ, ◌<◌, List, length, map, refl, sym, ap, subst, get_or, set, ◌∙◌, arith}
use Rattle.std.specs.List.{Contains}
use Rattle.bh_index_lists.specs.declared.lists.Link.{Link}
use Rattle.bh_index_lists.specs.Lists.{IsList, list_of}
use Rattle.bh_index_lists.proofs.Members.{IsIn, IsIn-from_Contains, IsIn-without}
use Rattle.bh_index_lists.proofs.Segments.{listed, IsList-from}
use Rattle.bh_slot_arena.specs.Linked.{IsLinked, head_at}
use Rattle.bh_slot_arena.specs.Nodes.{links_of, numbers_of}
use Rattle.bh_slot_arena.proofs.Beside.{links_size, no_node, number_read, number_there, on_number}
use Rattle.bh_slot_arena.proofs.Moved.{end-sound, end-view, taken-listed}
use Rattle.bh_slot_arena.proofs.family.move_slot.Goals as goal

pub bounds-heads-from : goal.bounds-heads-from
bounds-heads-from c = number_there c.args.nodes.now c.args.heads.now c.args.slot c.requires.sound c.requires.slot

pub offset_bounds-heads-from : goal.offset_bounds-heads-from
offset_bounds-heads-from c = let k = number_there c.args.nodes.now c.args.heads.now c.args.slot c.requires.sound c.requires.slot in omega (arith, k)

pub unlink-requires-clause-there : goal.unlink-requires-clause-there
unlink-requires-clause-there c = on_number c.args.nodes.now c.args.heads.now c.args.slot c.requires.sound c.requires.slot

-- every list once the slot is off its own
pub push_back-requires-clause-list : goal.push_back-requires-clause-list
push_back-requires-clause-list c =
    let L = links_of c.args.nodes.now in
    let M = links_of c.unlink.new.nodes in
    let number = number_read c.args.nodes.now c.args.slot no_node c.requires.slot in
    let within : c.args.slot < length L = omega (arith, c.requires.slot, links_size c.args.nodes.now) in
    let same : length M ≡ length L = links_size c.unlink.new.nodes ∙ c.unlink.auto.nodes ∙ sym (links_size c.args.nodes.now) in
    let out = taken-listed L M c.args.heads.now (numbers_of c.args.nodes.now) c.args.slot (head_at c.args.heads.now (get_or c.args.nodes.now c.args.slot no_node).list) c.unlink.new.head c.requires.sound within (ap (head_at c.args.heads.now) (sym number)) same c.unlink.ensures.list c.unlink.ensures.taken c.unlink.ensures.outside c.args.to c.requires.list in
    subst (λ l. IsList M (head_at (set c.args.heads.now l c.unlink.new.head) c.args.to)) number (IsList-from M (head_at (set c.args.heads.now (get_or (numbers_of c.args.nodes.now) c.args.slot 0) c.unlink.new.head) c.args.to) _ out)

pub push_back-requires-clause-apart : goal.push_back-requires-clause-apart
push_back-requires-clause-apart c =
    let L = links_of c.args.nodes.now in
    let M = links_of c.unlink.new.nodes in
    let number = number_read c.args.nodes.now c.args.slot no_node c.requires.slot in
    let within : c.args.slot < length L = omega (arith, c.requires.slot, links_size c.args.nodes.now) in
    let same : length M ≡ length L = links_size c.unlink.new.nodes ∙ c.unlink.auto.nodes ∙ sym (links_size c.args.nodes.now) in
    let out = taken-listed L M c.args.heads.now (numbers_of c.args.nodes.now) c.args.slot (head_at c.args.heads.now (get_or c.args.nodes.now c.args.slot no_node).list) c.unlink.new.head c.requires.sound within (ap (head_at c.args.heads.now) (sym number)) same c.unlink.ensures.list c.unlink.ensures.taken c.unlink.ensures.outside c.args.to c.requires.list in
    subst (λ l. ¬ (Contains (list_of M (head_at (set c.args.heads.now l c.unlink.new.head) c.args.to)) c.args.slot)) number
    (λ m. (IsIn-without c.args.slot c.args.slot _ (subst (IsIn c.args.slot) (listed _ _ _ out) (IsIn-from_Contains c.args.slot _ m))).1 refl)

pub returns-clause-sound : goal.returns-clause-sound
returns-clause-sound c =
    let L = links_of c.args.nodes.now in
    let M = links_of c.unlink.new.nodes in
    let number = number_read c.args.nodes.now c.args.slot no_node c.requires.slot in
    let within : c.args.slot < length L = omega (arith, c.requires.slot, links_size c.args.nodes.now) in
    let same : length M ≡ length L = links_size c.unlink.new.nodes ∙ c.unlink.auto.nodes ∙ sym (links_size c.args.nodes.now) in
    let N = links_of c.push_back.new.nodes in
    let same' : length N ≡ length M = links_size c.push_back.new.nodes ∙ c.push_back.auto.nodes ∙ sym (links_size c.unlink.new.nodes) in
    let heads = λ (l : ℕ). set (set c.args.heads.now l c.unlink.new.head) c.args.to c.push_back.new.head in
    let numbers : numbers_of c.set_number.new.nodes ≡ set (numbers_of c.args.nodes.now) c.args.slot c.args.to =
    c.set_number.ensures.numbers ∙ ap (λ (ns : List ℕ). set ns c.args.slot c.args.to) (c.push_back.ensures.numbers ∙ c.unlink.ensures.numbers) in
    let sound = end-sound L M c.args.heads.now (numbers_of c.args.nodes.now) c.args.slot (head_at c.args.heads.now (get_or c.args.nodes.now c.args.slot no_node).list) c.unlink.new.head c.requires.sound within (ap (head_at c.args.heads.now) (sym number)) same c.unlink.ensures.list c.unlink.ensures.taken c.unlink.ensures.outside
    N c.args.to (head_at (set c.args.heads.now (get_or c.args.nodes.now c.args.slot no_node).list c.unlink.new.head) c.args.to) c.push_back.new.head c.requires.list (ap (λ l. head_at (set c.args.heads.now l c.unlink.new.head) c.args.to) (sym number)) same' c.push_back.ensures.list c.push_back.ensures.added c.push_back.ensures.outside in
    subst (λ (ls : List Link). IsLinked ls (heads (get_or c.args.nodes.now c.args.slot no_node).list) (numbers_of c.set_number.new.nodes)) (sym c.set_number.ensures.links)
    (subst (IsLinked N (heads (get_or c.args.nodes.now c.args.slot no_node).list)) (sym numbers)
    (subst (λ l. IsLinked N (heads l) (set (numbers_of c.args.nodes.now) c.args.slot c.args.to)) number sound))

pub returns-clause-lists : goal.returns-clause-lists
returns-clause-lists c =
    let L = links_of c.args.nodes.now in
    let M = links_of c.unlink.new.nodes in
    let number = number_read c.args.nodes.now c.args.slot no_node c.requires.slot in
    let within : c.args.slot < length L = omega (arith, c.requires.slot, links_size c.args.nodes.now) in
    let same : length M ≡ length L = links_size c.unlink.new.nodes ∙ c.unlink.auto.nodes ∙ sym (links_size c.args.nodes.now) in
    let N = links_of c.push_back.new.nodes in
    let same' : length N ≡ length M = links_size c.push_back.new.nodes ∙ c.push_back.auto.nodes ∙ sym (links_size c.unlink.new.nodes) in
    let heads = λ (l : ℕ). set (set c.args.heads.now l c.unlink.new.head) c.args.to c.push_back.new.head in
    ap (λ (ls : List Link). map (list_of ls) (heads (get_or c.args.nodes.now c.args.slot no_node).list)) c.set_number.ensures.links
    ∙ ap (λ l. map (list_of N) (heads l)) (sym number)
    ∙ end-view L M c.args.heads.now (numbers_of c.args.nodes.now) c.args.slot (head_at c.args.heads.now (get_or c.args.nodes.now c.args.slot no_node).list) c.unlink.new.head c.requires.sound within (ap (head_at c.args.heads.now) (sym number)) same c.unlink.ensures.list c.unlink.ensures.taken c.unlink.ensures.outside
    N c.args.to (head_at (set c.args.heads.now (get_or c.args.nodes.now c.args.slot no_node).list c.unlink.new.head) c.args.to) c.push_back.new.head c.requires.list (ap (λ l. head_at (set c.args.heads.now l c.unlink.new.head) c.args.to) (sym number)) same' c.push_back.ensures.list c.push_back.ensures.added c.push_back.ensures.outside
