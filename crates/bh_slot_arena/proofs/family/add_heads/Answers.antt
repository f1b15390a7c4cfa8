use Rattle.std.proofs.Common.{◌≡◌, ℕ, ◌++◌, ◌∷◌, [], List, Option, None, replicate, arith, sym, ap, ap₂, ◌∙◌, append_assoc, append-nil}
use Rattle.std.proofs.lemmas.List.{replicate_more}
use Rattle.bh_index_lists.specs.declared.lists.ListHead.{ListHead}
use Rattle.bh_index_lists.specs.Lists.{no_list}
use Rattle.bh_slot_arena.proofs.family.add_heads.Goals as goal

empty : (h : ListHead) → h.first ≡ None → h.last ≡ None → h.len ≡ 0 → h ≡ no_list
empty h f l n = ap₂ (λ (p q : Option ℕ). record { first = p; last = q; len = h.len }) f l ∙ ap (λ (k : ℕ). record { first = None; last = None; len = k }) n

pub loop-init : goal.loop-init
loop-init c = record { items = c.reserve.ensures.items ∙ sym (append-nil c.args.heads.now.items); room = omega (arith, c.in_ok-reserve.ensures.ok) }

pub push_reserved-requires : goal.push_reserved-requires
push_reserved-requires c = omega (arith, c.loop.invariant.room, c.loop-test.true)

pub loop-preserved : goal.loop-preserved
loop-preserved c =
    let is = empty c.default.result c.default.ensures.0 c.default.ensures.1.0 c.default.ensures.1.1 in
    record {
      items = c.push_reserved.ensures.items ∙ ap (λ (xs : List ListHead). xs ++ c.default.result ∷ []) c.loop.invariant.items ∙ append_assoc c.args.heads.now.items (replicate c.loop.counter no_list) (c.default.result ∷ []) ∙ ap (λ (h : ListHead). c.args.heads.now.items ++ (replicate c.loop.counter no_list ++ h ∷ [])) is ∙ ap (λ (xs : List ListHead). c.args.heads.now.items ++ xs) (replicate_more c.loop.counter no_list);
      room = omega (arith, c.loop.invariant.room, c.push_reserved.ensures.len, c.push_reserved.ensures.capacity);
    }

pub returns-clause-ok : goal.returns-clause-ok
returns-clause-ok c = let all : c.loop.counter ≡ c.args.count = omega arith in c.loop.invariant.items ∙ ap (λ (n : ℕ). c.args.heads.now.items ++ replicate n no_list) all
