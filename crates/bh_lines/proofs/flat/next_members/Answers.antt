use Rattle.std.proofs.Common.{◌≡◌, ◌-◌, ◌<◌, ◌≤◌, [], ◌∷◌, ◌++◌, length, Some, None, sym, ap, ◌∙◌, subst, arith}
use Rattle.json.specs.Json.{read_key}
use Rattle.json.proofs.Grammar.{read_key-shorter}
use Rattle.bh_lines.specs.Flat.{are_members, IsBegun}
use Rattle.bh_lines.specs.declared.flat.FlatMember.{FlatMember}
use Rattle.bh_lines.proofs.FlatReading.{no_members_without_key, no_members_without_room, no_members_without_scalar, members_over, begun_after, begun_closed}
use Rattle.bh_lines.proofs.flat.next_members.Goals as goal

pub loop-name-init : goal.loop-name-init
loop-name-init c = λ first so_far. so_far

pub returns-in_err-name-clause-found : goal.returns-in_err-name-clause-found
returns-in_err-name-clause-found c first begun =
    let l = c.loop-name in
    let refused : read_key l.reader ≡ None = grind arith in
    rw c.from_residual.ensures ((l.invariant first begun).flat ∙ no_members_without_key _ l.reader refused)

pub returns-in_err-value-clause-found : goal.returns-in_err-value-clause-found
returns-in_err-value-clause-found c first begun =
    let l = c.loop-name in
    let named : read_key l.reader ≡ Some (Some c.in-Some.name.now, c.next_key.new.self) = grind arith in
    rw c.from_residual-in_err-value.ensures ((l.invariant first begun).flat ∙ no_members_without_scalar _ l.reader c.next_key.new.self c.in-Some.name.now named c.in_err-value.ensures.found)

pub returns-in_err-ok-clause-found : goal.returns-in_err-ok-clause-found
returns-in_err-ok-clause-found c first begun =
    let l = c.loop-name in
    let so_far = l.invariant first begun in
    let named : read_key l.reader ≡ Some (Some c.in-Some.name.now, c.next_key.new.self) = grind arith in
    let full : 8 ≤ length l.members.items = grind arith in
    let none : 8 - length l.members.items ≡ 0 = omega (arith, full) in
    rw c.from_residual-in_err-ok.ensures (so_far.flat ∙ ap (λ n. are_members n l.reader) none ∙ no_members_without_room l.reader c.next_key.new.self c.in-Some.name.now named)

pub loop-name-preserved : goal.loop-name-preserved
loop-name-preserved c first begun =
    let l = c.loop-name in
    let s = c.next_key.new.self in
    let r = c.next_scalar.new.reader in
    let m : FlatMember = record { name = c.in-Some.name; value = c.in_ok-value.value } in
    let named : read_key l.reader ≡ Some (Some c.in-Some.name.now, s) = grind arith in
    let less = read_key-shorter l.reader (Some c.in-Some.name.now) s named in
    let lesser : length r < length s = grind arith in
    let pushed : c.try_push.new.self.items ≡ l.members.items ++ m ∷ [] = grind arith in
    let room : length l.members.items < 8 = grind arith in
    subst (λ ms. IsBegun first ms r) (sym pushed) (begun_after first l.members.items m l.reader s r (l.invariant first begun) named c.in_ok-value.ensures.value c.in_ok-value.ensures.found (omega (arith, less, lesser)) room)

pub returns-clause-found : goal.returns-clause-found
returns-clause-found c first begun =
    let l = c.loop-name in
    let over : read_key l.reader ≡ Some (None, c.next_key.new.self) = grind arith in
    (l.invariant first begun).flat ∙ members_over _ l.reader c.next_key.new.self over

pub returns-clause-value : goal.returns-clause-value
returns-clause-value c first begun =
    let l = c.loop-name in
    let over : read_key l.reader ≡ Some (None, c.next_key.new.self) = grind arith in
    begun_closed first l.members.items l.reader c.next_key.new.self (l.invariant first begun) over
