use Rattle.std.proofs.Common.{◌≡◌, ℕ, ◌++◌, ◌∷◌, [], List, replicate, arith, sym, ap, ◌∙◌, append_assoc, append-nil, refl}
use Rattle.std.proofs.lemmas.List.{replicate_more}
use Rattle.bh_slot_arena.proofs.arena.push_copies.Goals as goal

pub loop-init : goal.loop-init
loop-init g c = record { items = sym (append-nil c.args.payloads.now.items); room = omega (arith, c.requires); same = refl }

pub push_reserved-requires : goal.push_reserved-requires
push_reserved-requires g c = omega (arith, c.loop.invariant.room, c.loop-test.true)

pub loop-preserved : goal.loop-preserved
loop-preserved g c = record {
  items =
      c.push_reserved.ensures.items ∙ ap (λ (xs : List g.row.T.Denot). xs ++ c.args.payload ∷ []) c.loop.invariant.items
      ∙ append_assoc c.args.payloads.now.items (replicate c.loop.counter c.args.payload) (c.args.payload ∷ [])
      ∙ ap (λ (xs : List g.row.T.Denot). c.args.payloads.now.items ++ xs) (replicate_more c.loop.counter c.args.payload);
  room = omega (arith, c.loop.invariant.room, c.push_reserved.ensures.len, c.push_reserved.ensures.capacity);
  same = omega (arith, c.loop.invariant.same, c.push_reserved.ensures.capacity);
}

pub returns-clause-items : goal.returns-clause-items
returns-clause-items g c =
    let all : c.loop.counter ≡ c.args.count = omega arith in
    c.loop.invariant.items ∙ ap (λ (n : ℕ). c.args.payloads.now.items ++ replicate n c.args.payload) all
