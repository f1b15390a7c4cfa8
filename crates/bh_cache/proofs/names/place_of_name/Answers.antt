use Rattle.std.proofs.Common.{◌≡◌, ℕ, ◌+◌, ◌*◌, ◌%◌, ◌^◌, ◌<◌, List, [], length, get_or, drop, ap, sym, ◌∙◌, arith, add-one, drop-cons}
use Rattle.bh_cache.specs.Names.{mixed, place_of_name, upper_half}
use Rattle.bh_cache.proofs.Members.{drop_end}
use Rattle.bh_cache.proofs.names.place_of_name.Goals as goal

one_more : (h i : ℕ) (key : List ℕ) → i < length key → mixed h (drop i key) ≡ mixed ((h + get_or key i 0) % 2 ^ 64 * 1099511628211 % 2 ^ 64) (drop (i + 1) key)
one_more h i key lt =
    ap (mixed h) (drop-cons key i 0 lt)
    ∙ ap (λ n. mixed ((h + get_or key i 0) % 2 ^ 64 * 1099511628211 % 2 ^ 64) (drop n key)) (sym (add-one i))

pub returns : goal.returns
unfolding place_of_name
returns c =
    let e = c.loop-byte.invariant.items in
    let end : drop c.loop-byte.byte-index c.args.key.now ≡ [] = drop_end c.args.key.now c.loop-byte.byte-index (omega (arith, ap (λ (xs : List ℕ). length xs) e)) in
    c.upper_half.ensures.half ∙ ap upper_half (sym (c.loop-byte.invariant.rest ∙ ap (mixed c.loop-byte.hash) end))

pub loop-byte-preserved : goal.loop-byte-preserved
loop-byte-preserved c =
    let e = c.loop-byte.invariant.items in
    let i = c.loop-byte.byte-index in
    let lt : i < length c.args.key.now = omega (arith, ap (λ (xs : List ℕ). length xs) e) in
    let byte : c.from.result ≡ get_or c.args.key.now i 0 = c.from.ensures ∙ ap (λ (xs : List ℕ). get_or xs i 0) e in
    record {
      items = e;
      rest = c.loop-byte.invariant.rest ∙ one_more c.loop-byte.hash i c.args.key.now lt ∙ ap (λ b. mixed ((c.loop-byte.hash + b) % 2 ^ 64 * 1099511628211 % 2 ^ 64) (drop (i + 1) c.args.key.now)) (sym byte);
    }
