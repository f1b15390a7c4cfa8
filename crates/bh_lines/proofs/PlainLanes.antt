-- Sixteen bytes of a text at once: which of them are stops.
use Rattle.std.proofs.Common.{◌≡◌, ℕ, ◌%◌, ◌^◌, List, map, length, replicate, bit_or, Fits, w8, refl, ap, ◌∙◌}
use Rattle.std.proofs.lemmas.Simd.{zip2_splat, zip2_of_maps}
use lib.Lanes.{Each1, zip2, mask_l, top}
use Rattle.json.specs.Run.{is_stop}
use Rattle.bh_lines.proofs.Lanes.{hit, below, lanes_found}

abbrev stop_lane : ℕ → ℕ
stop_lane x = bit_or (bit_or (hit x 34) (hit x 92)) (below x 32)

-- the three comparisons find the stops
pub stops_found : (v : List ℕ) → length v ≡ 16 → Each1 (Fits w8) v
    → mask_l (map (top 7) (zip2 bit_or (zip2 bit_or (zip2 hit v (replicate 16 34)) (zip2 hit v (replicate 16 92))) (zip2 below v (replicate 16 32)))) % 2 ^ 64 ≡ mask_l (map is_stop v)
stops_found v long fits =
    let quotes = zip2_splat hit v 16 34 long in
    let backslashes = zip2_splat hit v 16 92 long in
    let controls = zip2_splat below v 16 32 long in
    let lanes = zip2_of_maps bit_or (λ x. bit_or (hit x 34) (hit x 92)) (λ x. below x 32) v (zip2_of_maps bit_or (λ x. hit x 34) (λ x. hit x 92) v quotes backslashes) controls in
    ap (λ l. mask_l (map (top 7) l) % 2 ^ 64) lanes ∙ lanes_found stop_lane is_stop refl v long fits
