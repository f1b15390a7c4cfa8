-- What a reader gave of which no more than so many bytes were read.
use Rattle.std.proofs.Common.{◌≡◌, ℕ, ◌<◌, ◌≤◌, List, length, take, Option, Some, None, IfSome, option_map, ◌∙◌, ap, arith}
use Rattle.std.proofs.lemmas.List.{take_all, length-take}

-- where fewer bytes came than were asked for, they are all
pub all-read : (known : Option (List ℕ)) (most : ℕ) (bytes : List ℕ) → IfSome (option_map (take most) known) (λ xs. bytes ≡ xs) → length bytes < most → IfSome known (λ input. bytes ≡ input)
all-read None most bytes came fewer = tt
all-read (Some input) most bytes came fewer =
    let fits : length input ≤ most = omega (arith, length-take most input, ap length came) in
    came ∙ take_all most input fits
