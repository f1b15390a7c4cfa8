-- The subjects of the groups so far and of one more.
use Rattle.std.proofs.Common.{◌≡◌, ℕ, ◌+◌, ◌<◌, List, [], ◌∷◌, ◌++◌, length, take, map, get_or, sym, ap, ◌∙◌, append_assoc, length-take, arith}
use Rattle.std.proofs.lemmas.List.{take_more}
use Rattle.bh_props.specs.declared.subject.Subject.{Subject}
use Rattle.bh_props.specs.Commands.{Commands, commands_in}
use Rattle.bh_props.specs.Subjects.{a_group, a_command, subjects, subjects_at}
use Rattle.bh_props.proofs.Each.{rows-last}

pub subjects-next : (names : List (List ℕ)) (commands : Commands) (i : ℕ) (name : List ℕ) (old group new : List Subject) → i < length names → name ≡ get_or names i name
    → old ≡ subjects (take i names) commands → group ≡ old ++ a_group name ∷ [] → new ≡ group ++ map (λ c. a_command c.0) (commands_in i commands)
    → new ≡ subjects (take (i + 1) names) commands
subjects-next names commands i name old group new within is so_far own further =
    let grown : take (i + 1) names ≡ take i names ++ name ∷ [] = take_more names i name within ∙ ap (λ n. take i names ++ n ∷ []) (sym is) in
    let here : i ≡ 0 + length (take i names) = simp length-take (omega arith) in
    further ∙ ap (λ some. some ++ map (λ c. a_command c.0) (commands_in i commands)) own
    ∙ append_assoc old (a_group name ∷ []) (map (λ c. a_command c.0) (commands_in i commands))
    ∙ ap (λ some. some ++ subjects_at commands i name) so_far
    ∙ ap (λ n. subjects (take i names) commands ++ subjects_at commands n name) here
    ∙ sym (ap (λ some. subjects some commands) grown ∙ rows-last 0 (subjects_at commands) (take i names) name)
