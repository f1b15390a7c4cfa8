-- What is kept of a script is answered as in the whole.
use Rattle.std.proofs.Common.{ℕ, List, [], ◌∷◌, ap, ◌∙◌, take}
use Rattle.bh_lines.specs.Lines.{cut}
use Rattle.bh_port.specs.Course.{new_course}
use Rattle.bh_props.specs.SettingsView.{SettingsView}
use Rattle.bh_cut.specs.Alike.{IsAnsweredAlike, all_answers, answers_of, text_of}
use Rattle.bh_cut.specs.Kept.{kept}
use Rattle.bh_cut.proofs.Pieces.{kept-lines}
use Rattle.bh_cut.proofs.Single.{single-alike}
use Rattle.bh_cut.proofs.Worlds.{front-alike, text-answers, whole-alike}

pub answered-alike : (service : SettingsView) (names : List (List ℕ)) (input : List ℕ) → IsAnsweredAlike service names input
answered-alike service names input =
    let same = kept-lines names input in record {
      lines = same;
      own = λ name among n none. ap (λ c. take n (answers_of (name ∷ []) (all_answers service c))) same ∙ single-alike service names name (cut input) among n none;
      front = λ n none. ap (λ c. take n (all_answers service c)) same ∙ front-alike service names (cut input) n none;
      whole = λ none. ap (all_answers service) same ∙ whole-alike service names (cut input) none;
      text = λ none. text-answers service (new_course service) (cut (kept names input)) ∙ ap text_of (ap (all_answers service) same ∙ whole-alike service names (cut input) none);
    }
