-- The texts that tell findings, by their forms.
use Rattle.std.specs.Prelude.{ℕ, List, true}
use Rattle.bh_lint.specs.declared.form.Form.{Form}
use Rattle.bh_lint.specs.declared.form.Form.TheVariants as forms
use Rattle.bh_lint.specs.declared.told.Told.{Told}
use Rattle.bh_lint.specs.Lines.{lines_of, lines_in}
use Rattle.bh_lint.specs.Objects.{objects_of}

-- what is told, and how many more there are
abbrev pub text_in : Form → List ℕ → List Told → ℕ → List ℕ
text_in forms.Lines file told more = lines_of file told more
text_in forms.Coloured file told more = lines_in true file told more
text_in forms.Objects file told more = objects_of file told more
