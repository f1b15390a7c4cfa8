-- What is known where no error was answered.
use Rattle.std.proofs.Common.{◌≡◌, ◌⊎◌, Ok, Err, inl, inr}
use Rattle.bh_lines.specs.declared.port_error.PortError.{PortError}

-- what holds unless a certain error was answered, where none was
pub unless-ok : {T : Type 0} (x : T) (e : PortError) {P : Type 0} → (Ok x ≡ Err e) ⊎ P → P
unless-ok x e (inl bad) = cc
unless-ok x e (inr p) = p
