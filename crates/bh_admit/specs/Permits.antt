-- Permits for runs by the caller.
use Rattle.std.specs.Prelude.{ℕ}

-- how many permits there are, and how many of them are taken
pub record PermitCount : Type 0 where
  pub max : ℕ
  pub taken : ℕ
