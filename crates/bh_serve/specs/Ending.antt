-- What ends a service, what is to be done then, and what its exit status says.
use Rattle.std.specs.Prelude.{ℕ, Bool, true, Option, Some, None, is_some, ◌&&◌, ◌||◌, not, if◌then◌else◌}
use Rattle.bh_serve.specs.declared.serve.ServeError.{ServeError}
use Rattle.bh_serve.specs.declared.ending.Due.{Due}
use Rattle.bh_serve.specs.declared.ending.Due.TheVariants.{Fault, Close}

-- the fault that ended it, if one did, and whether it was told to stop
pub record EndingView : Type 0 where
  pub fault : Option ServeError
  pub told : Bool

abbrev pub is_over : EndingView → Bool
is_over e = e.told || is_some e.fault

-- the first fault ends a service that nothing has ended
abbrev pub after_fault : ServeError → EndingView → EndingView
after_fault error e = if is_over e then e else record e { fault = Some error }

-- the word to stop counts whatever went before it
abbrev pub after_word : EndingView → EndingView
after_word e = record e { told = true }

abbrev pub due_word : EndingView → EndingView → Option Due
due_word seen e = if e.told && not seen.told then Some Close else None

abbrev pub due_of : Option ServeError → Option ServeError → Option Due → Option Due
due_of None (Some error) otherwise = Some (Fault error)
due_of _ _ otherwise = otherwise

-- a fault is told once, before the connections are closed once
abbrev pub due : EndingView → EndingView → Option Due
due seen e = due_of seen.fault e.fault (due_word seen e)

abbrev pub status_of : EndingView → ℕ
status_of e = if is_some e.fault then 3 else 0
