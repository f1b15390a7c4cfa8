-- Failures to accept a connection that pass by themselves, by the numbers that Linux gives them.
use Rattle.std.specs.Prelude.{ℕ, ℤ, pos, Bool, false, Option, Some, None, int_lt, unsigned_abs, ◌==◌, ◌||◌, if◌then◌else◌}

-- the connection is gone, or may not be had: EPERM, ENONET, EPROTO, ENOPROTOOPT, ENETDOWN, ENETUNREACH, ECONNABORTED,
-- ECONNRESET, ETIMEDOUT, EHOSTDOWN, EHOSTUNREACH
abbrev pub is_of_one_connection : ℕ → Bool
is_of_one_connection n = n == 1 || n == 64 || n == 71 || n == 92 || n == 100 || n == 101 || n == 103 || n == 104 || n == 110 || n == 112 || n == 113

-- no memory or no descriptor is free just now: ENOMEM, ENFILE, EMFILE, ENOBUFS
abbrev pub is_want_of_room : ℕ → Bool
is_want_of_room n = n == 12 || n == 23 || n == 24 || n == 105

-- there is none yet: EINTR, EAGAIN
abbrev pub is_early : ℕ → Bool
is_early n = n == 4 || n == 11

abbrev pub number_passes : ℕ → Bool
number_passes n = is_of_one_connection n || is_want_of_room n || is_early n

-- a failure that has no number of the system's lasts
abbrev pub passes : Option ℤ → Bool
passes (Some number) = if int_lt number (pos 0) then false else number_passes (unsigned_abs number)
passes None = false
