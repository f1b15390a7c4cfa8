-- How long a connection may keep the service waiting, and why it ended.
use Rattle.std.specs.Prelude.{⊤, ℕ, ◌+◌, ◌-◌, ◌^◌, List, length, slice_get, Bool, false, not, ◌==◌, ◌&&◌, nat_le, Option, Some, None, Result, Ok, Err, min, if◌then◌else◌}
use Rattle.std.specs.List.{list_any}
use Rattle.bh_serve.specs.declared.connection.ConnectionFault.{ConnectionFault}
use Rattle.bh_serve.specs.declared.connection.ConnectionFault.TheVariants.{Idle, Slow, Port}
use Rattle.bh_lines.specs.declared.port_error.PortError.{PortError}
use Rattle.bh_lines.specs.declared.port_error.PortError.TheVariants as port

-- the limit, whether a line has begun and is not whole, and how long reads waited since it began, in microseconds
pub record ClockView : Type 0 where
  pub limit : Option ℕ
  pub half_line : Bool
  pub waited : ℕ

abbrev pub new_clock : Option ℕ → ClockView
new_clock limit = record { limit = limit; half_line = false; waited = 0 }

abbrev pub left_of : Option ℕ → ℕ → Option ℕ
left_of None waited = None
left_of (Some limit) waited = Some (limit - waited)

-- silence may last as long as the limit, and a line that has begun as long as is left of it
abbrev pub left : ClockView → Option ℕ
left c = left_of c.limit c.waited

-- the client sent nothing all the time, or what it sent is no whole line
abbrev pub fault_in : ClockView → ConnectionFault
fault_in c = if c.waited == 0 then Idle else Slow

-- a line ends in the bytes
abbrev pub has_feed : List ℕ → Bool
has_feed bytes = list_any (λ byte. byte == 10) bytes

-- what was waited for bytes of the same line adds up; with another line it begins anew
abbrev pub waited_after : List ℕ → ℕ → ClockView → ℕ
waited_after bytes waited c = if c.half_line && not (has_feed bytes) then min (c.waited + waited) (2 ^ 64 - 1) else 0

-- of bytes of which this is the last: a line has begun and is not whole unless that is a line feed
abbrev pub after_last : Option ℕ → List ℕ → ℕ → ClockView → ClockView
after_last None bytes waited c = c
after_last (Some last) bytes waited c = record c { half_line = not (last == 10); waited = waited_after bytes waited c }

abbrev pub after_read : List ℕ → ℕ → ClockView → ClockView
after_read bytes waited c = after_last (slice_get bytes (length bytes - 1)) bytes waited c

-- whether the byte is a capital letter
abbrev pub is_capital : Option ℕ → Bool
is_capital None = false
is_capital (Some byte) = nat_le 65 byte && nat_le byte 90

-- the first bytes of a connection begin as a request of HTTP does, with the name of its method, and as no line that says anything
abbrev pub begins_as_http : List ℕ → Bool
begins_as_http bytes = is_capital (slice_get bytes 0)

-- what a write that had to wait for room tells of its client: it was waited for in vain, or does not read while the service stops
abbrev pub fault_of_wait : Bool → Bool → Option ConnectionFault
fault_of_wait in_vain told = if in_vain then Some Idle else (if told then Some (Port port.Write) else None)

-- how a connection ended whose conversation ended so: by the fault that a read or a write noted, where one did
abbrev pub end_of : Result ⊤ PortError → Option ConnectionFault → Result ⊤ ConnectionFault
end_of outcome (Some fault) = Err fault
end_of (Ok done) None = Ok done
end_of (Err error) None = Err (Port error)
