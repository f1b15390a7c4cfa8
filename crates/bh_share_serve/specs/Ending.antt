-- How a connection ended.
use Rattle.std.specs.Prelude.{Bool, true, Option, Result, Ok, Err, ⊤}
use Rattle.bh_lines.specs.declared.port_error.PortError.{PortError}
use Rattle.bh_lines.specs.declared.port_error.PortError.TheVariants as ports
use Rattle.bh_serve.specs.Idle.{end_of}
use Rattle.bh_serve.specs.declared.connection.ConnectionFault.{ConnectionFault}

-- by the fault that a read or a write noted, where one did; but that nothing more can be read from or written to a client
-- which went away while a line of it waited is no fault
abbrev pub end_unless_gone : Result ⊤ PortError → Option ConnectionFault → Bool → Result ⊤ ConnectionFault
end_unless_gone (Err ports.Read) noted true = Ok tt
end_unless_gone (Err ports.Write) noted true = Ok tt
end_unless_gone outcome noted was_gone = end_of outcome noted
