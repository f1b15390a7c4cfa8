-- What a handle owns.
use Rattle.std.specs.Prelude.{Option, Some, None}
use Rattle.std.specs.Coded.{Coded, coded_option}
use base.Fml.{Fml, feq}
use denote.RawPtr.{Ptr, null_ptr}
use Rattle.std.specs.contracts.impls.GlobalAllocator.TheImpl.{ghosts}
use Rattle.std_alloc.specs.Box.Ownership.{box_owns}
use Rattle.bh_c.specs.declared.service.Service.{Service}
use Rattle.bh_c.specs.contracts.service.Service.{the_row}

-- the memory of the service that is held, and the right to free it; where none is held, the address is null
abbrev pub held_owns : Ptr → Option Service → Fml
held_owns at None = feq Ptr at null_ptr
held_owns at (Some service) = box_owns (ghosts.dealloc_token (record { memory = record { seal = tt } })) the_row at service

-- how the logic stores what is held
abbrev pub held_code : Coded (Option Service)
held_code = coded_option the_row.coded
