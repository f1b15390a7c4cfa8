use Rattle.std.proofs.Common.{◌≡◌, ◌≤◌, ◌<◌, length, slice_get, drop, None}
use Rattle.std.specs.Prelude.{IfSome}
use Rattle.bh_base.specs.Tickets.{is_cached_as}
use Rattle.bh_slot_arena.specs.Slots.{slots_on}
use Rattle.bh_cache.specs.Cache.{earliest}
use Rattle.bh_cache.proofs.cache.find_on.Given as goal

abbrev pub invariant-loop : goal.invariant-loop
invariant-loop l = record {
  end : l.end ≡ length (slots_on l.arena 1 l.chain);
  here : l.counter ≤ length (slots_on l.arena 1 l.chain);
  ahead : l.ahead ≡ slice_get (slots_on l.arena 1 l.chain) l.counter;
  within : IfSome l.found (λ slot. slot < length l.arena.payloads);
  rest : earliest (is_cached_as l.command (l.context, l.key)) l.arena.payloads None (slots_on l.arena 1 l.chain) ≡ earliest (is_cached_as l.command (l.context, l.key)) l.arena.payloads l.found (drop l.counter (slots_on l.arena 1 l.chain));
}
