-- What is done in one turn of the lock, by what was asked for.
use Rattle.std.specs.Prelude.{◌≡◌, ◌-◌, None}
use Rattle.bh_base.specs.declared.reply.Reply.{Reply}
use Rattle.bh_lease.specs.Leases.{LeasesView}
use Rattle.bh_lender.specs.Looks.{in_force_at}
use Rattle.bh_lender.specs.Recorded.{log_or, with_log_of}
use Rattle.bh_sharing.specs.declared.asks.Ask.{Ask}
use Rattle.bh_sharing.specs.declared.asks.Ask.TheVariants as ask
use Rattle.bh_sharing.specs.declared.asks.Said.{Said}
use Rattle.bh_sharing.specs.declared.asks.Said.TheVariants as said
use Rattle.bh_sharing.specs.Locked.{AreExpiredAt, IsEntry, IsGivenBackAt, IsTurnAt, LockedView}
use Rattle.bh_sharing.specs.Service.{Facts, IsOf}

-- neither the groups have changed nor what the connection has
abbrev pub IsLook : LockedView → LeasesView → LockedView → LeasesView → Type 0
IsLook old had new has = (new ≡ old) × (has ≡ had)

-- what a turn does, by what was asked for and what was said: that and no more
abbrev pub Does : Facts → Ask → LockedView → LeasesView → Reply → LockedView → LeasesView → Said → Type 0
Does facts (ask.Step group o wait) old had reply new has s = IsTurnAt facts group o.now wait old had reply new has s
Does facts (ask.Enter group context) old had reply new has (said.Told refused) = (new ≡ old) × IsEntry group context had refused has
Does facts (ask.Properties group command) old had reply new has (said.Properties found) =
    IsLook old had new has × (found ≡ in_force_at old.lender.recorded.groups group.0 command)
Does facts ask.GiveBack old had reply new has said.Done = IsGivenBackAt facts.moments old had new has
Does facts ask.GiveBack old had reply new has said.NoMemory = (new.lender ≡ old.lender) × (has ≡ had)
Does facts (ask.Expire from to) old had reply new has said.Done = AreExpiredAt facts.moments from (to - from) old new × (has ≡ had)
Does facts (ask.BeginWait number waiter) old had reply new has said.Done = IsLook old had new has
Does facts (ask.Sleep number millis) old had reply new has said.Done = IsLook old had new has
Does facts (ask.EndWait number group) old had reply new has said.Done = IsLook old had new has
Does facts ask.WakeAll old had reply new has said.Done = IsLook old had new has
Does facts ask.IsQuiet old had reply new has (said.Is it) = IsLook old had new has
Does facts ask.End old had reply new has said.Done = IsLook old had new has
Does facts ask.HasEnded old had reply new has (said.Is it) = IsLook old had new has
Does facts (ask.SwapLog log) old had reply new has (said.Log other) =
    (new ≡ record old { lender = record old.lender { recorded = with_log_of log old.lender.recorded } })
    × (other ≡ log_or log old.lender.recorded) × (has ≡ had)
Does facts ask.EndRecord old had reply new has said.Done =
    (new ≡ record old { lender = record old.lender { recorded = record old.lender.recorded { log = None } } }) × (has ≡ had)
Does facts _ old had reply new has _ = ⊥

-- the same of whatever stood under the lock of such a service
abbrev pub Did : Facts → Ask → LeasesView → Reply → LeasesView → Said → Type 0
Did facts a had reply has s = (old : LockedView) × (new : LockedView) × IsOf facts old.lender.recorded.groups × Does facts a old had reply new has s
