use Rattle.std.proofs.Common.{sym, subst}
use Rattle.bh_cache.specs.declared.notes.Noted.{Noted}
use Rattle.bh_cache.specs.declared.notes.Noted.TheVariants as noted
use Rattle.bh_cache.specs.Notes.{IsNoted}
use Rattle.bh_cache.proofs.Noting.{slot_more}
use Rattle.bh_cache.proofs.notes.with_slot.Goals as goal

pub returns : goal.returns
returns c = subst (λ (n : Noted). IsNoted c.args.slot n (noted.Few c.one_more.result)) (sym c.in-Few.is) (slot_more c.args.slot c.in-Few.few c.one_more.result c.one_more.ensures)
