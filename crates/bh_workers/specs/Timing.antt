-- What a timer adds to its passes.
use Rattle.std.specs.Prelude.{◌≡◌, ℕ, ◌<◌, List, [], ◌∷◌, length, slice_get, Some, Bool}
use Rattle.bh_base.specs.declared.step.GroupId.{GroupId}
use Rattle.bh_base.specs.declared.step.Op.TheVariants as op
use Rattle.bh_base.specs.declared.reply.Reply.TheVariants as reply
use Rattle.bh_journal.specs.declared.pass.Receipt.{Receipt}
use Rattle.bh_journal.specs.Passes.{PassView}
use Rattle.bh_workers.specs.Receipts.{Gains, IsReceiptOf}

-- an Expire by which so many tickets timed out, which are not none
pub record IsExpiry (moments : ℕ → Type 0) (g : GroupId) (r : Receipt) : Type 0 where
  pub number : ℕ
  pub some : 0 < number
  pub expired : IsReceiptOf moments g op.Expire (reply.Expired number) r

-- Expires and nothing else
abbrev pub AreExpiries : (ℕ → Type 0) → GroupId → List Receipt → Type 0
AreExpiries moments g [] = Unit {0}
AreExpiries moments g (r ∷ rs) = IsExpiry moments g r × AreExpiries moments g rs

-- a timer was at a pass: it added Expires, and no mark
pub record IsTimed (moments : ℕ → Type 0) (audited : Bool) (p q : PassView) : Type 0 where
  pub made : List Receipt
  pub gains : Gains audited p q made
  pub marks : q.marks ≡ p.marks
  pub expiries : AreExpiries moments p.group made

-- a timer was at each of the passes
pub record AreTimed (moments : ℕ → Type 0) (audited : Bool) (old new : List PassView) : Type 0 where
  pub count : length new ≡ length old
  pub each : (k : ℕ) (p q : PassView) → slice_get old k ≡ Some p → slice_get new k ≡ Some q → IsTimed moments audited p q
