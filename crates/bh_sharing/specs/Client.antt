-- What a connection has, and what its lines may be answered.
use Rattle.std.specs.Prelude.{◌≡◌, ◌⊎◌, ℕ, List, codes, true, IfSome, Option, Result}
use Rattle.bh_control.specs.AnswerLine.{groups_line}
use Rattle.bh_desk.specs.Answers.{HasAnsweredSome, responder}
use Rattle.bh_desk.specs.Session.{SessionOutcome}
use Rattle.bh_in_force.specs.declared.properties.InForce.{InForce}
use Rattle.bh_lease.specs.Leases.{LeasesView, cleared, entry_refusal}
use Rattle.bh_lease.specs.declared.leases.Refusal.{Refusal}
use Rattle.bh_lines.specs.declared.port_error.PortError.{PortError}
use Rattle.bh_lines.specs.Lines.{cut}
use Rattle.bh_lines.specs.Names.{Names}
use Rattle.bh_replies.specs.FaultLine.{error_data}
use Rattle.bh_replies.specs.ReplyLine.{json_line}
use Rattle.bh_share.specs.Answer.{entry_line}
use Rattle.bh_share.specs.declared.share_line.ShareLine.{ShareLine}
use Rattle.bh_share.specs.declared.share_line.ShareLine.TheVariants as lines
use Rattle.bh_sharing.specs.Locked.{IsEntry}
use Rattle.bh_sharing.specs.Service.{Facts}
use Rattle.bh_sharing.specs.Shared.{IsInForce, IsReturned, IsTurn}
use Rattle.bh_turns.specs.Turn.{in_force_line}

-- the names of the groups and commands that a connection asks, and what it has of tickets and of request contexts
pub record ClientView : Type 0 where
  pub names : Names
  pub leases : LeasesView

-- the line that a waiting line is answered once its client sends nothing more
abbrev pub gone_line : List ℕ
gone_line = json_line (error_data (codes "gone"))

-- what a line may be answered, and what the connection has then: the names; or what is in force of a command, with nothing
-- done; or whether it is within a request context now; or what a step that was made for it tells; or, where the line may wait and the client is gone, that it is, with
-- nothing done
abbrev pub MayTell : Facts → Type 0 → ClientView → ShareLine → List ℕ → ClientView → Type 0
MayTell facts gone old lines.Groups line new = (new ≡ old) × (line ≡ groups_line old.names.groups)
MayTell facts gone old (lines.Properties group command) line new =
    (new ≡ old) × ((found : Option InForce) × IsInForce facts group command found × (line ≡ in_force_line found))
MayTell facts gone old (lines.Enter group context) line new =
    (new.names ≡ old.names) × ((refused : Option Refusal) × IsEntry group context old.leases refused new.leases × (line ≡ entry_line refused))
MayTell facts gone old (lines.Step group o wait) line new =
    (new.names ≡ old.names)
    × (IsTurn facts old.names group o wait old.leases new.leases line ⊎ ((wait ≡ true) × gone × (new.leases ≡ old.leases) × (line ≡ gone_line)))

-- A connection that began with this was answered to its end: what it had then it had by turns for its lines alone, which are
-- those of the input, where that is known, and all of it was given back.
pub record IsAttended (facts : Facts) (gone : Type 0) (begun : ClientView) (input w0 w1 : Option (List ℕ)) (result : Result (Unit {0}) PortError) : Type 0 where
  pub had : ClientView
  pub turns : HasAnsweredSome (responder begun.names (MayTell facts gone)) begun had
  pub answers : IfSome input (λ bytes. SessionOutcome (responder begun.names (MayTell facts gone)) begun had w0 w1 (cut bytes) result)
  pub returned : IsReturned facts had.leases (cleared had.leases)
