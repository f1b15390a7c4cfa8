-- A step, by what is seen of the state, its view alone. Layers that keep no history are held to it.
use Rattle.std.specs.Prelude.{ℕ, Bool, List, filter, slice_index_or, if◌then◌else◌}
use Rattle.bh_base.specs.declared.event.EventKind.{EventKind}
use Rattle.bh_base.specs.declared.event.Rolling.{Rolling}
use Rattle.bh_base.specs.declared.step.Op.{Op}
use Rattle.bh_base.specs.declared.reply.Reply.{Reply}
use Rattle.bh_base.specs.declared.reply.Reply.TheVariants as reply
use Rattle.bh_base.specs.Commands.{each_command, is_known}
use Rattle.bh_base.specs.History.{rolling_by, is_of_health, no_past, past_view, PastView}
use Rattle.bh_base.specs.Tables.{no_rows, sum_in, later_table, totals_with}
use Rattle.bh_base.specs.Machine.{Outcome, outcome}
use Rattle.bh_base.specs.Runs.{View, begun, released, is_worn, kinds_of, is_closed}

-- what the view of a past at the moment `latest` says at a later moment
abbrev pub past_view_rolling : ℕ → PastView → ℕ → Rolling
past_view_rolling latest p moment = rolling_by (sum_in p.window latest p.table moment) (sum_in p.window latest p.health moment) p.totals

-- what stands for the view of the past of a command that the group lacks
abbrev pub no_past_view : PastView
no_past_view = past_view 0 no_past

-- the past of the command, as it is seen
abbrev pub past_view_of : ℕ → View → PastView
past_view_of command v = slice_index_or v.pasts command no_past_view

-- what a step does, by the view
abbrev pub view_outcome : View → Op → ℕ → Outcome
view_outcome v o now =
    let g = begun now v.present in
    outcome o (λ command. past_view_rolling v.present.latest (past_view_of command v) g.latest) g

-- the view of a past at a later moment, with events of the kinds added then; where the circuit closed, health has none
abbrev pub past_view_with : ℕ → ℕ → List EventKind → Bool → PastView → PastView
past_view_with latest moment kinds closed p = record {
  window = p.window;
  table = later_table p.window latest p.table moment kinds;
  health = (if closed then no_rows p.window else later_table p.window latest p.health moment (filter is_of_health kinds));
  totals = totals_with kinds p.totals;
}

-- the view of the command's past with its events of a step
abbrev pub past_view_after : ℕ → Outcome → ℕ → PastView → PastView
past_view_after latest out command p =
    past_view_with latest out.present.latest (kinds_of command out.events) (is_closed out.closed command) p

-- the view after a step that has begun
abbrev pub view_recorded : View → Outcome → View
view_recorded v out = record {
  present = released out.present;
  pasts = each_command (past_view_after v.present.latest out) v.pasts;
}

-- the step, by the view
abbrev pub view_reply : View → Op → ℕ → Reply
view_reply v o now =
    if is_known o v.present.props
    then (if is_worn v.present then reply.Worn else (view_outcome v o now).reply)
    else reply.NoCommand

-- and the view after it
abbrev pub view_after : View → Op → ℕ → View
view_after v o now =
    if is_known o v.present.props
    then (if is_worn v.present then v else view_recorded v (view_outcome v o now))
    else v
