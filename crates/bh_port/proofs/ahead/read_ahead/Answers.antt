use Rattle.std.proofs.Common.{◌∷◌, [], ◌++◌, ◌+◌, ◌∙◌, take, drop, refl, sym, subst, arith, length-drop}
use Rattle.std.proofs.lemmas.Grind.{take-set_at}
use Rattle.std.proofs.lemmas.List.{drop-drop, length-set}
use Rattle.bh_props.specs.Shown.{settings_view}
use Rattle.bh_port.specs.Ahead.{AreRead, AreReady}
use Rattle.bh_port.proofs.Answering.{front-within}
use Rattle.bh_port.proofs.ReadLines.{read-more, ready-more}
use Rattle.bh_port.proofs.ahead.read_ahead.Goals as goal

pub loop-count-preserved : goal.loop-count-preserved
loop-count-preserved c =
    let bytes = c.args.bytes.now in
    let entries = c.args.groups.now.entries in
    let service = settings_view c.args.settings.now in
    let rest = drop c.loop-count.taken bytes in
    let front = c.in-Some.line in
    let line = c.read.new.self in
    let before = take c.loop-count.count c.loop-count.lines in
    let within = front-within rest rest front refl c.in-Some.ensures in
    let size = length-set c.loop-count.lines c.loop-count.count line in
    let same = take-set_at c.loop-count.lines c.loop-count.count (c.loop-count.count + 1) line refl c.loop-count-test.true in
    record {
      count = omega (arith, c.loop-count-test.true, size);
      within = omega (arith, c.loop-count.invariant.within, within.1, length-drop c.loop-count.taken bytes);
      room = size ∙ c.loop-count.invariant.room;
      read = subst (λ ls. AreRead service entries ls bytes (drop (c.loop-count.taken + front.taken) bytes)) (sym same)
          (subst (λ left. AreRead service entries (before ++ line ∷ []) bytes left) (drop-drop front.taken c.loop-count.taken bytes)
          (read-more service entries before line bytes rest front c.loop-count.invariant.read c.in-Some.ensures (c.if-not-read.ensures.said refl)));
      ready = subst (AreReady entries) (sym same) (ready-more entries before line c.loop-count.invariant.ready (c.if-not-read.ensures.ready refl));
    }
