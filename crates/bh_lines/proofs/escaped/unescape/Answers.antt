use Rattle.std.proofs.Common.{◌≡◌, ◌++◌, take, refl, sym, ap, ◌∙◌, subst, arith}
use Rattle.std.specs.Char.{encode_utf8}
use Rattle.bh_lines.specs.Plain.{SaysTo}
use Rattle.bh_lines.proofs.Escapes.{says_nothing, says_more, says_put, says_all}
use Rattle.bh_lines.proofs.escaped.unescape.Goals as goal

pub loop-len-init : goal.loop-len-init
loop-len-init c = (says_nothing c.args.line.now c.args.start, omega arith, omega arith, refl)

pub returns-then-is_at-clause-text : goal.returns-then-is_at-clause-text
returns-then-is_at-clause-text c =
    let line = c.args.line.now in
    let l = c.loop-len in
    let stop = c.plain_end-stop.result in
    let says = says_put line c.as_bytes-bytes.result.now l.room c.put.new.room c.args.start l.place stop l.len c.in_ok-len.len c.as_bytes-bytes.ensures.value l.invariant.0 c.plain_end-stop.ensures.value c.in_ok-len.ensures.put in
    says_all line _ c.args.start stop says (c.if-is_at.ensures.within refl) (c.if-is_at.ensures.stands refl)

pub loop-len-preserved : goal.loop-len-preserved
loop-len-preserved c =
    let line = c.args.line.now in
    let l = c.loop-len in
    let stop = c.plain_end-stop.result in
    let next = c.in_ok-escape.escape.next in
    let says = says_put line c.as_bytes-bytes.result.now l.room c.put.new.room c.args.start l.place stop l.len c.in_ok-len.len c.as_bytes-bytes.ensures.value l.invariant.0 c.plain_end-stop.ensures.value c.in_ok-len.ensures.put in
    let spelt = c.as_bytes.ensures.value ∙ c.encode_utf8-character.ensures.value in
    let put : take c.in_ok-len-2.len c.put-in-loop-len.new.room ≡ take c.in_ok-len.len c.put.new.room ++ encode_utf8 c.in_ok-escape.escape.character =
    c.in_ok-len-2.ensures.put ∙ ap (λ s. take c.in_ok-len.len c.put.new.room ++ s) spelt in (
      subst (λ x. SaysTo line c.args.start x next) (sym put) (says_more line _ _ c.args.start stop next says c.in_ok-escape.ensures.says),
      c.in_ok-escape.ensures.within.1,
      c.in_ok-len-2.ensures.within,
      omega (arith, c.in_ok-len-2.ensures.len, c.in_ok-len.ensures.len),
    )
