use Rattle.std.proofs.Common.{◌≡◌, get_or, drop, true, false, ◌==◌, sym, ap, ◌∙◌}
use Rattle.fast_float.specs.Text.{scan}
use Rattle.serde_json.specs.Read.{number_of, number_from}
use Rattle.bh_lines.specs.Flat.{is_whole}
use Rattle.bh_lines.proofs.FlatReading.{signed_is_not_whole}
use Rattle.bh_lines.proofs.flat.whole_number.Goals as goal

pub returns-then-has_minus-clause-found : goal.returns-then-has_minus-clause-found
unfolding number_of
returns-then-has_minus-clause-found c =
    let s = c.as_bytes-bytes.result.now in
    let signed : (get_or s 0 0 == 45) ≡ true = sym c.if-has_minus.ensures in
    let read : number_of s ≡ number_from true (scan (drop 1 s)) = rw signed in
    sym (ap is_whole (ap number_of (sym c.as_bytes-bytes.ensures.value) ∙ read) ∙ signed_is_not_whole (scan (drop 1 s)))

pub returns-clause-found : goal.returns-clause-found
unfolding number_of
returns-clause-found c =
    let s = c.as_bytes-bytes.result.now in
    let plain : (get_or s 0 0 == 45) ≡ false = sym c.if-has_minus.ensures in
    let read : number_of s ≡ number_from false (scan s) = rw plain in
    rw (← c.as_bytes-bytes.ensures.value, read, ← c.scan.ensures.parts) c.whole_numeral.ensures.found

pub returns-clause-value : goal.returns-clause-value
unfolding number_of
returns-clause-value c =
    let s = c.as_bytes-bytes.result.now in
    let plain : (get_or s 0 0 == 45) ≡ false = sym c.if-has_minus.ensures in
    let read : number_of s ≡ number_from false (scan s) = rw plain in
    rw (← c.as_bytes-bytes.ensures.value, read, ← c.scan.ensures.parts) c.whole_numeral.ensures.value
