use Rattle.std.proofs.Common.{◌≡◌, false, take}
use Rattle.json.specs.Print.{escape}
use Rattle.bh_replies.proofs.pieces.is_plain.Given as goal

abbrev pub invariant-loop-byte : goal.invariant-loop-byte
invariant-loop-byte l = l.stops ≡ false → escape (take l.byte-index l.text) ≡ take l.byte-index l.text
