use Rattle.std.proofs.Common.{◌<◌, length, arith}
use Rattle.bh_commands.proofs.Files.{all-read}
use Rattle.bh_commands.proofs.file.read_file.Goals as goal

pub returns-clause-whole : goal.returns-clause-whole
returns-clause-whole g c =
    let came = rw (c.take.ensures.inner, c.take.ensures.limit, c.new-bytes.ensures.items) at c.in_ok-read_to_end.ensures.bytes in
    let fewer : length c.read_to_end.new.buf.items < 4194305 = omega arith in
    all-read _ 4194305 _ came fewer
