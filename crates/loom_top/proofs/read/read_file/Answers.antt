use Rattle.std.proofs.Common.{◌≤◌, ◌<◌, length, ap, arith}
use Rattle.loom_lang.specs.Limits.{file_limit}
use Rattle.loom_top.proofs.Top.{whole_file, long_file, other_error}
use Rattle.loom_top.proofs.read.read_file.Goals as goal

pub returns-then-bytes-gt-FILE_LIMIT-clause-read : goal.returns-then-bytes-gt-FILE_LIMIT-clause-read
returns-then-bytes-gt-FILE_LIMIT-clause-read g c =
    let long : file_limit < length c.in-Ok.file = omega (arith, ap length c.bytes.ensures, c.if-bytes-gt-FILE_LIMIT.true) in
    long_file (g.F.Shelf.told c.args.shelf.now c.args.name.now) c.in-Ok.file c.in-Ok.ensures.whole long

pub returns-else-bytes-gt-FILE_LIMIT-clause-read : goal.returns-else-bytes-gt-FILE_LIMIT-clause-read
returns-else-bytes-gt-FILE_LIMIT-clause-read g c =
    let small : length c.in-Ok.file ≤ file_limit = omega (arith, ap length c.bytes.ensures, c.if-bytes-gt-FILE_LIMIT.false) in
    (whole_file (g.F.Shelf.told c.args.shelf.now c.args.name.now) c.in-Ok.file c.in-Ok.ensures.whole small, small)

pub returns-in-Err-Failed-clause-read : goal.returns-in-Err-Failed-clause-read
returns-in-Err-Failed-clause-read g c = c.in-Err-Failed.ensures.failed c.in-Err-Failed.field-0-is

pub returns-in-Err-NoMemory-clause-read : goal.returns-in-Err-NoMemory-clause-read
returns-in-Err-NoMemory-clause-read g c = other_error c.in-Err-NoMemory.field-0-is c.in-Err-NoMemory.ensures.missing
