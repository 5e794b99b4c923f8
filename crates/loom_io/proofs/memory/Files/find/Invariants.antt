use Rattle.std.proofs.Common.{◌≡◌, drop}
use Rattle.loom_io.specs.Files.{bytes_of}
use Rattle.loom_io.proofs.memory.Files.find.Given as goal

-- no file before the index has the name
abbrev pub invariant-loop-file : goal.invariant-loop-file
invariant-loop-file l = bytes_of (drop l.file-index l.file-items) l.name ≡ bytes_of l.file-items l.name
