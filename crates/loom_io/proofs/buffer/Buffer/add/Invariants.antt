use Rattle.std.proofs.Common.{◌≡◌, ◌+◌, ◌++◌, take}
use Rattle.loom_io.proofs.buffer.Buffer.add.Given as goal

abbrev pub invariant-loop-byte : goal.invariant-loop-byte
invariant-loop-byte l = record {
  bytes : l.self.bytes ≡ l.fn.self.bytes ++ take l.byte-index l.piece;
  room : l.self.room + l.byte-index ≡ l.fn.self.room;
}
