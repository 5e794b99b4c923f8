use Rattle.std.proofs.Common.{◌≡◌, ◌++◌, ◌∷◌, length, take}
use Rattle.loom_filter.proofs.key.put_name.Given as goal

abbrev pub invariant-bytes : goal.invariant-bytes
invariant-bytes l = l.key.items ≡ l.fn.key.items ++ (length l.bytes ∷ take l.b-index l.bytes)
