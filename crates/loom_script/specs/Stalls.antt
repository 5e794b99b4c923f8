-- Commands that wait for a stall.
use Rattle.std.specs.Prelude.{◌≡◌, Bool, true, false, List}
use Rattle.std.specs.List.{AllByRecursion}
use Rattle.loom_command.specs.Script.{Trigger, at, stall, ScriptCommand}

abbrev pub is_stall : Trigger → Bool
is_stall (at n) = false
is_stall stall = true

-- none of the commands does
abbrev pub HasNoStall : List ScriptCommand → Type 0
HasNoStall cs = AllByRecursion (λ (c : ScriptCommand). is_stall c.trigger ≡ false) cs
