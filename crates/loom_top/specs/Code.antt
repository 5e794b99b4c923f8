-- The statuses of runs and of files, and the numbers of statuses.
use Rattle.std.specs.Prelude.{ℕ, List, ◌++◌, codes}
use Rattle.loom_trace.specs.declared.entry.Ending.{Ending}
use Rattle.loom_trace.specs.declared.entry.Ending.TheVariants as k
use Rattle.loom_top.specs.declared.read.FileFault.{FileFault}
use Rattle.loom_top.specs.declared.read.FileFault.TheVariants as fault
use Rattle.loom_top.specs.declared.status.Status.{Status}
use Rattle.loom_top.specs.declared.status.Status.TheVariants as status

abbrev pub code : Status → ℕ
code status.Done = 0
code status.Usage = 1
code status.Refused = 2
code status.NoScript = 3
code status.ReadFault = 4
code status.WriteFault = 5
code status.NoMemory = 6
code status.Stuck = 7
code status.Limit = 8
code status.TooLong = 10

-- the status where a run ends like this
abbrev pub ended_as : Ending → Status
ended_as k.Stuck = status.Stuck
ended_as k.Limit = status.Limit
ended_as _ = status.Done

-- the status where a file's bytes aren't had
abbrev pub fault_status : FileFault → Status
fault_status fault.Failed = status.ReadFault
fault_status fault.TooLong = status.TooLong
fault_status fault.NoMemory = status.NoMemory

-- what is written then of the file of this name
abbrev pub fault_told : FileFault → List ℕ → List ℕ
fault_told fault.Failed name = codes "read fault: " ++ (name ++ codes "\n")
fault_told fault.TooLong name = codes "too long: " ++ (name ++ codes "\n")
fault_told fault.NoMemory name = codes "no memory\n"
