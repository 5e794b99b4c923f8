pub mod Counts
pub mod ControlState
pub mod Awaits
pub mod OwedBlocks
mod OpenTurns
pub mod States
mod Going
mod LongerJournal
pub mod LastEntries
pub mod Notes
pub mod Ends
pub mod ControlTurns
mod InvariantReadings
mod CommandNotes
mod CommandReadings
mod Replies
mod LongerBook
mod EnterFree
mod ClauseLocks
mod Operable
mod Turning
mod NotedBook
mod OneStand
mod MindsFlags
mod ThreadTurns
mod Commits
mod FilterLists
mod Later
pub mod StandsBehind
pub mod ControlEntries
pub mod VersionNotes
pub mod FlagSets
pub mod FoundThreads
mod ControlledBook
mod NewVersions
mod ScriptCommands
mod Strands
pub mod FewThreads
pub mod NoOrders
pub mod OwnVersions
pub mod SinceAsked
pub mod Switches
