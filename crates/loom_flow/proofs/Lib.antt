mod Arguments
mod Balance
pub mod Bodies
mod BodyTraces
pub mod CallSets
pub mod Counts
pub mod Deepest
pub mod Depths
pub mod Each
mod EachSimple
pub mod EachStep
mod Effects
mod Expressions
pub mod FlowLaws
pub mod Forward
mod Frames
mod FunctionBounds
pub mod Functions
pub mod InstructionPlaces
pub mod Jumps
mod Locals
mod Placement
pub mod Places
mod Plain
pub mod ProgramNumbers
pub mod Relations
pub mod Roles
pub mod Runs
mod Simple
pub mod Sizes
mod SmallExpressions
pub mod StatementRules
mod Statements
pub mod Steps
pub mod Straight
mod Sublist
pub mod Traces
mod Trees
pub mod Truths
