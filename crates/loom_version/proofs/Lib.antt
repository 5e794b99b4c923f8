pub mod ActiveNumbers
pub mod OwnNames
pub mod PlanRows
pub mod SlowTests
pub mod TableLines
