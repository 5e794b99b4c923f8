pub mod FaultCount
pub mod Files
pub mod Shelf
pub mod Buffer
pub mod Sink
pub mod Page
