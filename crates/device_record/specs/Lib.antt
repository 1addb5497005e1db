pub mod Refusals
pub mod Record
pub mod Run
pub mod Calls
pub mod Demand3
