mod Bytes
mod Runs
pub mod Answers
pub mod RoundTrip
pub mod Examples
pub mod Histories
pub mod Demand3
pub mod Swap
pub mod Overrun
pub mod Polling
