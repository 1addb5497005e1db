pub mod Sharing
pub mod Preloaded
mod Rests
mod Tables
mod Way
mod Ends
mod Follow
mod Verdicts
mod Following
mod Judging
mod OneVerdict
