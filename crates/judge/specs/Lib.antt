pub mod Shared
pub mod Judge
pub mod Place
pub mod Follow
