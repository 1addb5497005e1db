pub mod Bits
pub mod Engine
pub mod Slots
pub mod Lines
pub mod Master
