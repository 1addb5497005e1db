mod BitLaws
mod Products
pub mod Numbers
mod Arrivals
pub mod Picks
pub mod ResetValues
pub mod Accesses
pub mod Writes
pub mod Soundness
pub mod RoundTrip
