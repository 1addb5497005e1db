pub mod Choose
pub mod Refusals
pub mod Text
pub mod Write
pub mod Read
pub mod RoundTrip
