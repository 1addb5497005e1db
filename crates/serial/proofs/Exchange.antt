-- A wired master and slave exchange their words: demand 3's first part. Claim puts it together, Settle steps from slot to
-- slot, Wiring says what each format must give.
pub mod Core
pub mod Settle
pub mod Quiet
pub mod Moves
pub mod Turn
pub mod Wiring
pub mod Release
pub mod Motorola
pub mod Ends
pub mod Phase0
pub mod Phase1
pub mod Ti
pub mod Microwire
pub mod Formats
pub mod Finish
pub mod Busy
pub mod Project
pub mod Lead
pub mod Enable
pub mod Claim
