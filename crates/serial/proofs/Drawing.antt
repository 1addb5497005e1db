-- A master's lines are the drawing of its load, and determine it: demand 3's last sentence. Recorded and Enabled are the ends.
pub mod Injective
pub mod Solo
pub mod Slot
pub mod MotorolaWords
pub mod TiWords
pub mod MicrowireWords
pub mod Recorded
pub mod Enabled
pub mod Free
pub mod Window
