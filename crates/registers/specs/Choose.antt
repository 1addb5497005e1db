-- The if-then-else of this crate's definitions, and the words that an answer hands back.
pub use Rattle.queue.specs.Choose.{pick, words_of}
