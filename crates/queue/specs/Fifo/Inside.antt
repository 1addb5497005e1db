-- The laws that open the two opaque definitions of a queue, for the proofs of this crate only.
use Rattle.std.specs.Prelude.{ℕ, ◌≤◌, ◌≡◌, refl, get_or, take}
use Rattle.queue.specs.declared.Queue.{Queue}
use Rattle.queue.specs.Fifo.{contents, Clean}

pub contents_of : (q : Queue) → contents q ≡ take q.count q.words
unfolding contents
contents_of q = refl

pub clean_intro : (q : Queue) → ((i : ℕ) → q.count ≤ i → get_or q.words i 0 ≡ 0) → Clean q
unfolding Clean
clean_intro q h = h

pub clean_elim : (q : Queue) → Clean q → (i : ℕ) → q.count ≤ i → get_or q.words i 0 ≡ 0
unfolding Clean
clean_elim q h = h
