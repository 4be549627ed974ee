-- What a read of a text gives.
use Rattle.std.specs.Prelude.{◌≡◌, ◌↔◌, ℕ, ◌-◌, ◌≤◌, List, length, take, drop}

-- a read from an offset put the next n bytes of the text first into the buffer, and n is 0 exactly at the end
pub record IsRead (text : List ℕ) (at n : ℕ) (buffer : List ℕ) : Type 0 where
  pub bytes : take n buffer ≡ take n (drop at text)
  pub there : n ≤ length text - at
  pub ended : (n ≡ 0) ↔ (length text ≤ at)
