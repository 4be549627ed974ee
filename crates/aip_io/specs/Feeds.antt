-- Where the first line feed stands.
use Rattle.std.specs.Prelude.{◌≡◌, ℕ, ◌+◌, ◌<◌, true, List, ◌∷◌, ◌++◌, length, take, drop}
use Rattle.aip_text.specs.Lines.{has_no_line_feed}

-- the first line feed of some bytes stands here
pub record IsFeed (bytes : List ℕ) (at : ℕ) : Type 0 where
  pub within : at < length bytes
  pub before : has_no_line_feed (take at bytes) ≡ true
  pub parts : bytes ≡ take at bytes ++ (10 ∷ drop (at + 1) bytes)
