-- The calls of a disk.
use Rattle.std.specs.Prelude.{ℕ, List}

-- one call with its arguments: what is asked, from which byte on, and how much
pub data Call : Type 0 where
  Len : Call
  Read : ℕ → ℕ → Call
  Write : ℕ → List ℕ → Call
  Sync : Call
