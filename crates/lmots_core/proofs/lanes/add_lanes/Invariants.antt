use Rattle.std.proofs.Common.{◌≡◌, ℕ, ◌+◌, ◌<◌, List, ◌++◌}
use Rattle.sha2.specs.Hashers.{Holds256}
use Rattle.sha2.specs.Sha256.{digest_bytes}
use Rattle.lmots_core.specs.Chains.{joined}
use Rattle.sha256_lanes.specs.Lanes.{value_in}
use Rattle.lmots_core.proofs.lanes.add_lanes.Given as goal

abbrev pub invariant-lanes : goal.invariant-lanes
invariant-lanes l = (m : List ℕ) (f : ℕ → List ℕ) (n : ℕ) → ((j : ℕ) → j < 4 → digest_bytes (value_in j l.value) 8 ≡ f (n + j))
    → Holds256 l.initial.hasher (m ++ joined f n) → Holds256 l.hasher (m ++ joined f (n + l.j))
