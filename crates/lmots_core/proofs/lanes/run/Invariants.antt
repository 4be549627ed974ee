use Rattle.std.proofs.Common.{◌≡◌, ℕ, ◌-◌, ◌<◌, List, ◌++◌, slice_index}
use Rattle.std.specs.Int.{w16, to_be_bytes}
use Rattle.sha2.specs.Sha256.{digest_bytes}
use Rattle.lmots_core.specs.Chains.{steps}
use Rattle.sha256_lanes.specs.Lanes.{value_in}
use Rattle.lmots_core.specs.Lanes.{IsHead}
use Rattle.lmots_core.proofs.lanes.run.Given as goal

-- the steps that are left lead where all of them lead
abbrev pub invariant-steps : goal.invariant-steps
invariant-steps l = (j : ℕ) → j < 4 → (p : List ℕ) → IsHead l.head p
    → steps (p ++ to_be_bytes w16 (slice_index l.chains j)) l.number (l.to - l.number) (digest_bytes (value_in j l.value) 8)
    ≡ steps (p ++ to_be_bytes w16 (slice_index l.chains j)) 0 (l.to - 0) (digest_bytes (value_in j l.initial.value) 8)
