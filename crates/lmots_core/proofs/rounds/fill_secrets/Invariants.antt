use Rattle.std.proofs.Common.{◌≡◌, ◌*◌, ◌++◌, ◌∷◌, ℕ, List, length}
use Rattle.std.specs.Int.{w16, to_be_bytes}
use Rattle.sha2.specs.Sha256.{sha256}
use Rattle.lmots_core.specs.Lanes.{IsHead}
use Rattle.lmots_core.proofs.Standing.{Filled}
use Rattle.lmots_core.proofs.rounds.fill_secrets.Given as goal

abbrev pub invariant-groups : goal.invariant-groups
invariant-groups l = record {
  len : length l.values ≡ length l.initial.values;
  filled : (p : List ℕ) → IsHead l.head p → Filled (λ k. sha256 (p ++ to_be_bytes w16 k ++ 0xff ∷ l.seed)) (4 * l.group) l.values;
}
