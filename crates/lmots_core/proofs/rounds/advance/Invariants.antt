use Rattle.std.proofs.Common.{◌≡◌, ◌-◌, ◌++◌, ◌<◌, ℕ, [], List, length, slice_index, slice_index_or}
use Rattle.std.specs.Int.{w16, to_be_bytes}
use Rattle.sha2.specs.Sha256.{digest_bytes}
use Rattle.lmots_core.specs.Chains.{steps}
use Rattle.lmots_core.specs.Lanes.{IsHead}
use Rattle.lmots_core.specs.Standing.{IsOpen, Stand, left}
use Rattle.lmots_core.proofs.rounds.advance.Given as goal

abbrev pub invariant-turns : goal.invariant-turns
invariant-turns l = record {
  starts : length l.from ≡ length l.values;
  len : length l.values ≡ length l.initial.values;
  further : l.next < length l.from → slice_index l.from l.next < slice_index l.to l.next;
  found : (k : ℕ) → IsOpen l.from l.to k → l.next < length l.from;
  stand : (p : List ℕ) → IsHead l.head p → Stand p l.from l.to
      (λ k. steps (p ++ to_be_bytes w16 k) (slice_index l.initial.from k) (slice_index l.to k - slice_index l.initial.from k) (digest_bytes (slice_index_or l.initial.values k []) 8))
      l.values;
}

abbrev pub decreases-turns : goal.decreases-turns
decreases-turns l = left l.from l.to
