use Rattle.std.proofs.Common.{ℕ, ◌<◌, ◌≤◌, slice_index}
use Rattle.lmots_core.proofs.rounds.next_at.Given as goal

abbrev pub invariant-chains : goal.invariant-chains
invariant-chains l = (k : ℕ) → l.at ≤ k → k < l.k → slice_index l.to k ≤ slice_index l.from k
