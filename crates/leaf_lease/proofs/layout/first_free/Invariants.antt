use Rattle.std.proofs.Common.{◌≡◌, ℕ, ◌<◌, ◌≤◌, length, get_or}
use Rattle.leaf_lease.proofs.layout.first_free.Given as goal

abbrev pub invariant-loop-free : goal.invariant-loop-free
invariant-loop-free l = (l.free ≤ length l.leaves) × ((later : ℕ) → l.free ≤ later → later < length l.leaves → get_or l.leaves later 0 ≡ 0)

abbrev pub decreases-loop-free : goal.decreases-loop-free
decreases-loop-free l = l.free
