use Rattle.std.proofs.Common.{◌≡◌, ℕ, ◌<◌, length}
use Rattle.shutoff_filter.specs.FilterFile.{slot_at, slot_in}
use Rattle.shutoff_filter.proofs.opening.read_slots.Given as goal

abbrev pub invariant-loop-number : goal.invariant-loop-number
invariant-loop-number l = (length l.slots.items ≡ length l.fn.slots.items) × ((i : ℕ) → i < l.number → slot_in l.slots.items i ≡ slot_at l.bytes i)
