use Rattle.std.proofs.Common.{◌≡◌, take, drop}
use Rattle.shutoff_filter.specs.Spare.{spare_in, spare_past}
use Rattle.shutoff_filter.proofs.spare.spare_slot.Given as goal

abbrev pub invariant-numbers : goal.invariant-numbers
invariant-numbers l = spare_in l.now l.slots ≡ spare_past l.now (take l.number l.slots) (drop l.number l.slots)
