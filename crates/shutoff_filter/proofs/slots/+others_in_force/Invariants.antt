use Rattle.std.proofs.Common.{length}
use Rattle.shutoff_filter.proofs.slots.+others_in_force.Given as goal

abbrev pub decreases-others_in_force : goal.decreases-others_in_force
decreases-others_in_force l = length l.slots.now
