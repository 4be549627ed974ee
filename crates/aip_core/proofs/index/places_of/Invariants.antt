use Rattle.std.proofs.Common.{◌≤◌, length}
use Rattle.aip_core.proofs.Indexed.{FindsFrom}
use Rattle.aip_core.proofs.index.places_of.Given as goal

-- the keys from here on are found
abbrev pub invariant-keys : goal.invariant-keys
invariant-keys g l = (l.left ≤ length l.keys) × FindsFrom g.K.Ord.cmp l.keys l.left l.places

abbrev pub decreases-keys : goal.decreases-keys
decreases-keys g l = l.left
