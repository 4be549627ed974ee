use Rattle.aip_rules.proofs.Leaves.{none_twice}
use Rattle.aip_rules.proofs.laws.no_leaf_signs_twice.Goals as goal

pub returns : goal.returns
returns c = none_twice
