use Rattle.aip_rules.proofs.Silent.{all_silent}
use Rattle.aip_rules.proofs.laws.guards_are_silent.Goals as goal

pub returns : goal.returns
returns c = all_silent
