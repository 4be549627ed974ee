use Rattle.aip_rules.proofs.Justified.{justified}
use Rattle.aip_rules.proofs.laws.each_forward_is_justified.Goals as goal

pub returns : goal.returns
returns c = justified
