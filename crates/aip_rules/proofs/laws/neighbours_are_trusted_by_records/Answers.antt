use Rattle.aip_rules.proofs.Trusting.{all_rightly}
use Rattle.aip_rules.proofs.laws.neighbours_are_trusted_by_records.Goals as goal

pub returns : goal.returns
returns c = all_rightly
