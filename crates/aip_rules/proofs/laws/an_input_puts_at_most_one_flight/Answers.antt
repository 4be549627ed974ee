use Rattle.aip_rules.proofs.Puts.{at_most_one}
use Rattle.aip_rules.proofs.laws.an_input_puts_at_most_one_flight.Goals as goal

pub returns : goal.returns
returns c = at_most_one
