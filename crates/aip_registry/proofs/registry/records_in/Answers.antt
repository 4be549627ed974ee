use Rattle.aip_registry.proofs.Entries.{in_order}
use Rattle.aip_registry.proofs.registry.records_in.Goals as goal

pub returns-clause-in_order : goal.returns-clause-in_order
returns-clause-in_order c = in_order c.args.terms.now.entries c.iter.ensures.ordered
