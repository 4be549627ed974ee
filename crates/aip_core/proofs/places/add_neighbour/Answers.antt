use Rattle.aip_core.proofs.Rows.{row_added}
use Rattle.aip_core.proofs.places.add_neighbour.Goals as goal

pub returns-clause-added : goal.returns-clause-added
returns-clause-added c = λ other.
    row_added c.args.rows.now.items c.args.router other c.index_mut.result.now c.push.new.self c.args.neighbour c.requires c.index_mut.ensures.value c.in_ok-push.ensures.items
