use Rattle.domain_routes.proofs.AddedWays.{row_added}
use Rattle.domain_routes.proofs.ways.add_way.Goals as goal

pub returns-clause-added : goal.returns-clause-added
returns-clause-added c = λ other.
    row_added c.args.all.now.items c.args.router other c.index_mut.result.now c.push.new.self c.args.way c.requires c.index_mut.ensures.value c.in_ok-push.ensures.items
