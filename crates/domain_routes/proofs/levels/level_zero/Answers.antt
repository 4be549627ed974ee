use Rattle.std.proofs.Common.{arith}
use Rattle.domain_routes.proofs.SearchLemmas.{zero_all}
use Rattle.domain_routes.proofs.levels.level_zero.Goals as goal

pub returns : goal.returns
returns c = zero_all c.args.domains.now c.args.goal c.loop-router.router c.loop-router.levels.items c.loop-router.invariant (omega arith)
