use Rattle.std.proofs.Common.{refl}
use Rattle.aip_sim.proofs.Whole.{refuses, not_unread}
use Rattle.aip_sim.proofs.topologies.topology_in.Goals as goal

pub returns-in-Err-clause-read : goal.returns-in-Err-clause-read
returns-in-Err-clause-read c = refuses c.args.text.now c.in-Err.end _ c.from.ensures c.in-Err.ensures.refused

pub returns-in-Err-clause-known : goal.returns-in-Err-clause-known
returns-in-Err-clause-known c = not_unread c.in-Err.end _ _ refl c.from.ensures
