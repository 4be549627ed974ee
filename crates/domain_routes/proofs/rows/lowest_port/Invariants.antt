use Rattle.std.proofs.Common.{◌≡◌, take}
use Rattle.domain_routes.specs.Walks.{lowest, nearer_ports}
use Rattle.domain_routes.specs.Levels.{level_at}
use Rattle.domain_routes.proofs.rows.lowest_port.Given as goal

abbrev pub invariant-loop-way : goal.invariant-loop-way
invariant-loop-way l = l.lowest ≡ lowest (nearer_ports (level_at l.distances) l.own (take l.way-index l.ways))
