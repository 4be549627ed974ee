use Rattle.std.proofs.Common.{drop, length}
use Rattle.domain_routes.proofs.AddedWays.{AreWaysSoFar}
use Rattle.domain_routes.proofs.ways.all_ways.Given as goal

abbrev pub invariant-links : goal.invariant-links
invariant-links l = AreWaysSoFar (length l.graph.domains.items) l.graph.edges.items (drop l.edge-index l.graph.edges.items) l.all.items
