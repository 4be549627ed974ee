use Rattle.std.proofs.Common.{take}
use Rattle.domain_routes.proofs.LevelLemmas.{IsReached}
use Rattle.domain_routes.proofs.levels.reach.Given as goal

abbrev pub invariant-loop-way : goal.invariant-loop-way
invariant-loop-way l = IsReached (take l.way-index l.ways) l.next l.initial.levels l.levels l.found
