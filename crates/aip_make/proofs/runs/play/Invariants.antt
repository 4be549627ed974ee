use Rattle.std.proofs.Common.{◌-◌}
use Rattle.aip_topo.specs.declared.topology.Topology.{Topology}
use Rattle.aip_rules.specs.Texts.{EndedRun}
use Rattle.aip_make.specs.Making.{HasCome}
use Rattle.aip_make.proofs.runs.play.Given as goal

-- the workload has come to the line with this index
abbrev pub invariant-lines : goal.invariant-lines
invariant-lines l = (topo : Topology) (whole : EndedRun) → HasCome topo l.fn.opened 0 l.lines whole → HasCome topo l.course l.index (l.lines - l.index) whole
