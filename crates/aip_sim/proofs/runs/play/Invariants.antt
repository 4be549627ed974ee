use Rattle.std.proofs.Common.{◌≡◌, ℕ, ◌≤◌, ◌-◌, List, []}
use Rattle.std.specs.Prelude.{IfSome}
use Rattle.aip_text.specs.Lines.{lines_of, most_line_bytes}
use Rattle.aip_io.specs.Lines.{left_of}
use Rattle.aip_topo.specs.declared.topology.Topology.{Topology}
use Rattle.aip_rules.specs.Texts.{ran}
use Rattle.aip_core.specs.StandsFor.{StandsFor}
use Rattle.aip_sim.specs.Turns.{HasCome}
use Rattle.aip_sim.proofs.runs.play.Given as goal

-- the run has come so far, and nothing has failed
abbrev pub invariant-turns : goal.invariant-turns
invariant-turns g l = record {
  few : l.number ≤ 65537;
  most : l.lines.most ≡ most_line_bytes;
  text : (other : List ℕ) → g.S.Shelf.text l.shelf other ≡ g.S.Shelf.text l.fn.shelf other;
  reads : (other : List ℕ) → g.S.Shelf.faults l.shelf other ≡ g.S.Shelf.faults l.fn.shelf other;
  sink : g.K.Sink.faults l.out ≡ g.K.Sink.faults l.fn.out;
  came : IfSome (g.S.Shelf.text l.fn.shelf l.name) (λ told. (topo : Topology) → StandsFor topo [] l.fn.opened.core
      → HasCome topo l.core l.number (lines_of (left_of told l.lines)) (g.K.Sink.taken l.fn.out) (g.K.Sink.taken l.out) (ran topo told));
}

abbrev pub decreases-turns : goal.decreases-turns
decreases-turns g l = 65538 - l.number
