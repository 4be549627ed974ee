use Rattle.std.proofs.Common.{◌≡◌, ℕ, ◌+◌, ◌*◌, ◌^◌, ◌≤◌, List, []}
use Rattle.std.specs.Prelude.{IfSome}
use Rattle.aip_text.specs.Lines.{most_line_bytes}
use Rattle.aip_io.specs.Lines.{left_of, turns_of}
use Rattle.aip_topo.specs.Sound.{IsSound}
use Rattle.aip_topo.specs.declared.topology.Topology.{Topology}
use Rattle.aip_core.specs.StandsFor.{StandsFor}
use Rattle.aip_replay.specs.Turns.{JudgesAt}
use Rattle.aip_replay.proofs.replays.play.Given as goal

-- the replay has come so far, and nothing has failed
abbrev pub invariant-turns : goal.invariant-turns
invariant-turns g l = record {
  few : 2 * l.number + turns_of l.lines ≤ 2 ^ 64 + 2;
  most : l.lines.most ≡ most_line_bytes;
  text : (other : List ℕ) → g.S.Shelf.text l.shelf other ≡ g.S.Shelf.text l.fn.shelf other;
  reads : (other : List ℕ) → g.S.Shelf.faults l.shelf other ≡ g.S.Shelf.faults l.fn.shelf other;
  came : IfSome (g.S.Shelf.text l.fn.shelf l.name) (λ told. (topo : Topology) → IsSound topo → StandsFor topo [] l.fn.opened.judge.core → l.fn.opened.judge.due ≡ []
      → JudgesAt topo l.judge l.number told (left_of told l.lines));
}

abbrev pub decreases-turns : goal.decreases-turns
decreases-turns g l = turns_of l.lines
