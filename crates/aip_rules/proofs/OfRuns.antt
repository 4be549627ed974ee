-- What holds of every trace that the rules give holds of the trace of every run.
use Rattle.std.proofs.Common.{◌≡◌, ℕ, List, Result, Ok, Err, refl}
use Rattle.aip_text.specs.Lines.{lines_of}
use Rattle.aip_topo.specs.declared.topology.Topology.{Topology}
use Rattle.aip_topo.specs.Sound.{IsSound}
use Rattle.aip_topo.specs.Reading.{RefusedLine, topology_of}
use Rattle.aip_topo.proofs.Soundness.{given_sound}
use Rattle.aip_rules.specs.declared.Entry.{Entry}
use Rattle.aip_rules.specs.Texts.{ran, inputs_in, lines_before}
use Rattle.aip_rules.specs.Promises.{HoldsOfAll, HoldsOver, HoldsOfRun}
use Rattle.aip_rules.proofs.Lines.{of_lines}

module _ (Promise : Topology → List Entry → Type 0) (holds : HoldsOfAll Promise) where
  over : (topo : Topology) (schedule : List ℕ) → IsSound topo → Promise topo (ran topo schedule).trace
  over topo schedule sound =
      holds topo sound (inputs_in (lines_before 1 (ran topo schedule).ending (lines_of schedule))) (ran topo schedule).trace (of_lines topo schedule)

  given : (topology schedule : List ℕ) (read : Result Topology RefusedLine) → topology_of topology ≡ read → HoldsOver Promise read schedule
  given topology schedule (Ok topo) is = over topo schedule (given_sound topology topo is)
  given topology schedule (Err refused) is = tt

  -- the promise holds of each run
  pub of_run : (topology schedule : List ℕ) → HoldsOfRun Promise topology schedule
  of_run topology schedule = given topology schedule (topology_of topology) refl
