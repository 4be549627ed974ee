-- What a run writes, and what its core stands for.
use Rattle.std.specs.Prelude.{◌≡◌, ◌⊎◌, ℕ, List, Option, Ok}
use Rattle.aip_io.specs.Sink.{and_then, TookPart}
use Rattle.aip_topo.specs.declared.topology.Topology.{Topology}
use Rattle.aip_topo.specs.Reading.{topology_of}
use Rattle.aip_rules.specs.Texts.{ran, IsTraceOfLines}
use Rattle.aip_core.specs.Kept.{Kept}
use Rattle.aip_core.specs.StandsFor.{StandsFor}

-- A run or a command answers this and then the whole text is taken, or a fault or want of memory cuts it short. On every
-- answer a first part of the text is taken.
pub record Writes {End : Type 0} (cuts_short : End → Type 0) (expected : End) (text : List ℕ) (end : End) (old new : Option (List ℕ)) : Type 0 where
  pub answer : cuts_short end ⊎ (end ≡ expected)
  pub whole : end ≡ expected → new ≡ and_then old text
  pub part : TookPart old new text

-- The core stands for the trace of the run of a schedule over the topology that a text gives, which is the trace of the
-- inputs on the lines before the one that ends the run.
pub record StandsForRun (topology schedule : List ℕ) (core : Kept) : Type 0 where
  pub topo : Topology
  pub given : topology_of topology ≡ Ok topo
  pub stands : StandsFor topo (ran topo schedule).trace core
  pub lines : IsTraceOfLines topo schedule
