-- A workload on its way.
use Rattle.std.specs.Prelude.{◌≡◌, ℕ, List, [], Ok}
use Rattle.sha2.specs.Hashers.{Holds256}
use Rattle.aip_topo.specs.declared.topology.Topology.{Topology}
use Rattle.aip_topo.specs.Reading.{topology_of}
use Rattle.aip_rules.specs.declared.Entry.{Entry}
use Rattle.aip_rules.specs.Texts.{EndedRun, text_of}
use Rattle.aip_core.specs.StandsFor.{StandsFor}
use Rattle.aip_make.specs.declared.lines.Course.{Course}
use Rattle.aip_make.specs.declared.tally.Tally.{Tally}
use Rattle.aip_make.specs.Summaries.{event_count}
use Rattle.aip_make.specs.Workload.{made_from}

-- what was counted is of this trace: the number of its events, and a hasher that holds its text
pub record IsTallyOf (tr : List Entry) (tally : Tally) : Type 0 where
  pub events : tally.events ≡ event_count tr
  pub text : Holds256 tally.hasher (text_of tr)

-- A workload before its first line, over the topology that a text gives: the core stands for the empty trace of this
-- topology, the generator is in this state, and nothing was counted.
pub record IsOpened (text : List ℕ) (state : ℕ) (course : Course) : Type 0 where
  pub topo : Topology
  pub given : topology_of text ≡ Ok topo
  pub stands : StandsFor topo [] course.core
  pub words : course.words ≡ state
  pub counted : IsTallyOf [] course.tally

-- The made lines have come to this index, and so many are left: the core stands for a trace, which was counted, and from
-- which the run of the lines that are left is the whole run.
pub record HasCome (topo : Topology) (course : Course) (index left : ℕ) (whole : EndedRun) : Type 0 where
  pub trace : List Entry
  pub stands : StandsFor topo trace course.core
  pub counted : IsTallyOf trace course.tally
  pub rest : made_from topo trace course.words index left ≡ whole
