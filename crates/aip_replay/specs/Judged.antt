-- What the text of a topology by itself says of the answer of a replay.
use Rattle.std.specs.Prelude.{◌≡◌, ℕ, Bool, true, false, List, Option, Some, None, IfSome, Result, Ok, Err}
use Rattle.aip_topo.specs.declared.topology.Topology.{Topology}
use Rattle.aip_topo.specs.Reading.{RefusedLine, topology_of}
use Rattle.aip_sim.specs.declared.topologies.TopologyEnd.{TopologyEnd}
use Rattle.aip_sim.specs.declared.topologies.TopologyEnd.TheVariants as topology_end
use Rattle.aip_sim.specs.Judged.{IsOrUnread}
use Rattle.aip_replay.specs.declared.ends.ReplayEnd.{ReplayEnd}
use Rattle.aip_replay.specs.declared.ends.ReplayEnd.TheVariants as replay_end

-- the answer where no topology could be read
abbrev pub end_without : TopologyEnd → ReplayEnd
end_without topology_end.ReadFault = replay_end.ReadFault
end_without (topology_end.Refused line f) = replay_end.Topology line f
end_without topology_end.Memory = replay_end.Memory

-- the topology is refused
abbrev pub is_topology_refused : ReplayEnd → Bool
is_topology_refused (replay_end.Topology line f) = true
is_topology_refused replay_end.Holds = false
is_topology_refused (replay_end.Wrong line) = false
is_topology_refused replay_end.ReadFault = false
is_topology_refused replay_end.Memory = false

-- what ends every replay over what a topology text gives: its first refused line
abbrev pub end_over : Result Topology RefusedLine → Option ReplayEnd
end_over (Ok topo) = None
end_over (Err refused) = Some (replay_end.Topology refused.line refused.fault)

-- the same by the text
abbrev pub end_by : List ℕ → Option ReplayEnd
end_by text = end_over (topology_of text)

-- A topology text that by itself ends every replay ends this one, unless its file couldn't be read or there was no memory;
-- and only such a text is refused.
pub record JudgesReplay (text : List ℕ) (unread : Type 0) (end : ReplayEnd) : Type 0 where
  pub comes : IfSome (end_by text) (λ expected. IsOrUnread replay_end.Memory replay_end.ReadFault expected unread end)
  pub only : is_topology_refused end ≡ true → end_by text ≡ Some end
