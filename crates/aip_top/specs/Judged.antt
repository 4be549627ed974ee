-- What a topology text by itself says of the end of a command.
use Rattle.std.specs.Prelude.{◌≡◌, ◌⊎◌, ℕ, ⊤, true, List, Option, Some, None, IfSome, option_map, Result, Ok, Err}
use Rattle.aip_topo.specs.declared.topology.Topology.{Topology}
use Rattle.aip_topo.specs.Reading.{RefusedLine, topology_of}
use Rattle.aip_sim.specs.Judged.{IsOrUnread, end_by as run_end_by}
use Rattle.aip_top.specs.Words.{Command, Run, Address, Lease, Registry, Record, Make, Replay}
use Rattle.aip_top.specs.Recording.{denial_in, drafted_of}
use Rattle.aip_top.specs.Leasing.{refusal_in, asked_of}
use Rattle.aip_top.specs.Statuses.{kind_of, status_of_run}
use Rattle.aip_top.specs.declared.status.Status.{Status}
use Rattle.aip_top.specs.declared.status.Status.TheVariants as status

-- the status that refuses what a topology text gives: a refused line
abbrev pub refusal_over : Result Topology RefusedLine → Option Status
refusal_over (Ok topo) = None
refusal_over (Err refused) = Some (status.Topology refused.line refused.fault)

-- the status that refuses a topology text
abbrev pub refusal_of : List ℕ → Option Status
refusal_of text = refusal_over (topology_of text)

-- the status by which the topology text by itself ends the command, if it does
abbrev pub end_by : Command → List ℕ → Option Status
end_by (Run files) text = option_map status_of_run (run_end_by text)
end_by (Address topology) text = refusal_of text
end_by (Lease leased) text = refusal_in (asked_of text leased.domain)
end_by (Registry files) text = refusal_of text
end_by (Replay files) text = refusal_of text
end_by (Record stated) text = denial_in (drafted_of text stated.said)
end_by (Make number) text = None

-- the file couldn't be read, or there was no memory
abbrev pub IsUnread : Status → Type 0
IsUnread end = (end ≡ status.ReadFault) ⊎ (end ≡ status.Memory)

-- the file couldn't be read, or there was no memory, or the text ends the command so
abbrev pub IsEarly : Option Status → Status → Type 0
IsEarly expected end = IsUnread end ⊎ (expected ≡ Some end)

-- the answer is the one that is expected, or want of memory
abbrev pub IsOrMemory : Status → Status → Type 0
IsOrMemory expected end = (end ≡ expected) ⊎ (end ≡ status.Memory)

-- A topology text that by itself ends the command ends it so, unless its file couldn't be read or there was no memory, and
-- all else stays as it was. Only such a text is refused.
pub record JudgesCommand (expected : Option Status) (unread stays : Type 0) (end : Status) : Type 0 where
  pub comes : IfSome expected (λ answer. stays × IsOrUnread status.Memory status.ReadFault answer unread end)
  pub only : (kind_of end).refuses ≡ true → expected ≡ Some end

-- what a topology text gives a command: the topology, or an early end
abbrev pub IsTopologyOf : List ℕ → Result Topology Status → Type 0
IsTopologyOf text (Ok topo) = topology_of text ≡ Ok topo
IsTopologyOf text (Err end) = IsEarly (refusal_of text) end

-- the status comes before a command has its topology: its file couldn't be read, it is refused, or there was no memory
abbrev pub IsOpeningEnd : Status → Type 0
IsOpeningEnd status.ReadFault = ⊤
IsOpeningEnd (status.Topology line f) = ⊤
IsOpeningEnd status.Memory = ⊤
IsOpeningEnd status.Done = ⊥
IsOpeningEnd status.Usage = ⊥
IsOpeningEnd status.WriteFault = ⊥
IsOpeningEnd (status.Schedule line f) = ⊥
IsOpeningEnd (status.Wrong line) = ⊥
IsOpeningEnd status.DiskFault = ⊥
IsOpeningEnd (status.Lease f) = ⊥
IsOpeningEnd (status.Record line f) = ⊥
