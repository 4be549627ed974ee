-- What the text of a topology by itself says of the answer of a run.
use Rattle.std.specs.Prelude.{◌≡◌, ◌⊎◌, ℕ, true, List, Option, Some, None, IfSome, Result, Ok, Err}
use Rattle.aip_topo.specs.declared.topology.Topology.{Topology}
use Rattle.aip_topo.specs.Reading.{RefusedLine, topology_of}
use Rattle.aip_sim.specs.declared.ends.RunEnd.{RunEnd}
use Rattle.aip_sim.specs.declared.ends.RunEnd.TheVariants as run_end
use Rattle.aip_sim.specs.Ends.{IsCutShort, is_topology_refused}

-- what ends every run over what a topology text gives: its first refused line
abbrev pub end_over : Result Topology RefusedLine → Option RunEnd
end_over (Ok topo) = None
end_over (Err refused) = Some (run_end.Topology refused.line refused.fault)

-- the same by the text
abbrev pub end_by : List ℕ → Option RunEnd
end_by text = end_over (topology_of text)

-- no run was begun: a fault or want of memory cut it short, or the topology text ends every run so
abbrev pub IsUnopened : List ℕ → RunEnd → Type 0
IsUnopened text end = IsCutShort end ⊎ (end_by text ≡ Some end)

-- an answer, of a run or a replay or a command, is the one that is expected, or want of memory, or a fault of reading that
-- has its cause
abbrev pub IsOrUnread : {End : Type 0} → (memory read_fault expected : End) → (cause : Type 0) → End → Type 0
IsOrUnread memory read_fault expected cause end = (end ≡ expected) ⊎ ((end ≡ memory) ⊎ ((end ≡ read_fault) × cause))

-- A topology text that by itself ends every run ends this one, unless its file couldn't be read or there was no memory, and
-- then nothing is written; and only such a text is refused.
pub record JudgesRun (text : List ℕ) (unread unwritten : Type 0) (end : RunEnd) : Type 0 where
  pub comes : IfSome (end_by text) (λ expected. unwritten × IsOrUnread run_end.Memory run_end.ReadFault expected unread end)
  pub only : is_topology_refused end ≡ true → end_by text ≡ Some end
