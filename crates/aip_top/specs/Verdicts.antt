-- What a replay answers and writes.
use Rattle.std.specs.Prelude.{◌≢◌, ℕ, ⊤, Bool, true, false, List, [], ◌∷◌, ◌++◌, codes, decimal, Option}
use Rattle.aip_replay.specs.Answers.{Answers, IsRightOver}
use Rattle.aip_replay.specs.declared.ends.ReplayEnd.{ReplayEnd}
use Rattle.aip_replay.specs.declared.ends.ReplayEnd.TheVariants as replay_end
use Rattle.aip_sim.specs.Runs.{Writes}
use Rattle.aip_top.specs.Judged.{IsOrMemory}
use Rattle.aip_top.specs.Written.{CutsShort}
use Rattle.aip_top.specs.declared.status.Status.{Status}
use Rattle.aip_top.specs.declared.status.Status.TheVariants as status

-- the status of an answer of a replay
abbrev pub status_of_replay : ReplayEnd → Status
status_of_replay replay_end.Holds = status.Done
status_of_replay (replay_end.Wrong line) = status.Wrong line
status_of_replay replay_end.ReadFault = status.ReadFault
status_of_replay (replay_end.Topology line f) = status.Topology line f
status_of_replay replay_end.Memory = status.Memory

-- the line that tells where a file is first wrong
abbrev pub wrong_text : ℕ → List ℕ
wrong_text line = codes "wrong " ++ (decimal line ++ 10 ∷ [])

-- what a replay writes at an answer: `holds`, or `wrong` and the number of the first wrong line; else nothing
abbrev pub replay_text : ReplayEnd → List ℕ
replay_text replay_end.Holds = codes "holds\n"
replay_text (replay_end.Wrong line) = wrong_text line
replay_text replay_end.ReadFault = []
replay_text (replay_end.Topology line f) = []
replay_text replay_end.Memory = []

-- the answer is a verdict on the file
abbrev pub is_verdict : ReplayEnd → Bool
is_verdict replay_end.Holds = true
is_verdict (replay_end.Wrong line) = true
is_verdict replay_end.ReadFault = false
is_verdict (replay_end.Topology line f) = false
is_verdict replay_end.Memory = false

-- what a status says of the file: all was done where it is the text of a trace over the topology, and it is wrong at a line
-- where that is its first wrong one
abbrev pub ReplaySays : List ℕ → List ℕ → Status → Type 0
ReplaySays topology file status.Done = IsRightOver topology file replay_end.Holds
ReplaySays topology file (status.Wrong line) = IsRightOver topology file (replay_end.Wrong line)
ReplaySays topology file _ = ⊤

-- `replay` of a topology text and a file: what the status says holds of the file. It ends and writes by the right answer for
-- the two texts, unless it came to none by a fault of reading or want of memory; and comes to its end where nothing fails.
pub record ReplayOf (topology file : List ℕ) (unread unwritten : Type 0) (end : Status) (old new : Option (List ℕ)) : Type 0 where
  pub says : ReplaySays topology file end
  pub verdict : ReplayEnd
  pub right : Answers topology file verdict
  pub writes : Writes CutsShort (status_of_replay verdict) (replay_text verdict) end old new
  pub complete : (unread → ⊥) → (unwritten → ⊥) → (verdict ≢ replay_end.ReadFault) × IsOrMemory (status_of_replay verdict) end

-- Told or not, what a replay writes goes by its status: it is the line of a verdict whose status is the answer, or a first part
-- of one where a fault or want of memory ends it.
pub record TellsVerdict (end : Status) (old new : Option (List ℕ)) : Type 0 where
  pub verdict : ReplayEnd
  pub writes : Writes CutsShort (status_of_replay verdict) (replay_text verdict) end old new
