-- Which answer is the right one.
use Rattle.std.specs.Prelude.{◌≡◌, ◌⊎◌, ℕ, ◌<◌, ⊤, List, Some, Ok}
use Rattle.aip_topo.specs.declared.topology.Topology.{Topology}
use Rattle.aip_topo.specs.Reading.{topology_of}
use Rattle.aip_replay.specs.Texts.{FirstBegin, IsTraceText}
use Rattle.aip_replay.specs.Judged.{end_by}
use Rattle.aip_replay.specs.declared.ends.ReplayEnd.{ReplayEnd}
use Rattle.aip_replay.specs.declared.ends.ReplayEnd.TheVariants as replay_end

-- A file isn't a trace text, and this line is the first that is wrong: the lines before it begin a trace, and with it they
-- don't. Where the file only stops too early, that is the one past its last line.
pub record IsFirstWrong (topo : Topology) (file : List ℕ) (line : ℕ) : Type 0 where
  pub before : (count : ℕ) → count < line → FirstBegin topo file count
  pub wrong : FirstBegin topo file line → ⊥
  pub no_text : IsTraceText topo file → ⊥

-- the right answer for a file: it is a trace text, or it is first wrong at this line
abbrev pub IsRight : Topology → List ℕ → ReplayEnd → Type 0
IsRight topo file replay_end.Holds = IsTraceText topo file
IsRight topo file (replay_end.Wrong line) = IsFirstWrong topo file line
IsRight topo file replay_end.ReadFault = ⊥
IsRight topo file (replay_end.Topology line f) = ⊥
IsRight topo file replay_end.Memory = ⊥

-- a file couldn't be read, or there was no memory
abbrev pub IsUnread : ReplayEnd → Type 0
IsUnread replay_end.ReadFault = ⊤
IsUnread replay_end.Memory = ⊤
IsUnread replay_end.Holds = ⊥
IsUnread (replay_end.Wrong line) = ⊥
IsUnread (replay_end.Topology line f) = ⊥

-- the right answer for a file over the topology that a text gives
pub record IsRightOver (topology file : List ℕ) (end : ReplayEnd) : Type 0 where
  pub topo : Topology
  pub given : topology_of topology ≡ Ok topo
  pub right : IsRight topo file end

-- the answer for a file over a topology text: the right one, or the one by which that text ends every replay, unless a file
-- couldn't be read or there was no memory
abbrev pub Answers : List ℕ → List ℕ → ReplayEnd → Type 0
Answers topology file end = IsUnread end ⊎ ((end_by topology ≡ Some end) ⊎ IsRightOver topology file end)
