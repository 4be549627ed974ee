-- A replay on its way, and its turns.
use Rattle.std.specs.Prelude.{◌≡◌, ◌⊎◌, ℕ, ◌+◌, ⊤, false, List, [], ◌++◌, length, drop, map, Some, Ok}
use Rattle.std.specs.List.{AllByRecursion}
use Rattle.aip_event.specs.declared.input.Input.{Input}
use Rattle.aip_event.specs.declared.event.Event.{Event}
use Rattle.aip_event.specs.Lines.{IsInput}
use Rattle.aip_topo.specs.declared.topology.Topology.{Topology}
use Rattle.aip_topo.specs.Reading.{topology_of}
use Rattle.aip_topo.specs.Sound.{IsSound}
use Rattle.aip_rules.specs.declared.Entry.{Entry}
use Rattle.aip_rules.specs.Step.{trace_of}
use Rattle.aip_core.specs.Kept.{Kept}
use Rattle.aip_core.specs.StandsFor.{StandsFor}
use Rattle.aip_replay.specs.Answers.{IsRight, IsUnread}
use Rattle.aip_replay.specs.Judged.{end_by, is_topology_refused}
use Rattle.aip_replay.specs.Marks.{event_mark, shown}
use Rattle.aip_replay.specs.Texts.{IsTraceLine, text_of_lines}
use Rattle.aip_replay.specs.declared.ends.ReplayEnd.{ReplayEnd}
use Rattle.aip_replay.specs.declared.turns.Judge.{Judge}
use Rattle.aip_replay.specs.declared.turns.Turn.{Turn}
use Rattle.aip_replay.specs.declared.turns.Turn.TheVariants.{Goes, Ends}

-- the replay of a file has come to the line of this number, with this left of the file: there is a trace that the core stands
-- for, and its lines without those of the events that are due are what was read
pub record HasCome (topo : Topology) (core : Kept) (due : List Event) (number : ℕ) (file left : List ℕ) : Type 0 where
  pub inputs : List Input
  pub trace : List Entry
  pub lines : List (List ℕ)
  pub formed : AllByRecursion IsInput inputs
  pub given : trace_of topo inputs ≡ Some trace
  pub stands : StandsFor topo trace core
  pub plain : AllByRecursion IsTraceLine lines
  pub read : shown trace ≡ lines ++ map event_mark due
  pub count : number ≡ length lines + 1
  pub whole : file ≡ text_of_lines lines ++ left

-- a judge of the lines: the replay has come to the line of this number with its core and the events that it has yet to see
abbrev pub JudgesAt : Topology → Judge → ℕ → List ℕ → List ℕ → Type 0
JudgesAt topo judge number file left = HasCome topo judge.core (drop judge.seen judge.due) number file left

-- a turn of the replay: it has come to the next line, or it has ended with the right answer or couldn't go on
abbrev pub IsTurn : Topology → ℕ → List ℕ → List ℕ → Turn → Type 0
IsTurn topo number file left (Goes judge) = JudgesAt topo judge (number + 1) file left
IsTurn topo number file left (Ends end) = IsUnread end ⊎ IsRight topo file end

-- A judge at the start of a replay: its core stands for the empty trace of the topology that the text gives, which is sound,
-- and no event is due.
pub record IsOpened (text : List ℕ) (judge : Judge) : Type 0 where
  pub topo : Topology
  pub given : topology_of text ≡ Ok topo
  pub sound : IsSound topo
  pub stands : StandsFor topo [] judge.core
  pub none : judge.due ≡ []

-- no replay was begun: a fault or want of memory came first, or the topology text ends every replay so
abbrev pub IsUnopened : List ℕ → ReplayEnd → Type 0
IsUnopened text end = IsUnread end ⊎ (end_by text ≡ Some end)

-- the replay goes on
abbrev pub IsGoing : Turn → Type 0
IsGoing (Goes judge) = ⊤
IsGoing (Ends end) = ⊥

-- the replay ends with this answer
abbrev pub EndsWith : ReplayEnd → Turn → Type 0
EndsWith end (Goes judge) = ⊥
EndsWith end (Ends other) = other ≡ end

-- it doesn't end with a refused topology
abbrev pub IsPassed : Turn → Type 0
IsPassed (Goes judge) = ⊤
IsPassed (Ends end) = is_topology_refused end ≡ false
