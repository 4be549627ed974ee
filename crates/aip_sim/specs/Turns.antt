-- A run on its way, and its turns.
use Rattle.std.specs.Prelude.{◌≡◌, ℕ, ◌+◌, ⊤, true, false, List, [], ◌++◌, ◌∷◌, Option, is_some, IfSome, Ok}
use Rattle.aip_io.specs.Sink.{and_then}
use Rattle.aip_event.specs.declared.event.Event.{Event}
use Rattle.aip_event.specs.Lines.{events_text}
use Rattle.aip_topo.specs.declared.topology.Topology.{Topology}
use Rattle.aip_topo.specs.Reading.{topology_of}
use Rattle.aip_rules.specs.declared.Entry.{Entry}
use Rattle.aip_rules.specs.declared.StepFault.{StepFault}
use Rattle.aip_rules.specs.Texts.{EndedRun, Schedule_refused, ran_from, text_of, text_of_run}
use Rattle.aip_core.specs.Kept.{Kept}
use Rattle.aip_core.specs.StandsFor.{StandsFor}
use Rattle.aip_sim.specs.declared.ends.RunEnd.{RunEnd}
use Rattle.aip_sim.specs.declared.turns.Turn.{Turn}
use Rattle.aip_sim.specs.declared.turns.Turn.TheVariants.{Goes, Ends}
use Rattle.aip_sim.specs.Ends.{IsCutShort, run_end_of, gives_core, is_topology_refused}
use Rattle.aip_sim.specs.Runs.{Writes}

-- the lines of an input, as it was read, and of its events
abbrev pub step_text : List ℕ → List Event → List ℕ
step_text line events = (62 ∷ (32 ∷ (line ++ 10 ∷ []))) ++ events_text events

-- a core at the start of a run: it stands for the empty trace of the topology that the text gives
pub record IsOpened (text : List ℕ) (core : Kept) : Type 0 where
  pub topo : Topology
  pub given : topology_of text ≡ Ok topo
  pub stands : StandsFor topo [] core

-- The run has come to these lines, the first of which has this number: the core stands for a trace, from which the run of
-- the lines is the whole run, and the text of the trace was taken.
pub record HasCome (topo : Topology) (core : Kept) (number : ℕ) (lines : List (List ℕ)) (start taken : Option (List ℕ)) (whole : EndedRun) : Type 0 where
  pub trace : List Entry
  pub stands : StandsFor topo trace core
  pub rest : ran_from topo trace number lines ≡ whole
  pub took : taken ≡ and_then start (text_of trace)

-- The run has ended: what was taken is its text, as far as the answer says, and a core that comes back stands for its
-- trace.
pub record HasEnded (topo : Topology) (whole : EndedRun) (start taken : Option (List ℕ)) (end : RunEnd) (core : Option Kept) : Type 0 where
  pub writes : Writes IsCutShort (run_end_of whole.ending) (text_of_run whole) end start taken
  pub stands : IfSome core (StandsFor topo whole.trace)

-- a turn of the run: it has come to the next line, or it has ended
abbrev pub IsTurn : Topology → ℕ → List (List ℕ) → Option (List ℕ) → Option (List ℕ) → EndedRun → Turn → Type 0
IsTurn topo number lines start taken whole (Goes core) = HasCome topo core (number + 1) lines start taken whole
IsTurn topo number lines start taken whole (Ends end core) = HasEnded topo whole start taken end core

-- The run ends here: the core stands for its trace, whose text was taken, and the line of this number is refused.
pub record IsRefusedHere (topo : Topology) (core : Kept) (number : ℕ) (f : StepFault) (start taken : Option (List ℕ)) (whole : EndedRun) : Type 0 where
  pub trace : List Entry
  pub stands : StandsFor topo trace core
  pub refused : whole ≡ record { trace = trace; ending = Schedule_refused number f }
  pub took : taken ≡ and_then start (text_of trace)

-- The core has taken the input of the line of this number, with these events: it stands for a trace, from which the run of
-- the lines behind it is the whole run. The text of the trace without the step was taken.
pub record IsStepped (topo : Topology) (core : Kept) (number : ℕ) (lines : List (List ℕ)) (line : List ℕ) (events : List Event) (start taken : Option (List ℕ)) (whole : EndedRun) : Type 0 where
  pub trace : List Entry
  pub before : List ℕ
  pub stands : StandsFor topo trace core
  pub rest : ran_from topo trace (number + 1) lines ≡ whole
  pub text : text_of trace ≡ before ++ step_text line events
  pub took : taken ≡ and_then start before

-- the run goes on
abbrev pub IsGoing : Turn → Type 0
IsGoing (Goes core) = ⊤
IsGoing (Ends end core) = ⊥

-- the run ends with this answer
abbrev pub EndsWith : RunEnd → Turn → Type 0
EndsWith end (Goes core) = ⊥
EndsWith end (Ends other core) = other ≡ end

-- a core comes back exactly where the schedule was taken to its end or to a refused line, and the topology wasn't refused
abbrev pub IsKnown : Turn → Type 0
IsKnown (Goes core) = ⊤
IsKnown (Ends end core) = (is_some core ≡ gives_core end) × (is_topology_refused end ≡ false)
