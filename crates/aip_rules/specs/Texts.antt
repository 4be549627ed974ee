-- What is written for a topology and a schedule, and how the run ends.
use Rattle.std.specs.Prelude.{◌≡◌, ℕ, ◌+◌, ◌-◌, if◌then◌else◌, nat_lt, List, [], ◌∷◌, ◌++◌, length, take, codes, Option, Some, None, Result, Ok, Err}
use Rattle.std.specs.Fmt.{decimal}
use Rattle.aip_text.specs.Lines.{lines_of, is_skipped, has_carriage_return, most_lines, most_line_bytes}
use Rattle.aip_event.specs.declared.input.Input.{Input}
use Rattle.aip_event.specs.declared.event.Event.{Event}
use Rattle.aip_event.specs.Lines.{input_text, event_text}
use Rattle.aip_event.specs.Reading.{input_of}
use Rattle.aip_topo.specs.declared.topology.Topology.{Topology}
use Rattle.aip_topo.specs.declared.faults.TopoFault.{TopoFault}
use Rattle.aip_topo.specs.Reading.{RefusedLine, topology_of}
use Rattle.aip_rules.specs.declared.Entry.{Entry}
use Rattle.aip_rules.specs.declared.Entry.TheVariants.{Taken, Happened}
use Rattle.aip_rules.specs.declared.StepFault.{StepFault}
use Rattle.aip_rules.specs.declared.StepFault.TheVariants as fault
use Rattle.aip_rules.specs.Step.{step_of, after_step, trace_of}

-- the number of a fault of a schedule line, as a refusal line writes it
abbrev pub fault_number : StepFault → ℕ
fault_number fault.Form = 1
fault_number fault.Unknown = 2
fault_number fault.NoFlight = 3
fault_number fault.Range = 4
fault_number fault.Keyless = 5
fault_number fault.Many = 6
fault_number fault.Long = 7

-- what is written for an entry
abbrev pub entry_text : Entry → List ℕ
entry_text (Taken input) = input_text input
entry_text (Happened event) = event_text event

-- the text of a trace: what is written for its entries, the oldest first
abbrev pub text_of : List Entry → List ℕ
text_of [] = []
text_of (entry ∷ tr) = text_of tr ++ entry_text entry

-- the line that ends the text where a line of the schedule is refused: "! ", its number and the fault's
abbrev pub refusal_line : ℕ → StepFault → List ℕ
refusal_line line f = codes "! " ++ (decimal line ++ (32 ∷ (decimal (fault_number f) ++ 10 ∷ [])))

-- a line inside the limits that isn't skipped: it is an input, or outside the grammar
abbrev pub input_or_form : Option Input → Result (Option Input) StepFault
input_or_form None = Err fault.Form
input_or_form (Some input) = Ok (Some input)

-- a line of a schedule by itself: the first fault of Many, Long and Form that applies, or an input, or a skipped line
abbrev pub scheduled : ℕ → List ℕ → Result (Option Input) StepFault
scheduled number line =
    if nat_lt most_lines number then Err fault.Many else
    if nat_lt most_line_bytes (length line) then Err fault.Long else
    if has_carriage_return line then Err fault.Form else
    if is_skipped line then Ok None else
    input_or_form (input_of line)

-- how a run ends: the schedule is done, or the topology or the schedule is refused at a line for a fault
pub data Ending : Type 0 where
  Done : Ending
  Topology_refused : (line : ℕ) → TopoFault → Ending
  Schedule_refused : (line : ℕ) → StepFault → Ending

-- what a schedule comes to: the trace of the inputs before its end or its first refused line, and how it ends
pub record EndedRun : Type 0 where
  pub trace : List Entry
  pub ending : Ending

-- the run goes on with the trace of a step, or ends where the step is refused
abbrev pub by_step : List Entry → ℕ → Input → (List Entry → EndedRun) → Result (List Event) StepFault → EndedRun
by_step tr number input go (Ok events) = go (after_step tr input events)
by_step tr number input go (Err f) = record { trace = tr; ending = Schedule_refused number f }

-- the run takes a line: it ends where the line is refused, and goes on behind a skipped line
abbrev pub by_line : Topology → List Entry → ℕ → (List Entry → EndedRun) → Result (Option Input) StepFault → EndedRun
by_line topo tr number go (Err f) = record { trace = tr; ending = Schedule_refused number f }
by_line topo tr number go (Ok None) = go tr
by_line topo tr number go (Ok (Some input)) = by_step tr number input go (step_of topo tr input)

-- the run of these lines, the first of which has this number, from a trace on
abbrev pub ran_from : Topology → List Entry → ℕ → List (List ℕ) → EndedRun
ran_from topo tr number [] = record { trace = tr; ending = Done }
ran_from topo tr number (line ∷ lines) =
    by_line topo tr number (λ after. ran_from topo after (number + 1) lines) (scheduled number line)

-- the run of a schedule over a topology
abbrev pub ran : Topology → List ℕ → EndedRun
ran topo schedule = ran_from topo [] 1 (lines_of schedule)

-- the run over what a topology text gives; nothing is run where it is refused
abbrev pub ran_over : Result Topology RefusedLine → List ℕ → EndedRun
ran_over (Ok topo) schedule = ran topo schedule
ran_over (Err refused) schedule = record { trace = []; ending = Topology_refused refused.line refused.fault }

-- what ends the text: a refusal line where a line of the schedule is refused
abbrev pub ending_text : Ending → List ℕ
ending_text (Schedule_refused line f) = refusal_line line f
ending_text Done = []
ending_text (Topology_refused line f) = []

-- the text of a run: that of its trace, and the refusal line where there is one
abbrev pub text_of_run : EndedRun → List ℕ
text_of_run r = text_of r.trace ++ ending_text r.ending

-- what is written for the two files
abbrev pub output_of : List ℕ → List ℕ → List ℕ
output_of topology schedule = text_of_run (ran_over (topology_of topology) schedule)

-- how the run of the two files ends
abbrev pub end_of : List ℕ → List ℕ → Ending
end_of topology schedule = (ran_over (topology_of topology) schedule).ending

-- the lines of a schedule before the one that ends its run, where the first of them has this number
abbrev pub lines_before : ℕ → Ending → List (List ℕ) → List (List ℕ)
lines_before number (Schedule_refused line f) lines = take (line - number) lines
lines_before number Done lines = lines
lines_before number (Topology_refused line f) lines = []

-- the input of a line, if it has one
abbrev pub inputs_in_line : Option Input → List Input
inputs_in_line None = []
inputs_in_line (Some input) = input ∷ []

-- the inputs of these lines, in their order, without the skipped ones
abbrev pub inputs_in : List (List ℕ) → List Input
inputs_in [] = []
inputs_in (line ∷ lines) = (if is_skipped line then [] else inputs_in_line (input_of line)) ++ inputs_in lines

-- the trace of a run is that of the inputs on the lines before the one that ends it
abbrev pub IsTraceOfLines : Topology → List ℕ → Type 0
IsTraceOfLines topo schedule =
    trace_of topo (inputs_in (lines_before 1 (ran topo schedule).ending (lines_of schedule))) ≡ Some (ran topo schedule).trace
