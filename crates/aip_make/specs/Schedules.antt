-- The made lines as a schedule.
use Rattle.std.specs.Prelude.{◌≡◌, ℕ, zero, suc, ◌+◌, ◌<◌, ◌≤◌, List, [], ◌∷◌, ◌++◌, flat_map, Some, Result, Ok, Err}
use Rattle.aip_event.specs.declared.event.Event.{Event}
use Rattle.aip_event.specs.declared.input.Input.{Input}
use Rattle.aip_event.specs.Lines.{input_line}
use Rattle.aip_topo.specs.declared.topology.Topology.{Topology}
use Rattle.aip_topo.specs.Reading.{RefusedLine, topology_of}
use Rattle.aip_topo.specs.Sound.{IsSound}
use Rattle.aip_rules.specs.declared.Entry.{Entry}
use Rattle.aip_rules.specs.declared.StepFault.{StepFault}
use Rattle.aip_rules.specs.State.{flight_count}
use Rattle.aip_rules.specs.Step.{after_step, step_of, most_inputs}
use Rattle.aip_rules.specs.Texts.{ran, ran_over, scheduled}
use Rattle.aip_make.specs.Workload.{made_from, made_input, made_run, made_topology, next_state, state_behind, made_lines}
use Rattle.aip_text.specs.Lines.{most_lines}

-- the inputs behind a step: none where it is refused
abbrev pub behind_step : Result (List Event) StepFault → (List Event → List Input) → List Input
behind_step (Ok events) more = more events
behind_step (Err f) more = []

-- the inputs of so many made lines from a trace on, the first with this index and from this state, up to the first that is
-- refused
abbrev pub made_inputs : Topology → List Entry → ℕ → ℕ → ℕ → List Input
made_inputs topo tr state index zero = []
made_inputs topo tr state index (suc left) =
    made_input index (flight_count tr) state
    ∷ behind_step (step_of topo tr (made_input index (flight_count tr) state))
    (λ events. made_inputs topo (after_step tr (made_input index (flight_count tr) state) events) (next_state index (flight_count tr) state) (index + 1) left)

-- a schedule with a line for each of these inputs
abbrev pub schedule_of : List Input → List ℕ
schedule_of inputs = flat_map (λ input. input_line input ++ 10 ∷ []) inputs

-- the line of a made input is one of a schedule, and that of this input: it stands among the first 65,536 lines, its index is
-- below 60,000, and at most 65,536 flights have left
abbrev pub MadeLinesAreScheduled : Type 0
MadeLinesAreScheduled =
    (number index flights state : ℕ) → number ≤ most_lines → index < made_lines → flights ≤ most_inputs
    → scheduled number (input_line (made_input index flights state)) ≡ Ok (Some (made_input index flights state))

-- the schedule of the made lines runs as the made lines do
abbrev pub MadeLinesRunSo : Type 0
MadeLinesRunSo =
    (topo : Topology) → IsSound topo → (state lines : ℕ) → lines ≤ made_lines
    → ran topo (schedule_of (made_inputs topo [] state 0 lines)) ≡ made_from topo [] state 0 lines

-- the schedule of the first so many made lines over what the topology's text gives
abbrev pub schedule_over : Result Topology RefusedLine → ℕ → ℕ → List ℕ
schedule_over (Ok topo) state lines = schedule_of (made_inputs topo [] state 0 lines)
schedule_over (Err refused) state lines = []

-- the schedule of the first so many lines of workload number n
abbrev pub made_schedule : ℕ → ℕ → List ℕ
made_schedule n lines = schedule_over (topology_of (made_topology n)) (state_behind n) lines

-- a workload is the run of two texts: of its topology, and of the schedule of its lines
abbrev pub WorkloadsAreRuns : Type 0
WorkloadsAreRuns =
    (n lines : ℕ) → lines ≤ made_lines → ran_over (topology_of (made_topology n)) (made_schedule n lines) ≡ made_run n lines
