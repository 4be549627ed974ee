-- A schedule of the made lines runs as the made lines do.
use Rattle.std.proofs.Common.{◌≡◌, ℕ, zero, suc, ◌+◌, ◌≤◌, List, [], ◌∷◌, ◌++◌, length, Some, Result, Ok, Err, refl, ap, sym, subst, ◌∙◌, append_assoc, arith}
use Rattle.std.proofs.lemmas.List.{append-nil, length-append}
use Rattle.aip_text.specs.Lines.{lines_of}
use Rattle.aip_event.specs.declared.event.Event.{Event}
use Rattle.aip_event.specs.declared.input.Input.{Input}
use Rattle.aip_event.specs.Lines.{input_line}
use Rattle.aip_topo.specs.declared.topology.Topology.{Topology}
use Rattle.aip_topo.specs.Reading.{RefusedLine, topology_of}
use Rattle.aip_topo.specs.Sound.{IsSound}
use Rattle.aip_topo.proofs.Soundness.{given_sound}
use Rattle.aip_rules.specs.declared.Entry.{Entry}
use Rattle.aip_rules.specs.declared.Entry.TheVariants.{Taken, Happened}
use Rattle.aip_rules.specs.declared.StepFault.{StepFault}
use Rattle.aip_rules.specs.State.{flight_count, flight_in, flights_of}
use Rattle.aip_rules.specs.Laws.{PutAtMostOne, flights_put}
use Rattle.aip_rules.specs.Step.{after_step, step_of, with_events}
use Rattle.aip_rules.specs.Texts.{EndedRun, by_line, by_step, ran_from, ran_over, scheduled}
use Rattle.aip_rules.proofs.Puts.{at_most_one}
use Rattle.std.specs.Prelude.{IfOk}
use Rattle.aip_make.specs.declared.ends.MadeEnd.{MadeEnd}
use Rattle.aip_make.specs.declared.summary.Summary.{Summary}
use Rattle.aip_make.specs.Ends.{IsAnswer, answer_to}
use Rattle.aip_make.specs.Schedules.{MadeLinesAreScheduled, MadeLinesRunSo, WorkloadsAreRuns, behind_step, made_inputs, made_schedule, schedule_of, schedule_over}
use Rattle.aip_make.specs.Workload.{made_from, made_input, made_over, made_run, made_topology, next_state, state_behind}
use Rattle.aip_make.proofs.Feeds.{first_of, scheduled_as}
use Rattle.aip_make.proofs.MadeInputs.{IsPlain, made_plain}

-- ## Flights

flights_with : (events : List Event) (tr : List Entry) → flights_of (with_events events tr) ≡ flights_of tr ++ flights_put events
flights_with [] tr = sym (append-nil (flights_of tr))
flights_with (event ∷ events) tr = flights_with events (Happened event ∷ tr) ∙ append_assoc (flights_of tr) (flight_in event) (flights_put events)

-- a step puts at most one more flight
one_more : (tr : List Entry) (input : Input) (events : List Event) (index : ℕ) → flight_count tr ≤ index → PutAtMostOne events
    → flight_count (after_step tr input events) ≤ index + 1
one_more tr input events index few puts =
    omega (arith, ap length (flights_with events (Taken input ∷ tr)), length-append (flights_of tr) (flights_put events), puts.one)

same_events : (a b : List Event) (step : Result (List Event) StepFault) → step ≡ Ok a → step ≡ Ok b → a ≡ b
same_events a b step first second = cc

-- what holds of the events of a step
of_events : (P : List Event → Type 0) (step : Result (List Event) StepFault) (events : List Event) → IfOk step P → step ≡ Ok events → P events
of_events P (Ok found) events holds is = subst P (same_events found events (Ok found) refl is) holds
of_events P (Err f) events holds is = absurd (cc)

-- ## Lines

-- the run of a line that is read as an input, and of the lines behind it
ran_input : (topo : Topology) (tr : List Entry) (number : ℕ) (input : Input) (lines : List (List ℕ)) → scheduled number (input_line input) ≡ Ok (Some input)
    → ran_from topo tr number (input_line input ∷ lines) ≡ by_step tr number input (λ after. ran_from topo after (number + 1) lines) (step_of topo tr input)
ran_input topo tr number input lines read =
    ap (by_line topo tr number (λ after. ran_from topo after (number + 1) lines)) read

-- what comes behind a step, as it was refused or taken
behind : (topo : Topology) (tr : List Entry) (number : ℕ) (input : Input) (more : List Event → List Input) (go : List Entry → EndedRun) (step : Result (List Event) StepFault)
    → ((events : List Event) → step ≡ Ok events → ran_from topo (after_step tr input events) (number + 1) (lines_of (schedule_of (more events))) ≡ go (after_step tr input events))
    → by_step tr number input (λ after. ran_from topo after (number + 1) (lines_of (schedule_of (behind_step step more)))) step ≡ by_step tr number input go step
behind topo tr number input more go (Ok events) same = same events refl
behind topo tr number input more go (Err f) same = refl

-- the run of a schedule's first input and of the others
first_run : (topo : Topology) (tr : List Entry) (number : ℕ) (input : Input) (more : List Event → List Input) (go : List Entry → EndedRun) → number ≤ 65536 → IsPlain input
    → ((events : List Event) → step_of topo tr input ≡ Ok events
    → ran_from topo (after_step tr input events) (number + 1) (lines_of (schedule_of (more events))) ≡ go (after_step tr input events))
    → ran_from topo tr number (lines_of (schedule_of (input ∷ behind_step (step_of topo tr input) more))) ≡ by_step tr number input go (step_of topo tr input)
first_run topo tr number input more go low plain same =
    ap (ran_from topo tr number) (first_of input (behind_step (step_of topo tr input) more) plain.no_feed)
    ∙ ran_input topo tr number input (lines_of (schedule_of (behind_step (step_of topo tr input) more))) (scheduled_as number input low plain)
    ∙ behind topo tr number input more go (step_of topo tr input) same

-- so many lines, from a trace on
runs : (topo : Topology) → IsSound topo → (left : ℕ) (tr : List Entry) (state index : ℕ) → flight_count tr ≤ index → index + left ≤ 60000
    → ran_from topo tr (index + 1) (lines_of (schedule_of (made_inputs topo tr state index left))) ≡ made_from topo tr state index left
runs topo sound zero tr state index few low = refl
runs topo sound (suc left) tr state index few low =
    first_run topo tr (index + 1) (made_input index (flight_count tr) state)
    (λ events. made_inputs topo (after_step tr (made_input index (flight_count tr) state) events) (next_state index (flight_count tr) state) (index + 1) left)
    (λ after. made_from topo after (next_state index (flight_count tr) state) (index + 1) left) (omega arith)
    (made_plain index (flight_count tr) state (omega arith) (omega arith))
    (λ events is. runs topo sound left (after_step tr (made_input index (flight_count tr) state) events) (next_state index (flight_count tr) state) (index + 1)
    (one_more tr (made_input index (flight_count tr) state) events index few
    (of_events PutAtMostOne (step_of topo tr (made_input index (flight_count tr) state)) events (at_most_one topo sound tr (made_input index (flight_count tr) state)) is)) (omega arith))

pub run_so : MadeLinesRunSo
run_so = λ topo sound state lines low. runs topo sound lines [] state 0 (omega arith) (omega arith)

pub are_scheduled : MadeLinesAreScheduled
are_scheduled = λ number index flights state low early few.
    scheduled_as number (made_input index flights state) low (made_plain index flights state (omega arith) (omega arith))

-- the run of a workload's two texts
over : (text : List ℕ) (read : Result Topology RefusedLine) (state lines : ℕ) → lines ≤ 60000 → topology_of text ≡ read
    → ran_over read (schedule_over read state lines) ≡ made_over read state lines
over text (Ok topo) state lines low is = run_so topo (given_sound text topo is) state lines low
over text (Err refused) state lines low is = refl

pub are_runs : WorkloadsAreRuns
are_runs = λ n lines low. over (made_topology n) (topology_of (made_topology n)) (state_behind n) lines low refl

-- an answer to the made lines is one to the two texts
pub as_texts : (n lines : ℕ) (result : Result Summary MadeEnd) → lines ≤ 60000 → IsAnswer (answer_to lines (made_run n lines)) result
    → IsAnswer (answer_to lines (ran_over (topology_of (made_topology n)) (made_schedule n lines))) result
as_texts n lines result low answer = subst (λ (r : EndedRun). IsAnswer (answer_to lines r) result) (sym (are_runs n lines low)) answer
