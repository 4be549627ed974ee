-- Traces of inputs, and how their lines grow.
use Rattle.std.proofs.Common.{◌≡◌, ℕ, ◌+◌, ◌≤◌, ◌<◌, Bool, true, false, cond, List, [], ◌∷◌, ◌++◌, length, map, Option, Some, Result, Ok, Err, refl, sym, ap, ◌∙◌, subst, append_assoc, arith}
use Rattle.std.specs.Prelude.{nat_le}
use Rattle.std.specs.List.{AllByRecursion}
use Rattle.std.proofs.lemmas.List.{append-nil}
use Rattle.std.proofs.lemmas.Bool.{leb-false}
use Rattle.aip_event.specs.declared.event.Event.{Event}
use Rattle.aip_event.specs.declared.input.Input.{Input}
use Rattle.aip_event.specs.Lines.{IsInput}
use Rattle.aip_topo.specs.declared.topology.Topology.{Topology}
use Rattle.aip_rules.specs.declared.Entry.{Entry}
use Rattle.aip_rules.specs.declared.Entry.TheVariants.{Taken, Happened}
use Rattle.aip_rules.specs.declared.StepFault.{StepFault}
use Rattle.aip_rules.specs.declared.StepFault.TheVariants as fault
use Rattle.aip_rules.specs.State.{input_count}
use Rattle.aip_rules.specs.Step.{after_step, events_of, goes_on, most_inputs, outcome_of, step_of, trace_from, trace_of, with_events}
use Rattle.aip_replay.specs.Texts.{inputs_on}
use Rattle.aip_replay.specs.Marks.{entry_mark, event_mark, shown}
use Rattle.aip_replay.proofs.Marks.{on_shown, taken_of}

-- ## Steps

-- the first step of a trace: the input isn't refused, and the others lead on from there
pub record Stepped (topo : Topology) (tr : List Entry) (input : Input) (inputs : List Input) (after : List Entry) : Type 0 where
  pub events : List Event
  pub step : step_of topo tr input ≡ Ok events
  pub rest : trace_from topo (after_step tr input events) inputs ≡ Some after

pub first_step : (topo : Topology) (tr : List Entry) (input : Input) (inputs : List Input) (after : List Entry) → trace_from topo tr (input ∷ inputs) ≡ Some after
    → Stepped topo tr input inputs after
first_step topo tr input inputs after e = by (step_of topo tr input) refl e
  where
    by : (r : Result (List Event) StepFault) → step_of topo tr input ≡ r → goes_on r (λ events. trace_from topo (after_step tr input events) inputs) ≡ Some after
        → Stepped topo tr input inputs after
    by (Ok events) is e = record { events = events; step = is; rest = e }
    by (Err f) is e = absurd cc

-- a step that isn't refused leads on
pub leads_on : (topo : Topology) (tr : List Entry) (input : Input) (inputs : List Input) (events : List Event) (r : Option (List Entry)) → step_of topo tr input ≡ Ok events
    → trace_from topo (after_step tr input events) inputs ≡ r → trace_from topo tr (input ∷ inputs) ≡ r
leads_on topo tr input inputs events r step rest =
    ap (λ (s : Result (List Event) StepFault). goes_on s (λ events. trace_from topo (after_step tr input events) inputs)) step ∙ rest

-- the trace of some inputs, from which others lead on
pub record Halfway (topo : Topology) (tr : List Entry) (inputs more : List Input) (after : List Entry) : Type 0 where
  pub mid : List Entry
  pub first : trace_from topo tr inputs ≡ Some mid
  pub rest : trace_from topo mid more ≡ Some after

pub halfway : (topo : Topology) (tr : List Entry) (inputs more : List Input) (after : List Entry) → trace_from topo tr (inputs ++ more) ≡ Some after → Halfway topo tr inputs more after
halfway topo tr [] more after e = record { mid = tr; first = refl; rest = e }
halfway topo tr (input ∷ inputs) more after e =
    let s = first_step topo tr input (inputs ++ more) after e in
    let rest = halfway topo (after_step tr input s.events) inputs more after s.rest in
    record { mid = rest.mid; first = leads_on topo tr input inputs s.events (Some rest.mid) s.step rest.first; rest = rest.rest }

-- others lead on from the trace of some inputs
pub joined : (topo : Topology) (tr mid : List Entry) (inputs more : List Input) (r : Option (List Entry)) → trace_from topo tr inputs ≡ Some mid → trace_from topo mid more ≡ r
    → trace_from topo tr (inputs ++ more) ≡ r
joined topo tr mid [] more r e rest =
    let same : tr ≡ mid = cc in
    ap (λ (t : List Entry). trace_from topo t more) same ∙ rest
joined topo tr mid (input ∷ inputs) more r e rest =
    let s = first_step topo tr input inputs mid e in
    leads_on topo tr input (inputs ++ more) s.events r s.step (joined topo (after_step tr input s.events) mid inputs more r s.rest rest)

-- inputs have one trace
pub one_trace : (topo : Topology) (some others : List Input) (one other : List Entry) → some ≡ others → trace_of topo some ≡ Some one → trace_of topo others ≡ Some other → one ≡ other
one_trace topo some others one other same e f =
    let both : Some one ≡ Some other = sym e ∙ (ap (trace_of topo) same ∙ f) in
    let is : one ≡ other = cc in
    is

-- ## Counts

counted : (events : List Event) (tr : List Entry) → input_count (with_events events tr) ≡ input_count tr
counted [] tr = refl
counted (event ∷ events) tr = counted events (Happened event ∷ tr)

-- a step takes one input
pub counted_step : (tr : List Entry) (input : Input) (events : List Event) → input_count (after_step tr input events) ≡ 1 + input_count tr
counted_step tr input events = counted events (Taken input ∷ tr)

-- a step that isn't refused is one of at most 65,536
pub not_many : (topo : Topology) (tr : List Entry) (input : Input) (events : List Event) → step_of topo tr input ≡ Ok events → input_count tr < 65536
not_many topo tr input events e = leb-false most_inputs (input_count tr) (by (nat_le most_inputs (input_count tr)) e)
  where
    by : (many : Bool) → events_of tr (cond many (Err fault.Many) (outcome_of topo tr input)) ≡ Ok events → many ≡ false
    by true e = absurd cc
    by false e = refl

few_from : (topo : Topology) (tr after : List Entry) (inputs : List Input) → input_count tr ≤ 65536 → trace_from topo tr inputs ≡ Some after → input_count tr + length inputs ≤ 65536
few_from topo tr after [] few e = omega arith
few_from topo tr after (input ∷ inputs) few e =
    let s = first_step topo tr input inputs after e in
    let less = not_many topo tr input s.events s.step in
    let more = counted_step tr input s.events in
    let rest = few_from topo (after_step tr input s.events) after inputs (omega arith) s.rest in
    omega arith

-- a trace is that of at most 65,536 inputs
pub few : (topo : Topology) (inputs : List Input) (after : List Entry) → trace_of topo inputs ≡ Some after → length inputs ≤ 65536
few topo inputs after e = let all = few_from topo [] after inputs (omega arith) e in omega arith

-- ## Inputs

taken_with : (events : List Event) (tr : List Entry) → taken_of (with_events events tr) ≡ taken_of tr
taken_with [] tr = refl
taken_with (event ∷ events) tr = taken_with events (Happened event ∷ tr)

taken_from : (topo : Topology) (tr after : List Entry) (inputs : List Input) → trace_from topo tr inputs ≡ Some after → taken_of after ≡ taken_of tr ++ inputs
taken_from topo tr after [] e =
    let same : tr ≡ after = cc in
    ap taken_of (sym same) ∙ sym (append-nil (taken_of tr))
taken_from topo tr after (input ∷ inputs) e =
    let s = first_step topo tr input inputs after e in
    taken_from topo (after_step tr input s.events) after inputs s.rest
    ∙ ap (λ (l : List Input). l ++ inputs) (taken_with s.events (Taken input ∷ tr)) ∙ append_assoc (taken_of tr) (input ∷ []) inputs

-- a trace of inputs has these inputs
pub taken : (topo : Topology) (inputs : List Input) (tr : List Entry) → trace_of topo inputs ≡ Some tr → taken_of tr ≡ inputs
taken topo inputs tr e = taken_from topo [] tr inputs e

-- the inputs on the lines of a trace are those whose trace it is
pub read_of : (topo : Topology) (inputs : List Input) (tr : List Entry) → AllByRecursion IsInput inputs → trace_of topo inputs ≡ Some tr → inputs_on (shown tr) ≡ Some inputs
read_of topo inputs tr formed e =
    let same = taken topo inputs tr e in
    on_shown tr (subst (λ (l : List Input). AllByRecursion IsInput l) (sym same) formed) ∙ ap Some same

-- ## Lines

shown_with : (events : List Event) (tr : List Entry) → shown (with_events events tr) ≡ shown tr ++ map event_mark events
shown_with [] tr = sym (append-nil (shown tr))
shown_with (event ∷ events) tr = shown_with events (Happened event ∷ tr) ∙ append_assoc (shown tr) (event_mark event ∷ []) (map event_mark events)

-- a step adds the lines of its input and its events
pub shown_after : (tr : List Entry) (input : Input) (events : List Event) → shown (after_step tr input events) ≡ shown tr ++ (entry_mark (Taken input) ∷ map event_mark events)
shown_after tr input events = shown_with events (Taken input ∷ tr) ∙ append_assoc (shown tr) (entry_mark (Taken input) ∷ []) (map event_mark events)

-- lines that inputs add begin with that of the first input
abbrev pub IsBehind : List Input → List (List ℕ) → Type 0
IsBehind [] lines = lines ≡ []
IsBehind (input ∷ inputs) lines = (others : List (List ℕ)) × (lines ≡ entry_mark (Taken input) ∷ others)

-- the lines of a trace from which inputs lead on are the first of those that it comes to
pub record Grows (tr : List Entry) (inputs : List Input) (after : List Entry) : Type 0 where
  pub rest : List (List ℕ)
  pub whole : shown after ≡ shown tr ++ rest
  pub behind : IsBehind inputs rest

pub grows : (topo : Topology) (tr after : List Entry) (inputs : List Input) → trace_from topo tr inputs ≡ Some after → Grows tr inputs after
grows topo tr after [] e =
    let same : tr ≡ after = cc in
    record { rest = []; whole = ap shown (sym same) ∙ sym (append-nil (shown tr)); behind = refl }
grows topo tr after (input ∷ inputs) e =
    let s = first_step topo tr input inputs after e in
    let rest = grows topo (after_step tr input s.events) after inputs s.rest in
    let own : List (List ℕ) = entry_mark (Taken input) ∷ map event_mark s.events in
    record {
      rest = own ++ rest.rest;
      whole = rest.whole ∙ ap (λ (l : List (List ℕ)). l ++ rest.rest) (shown_after tr input s.events) ∙ append_assoc (shown tr) own rest.rest;
      behind = (map event_mark s.events ++ rest.rest, refl);
    }
