-- What holds of every event of a trace that the rules give.
use Rattle.std.proofs.Common.{◌≡◌, Bool, true, false, cond, List, [], ◌∷◌, ◌++◌, Some, Result, Ok, Err, subst}
use Rattle.std.specs.Prelude.{IfOk}
use Rattle.aip_event.specs.declared.event.Event.{Event}
use Rattle.aip_event.specs.declared.event.Event.TheVariants.{Put, Signed, Withheld, Obeyed, Halted}
use Rattle.aip_event.specs.declared.input.Input.{Input}
use Rattle.aip_topo.specs.declared.topology.Topology.{Topology}
use Rattle.aip_rules.specs.declared.Entry.{Entry}
use Rattle.aip_rules.specs.declared.Entry.TheVariants.{Taken, Happened}
use Rattle.aip_rules.specs.declared.Reaction.{Reaction}
use Rattle.aip_rules.specs.declared.StepFault.{StepFault}
use Rattle.aip_rules.specs.declared.StepFault.TheVariants as fault
use Rattle.aip_rules.specs.State.{input_count}
use Rattle.aip_rules.specs.Reaction.{events_on}
use Rattle.aip_rules.specs.Step.{refused_if, most_inputs, outcome_of, reaction_of, events_of, step_of, with_events, after_step, goes_on, trace_from}
use Rattle.std.specs.Prelude.{nat_le}

-- the event puts nothing, signs nothing, and no guard makes it
abbrev pub IsPlain : Event → Type 0
IsPlain (Put number to bytes) = ⊥
IsPlain (Signed host leaf) = ⊥
IsPlain (Withheld host to) = ⊥
IsPlain (Obeyed host sender until) = ⊥
IsPlain (Halted host sender until call byte) = ⊥
IsPlain _ = Unit {0}

-- all of them are plain
abbrev pub ArePlain : List Event → Type 0
ArePlain [] = Unit {0}
ArePlain (event ∷ events) = IsPlain event × ArePlain events

-- an outcome, unless a test refuses it
pub unless_refused : (P : Reaction → Type 0) (test : Bool) (f : StepFault) (outcome : Result Reaction StepFault) → IfOk outcome P → IfOk (refused_if test f outcome) P
unless_refused P true f outcome h = tt
unless_refused P false f outcome h = h

-- an outcome, where a test allows it
pub where_taken : (P : Reaction → Type 0) (test : Bool) (f : StepFault) (outcome : Result Reaction StepFault) → IfOk outcome P → IfOk (cond test outcome (Err f)) P
where_taken P true f outcome h = h
where_taken P false f outcome h = tt

module _ (Holds : List Entry → Event → Type 0) where
  -- it holds of each of these events on the trace up to it, where the first of them comes on this trace
  abbrev pub Adds : List Entry → List Event → Type 0
  Adds tr [] = Unit {0}
  Adds tr (event ∷ events) = Holds tr event × Adds (Happened event ∷ tr) events

  module _ (plain : (tr : List Entry) (event : Event) → IsPlain event → Holds tr event) (Still : List Entry → Type 0) (stays : (event : Event) (tr : List Entry) → Still tr → Still (Happened event ∷ tr)) where
    -- plain events come before others, where something stays as it was
    pub past_plain : (events rest : List Event) (tr : List Entry) → ArePlain events → Still tr → ((after : List Entry) → Still after → Adds after rest) → Adds tr (events ++ rest)
    past_plain [] rest tr are still behind = behind tr still
    past_plain (event ∷ events) rest tr are still behind = (plain tr event are.0, past_plain events rest (Happened event ∷ tr) are.1 (stays event tr still) behind)

  module _ (P : List Entry → Type 0) (taken : (input : Input) (tr : List Entry) → P tr → P (Taken input ∷ tr)) (happened : (event : Event) (tr : List Entry) → Holds tr event → P tr → P (Happened event ∷ tr)) where
    with_all : (events : List Event) (tr : List Entry) → P tr → Adds tr events → P (with_events events tr)
    with_all [] tr p adds = p
    with_all (event ∷ events) tr p adds = with_all events (Happened event ∷ tr) (happened event tr adds.0 p) adds.1

    module _ (topo : Topology) (each : (tr : List Entry) (input : Input) → IfOk (outcome_of topo tr input) (λ reaction. Adds (Taken input ∷ tr) (events_on tr reaction))) where
      of_events : (tr : List Entry) (input : Input) (outcome : Result Reaction StepFault) → IfOk outcome (λ reaction. Adds (Taken input ∷ tr) (events_on tr reaction))
          → IfOk (events_of tr outcome) (Adds (Taken input ∷ tr))
      of_events tr input (Ok reaction) h = h
      of_events tr input (Err f) h = tt

      of_step : (tr : List Entry) (input : Input) → IfOk (step_of topo tr input) (Adds (Taken input ∷ tr))
      of_step tr input =
          of_events tr input (reaction_of topo tr input)
          (unless_refused (λ reaction. Adds (Taken input ∷ tr) (events_on tr reaction)) (nat_le most_inputs (input_count tr)) fault.Many (outcome_of topo tr input) (each tr input))

      goes : (tr after : List Entry) (input : Input) (inputs : List Input) → P tr
          → ((next : List Entry) → P next → trace_from topo next inputs ≡ Some after → P after)
          → (step : Result (List Event) StepFault) → IfOk step (Adds (Taken input ∷ tr))
          → goes_on step (λ events. trace_from topo (after_step tr input events) inputs) ≡ Some after → P after
      goes tr after input inputs p on (Ok events) adds e = on (after_step tr input events) (with_all events (Taken input ∷ tr) (taken input tr p) adds) e
      goes tr after input inputs p on (Err f) adds e = absurd cc

      -- what holds of the events of each step holds of every trace that the rules give
      pub of_trace : (inputs : List Input) (tr after : List Entry) → P tr → trace_from topo tr inputs ≡ Some after → P after
      of_trace [] tr after p e =
          let same : tr ≡ after = cc in
          subst P same p
      of_trace (input ∷ inputs) tr after p e =
          goes tr after input inputs p (λ next p. of_trace inputs next after p) (step_of topo tr input) (of_step tr input) e
