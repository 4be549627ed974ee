-- What is kept, against the trace that it stands for: each part stays true, and the machine's events are the rules'.
use Rattle.std.proofs.Common.{◌≡◌, ℕ, ◌+◌, Bool, true, false, cond, List, [], ◌∷◌, ◌++◌, length, Option, Some, None, Result, Ok, Err, refl, sym, ◌∙◌, ap, subst, arith}
use Rattle.std.specs.Prelude.{IfOk, nat_le}
use Rattle.std.proofs.lemmas.List.{append-nil, append_assoc}
use Rattle.aip_event.specs.declared.event.Event.{Event}
use Rattle.aip_event.specs.declared.input.Input.{Input}
use Rattle.aip_event.specs.declared.input.Input.TheVariants.{Publish}
use Rattle.aip_topo.specs.Sound.{IsSound}
use Rattle.aip_topo.specs.declared.topology.Topology.{Topology}
use Rattle.domain_routes.specs.declared.Edge.{Edge}
use Rattle.aip_rules.specs.declared.Entry.{Entry}
use Rattle.aip_rules.specs.declared.Entry.TheVariants.{Taken, Happened}
use Rattle.aip_rules.specs.declared.Flight.{Flight}
use Rattle.aip_rules.specs.declared.Reaction.{Reaction}
use Rattle.aip_rules.specs.declared.StepFault.{StepFault}
use Rattle.aip_rules.specs.declared.StepFault.TheVariants as fault
use Rattle.aip_rules.specs.State.{now_of, input_count, flights_of, flight_count, flight_in, ticks_of}
use Rattle.aip_rules.specs.Routes.{links_now}
use Rattle.aip_registry.specs.Kept.{kept_records}
use Rattle.aip_rules.specs.Reaction.{events_on, in_put, numbered}
use Rattle.aip_rules.specs.Records.{published_by, published_on, records_kept}
use Rattle.aip_rules.specs.Step.{most_inputs, refused_if, outcome_of, reaction_of, events_of, step_of, with_events, after_step}
use Rattle.aip_rules.specs.Laws.{flights_put}
use Rattle.aip_rules.proofs.Modest.{AreCalm, IsModest, IsModestOutcome, put_calm}
use Rattle.aip_rules.proofs.Publications.{published_after}
use Rattle.aip_rules.proofs.Puts.{outcome_modest}
use Rattle.aip_host.specs.HostState.{HostState}
use Rattle.aip_core.specs.Kept.{Kept}
use Rattle.aip_core.specs.RouterMachine.{RouterState}
use Rattle.aip_core.specs.Machine.{kept_outcome, kept_reaction}
use Rattle.aip_core.specs.Moves.{Moved, IsKeptStep, kept_after, links_with, records_with, routers_with}
use Rattle.aip_core.specs.RouterStands.{RoutersStand}
use Rattle.aip_core.specs.StandsFor.{HostsStand, StandsFor, IsStep}
use Rattle.aip_core.specs.Answers.{IsRefusal, IsKeptRefusal}
use Rattle.aip_core.specs.declared.ends.StepEnd.{StepEnd}
use Rattle.aip_core.specs.declared.ends.StepEnd.TheVariants.{Refused, Memory}
use Rattle.aip_core.proofs.LinksNow.{links_with_input}
use Rattle.aip_core.proofs.Outcomes.{kept_of, outcome_is, reaction_is}
use Rattle.aip_core.proofs.HostsAfter.{hosts_after}
use Rattle.aip_core.proofs.RoutersAfter.{routers_after}

-- what stands for a trace is what is kept of it
is_kept : (topo : Topology) (tr : List Entry) (kept : Kept) → StandsFor topo tr kept → kept ≡ kept_of topo tr kept.hosts kept.routers
is_kept topo tr kept h =
    let topology = h.topology in
    let links = h.links in
    let flights = h.flights in
    let records = h.records in
    let time = h.time in
    let inputs = h.inputs in
    λ i. record {
      topo = topology i;
      links = links i;
      flights = flights i;
      hosts = kept.hosts;
      routers = kept.routers;
      records = records i;
      ticks = time i;
      inputs = inputs i;
    }

-- events leave the time as it is
time_with : (events : List Event) (tr : List Entry) → now_of (with_events events tr) ≡ now_of tr
time_with [] tr = refl
time_with (event ∷ events) tr = time_with events (Happened event ∷ tr)

-- events are no inputs
inputs_with : (events : List Event) (tr : List Entry) → input_count (with_events events tr) ≡ input_count tr
inputs_with [] tr = refl
inputs_with (event ∷ events) tr = inputs_with events (Happened event ∷ tr)

-- events leave the links as they are
links_with_events : (topo : Topology) (events : List Event) (tr : List Entry) → links_now topo (with_events events tr) ≡ links_now topo tr
links_with_events topo [] tr = refl
links_with_events topo (event ∷ events) tr = links_with_events topo events (Happened event ∷ tr)

-- the flights of events come behind those before
flights_with : (events : List Event) (tr : List Entry) → flights_of (with_events events tr) ≡ flights_of tr ++ flights_put events
flights_with [] tr = sym (append-nil (flights_of tr))
flights_with (event ∷ events) tr = flights_with events (Happened event ∷ tr) ∙ append_assoc (flights_of tr) (flight_in event) (flights_put events)

-- what an input publishes is kept with the records before it
records_with_input : (input : Input) (published : List (List ℕ)) → kept_records (published_by input ++ published) ≡ records_with input (kept_records published)
records_with_input (Publish bytes) published = refl
records_with_input input published = refl

-- the records after a step are those before it, with what its input published
records_after : (tr : List Entry) (input : Input) (events : List Event) → records_kept (after_step tr input events) ≡ records_with input (records_kept tr)
records_after tr input events = ap kept_records (published_after tr input events) ∙ records_with_input input (published_on tr)

-- an input that isn't refused gives its reaction
not_many : (test : Bool) (outcome : Result Reaction StepFault) (reaction : Reaction) → refused_if test fault.Many outcome ≡ Ok reaction → outcome ≡ Ok reaction
not_many true outcome reaction e = absurd cc
not_many false outcome reaction e = e

-- what is kept after a reaction stands for the trace with its events
stands_after : (topo : Topology) (tr : List Entry) (hosts : List HostState) (routers : List RouterState) (input : Input) (reaction : Reaction) (core : Kept) → IsSound topo
    → HostsStand topo tr hosts → RoutersStand topo tr routers → kept_outcome (kept_of topo tr hosts routers) input ≡ Ok reaction → outcome_of topo tr input ≡ Ok reaction → AreCalm reaction.events
    → Moved (kept_of topo tr hosts routers) input reaction core → StandsFor topo (after_step tr input (events_on tr reaction)) (kept_after core input reaction)
stands_after topo tr hosts routers input reaction core sound h r kept_given given calm moved =
    let events = events_on tr reaction in
    let time : now_of (with_events events (Taken input ∷ tr)) ≡ ticks_of input + now_of tr = time_with events (Taken input ∷ tr) in
    let inputs : input_count (with_events events (Taken input ∷ tr)) ≡ 1 + input_count tr = inputs_with events (Taken input ∷ tr) in
    let ticks : core.ticks ≡ now_of tr = moved.ticks in
    let taken : core.inputs ≡ input_count tr = moved.inputs in
    record {
      topology = moved.topo;
      links = ap (λ (l : List Edge). links_with input l) moved.links ∙ links_with_input topo tr input ∙ sym (links_with_events topo events (Taken input ∷ tr));
      flights =
          ap (λ (fs : List Flight). fs ++ in_put reaction.put) moved.flights
          ∙ sym (flights_with events (Taken input ∷ tr) ∙ ap (λ fs. flights_of tr ++ fs) (put_calm reaction.events (flight_count tr) reaction.put calm));
      records = moved.records ∙ sym (records_after tr input events);
      time = omega arith;
      inputs = omega arith;
      hosts = hosts_after topo tr hosts core.hosts input reaction (flight_count tr) sound given h moved.hosts;
      routers =
          subst (λ (t : Topology). RoutersStand topo (after_step tr input events) (routers_with t input core.routers)) (sym moved.topo)
          (routers_after topo tr hosts routers core.routers input reaction (flight_count tr) sound kept_given given r moved.routers);
    }

calm_of : (outcome : Result Reaction StepFault) (reaction : Reaction) → IsModestOutcome outcome → outcome ≡ Ok reaction → AreCalm reaction.events
calm_of outcome reaction modest given =
    let is : IsModest reaction = subst (λ (o : Result Reaction StepFault). IsModestOutcome o) given modest in
    is.calm

-- a step by what is kept of a trace is the rules' step
step_here : (topo : Topology) (tr : List Entry) (hosts : List HostState) (routers : List RouterState) (input : Input) (after : Kept) (events : List Event) → IsSound topo
    → HostsStand topo tr hosts → RoutersStand topo tr routers → IsKeptStep (kept_of topo tr hosts routers) input after events
    → (step_of topo tr input ≡ Ok events) × StandsFor topo (after_step tr input events) after
step_here topo tr hosts routers input after events sound h r step =
    let kept_given = not_many (nat_le most_inputs (input_count tr)) (kept_outcome (kept_of topo tr hosts routers) input) step.reaction step.given in
    let given : outcome_of topo tr input ≡ Ok step.reaction = sym (outcome_is topo tr hosts routers input h r) ∙ kept_given in
    let told : reaction_of topo tr input ≡ Ok step.reaction = sym (reaction_is topo tr hosts routers input h r) ∙ step.given in
    let calm = calm_of (outcome_of topo tr input) step.reaction (outcome_modest topo tr input sound) given in
    let same : events_on tr step.reaction ≡ events = sym step.events in (
      ap (λ (outcome : Result Reaction StepFault). events_of tr outcome) told ∙ ap (λ (es : List Event). Ok es) same,
      subst (λ (k : Kept). StandsFor topo (after_step tr input events) k) (sym step.after)
          (subst (λ (es : List Event). StandsFor topo (after_step tr input es) (kept_after step.core input step.reaction)) same
          (stands_after topo tr hosts routers input step.reaction step.core sound h r kept_given given calm step.moved)),
    )

-- a step by what is kept is the rules' step, for every trace that is stood for
pub step_is : (kept : Kept) (input : Input) (after : Kept) (events : List Event) → IsSound kept.topo → IsKeptStep kept input after events → IsStep kept input after events
step_is kept input after events sound step = λ topo tr h.
    step_here topo tr kept.hosts kept.routers input after events (subst IsSound h.topology sound) h.hosts h.routers
    (subst (λ (k : Kept). IsKeptStep k input after events) (is_kept topo tr kept h) step)

-- a refusal by what is kept is the rules' refusal, for every trace that is stood for
pub refusal_is : (kept : Kept) (input : Input) (end : StepEnd) → IsKeptRefusal kept input end → IsRefusal kept input end
refusal_is kept input (Refused core f) h = (
  h.0,
  λ topo tr stands.
      let told : reaction_of topo tr input ≡ Err f =
      sym (reaction_is topo tr kept.hosts kept.routers input stands.hosts stands.routers) ∙ ap (λ (k : Kept). kept_reaction k input) (sym (is_kept topo tr kept stands)) ∙ h.1 in
      ap (λ (outcome : Result Reaction StepFault). events_of tr outcome) told,
)
refusal_is kept input Memory h = tt
