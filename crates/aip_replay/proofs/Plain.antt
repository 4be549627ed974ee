-- Each line of a trace over a sound topology is one of a trace text.
use Rattle.std.proofs.Common.{◌≡◌, ℕ, ◌+◌, ◌^◌, ◌<◌, ◌≤◌, ◌==◌, ◌||◌, ◌&&◌, not, Bool, true, false, cond, List, [], ◌∷◌, ◌++◌, length, map, Option, Some, None, Result, Ok, Err, refl, sym, ap, ◌∙◌, subst, append_assoc, arith, lit<, lit≤}
use Rattle.std.specs.Prelude.{IfOk, IfSome, nat_le}
use Rattle.std.specs.List.{AllByRecursion}
use Rattle.std.specs.Str.{bytes_eq}
use Rattle.std.proofs.Math.Nat.{max-le}
use Rattle.std.proofs.lemmas.Bool.{cond_both}
use Rattle.std.proofs.lemmas.Bool.Decides.{nat_tests}
use Rattle.std.proofs.lemmas.List.{append-nil, length-append}
use Rattle.aip_event.specs.Lines.{IsInput}
use Rattle.aip_event.specs.declared.event.Event.{Event}
use Rattle.aip_event.specs.declared.event.Event.TheVariants as event
use Rattle.aip_event.specs.declared.input.Input.{Input}
use Rattle.aip_event.specs.declared.input.Input.TheVariants.{Tick, Send, Raw, Deliver, Inject, Cut, Mend, Shutoff, Restart, Stop, Halt, Publish}
use Rattle.aip_topo.specs.Sound.{IsSound}
use Rattle.aip_topo.specs.declared.topology.Topology.{Topology}
use Rattle.aip_rules.specs.declared.Arming.{Arming}
use Rattle.aip_rules.specs.declared.Entry.{Entry}
use Rattle.aip_rules.specs.declared.Entry.TheVariants.{Taken, Happened}
use Rattle.aip_rules.specs.declared.Flight.{Flight}
use Rattle.aip_rules.specs.declared.Reaction.{Reaction}
use Rattle.aip_rules.specs.declared.StepFault.{StepFault}
use Rattle.aip_rules.specs.declared.StepFault.TheVariants as fault
use Rattle.aip_rules.specs.Laws.{IsShort, flights_put}
use Rattle.aip_rules.specs.Reaction.{in_put, nothing, numbered, put_event}
use Rattle.aip_rules.specs.Standing.{left_entry, next_leaf, past_leaf, told_in, told_to}
use Rattle.aip_rules.specs.State.{armed_halt, armed_stop, flight_count, flight_in, flights_of, halt_after_input, input_count, is_halt_of, is_stop_of, now_of, stop_after_input, ticks_of}
use Rattle.aip_rules.specs.Step.{after_step, events_of, most_inputs, outcome_of, step_of, trace_from, trace_of, with_events}
use Rattle.aip_rules.proofs.Modest.{IsModest, put_calm}
use Rattle.aip_rules.proofs.Puts.{outcome_modest}
use Rattle.aip_replay.specs.Marks.{entry_mark, event_mark, shown}
use Rattle.aip_replay.specs.Texts.{IsTraceLine}
use Rattle.aip_replay.proofs.Feeds.{all_append}
use Rattle.aip_replay.proofs.Short.{IsLow, IsShortEntry, IsShortEvent, IsShortInput, event_plain, input_plain}
use Rattle.aip_replay.proofs.ShortHosts.{IsLowArming, IsShortPut, IsShortReaction}
use Rattle.aip_replay.proofs.ShortSteps.{IsPlainTrace, input_bytes, outcome_short, refused_or}
use Rattle.aip_replay.proofs.Traces.{counted_step, first_step, not_many, shown_after}

-- ## A step apart

-- what comes of an input whose step isn't refused
pub record Reacts (topo : Topology) (tr : List Entry) (input : Input) (events : List Event) : Type 0 where
  pub reaction : Reaction
  pub outcome : outcome_of topo tr input ≡ Ok reaction
  pub told : numbered (flight_count tr) reaction ≡ events

reacts : (topo : Topology) (tr : List Entry) (input : Input) (events : List Event) → step_of topo tr input ≡ Ok events → Reacts topo tr input events
reacts topo tr input events e = by (nat_le most_inputs (input_count tr)) (outcome_of topo tr input) refl e
  where
    by : (many : Bool) (outcome : Result Reaction StepFault) → outcome_of topo tr input ≡ outcome → events_of tr (cond many (Err fault.Many) outcome) ≡ Ok events → Reacts topo tr input events
    by true outcome is e = absurd cc
    by false (Ok reaction) is e = let same : numbered (flight_count tr) reaction ≡ events = cc in record { reaction = reaction; outcome = is; told = same }
    by false (Err f) is e = absurd cc

-- what holds of what comes holds of the reaction
of_reaction : (P : Reaction → Type 0) (outcome : Result Reaction StepFault) (reaction : Reaction) → outcome ≡ Ok reaction → IfOk outcome P → P reaction
of_reaction P outcome reaction is h = subst (λ (r : Result Reaction StepFault). IfOk r P) is h

-- ## What events leave as it was, or add to

-- what each event keeps is kept by all of them
over_events : (P : List Entry → Type 0) (Q : Event → Type 0) → ((e : Event) (tr : List Entry) → Q e → P tr → P (Happened e ∷ tr)) → (events : List Event) (tr : List Entry) → AllByRecursion Q events → P tr
    → P (with_events events tr)
over_events P Q keeps [] tr are p = p
over_events P Q keeps (e ∷ events) tr are p = over_events P Q keeps events (Happened e ∷ tr) are.1 (keeps e tr are.0 p)

unless_so : (test : Bool) (arming : Option Arming) → IfSome arming IsLowArming → IfSome (cond test None arming) IsLowArming
unless_so test arming is = cond_both test None arming (λ o. IfSome o IsLowArming) (λ e. tt) (λ e. is)

armed_so : (test : Bool) (arming : Arming) (before : Option Arming) → IsLowArming arming → IfSome before IsLowArming → IfSome (cond test (Some arming) before) IsLowArming
armed_so test arming before low is = cond_both test (Some arming) before (λ o. IfSome o IsLowArming) (λ e. low) (λ e. is)

stop_taken : (input : Input) (name : List ℕ) (before : Option Arming) → IsInput input → IfSome before IsLowArming → IfSome (stop_after_input input name before) IsLowArming
stop_taken (Stop host call byte) name before is low =
    let c = is.1 in
    let b = is.2 in
    armed_so (bytes_eq host name) (record { call = call; byte = byte }) before (record { call = omega arith; byte = omega arith }) low
stop_taken (Restart node) name before is low = unless_so (bytes_eq node name) before low
stop_taken _ name before is low = low

halt_taken : (input : Input) (name : List ℕ) (before : Option Arming) → IsInput input → IfSome before IsLowArming → IfSome (halt_after_input input name before) IsLowArming
halt_taken (Halt host call byte) name before is low =
    let c = is.1 in
    let b = is.2 in
    armed_so (bytes_eq host name) (record { call = call; byte = byte }) before (record { call = omega arith; byte = omega arith }) low
halt_taken (Restart node) name before is low = unless_so (bytes_eq node name) before low
halt_taken _ name before is low = low

laid_so : (test : Bool) (to : _) (until : ℕ) → IsShortEntry (record { to = to; until = until }) → AllByRecursion IsShortEntry (cond test (record { to = to; until = until } ∷ []) [])
laid_so test to until is = cond_both test (record { to = to; until = until } ∷ []) [] (AllByRecursion IsShortEntry) (λ e. (is, tt)) (λ e. tt)

told_short : (leaves : ℕ) (e : Event) (name : List ℕ) → IsShortEvent leaves e → AllByRecursion IsShortEntry (told_in e name)
told_short leaves (event.Obeyed host sender until) name is = laid_so (bytes_eq host name) sender until (is.1, is.2)
told_short leaves (event.Halted host sender until call byte) name is = laid_so (bytes_eq host name && left_entry call byte) sender until (is.1, is.2)
told_short leaves _ name is = tt

past_so : (test : Bool) (leaf leaves : ℕ) → leaf ≤ leaves → cond test (leaf + 1) 0 ≤ leaves + 1
past_so test leaf leaves le = cond_both test (leaf + 1) 0 (λ n. n ≤ leaves + 1) (λ e. omega arith) (λ e. omega arith)

past_short : (leaves : ℕ) (e : Event) (name : List ℕ) → IsShortEvent leaves e → past_leaf e name ≤ leaves + 1
past_short leaves (event.Signed host leaf) name is = past_so (bytes_eq host name) leaf leaves is.1
past_short leaves (event.Stopped host leaf call byte) name is = past_so (bytes_eq host name && not (byte == 0)) leaf leaves is.1
past_short leaves _ name is = omega arith

same_time : (events : List Event) (tr : List Entry) → now_of (with_events events tr) ≡ now_of tr
same_time [] tr = refl
same_time (e ∷ events) tr = same_time events (Happened e ∷ tr)

flights_with : (events : List Event) (tr : List Entry) → flights_of (with_events events tr) ≡ flights_of tr ++ flights_put events
flights_with [] tr = sym (append-nil (flights_of tr))
flights_with (e ∷ events) tr = flights_with events (Happened e ∷ tr) ∙ append_assoc (flights_of tr) (flight_in e) (flights_put events)

-- ## Time

module _ (topo : Topology) (tr : List Entry) where
  quiet : (outcome : Result Reaction StepFault) → now_of tr < 2 ^ 48 → IfOk outcome (λ r. 0 + now_of tr < 2 ^ 48)
  quiet (Ok r) low = omega arith
  quiet (Err f) low = tt

  time_after : (input : Input) → now_of tr < 2 ^ 48 → IfOk (outcome_of topo tr input) (λ r. ticks_of input + now_of tr < 2 ^ 48)
  time_after (Tick ticks) low =
      refused_or (λ r. ticks + now_of tr < 2 ^ 48) ((ticks == 0) || nat_le (2 ^ 48) (now_of tr + ticks)) fault.Range (Ok nothing) (λ e. grind (arith, nat_tests))
  time_after (Send host node packet body) low = quiet (outcome_of topo tr (Send host node packet body)) low
  time_after (Raw host bytes) low = quiet (outcome_of topo tr (Raw host bytes)) low
  time_after (Deliver flight) low = quiet (outcome_of topo tr (Deliver flight)) low
  time_after (Inject to bytes) low = quiet (outcome_of topo tr (Inject to bytes)) low
  time_after (Cut link) low = quiet (outcome_of topo tr (Cut link)) low
  time_after (Mend link) low = quiet (outcome_of topo tr (Mend link)) low
  time_after (Shutoff host flight ttl) low = quiet (outcome_of topo tr (Shutoff host flight ttl)) low
  time_after (Restart node) low = quiet (outcome_of topo tr (Restart node)) low
  time_after (Stop host call byte) low = quiet (outcome_of topo tr (Stop host call byte)) low
  time_after (Halt host call byte) low = quiet (outcome_of topo tr (Halt host call byte)) low
  time_after (Publish bytes) low = quiet (outcome_of topo tr (Publish bytes)) low

-- ## A step

put_short : (leaves n : ℕ) (put : Option Flight) → IsLow n → IfSome put IsShortPut → IfSome put IsShort → AllByRecursion (IsShortEvent leaves) (put_event n put)
put_short leaves n None low is short = tt
put_short leaves n (Some flight) low is short = ((low, is, short), tt)

in_put_short : (put : Option Flight) → IfSome put IsShortPut → AllByRecursion IsShortPut (in_put put)
in_put_short None is = tt
in_put_short (Some flight) is = (is, tt)

one_put : (put : Option Flight) → length (in_put put) ≤ 1
one_put None = lit≤ tt
one_put (Some flight) = lit≤ tt

marks_plain : (leaves : ℕ) (events : List Event) → leaves ≤ 65536 → AllByRecursion (IsShortEvent leaves) events → AllByRecursion IsTraceLine (map event_mark events)
marks_plain leaves [] few are = tt
marks_plain leaves (e ∷ events) few are = (event_plain leaves e few are.0, marks_plain leaves events few are.1)

-- a step keeps words short
plain_step : (topo : Topology) → IsSound topo → (tr : List Entry) (input : Input) (events : List Event) → IsInput input → IsPlainTrace tr → step_of topo tr input ≡ Ok events
    → IsPlainTrace (after_step tr input events)
plain_step topo sound tr input events formed plain step =
    let leaves = input_count tr in
    let r = reacts topo tr input events step in
    let less = not_many topo tr input events step in
    let count = counted_step tr input events in
    let short = of_reaction (IsShortReaction leaves) (outcome_of topo tr input) r.reaction r.outcome (outcome_short topo sound tr plain input formed) in
    let modest = of_reaction IsModest (outcome_of topo tr input) r.reaction r.outcome (outcome_modest topo tr input sound) in
    let bytes = of_reaction (λ x. IsShortInput input) (outcome_of topo tr input) r.reaction r.outcome (input_bytes topo tr input) in
    let time = of_reaction (λ x. ticks_of input + now_of tr < 2 ^ 48) (outcome_of topo tr input) r.reaction r.outcome (time_after topo tr input plain.time) in
    let put = plain.put in
    let few = plain.few in
    let are : AllByRecursion (IsShortEvent leaves) events =
    subst (λ (es : List Event). AllByRecursion (IsShortEvent leaves) es) r.told
    (all_append (IsShortEvent leaves) r.reaction.events (put_event (flight_count tr) r.reaction.put) short.events (put_short leaves (flight_count tr) r.reaction.put (omega arith) short.put modest.short)) in
    let flown : flights_of (after_step tr input events) ≡ flights_of tr ++ in_put r.reaction.put =
    flights_with events (Taken input ∷ tr) ∙ ap (λ (es : List Event). flights_of tr ++ flights_put es) (sym r.told)
    ∙ ap (λ (fs : List Flight). flights_of tr ++ fs) (put_calm r.reaction.events (flight_count tr) r.reaction.put modest.calm) in
    let more : flight_count (after_step tr input events) ≡ flight_count tr + length (in_put r.reaction.put) = ap length flown ∙ length-append (flights_of tr) (in_put r.reaction.put) in
    let one = one_put r.reaction.put in
    let later = same_time events (Taken input ∷ tr) in
    let first : IsTraceLine (entry_mark (Taken input)) = input_plain input formed bytes in
    record {
      lines =
          subst (λ (ls : List (List ℕ)). AllByRecursion IsTraceLine ls) (sym (shown_after tr input events))
          (all_append IsTraceLine (shown tr) (entry_mark (Taken input) ∷ map event_mark events) plain.lines (first, marks_plain leaves events few are));
      flights =
          subst (λ (fs : List Flight). AllByRecursion IsShortPut fs) (sym flown)
          (all_append IsShortPut (flights_of tr) (in_put r.reaction.put) plain.flights (in_put_short r.reaction.put short.put));
      stops = λ name.
          over_events (λ t. IfSome (armed_stop t name) IsLowArming) (IsShortEvent leaves) (λ e t is p. unless_so (is_stop_of e name) (armed_stop t name) p) events (Taken input ∷ tr) are
          (stop_taken input name (armed_stop tr name) formed (plain.stops name));
      halts = λ name.
          over_events (λ t. IfSome (armed_halt t name) IsLowArming) (IsShortEvent leaves) (λ e t is p. unless_so (is_halt_of e name) (armed_halt t name) p) events (Taken input ∷ tr) are
          (halt_taken input name (armed_halt tr name) formed (plain.halts name));
      told = λ name.
          over_events (λ t. AllByRecursion IsShortEntry (told_to t name)) (IsShortEvent leaves)
          (λ e t is p. all_append IsShortEntry (told_in e name) (told_to t name) (told_short leaves e name is) p) events (Taken input ∷ tr) are (plain.told name);
      leaf = λ name.
          let all : next_leaf (after_step tr input events) name ≤ leaves + 1 =
          over_events (λ t. next_leaf t name ≤ leaves + 1) (IsShortEvent leaves) (λ e t is p. max-le (past_short leaves e name is) p) events (Taken input ∷ tr) are
          (let before = plain.leaf name in omega arith) in
          omega arith;
      time = omega arith;
      put = omega arith;
      few = omega arith;
    }

-- ## A trace

plain_from : (topo : Topology) → IsSound topo → (tr after : List Entry) (inputs : List Input) → AllByRecursion IsInput inputs → IsPlainTrace tr → trace_from topo tr inputs ≡ Some after → IsPlainTrace after
plain_from topo sound tr after [] formed plain e =
    let same : tr ≡ after = cc in
    subst IsPlainTrace same plain
plain_from topo sound tr after (input ∷ inputs) formed plain e =
    let s = first_step topo tr input inputs after e in
    plain_from topo sound (after_step tr input s.events) after inputs formed.1 (plain_step topo sound tr input s.events formed.0 plain s.step) s.rest

-- the words of the empty trace
none_plain : IsPlainTrace []
none_plain = record { lines = tt; flights = tt; stops = λ name. tt; halts = λ name. tt; told = λ name. tt; leaf = λ name. lit≤ tt; time = lit< tt; put = lit≤ tt; few = lit≤ tt }

-- the words of each trace over a sound topology are short
pub plain_trace : (topo : Topology) → IsSound topo → (inputs : List Input) (tr : List Entry) → AllByRecursion IsInput inputs → trace_of topo inputs ≡ Some tr → IsPlainTrace tr
plain_trace topo sound inputs tr formed e = plain_from topo sound [] tr inputs formed none_plain e

-- and so are its lines
pub plain_shown : (topo : Topology) → IsSound topo → (inputs : List Input) (tr : List Entry) → AllByRecursion IsInput inputs → trace_of topo inputs ≡ Some tr → AllByRecursion IsTraceLine (shown tr)
plain_shown topo sound inputs tr formed e = (plain_trace topo sound inputs tr formed e).lines
