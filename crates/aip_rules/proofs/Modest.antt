-- Reactions that put at most one flight, of at most 9,216 bytes, behind events that put none.
use Rattle.std.proofs.Common.{◌≡◌, ℕ, ◌≤◌, Bool, true, false, cond, List, [], ◌∷◌, ◌++◌, length, Option, Some, None, Result, Ok, Err, refl, ap, ◌∙◌, lit≤, subst, sym}
use Rattle.std.specs.Prelude.{IfOk, IfSome, All}
use Rattle.std.proofs.lemmas.List.Elements.{All-nil, All-cons}
use Rattle.aip_event.specs.declared.event.Event.{Event}
use Rattle.aip_event.specs.declared.event.Reason.{Reason}
use Rattle.aip_event.specs.declared.input.Target.{Target}
use Rattle.aip_rules.specs.declared.Entry.{Entry}
use Rattle.aip_rules.specs.declared.Flight.{Flight}
use Rattle.aip_rules.specs.declared.Reaction.{Reaction}
use Rattle.aip_rules.specs.declared.StepFault.{StepFault}
use Rattle.aip_rules.specs.State.{flight_in, flight_count}
use Rattle.aip_rules.specs.Reaction.{nothing, dropped, puts, happens, behind, put_event, numbered, in_put}
use Rattle.aip_rules.specs.Step.{refused_if, events_of}
use Rattle.aip_rules.specs.Laws.{flights_put, IsShort, PutAtMostOne}

-- the event puts no flight
abbrev pub IsCalm : Event → Type 0
IsCalm event = flight_in event ≡ []

-- no event puts a flight
abbrev pub AreCalm : List Event → Type 0
AreCalm [] = Unit {0}
AreCalm (event ∷ events) = IsCalm event × AreCalm events

-- the flight, if there is one, has at most 9,216 bytes
abbrev pub IsShortPut : Option Flight → Type 0
IsShortPut put = IfSome put IsShort

-- the events put no flight, and the flight that is put behind them has at most 9,216 bytes
pub record IsModest (reaction : Reaction) : Type 0 where
  pub calm : AreCalm reaction.events
  pub short : IsShortPut reaction.put

-- nothing is modest
pub nothing_modest : IsModest nothing
nothing_modest = record { calm = tt; short = tt }

-- and so is one calm event
pub happens_modest : (event : Event) → IsCalm event → IsModest (happens event)
happens_modest event calm = record { calm = (calm, tt); short = tt }

pub dropped_modest : (name : List ℕ) (why : Reason) → IsModest (dropped name why)
dropped_modest name why = record { calm = (refl, tt); short = tt }

pub puts_modest : (to : Target) (bytes : List ℕ) → length bytes ≤ 9216 → IsModest (puts to bytes)
puts_modest to bytes short = record { calm = tt; short = short }

-- a calm event before a modest reaction
pub behind_modest : (event : Event) (reaction : Reaction) → IsCalm event → IsModest reaction → IsModest (behind event reaction)
behind_modest event reaction calm modest = record { calm = (calm, modest.calm); short = modest.short }

-- one of two modest reactions
pub either : (test : Bool) (a b : Reaction) → (test ≡ true → IsModest a) → (test ≡ false → IsModest b) → IsModest (cond test a b)
either true a b p q = p refl
either false a b p q = q refl

-- an outcome that isn't a fault is modest
abbrev pub IsModestOutcome : Result Reaction StepFault → Type 0
IsModestOutcome outcome = IfOk outcome IsModest

-- a modest outcome, unless a test refuses it
pub unless : (test : Bool) (f : StepFault) (outcome : Result Reaction StepFault) → (test ≡ false → IsModestOutcome outcome) → IsModestOutcome (refused_if test f outcome)
unless true f outcome h = tt
unless false f outcome h = h refl

-- a modest outcome, where a test allows it
pub where_allowed : (test : Bool) (f : StepFault) (outcome : Result Reaction StepFault) → (test ≡ true → IsModestOutcome outcome) → IsModestOutcome (cond test outcome (Err f))
where_allowed true f outcome h = h refl
where_allowed false f outcome h = tt

-- the flights that calm events with a put behind them put
pub put_calm : (events : List Event) (number : ℕ) (put : Option Flight) → AreCalm events → flights_put (events ++ put_event number put) ≡ in_put put
put_calm [] number None calm = refl
put_calm [] number (Some flight) calm = refl
put_calm (event ∷ events) number put calm = ap (λ (fs : List Flight). fs ++ flights_put (events ++ put_event number put)) calm.0 ∙ put_calm events number put calm.1

one_put : (put : Option Flight) → IsShortPut put → (length (in_put put) ≤ 1) × All IsShort (in_put put)
one_put None short = (lit≤ tt, All-nil IsShort)
one_put (Some flight) short = (lit≤ tt, All-cons IsShort flight [] short (All-nil IsShort))

-- the events of a modest reaction put at most one flight
pub modest_puts : (number : ℕ) (reaction : Reaction) → IsModest reaction → PutAtMostOne (numbered number reaction)
modest_puts number reaction modest =
    let same : flights_put (numbered number reaction) ≡ in_put reaction.put = put_calm reaction.events number reaction.put modest.calm in
    let is = one_put reaction.put modest.short in
    record {
      one = subst (λ (fs : List Flight). length fs ≤ 1) (sym same) is.0;
      short = subst (λ (fs : List Flight). All IsShort fs) (sym same) is.1;
    }

-- and so do the events of a modest outcome
pub events_put : (tr : List Entry) (outcome : Result Reaction StepFault) → IsModestOutcome outcome → IfOk (events_of tr outcome) PutAtMostOne
events_put tr (Ok reaction) modest = modest_puts (flight_count tr) reaction modest
events_put tr (Err f) modest = tt
