-- What comes of an input at a node: events, and at most one flight that is put behind them.
use Rattle.std.specs.Prelude.{ℕ, List, [], ◌∷◌, ◌++◌, Option, Some, None}
use Rattle.aip_event.specs.declared.event.Event.{Event}
use Rattle.aip_event.specs.declared.event.Event.TheVariants.{Put, Drop}
use Rattle.aip_event.specs.declared.event.Reason.{Reason}
use Rattle.aip_event.specs.declared.input.Target.{Target}
use Rattle.aip_rules.specs.declared.Entry.{Entry}
use Rattle.aip_rules.specs.declared.Flight.{Flight}
use Rattle.aip_rules.specs.declared.Reaction.{Reaction}
use Rattle.aip_rules.specs.State.{flight_count}

-- nothing happens, and nothing is put
abbrev pub nothing : Reaction
nothing = record { events = []; put = None }

-- one event, and nothing is put
abbrev pub happens : Event → Reaction
happens event = record { events = event ∷ []; put = None }

-- a node drops what reached it, for a reason
abbrev pub dropped : List ℕ → Reason → Reaction
dropped name reason = happens (Drop name reason)

-- a flight, and no event before it
abbrev pub puts : Target → List ℕ → Reaction
puts target bytes = record { events = []; put = Some (record { target = target; bytes = bytes }) }

-- one event, and a flight behind it
abbrev pub happens_and_puts : Event → Target → List ℕ → Reaction
happens_and_puts event target bytes = record { events = event ∷ []; put = Some (record { target = target; bytes = bytes }) }

-- the event by which a flight is put, with the flight's number
abbrev pub put_event : ℕ → Option Flight → List Event
put_event number None = []
put_event number (Some flight) = Put number flight.target flight.bytes ∷ []

-- the events of a reaction, where the flight that is put has this number
abbrev pub numbered : ℕ → Reaction → List Event
numbered number reaction = reaction.events ++ put_event number reaction.put

-- the events of a reaction on a trace: a flight has the next number
abbrev pub events_on : List Entry → Reaction → List Event
events_on tr reaction = numbered (flight_count tr) reaction

-- the flight that a reaction puts, if it puts one
abbrev pub in_put : Option Flight → List Flight
in_put None = []
in_put (Some flight) = flight ∷ []

-- a reaction with one event before it
abbrev pub behind : Event → Reaction → Reaction
behind event reaction = record { events = event ∷ reaction.events; put = reaction.put }
