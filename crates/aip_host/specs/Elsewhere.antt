-- What concerns a host and what doesn't.
use Rattle.std.specs.Prelude.{◌≡◌, ℕ, Bool, true, false, List}
use Rattle.std.specs.Str.{bytes_eq}
use Rattle.std.specs.List.{AllByRecursion}
use Rattle.aip_event.specs.declared.input.Input.{Input}
use Rattle.aip_event.specs.declared.input.Input.TheVariants.{Restart, Stop, Halt}
use Rattle.aip_event.specs.declared.event.Event.{Event}
use Rattle.aip_event.specs.declared.event.Event.TheVariants.{Put, Signed, Stopped, Obeyed, Halted}

-- the input starts the host of this name anew, or arms a stop of its signings or a halt of its guard
abbrev pub resets : Input → List ℕ → Bool
resets (Restart node) name = bytes_eq node name
resets (Stop host call byte) name = bytes_eq host name
resets (Halt host call byte) name = bytes_eq host name
resets _ name = false

-- the event concerns the host of this name: it signs there, it is told a shut-off, or a stop or a halt brings it down
abbrev pub concerns : Event → List ℕ → Bool
concerns (Signed host leaf) name = bytes_eq host name
concerns (Stopped host leaf call byte) name = bytes_eq host name
concerns (Obeyed host sender until) name = bytes_eq host name
concerns (Halted host sender until call byte) name = bytes_eq host name
concerns _ name = false

-- the event puts a flight
abbrev pub is_put : Event → Bool
is_put (Put number target bytes) = true
is_put _ = false

-- none of these events concerns the host of this name
abbrev pub AreElsewhere : List ℕ → List Event → Type 0
AreElsewhere name events = AllByRecursion (λ event. concerns event name ≡ false) events

-- none of these events puts a flight
abbrev pub PutNone : List Event → Type 0
PutNone events = AllByRecursion (λ event. is_put event ≡ false) events
