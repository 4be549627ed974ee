-- What stands after a trace. A trace is a list of entries, the newest first: each input that was taken, and on top of
-- it its events.
use Rattle.std.specs.Prelude.{ℕ, ◌+◌, ◌==◌, Bool, true, false, if◌then◌else◌, List, [], ◌∷◌, ◌++◌, length, slice_get, Option, Some, None}
use Rattle.std.specs.Str.{bytes_eq}
use Rattle.aip_frame.specs.declared.frame.Frame.{Frame}
use Rattle.aip_frame.specs.Frame.{frame_of}
use Rattle.aip_event.specs.declared.input.Input.{Input}
use Rattle.aip_event.specs.declared.input.Input.TheVariants.{Tick, Cut, Mend, Restart, Stop, Halt, Deliver}
use Rattle.aip_event.specs.declared.event.Event.{Event}
use Rattle.aip_event.specs.declared.event.Event.TheVariants.{Put, Stopped, Halted}
use Rattle.aip_rules.specs.declared.Entry.{Entry}
use Rattle.aip_rules.specs.declared.Entry.TheVariants.{Taken, Happened}
use Rattle.aip_rules.specs.declared.Flight.{Flight}
use Rattle.aip_rules.specs.declared.Arming.{Arming}

-- the ticks of an input
abbrev pub ticks_of : Input → ℕ
ticks_of (Tick n) = n
ticks_of _ = 0

-- the time: the sum of the ticks
abbrev pub now_of : List Entry → ℕ
now_of [] = 0
now_of (Taken input ∷ tr) = ticks_of input + now_of tr
now_of (Happened event ∷ tr) = now_of tr

-- how many inputs were taken
abbrev pub input_count : List Entry → ℕ
input_count [] = 0
input_count (Taken input ∷ tr) = 1 + input_count tr
input_count (Happened event ∷ tr) = input_count tr

-- the flight that an event puts, if it is a put
abbrev pub flight_in : Event → List Flight
flight_in (Put number target bytes) = record { target = target; bytes = bytes } ∷ []
flight_in _ = []

-- the flights in the order in which they were put: flight k stands at place k
abbrev pub flights_of : List Entry → List Flight
flights_of [] = []
flights_of (Taken input ∷ tr) = flights_of tr
flights_of (Happened event ∷ tr) = flights_of tr ++ flight_in event

-- flight k, if it was put
abbrev pub flight_at : List Entry → ℕ → Option Flight
flight_at tr k = slice_get (flights_of tr) k

-- how many flights were put
abbrev pub flight_count : List Entry → ℕ
flight_count tr = length (flights_of tr)

-- the flight that an input delivers, if it delivers one
abbrev pub delivered_by : List Entry → Input → Option Flight
delivered_by tr (Deliver flight) = flight_at tr flight
delivered_by tr _ = None

-- the flight that the newest input delivers: the events above it come of it
abbrev pub delivery : List Entry → Option Flight
delivery [] = None
delivery (Taken input ∷ tr) = delivered_by tr input
delivery (Happened event ∷ tr) = delivery tr

-- the frame of a flight, if there is a flight and its bytes are a frame
abbrev pub frame_in : Option Flight → Option Frame
frame_in None = None
frame_in (Some flight) = frame_of flight.bytes

-- the frame that the newest input delivers
abbrev pub delivered_frame : List Entry → Option Frame
delivered_frame tr = frame_in (delivery tr)

-- the input starts the node of this name anew
abbrev pub is_restart_of : Input → List ℕ → Bool
is_restart_of (Restart node) name = bytes_eq node name
is_restart_of _ name = false

-- one restart, where the input starts the node of this name anew
abbrev pub restarts_in : Input → List ℕ → ℕ
restarts_in input name = if is_restart_of input name then 1 else 0

-- how often the node of this name was started anew
abbrev pub restarts_of : List Entry → List ℕ → ℕ
restarts_of [] name = 0
restarts_of (Taken input ∷ tr) name = restarts_in input name + restarts_of tr name
restarts_of (Happened event ∷ tr) name = restarts_of tr name

-- whether a link is up after an input, where it was so before
abbrev pub is_up_after_input : Input → ℕ → Bool → Bool
is_up_after_input (Cut link) l before = if link == l then false else before
is_up_after_input (Mend link) l before = if link == l then true else before
is_up_after_input _ l before = before

-- the link is up: its last cut or mend is a mend, or there is none
abbrev pub is_up : List Entry → ℕ → Bool
is_up [] l = true
is_up (Taken input ∷ tr) l = is_up_after_input input l (is_up tr l)
is_up (Happened event ∷ tr) l = is_up tr l

-- the event brings the host of this name down: a stop of one of its disks was met
abbrev pub is_fall_of : Event → List ℕ → Bool
is_fall_of (Stopped host leaf call byte) name = bytes_eq host name
is_fall_of (Halted host sender until call byte) name = bytes_eq host name
is_fall_of _ name = false

-- the host of this name is down: since its last restart a stop of one of its disks was met
abbrev pub is_down : List Entry → List ℕ → Bool
is_down [] name = false
is_down (Taken input ∷ tr) name = if is_restart_of input name then false else is_down tr name
is_down (Happened event ∷ tr) name = if is_fall_of event name then true else is_down tr name

-- the stop of a signing that is armed at a host after an input, where this one was before: a stop takes the place of an
-- earlier one, and a restart disarms
abbrev pub stop_after_input : Input → List ℕ → Option Arming → Option Arming
stop_after_input (Stop host call byte) name before = if bytes_eq host name then Some (record { call = call; byte = byte }) else before
stop_after_input (Restart node) name before = if bytes_eq node name then None else before
stop_after_input _ name before = before

-- the event spends a stop of a signing of the host of this name
abbrev pub is_stop_of : Event → List ℕ → Bool
is_stop_of (Stopped host leaf call byte) name = bytes_eq host name
is_stop_of _ name = false

-- the stop of a signing that is armed at the host of this name: the last one, unless a restart or a signing that
-- was stopped came since
abbrev pub armed_stop : List Entry → List ℕ → Option Arming
armed_stop [] name = None
armed_stop (Taken input ∷ tr) name = stop_after_input input name (armed_stop tr name)
armed_stop (Happened event ∷ tr) name = if is_stop_of event name then None else armed_stop tr name

-- the halt of a filter's disk that is armed at a host after an input, where this one was before
abbrev pub halt_after_input : Input → List ℕ → Option Arming → Option Arming
halt_after_input (Halt host call byte) name before = if bytes_eq host name then Some (record { call = call; byte = byte }) else before
halt_after_input (Restart node) name before = if bytes_eq node name then None else before
halt_after_input _ name before = before

-- the event spends a halt of the filter's disk of the host of this name
abbrev pub is_halt_of : Event → List ℕ → Bool
is_halt_of (Halted host sender until call byte) name = bytes_eq host name
is_halt_of _ name = false

-- the halt that is armed at the host of this name: the last one, unless a restart or a write that was halted came
-- since
abbrev pub armed_halt : List Entry → List ℕ → Option Arming
armed_halt [] name = None
armed_halt (Taken input ∷ tr) name = halt_after_input input name (armed_halt tr name)
armed_halt (Happened event ∷ tr) name = if is_halt_of event name then None else armed_halt tr name
