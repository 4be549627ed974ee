-- What stands for a host on a trace with further events.
use Rattle.std.proofs.Common.{◌≡◌, ℕ, ◌+◌, max, Bool, true, false, if◌then◌else◌, List, [], ◌∷◌, ◌++◌, refl, ◌∙◌, ap, Option, Some, None, arith}
use Rattle.std.specs.List.{AllByRecursion}
use Rattle.std.proofs.Math.Nat.{zero-max}
use Rattle.aip_frame.specs.declared.frame.Frame.{Frame}
use Rattle.aip_frame.specs.Frame.{frame_of}
use Rattle.aip_event.specs.declared.event.Event.{Event}
use Rattle.aip_event.specs.declared.input.Input.{Input}
use Rattle.aip_event.specs.declared.input.Input.TheVariants.{Tick, Send, Raw, Deliver, Inject, Cut, Mend, Shutoff, Restart, Stop, Halt, Publish}
use Rattle.sent_log.specs.Log as log
use Rattle.sent_log.specs.declared.log.Noted.{Noted}
use Rattle.sent_log.proofs.Standing.{still_stands}
use Rattle.shutoff_filter.specs.declared.entries.ShutOffEntry.{ShutOffEntry as ShutOff}
use Rattle.shutoff_filter.specs.Entries.{SameInForce}
use Rattle.shutoff_filter.specs.InForce.{same_with_entry}
use Rattle.aip_rules.specs.declared.Arming.{Arming}
use Rattle.aip_rules.specs.declared.Entry.{Entry}
use Rattle.aip_rules.specs.declared.Entry.TheVariants.{Happened}
use Rattle.aip_rules.specs.declared.Flight.{Flight}
use Rattle.aip_rules.specs.Reaction.{put_event}
use Rattle.aip_rules.specs.State.{now_of, ticks_of, is_down, is_fall_of, is_restart_of, armed_stop, is_stop_of, stop_after_input, armed_halt, is_halt_of, halt_after_input}
use Rattle.aip_rules.specs.Standing.{acts, lets_act, frames_put, noted_of, noted_in, next_leaf, past_leaf, told_to, told_in}
use Rattle.aip_rules.specs.Step.{with_events}
use Rattle.aip_host.specs.After.{with_noted, logged, next_past, stop_past, halt_past, down_past, told_past}

-- ---- further events

-- the next leaf after further events
pub next_with : (events : List Event) (tr : List Entry) (name : List ℕ) → next_leaf (with_events events tr) name ≡ next_past events name (next_leaf tr name)
next_with [] tr name = refl
next_with (event ∷ events) tr name = next_with events (Happened event ∷ tr) name

-- the stop that is armed after further events
pub stop_with : (events : List Event) (tr : List Entry) (name : List ℕ) → armed_stop (with_events events tr) name ≡ stop_past events name (armed_stop tr name)
stop_with [] tr name = refl
stop_with (event ∷ events) tr name = stop_with events (Happened event ∷ tr) name

-- whether a host is down after further events
pub down_with : (events : List Event) (tr : List Entry) (name : List ℕ) → is_down (with_events events tr) name ≡ down_past events name (is_down tr name)
down_with [] tr name = refl
down_with (event ∷ events) tr name = down_with events (Happened event ∷ tr) name

-- the halt that is armed after further events
pub halt_with : (events : List Event) (tr : List Entry) (name : List ℕ) → armed_halt (with_events events tr) name ≡ halt_past events name (armed_halt tr name)
halt_with [] tr name = refl
halt_with (event ∷ events) tr name = halt_with events (Happened event ∷ tr) name

-- what a host was told after further events
pub told_with : (events : List Event) (tr : List Entry) (name : List ℕ) → told_to (with_events events tr) name ≡ told_past events name (told_to tr name)
told_with [] tr name = refl
told_with (event ∷ events) tr name = told_with events (Happened event ∷ tr) name

-- no time passes by events
pub now_with : (events : List Event) (tr : List Entry) → now_of (with_events events tr) ≡ now_of tr
now_with [] tr = refl
now_with (event ∷ events) tr = now_with events (Happened event ∷ tr)

-- what withholds the same still does with the same shut-offs more
same_behind : (now : ℕ) (more old new : List ShutOff) → SameInForce now old new → SameInForce now (more ++ old) (more ++ new)
same_behind now [] old new alike = alike
same_behind now (entry ∷ more) old new alike = same_with_entry now entry (more ++ old) (more ++ new) (same_behind now more old new alike)

-- and so after events
pub told_alike : (now : ℕ) (events : List Event) (name : List ℕ) (old new : List ShutOff) → SameInForce now old new → SameInForce now (told_past events name old) (told_past events name new)
told_alike now [] name old new alike = alike
told_alike now (event ∷ events) name old new alike =
    told_alike now events name (told_in event name ++ old) (told_in event name ++ new) (same_behind now (told_in event name) old new alike)

-- where a host is up after further events, it was up before
pub up_before : (events : List Event) (name : List ℕ) (down : Bool) → down_past events name down ≡ false → down ≡ false
up_before [] name down up = up
up_before (event ∷ events) name down up = unless (is_fall_of event name) (up_before events name (if is_fall_of event name then true else down) up)
  where
    unless : (fall : Bool) → (if fall then true else down) ≡ false → down ≡ false
    unless true h = absurd cc
    unless false h = h

-- ---- a flight behind the events

pub next_put : (events : List Event) (number : ℕ) (put : Option Flight) (name : List ℕ) (next : ℕ) → next_past (events ++ put_event number put) name next ≡ next_past events name next
next_put [] number None name next = refl
next_put [] number (Some flight) name next = zero-max next
next_put (event ∷ events) number put name next = next_put events number put name (max (past_leaf event name) next)

pub stop_put : (events : List Event) (number : ℕ) (put : Option Flight) (name : List ℕ) (stop : Option Arming) → stop_past (events ++ put_event number put) name stop ≡ stop_past events name stop
stop_put [] number None name stop = refl
stop_put [] number (Some flight) name stop = refl
stop_put (event ∷ events) number put name stop = stop_put events number put name (if is_stop_of event name then None else stop)

pub down_put : (events : List Event) (number : ℕ) (put : Option Flight) (name : List ℕ) (down : Bool) → down_past (events ++ put_event number put) name down ≡ down_past events name down
down_put [] number None name down = refl
down_put [] number (Some flight) name down = refl
down_put (event ∷ events) number put name down = down_put events number put name (if is_fall_of event name then true else down)

pub halt_put : (events : List Event) (number : ℕ) (put : Option Flight) (name : List ℕ) (halt : Option Arming) → halt_past (events ++ put_event number put) name halt ≡ halt_past events name halt
halt_put [] number None name halt = refl
halt_put [] number (Some flight) name halt = refl
halt_put (event ∷ events) number put name halt = halt_put events number put name (if is_halt_of event name then None else halt)

pub told_put : (events : List Event) (number : ℕ) (put : Option Flight) (name : List ℕ) (told : List ShutOff) → told_past (events ++ put_event number put) name told ≡ told_past events name told
told_put [] number None name told = refl
told_put [] number (Some flight) name told = refl
told_put (event ∷ events) number put name told = told_put events number put name (told_in event name ++ told)

-- what is noted of a flight that is put
abbrev pub noted_put : Option Flight → List Noted
noted_put None = []
noted_put (Some flight) = noted_of (frame_of flight.bytes)

-- a choice between two that are the same
same_choice : (test : Bool) (noted frames : List Noted) → noted ≡ [] → (if test then noted ++ frames else frames) ≡ frames
same_choice true noted frames none = ap (λ ns. ns ++ frames) none
same_choice false noted frames none = refl

-- of events by which nothing is put, with a flight behind them, the flight alone is noted
pub frames_with_put : (events : List Event) (number : ℕ) (put : Option Flight) (tr : List Entry) (name : List ℕ) → AllByRecursion (λ event. noted_in event ≡ []) events → acts tr name ≡ true
    → frames_put (with_events (events ++ put_event number put) tr) name ≡ noted_put put ++ frames_put tr name
frames_with_put [] number None tr name quiet acting = refl
frames_with_put [] number (Some flight) tr name quiet acting = rw acting refl
frames_with_put (event ∷ events) number put tr name quiet acting =
    frames_with_put events number put (Happened event ∷ tr) name quiet.1 acting
    ∙ ap (λ fs. noted_put put ++ fs) (same_choice (acts tr name) (noted_in event) (frames_put tr name) quiet.0)

noted_case : (o : Option Frame) (kept : log.Log) (put : List Noted) → log.LogStandsFor put kept → log.LogStandsFor (noted_of o ++ put) (with_noted kept (noted_of o))
noted_case None kept put stands = stands
noted_case (Some f) kept put stands = still_stands put kept _ stands

-- a log that stands for what was put still does, once it has noted a flight
pub logged_stands : (put : Option Flight) (kept : log.Log) (frames : List Noted) → log.LogStandsFor frames kept → log.LogStandsFor (noted_put put ++ frames) (logged kept put)
logged_stands None kept frames stands = stands
logged_stands (Some flight) kept frames stands = noted_case (frame_of flight.bytes) kept frames stands

noted_room : (o : Option Frame) (kept : log.Log) → (with_noted kept (noted_of o)).room ≡ kept.room
noted_room None kept = refl
noted_room (Some f) kept = refl

-- the room of a log stays
pub logged_room : (put : Option Flight) (kept : log.Log) → (logged kept put).room ≡ kept.room
logged_room None kept = refl
logged_room (Some flight) kept = noted_room (frame_of flight.bytes) kept

-- ---- inputs

-- an input that lets a host act is no restart
pub no_restart : (tr : List Entry) (input : Input) (name : List ℕ) → lets_act tr input name ≡ true → is_restart_of input name ≡ false
no_restart tr (Restart node) name acting = absurd cc
no_restart tr (Tick ticks) name acting = refl
no_restart tr (Send host node packet body) name acting = refl
no_restart tr (Raw host bytes) name acting = refl
no_restart tr (Deliver flight) name acting = refl
no_restart tr (Inject target bytes) name acting = refl
no_restart tr (Cut link) name acting = refl
no_restart tr (Mend link) name acting = refl
no_restart tr (Shutoff host flight ttl) name acting = refl
no_restart tr (Stop host call byte) name acting = refl
no_restart tr (Halt host call byte) name acting = refl
no_restart tr (Publish bytes) name acting = refl

-- and arms no stop
pub no_stop : (tr : List Entry) (input : Input) (name : List ℕ) (stop : Option Arming) → lets_act tr input name ≡ true → stop_after_input input name stop ≡ stop
no_stop tr (Restart node) name stop acting = absurd cc
no_stop tr (Stop host call byte) name stop acting = absurd cc
no_stop tr (Tick ticks) name stop acting = refl
no_stop tr (Send host node packet body) name stop acting = refl
no_stop tr (Raw host bytes) name stop acting = refl
no_stop tr (Deliver flight) name stop acting = refl
no_stop tr (Inject target bytes) name stop acting = refl
no_stop tr (Cut link) name stop acting = refl
no_stop tr (Mend link) name stop acting = refl
no_stop tr (Shutoff host flight ttl) name stop acting = refl
no_stop tr (Halt host call byte) name stop acting = refl
no_stop tr (Publish bytes) name stop acting = refl

-- and no halt
pub no_halt : (tr : List Entry) (input : Input) (name : List ℕ) (halt : Option Arming) → lets_act tr input name ≡ true → halt_after_input input name halt ≡ halt
no_halt tr (Restart node) name halt acting = absurd cc
no_halt tr (Halt host call byte) name halt acting = absurd cc
no_halt tr (Tick ticks) name halt acting = refl
no_halt tr (Send host node packet body) name halt acting = refl
no_halt tr (Raw host bytes) name halt acting = refl
no_halt tr (Deliver flight) name halt acting = refl
no_halt tr (Inject target bytes) name halt acting = refl
no_halt tr (Cut link) name halt acting = refl
no_halt tr (Mend link) name halt acting = refl
no_halt tr (Shutoff host flight ttl) name halt acting = refl
no_halt tr (Stop host call byte) name halt acting = refl
no_halt tr (Publish bytes) name halt acting = refl

-- and takes no time
pub no_ticks : (tr : List Entry) (input : Input) (name : List ℕ) → lets_act tr input name ≡ true → ticks_of input + now_of tr ≡ now_of tr
no_ticks tr (Tick ticks) name acting = absurd cc
no_ticks tr (Send host node packet body) name acting = omega arith
no_ticks tr (Raw host bytes) name acting = omega arith
no_ticks tr (Deliver flight) name acting = omega arith
no_ticks tr (Inject target bytes) name acting = omega arith
no_ticks tr (Cut link) name acting = omega arith
no_ticks tr (Mend link) name acting = omega arith
no_ticks tr (Shutoff host flight ttl) name acting = omega arith
no_ticks tr (Restart node) name acting = omega arith
no_ticks tr (Stop host call byte) name acting = omega arith
no_ticks tr (Halt host call byte) name acting = omega arith
no_ticks tr (Publish bytes) name acting = omega arith
