-- How a host stands after a reaction of its own.
use Rattle.std.specs.Prelude.{◌≡◌, ℕ, max, Bool, true, false, if◌then◌else◌, List, [], ◌∷◌, ◌++◌, Option, Some, None, is_some}
use Rattle.std.specs.List.{AllByRecursion}
use Rattle.aip_frame.specs.Frame.{frame_of}
use Rattle.aip_event.specs.declared.event.Event.{Event}
use Rattle.aip_event.specs.declared.input.Target.{Target}
use Rattle.aip_topo.specs.declared.topology.Settings.{Settings}
use Rattle.lms_core.specs.Tree.{Key}
use Rattle.sent_log.specs.Log.{Log, empty_log, with_frame}
use Rattle.sent_log.specs.declared.log.Noted.{Noted}
use Rattle.shutoff_filter.specs.declared.entries.ShutOffEntry.{ShutOffEntry as ShutOff}
use Rattle.shutoff_filter.specs.Entries.{SameInForce}
use Rattle.aip_rules.specs.declared.Arming.{Arming}
use Rattle.aip_rules.specs.declared.Flight.{Flight}
use Rattle.aip_rules.specs.declared.Reaction.{Reaction}
use Rattle.aip_rules.specs.declared.Seat.{Seat}
use Rattle.aip_rules.specs.State.{is_fall_of, is_stop_of, is_halt_of}
use Rattle.aip_rules.specs.Standing.{noted_of, noted_in, past_leaf, told_in}
use Rattle.aip_host.specs.Signing.{KeyState, with_stop}
use Rattle.aip_host.specs.Guarding.{GuardState, with_halt}
use Rattle.aip_host.specs.HostState.{HostState, key_in, next_in, stop_in, halt_in, shut_in, down_of}

-- the log with these frames noted, of which there is at most one
abbrev pub with_noted : Log → List Noted → Log
with_noted log [] = log
with_noted log (frame ∷ frames) = with_frame log frame

-- the log after a reaction: what was put is noted, if it is a frame
abbrev pub logged : Log → Option Flight → Log
logged log None = log
logged log (Some flight) = with_noted log (noted_of (frame_of flight.bytes))

-- one past the largest leaf of the host of this name that these events leave gone, or this leaf
abbrev pub next_past : List Event → List ℕ → ℕ → ℕ
next_past [] name next = next
next_past (event ∷ events) name next = next_past events name (max (past_leaf event name) next)

-- the stop that is armed at the host of this name after these events
abbrev pub stop_past : List Event → List ℕ → Option Arming → Option Arming
stop_past [] name stop = stop
stop_past (event ∷ events) name stop = stop_past events name (if is_stop_of event name then None else stop)

-- the halt that is armed at the host of this name after these events
abbrev pub halt_past : List Event → List ℕ → Option Arming → Option Arming
halt_past [] name halt = halt
halt_past (event ∷ events) name halt = halt_past events name (if is_halt_of event name then None else halt)

-- whether the host of this name is down after these events
abbrev pub down_past : List Event → List ℕ → Bool → Bool
down_past [] name down = down
down_past (event ∷ events) name down = down_past events name (if is_fall_of event name then true else down)

-- the shut-offs that the host of this name was told after these events
abbrev pub told_past : List Event → List ℕ → List ShutOff → List ShutOff
told_past [] name told = told
told_past (event ∷ events) name told = told_past events name (told_in event name ++ told)

-- One state of a host follows another by a reaction at a time: its log has what it put, and by the events nothing else is put.
-- Its leaves, its stop, its halt and whether it is down are as the events leave them, and from now on its guard withholds by
-- what they tell. Without a guard they tell nothing.
pub record Follows (now : ℕ) (old : HostState) (reaction : Reaction) (new : HostState) : Type 0 where
  pub seat : new.seat ≡ old.seat
  pub towards : new.towards ≡ old.towards
  pub room : new.room ≡ old.room
  pub key : key_in new.key ≡ key_in old.key
  pub guarded : is_some new.guard ≡ is_some old.guard
  pub quiet : AllByRecursion (λ event. noted_in event ≡ []) reaction.events
  pub log : new.log ≡ logged old.log reaction.put
  pub next : next_in new.key ≡ next_past reaction.events old.seat.name (next_in old.key)
  pub stop : stop_in new.key ≡ stop_past reaction.events old.seat.name (stop_in old.key)
  pub halt : halt_in new.guard ≡ halt_past reaction.events old.seat.name (halt_in old.guard)
  pub down : down_of new ≡ down_past reaction.events old.seat.name (down_of old)
  pub told : SameInForce now (told_past reaction.events old.seat.name (shut_in old.guard)) (shut_in new.guard)
  pub untold : is_some old.guard ≡ false → told_past reaction.events old.seat.name [] ≡ []

-- the key of a host with a stop armed
abbrev pub stopped_in : Option KeyState → Arming → Option KeyState
stopped_in None arming = None
stopped_in (Some kept) arming = Some (with_stop kept arming)

-- the guard of a host with a halt armed
abbrev pub halted_in : Option GuardState → Arming → Option GuardState
halted_in None arming = None
halted_in (Some kept) arming = Some (with_halt kept arming)

-- a host starts anew: its log is empty, no stop and no halt is armed and it is up, and its leaves and what it was told stay
pub record IsRestarted (old new : HostState) : Type 0 where
  pub seat : new.seat ≡ old.seat
  pub towards : new.towards ≡ old.towards
  pub room : new.room ≡ old.room
  pub key : key_in new.key ≡ key_in old.key
  pub guarded : is_some new.guard ≡ is_some old.guard
  pub log : new.log ≡ empty_log old.log.room
  pub next : next_in new.key ≡ next_in old.key
  pub stop : stop_in new.key ≡ None
  pub halt : halt_in new.guard ≡ None
  pub told : shut_in new.guard ≡ shut_in old.guard
  pub up : down_of new ≡ false

-- a host that has put nothing, spent no leaf and was told nothing
pub record IsNew (seat : Seat) (towards : Target) (settings : Settings) (key : Option Key) (guard : Bool) (host : HostState) : Type 0 where
  pub place : host.seat ≡ seat
  pub port : host.towards ≡ towards
  pub room : host.room ≡ settings.filter
  pub log : host.log ≡ empty_log settings.log
  pub private : key_in host.key ≡ key
  pub guarded : is_some host.guard ≡ guard
  pub next : next_in host.key ≡ 0
  pub stop : stop_in host.key ≡ None
  pub halt : halt_in host.guard ≡ None
  pub told : shut_in host.guard ≡ []
  pub up : down_of host ≡ false
