-- What stands for a host after a trace: what it put since its last restart, which of its leaves are gone, what it was told.
use Rattle.std.specs.Prelude.{ℕ, ◌+◌, ◌==◌, ◌&&◌, ◌||◌, max, Bool, false, not, if◌then◌else◌, List, [], ◌∷◌, ◌++◌, take, Option, Some, None}
use Rattle.std.specs.Str.{bytes_eq}
use Rattle.aip_addr.specs.Ids.{key_id_of}
use Rattle.aip_frame.specs.declared.frame.Frame.{Frame}
use Rattle.aip_frame.specs.Frame.{frame_of, packet_hash_of}
use Rattle.aip_event.specs.declared.event.Event.{Event}
use Rattle.aip_event.specs.declared.event.Event.TheVariants.{Put, Signed, Stopped, Obeyed, Halted}
use Rattle.aip_event.specs.declared.input.Input.{Input}
use Rattle.aip_event.specs.declared.input.Input.TheVariants.{Send, Raw, Deliver, Shutoff}
use Rattle.aip_event.specs.declared.input.Target.{Target}
use Rattle.aip_event.specs.declared.input.Target.TheVariants as target
use Rattle.aip_topo.specs.declared.topology.Topology.{Topology}
use Rattle.lms_core.specs.Tree.{Key}
use Rattle.sent_log.specs.declared.log.Noted.{Noted}
use Rattle.shutoff_filter.specs.declared.entries.ShutOffEntry.{ShutOffEntry as ShutOff}
use Rattle.shutoff_filter.specs.Entries.{in_force}
use Rattle.aip_rules.specs.declared.Entry.{Entry}
use Rattle.aip_rules.specs.declared.Entry.TheVariants.{Taken, Happened}
use Rattle.aip_rules.specs.declared.Arming.{Arming}
use Rattle.aip_rules.specs.declared.Flight.{Flight}
use Rattle.aip_rules.specs.declared.Seat.{Seat}
use Rattle.aip_rules.specs.State.{now_of, is_restart_of, is_down, delivered_by, armed_stop, armed_halt}
use Rattle.aip_rules.specs.Nodes.{name_at, key_named, is_guarded}

-- ---- the log

-- the target is the host of this name
abbrev pub is_host_target : Target → List ℕ → Bool
is_host_target (target.Host host) name = bytes_eq host name
is_host_target (target.Port router port) name = false

-- there is a flight, and it goes to the host of this name
abbrev pub reaches_host : Option Flight → List ℕ → Bool
reaches_host None name = false
reaches_host (Some flight) name = is_host_target flight.target name

-- the input lets the host of this name act: what is put under it, the host puts
abbrev pub lets_act : List Entry → Input → List ℕ → Bool
lets_act tr (Send host node packet body) name = bytes_eq host name
lets_act tr (Raw host bytes) name = bytes_eq host name
lets_act tr (Shutoff host flight ttl) name = bytes_eq host name
lets_act tr (Deliver flight) name = reaches_host (delivered_by tr (Deliver flight)) name
lets_act tr _ name = false

-- the newest input lets the host of this name act
abbrev pub acts : List Entry → List ℕ → Bool
acts [] name = false
acts (Taken input ∷ tr) name = lets_act tr input name
acts (Happened event ∷ tr) name = acts tr name

-- what a host notes of bytes that it puts: of a frame its packet hash and the key identifier that it is for, of others nothing
abbrev pub noted_of : Option Frame → List Noted
noted_of None = []
noted_of (Some frame) = record { hash = packet_hash_of frame; to = key_id_of frame.to.eid } ∷ []

-- what a host notes of an event by which it puts
abbrev pub noted_in : Event → List Noted
noted_in (Put number target bytes) = noted_of (frame_of bytes)
noted_in _ = []

-- the frames that the host of this name put since its last restart, the newest first
abbrev pub frames_put : List Entry → List ℕ → List Noted
frames_put [] name = []
frames_put (Taken input ∷ tr) name = if is_restart_of input name then [] else frames_put tr name
frames_put (Happened event ∷ tr) name = if acts tr name then noted_in event ++ frames_put tr name else frames_put tr name

-- ---- the leaves

-- one past the leaf that an event leaves gone at the host of this name: it signed, or its signing was stopped and left a
-- byte other than 0; and 0 for any other event
abbrev pub past_leaf : Event → List ℕ → ℕ
past_leaf (Signed host leaf) name = if bytes_eq host name then leaf + 1 else 0
past_leaf (Stopped host leaf call byte) name = if bytes_eq host name && not (byte == 0) then leaf + 1 else 0
past_leaf _ name = 0

-- the next leaf of the host of this name: one past the largest that is gone, or 0
abbrev pub next_leaf : List Entry → List ℕ → ℕ
next_leaf [] name = 0
next_leaf (Taken input ∷ tr) name = next_leaf tr name
next_leaf (Happened event ∷ tr) name = max (past_leaf event name) (next_leaf tr name)

-- ---- the shut-offs

-- a filter's write that was stopped still left its entry: the gate of its slot was being written or made firm, and the byte
-- that the stop left opens it
abbrev pub left_entry : (call byte : ℕ) → Bool
left_entry call byte = ((call == 3) || (call == 4)) && (byte == 165)

-- the shut-off that an event lays on the host of this name: one that it obeys, or one whose write was stopped and left its
-- entry
abbrev pub told_in : Event → List ℕ → List ShutOff
told_in (Obeyed host sender until) name = if bytes_eq host name then record { to = sender; until = until } ∷ [] else []
told_in (Halted host sender until call byte) name =
    if bytes_eq host name && left_entry call byte then record { to = sender; until = until } ∷ [] else []
told_in _ name = []

-- the shut-offs that were laid on the host of this name, the newest first; no restart forgets them
abbrev pub told_to : List Entry → List ℕ → List ShutOff
told_to [] name = []
told_to (Taken input ∷ tr) name = told_to tr name
told_to (Happened event ∷ tr) name = told_in event name ++ told_to tr name

-- ---- the whole

-- what stands for a host
pub record Standing : Type 0 where
  -- where it stands
  pub seat : Seat
  -- its port of its router
  pub towards : Target
  -- its key, if it has one
  pub key : Option Key
  -- whether a guard stands before its sending, and for how many key identifiers that has room
  pub guarded : Bool
  pub room : ℕ
  -- the time
  pub now : ℕ
  -- whether a stop or a halt brought it down
  pub down : Bool
  -- the last frames that it put
  pub log : List Noted
  -- its next leaf
  pub next : ℕ
  -- the stop and the halt that are armed; a host without a guard has no filter to halt
  pub stop : Option Arming
  pub halt : Option Arming
  -- the key identifiers under a shut-off in force, in ascending order, each with its greatest until
  pub shut : List ShutOff

-- what stands for a host after a trace
abbrev pub standing : Topology → List Entry → Seat → Standing
standing topo tr seat = record {
  seat = seat;
  towards = target.Port (name_at topo.routers seat.router) seat.port;
  key = key_named topo.parts seat.name;
  guarded = is_guarded topo.parts seat.name;
  room = topo.settings.filter;
  now = now_of tr;
  down = is_down tr seat.name;
  log = take topo.settings.log (frames_put tr seat.name);
  next = next_leaf tr seat.name;
  stop = armed_stop tr seat.name;
  halt = if is_guarded topo.parts seat.name then armed_halt tr seat.name else None;
  shut = in_force (now_of tr) (told_to tr seat.name);
}
