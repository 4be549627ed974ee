-- What a guard leaves of a reaction, and what it does with a shut-off.
use Rattle.std.specs.Prelude.{◌≡◌, ℕ, ◌&&◌, Bool, true, false, if◌then◌else◌, List, [], ◌∷◌, ◌++◌, Option, Some, None, is_some}
use Rattle.std.specs.List.{list_any}
use Rattle.aip_addr.specs.Ids.{key_id_of}
use Rattle.aip_addr.specs.declared.ids.KeyId.{KeyId}
use Rattle.aip_frame.specs.declared.frame.Frame.{Frame}
use Rattle.aip_frame.specs.Frame.{frame_of}
use Rattle.aip_event.specs.declared.event.Event.{Event}
use Rattle.aip_event.specs.declared.event.Event.TheVariants as event
use Rattle.sent_log.specs.Log.{Log}
use Rattle.shutoff_filter.specs.Body.{order_in}
use Rattle.shutoff_filter.specs.Entries.{SameInForce, is_withheld}
use Rattle.shutoff_filter.specs.Judged.{is_full, is_in_log, refusal_number, shutoff_verdict}
use Rattle.shutoff_filter.specs.declared.judging.Heard.{Heard}
use Rattle.shutoff_filter.specs.declared.judging.Heard.TheVariants as heard
use Rattle.aip_rules.specs.declared.Flight.{Flight}
use Rattle.aip_rules.specs.declared.Reaction.{Reaction}
use Rattle.aip_host.specs.declared.guard.Obeying.{Obeying}
use Rattle.aip_host.specs.declared.guard.Obeying.TheVariants.{Obeyed, Halted}
use Rattle.aip_host.specs.Guarding.{GuardState, obeying_of}
use Rattle.aip_host.specs.HostState.{shut_in}
use Rattle.aip_host.specs.After.{halt_past, down_past, told_past}

-- the key identifier for which a guard withholds a frame at a time: that of its destination, while it is in force
abbrev pub withheld_by : Option GuardState → ℕ → Option Frame → Option KeyId
withheld_by guard now None = None
withheld_by guard now (Some frame) =
    if is_some guard && is_withheld now (key_id_of frame.to.eid) (shut_in guard) then Some (key_id_of frame.to.eid) else None

-- a reaction whose flight is withheld for a key identifier, or goes
abbrev pub held_for : List ℕ → Reaction → Option KeyId → Reaction
held_for name reaction None = reaction
held_for name reaction (Some to) = record { events = reaction.events ++ event.Withheld name to ∷ []; put = None }

-- what a guard leaves of a reaction that puts this flight, or none
abbrev pub held_flight : List ℕ → Option GuardState → ℕ → Reaction → Option Flight → Reaction
held_flight name guard now reaction None = reaction
held_flight name guard now reaction (Some flight) = held_for name reaction (withheld_by guard now (frame_of flight.bytes))

-- what a guard leaves of a reaction: it withholds the flight, or lets it go
abbrev pub held_back : List ℕ → Option GuardState → ℕ → Reaction → Reaction
held_back name guard now reaction = held_flight name guard now reaction reaction.put

-- what an order comes to that ends so
abbrev pub order_event : List ℕ → KeyId → ℕ → Obeying → Event
order_event name to until Obeyed = event.Obeyed name to until
order_event name to until (Halted call byte) = event.Halted name to until call byte

-- what a shut-off comes to that is judged so
abbrev pub verdict_event : List ℕ → GuardState → KeyId → Heard → Event
verdict_event name kept to (heard.Obeyed until) = order_event name to until (obeying_of kept to until)
verdict_event name kept to verdict = event.Heard name (refusal_number verdict)

-- how a guard judges a shut-off at a time, by the log of its host
abbrev pub verdict_of : GuardState → Log → ℕ → Frame → Heard
verdict_of kept log now frame =
    shutoff_verdict now frame (is_in_log log.frames frame.from (order_in frame.body)) (is_full kept.room now frame.from kept.entries)

-- How a guard stands after a reaction of its host at a time: its halt and whether it is down are as the events leave them, and
-- from now on it withholds by what they tell.
pub record GuardFollows (now : ℕ) (name : List ℕ) (old : GuardState) (reaction : Reaction) (new : GuardState) : Type 0 where
  pub halt : new.halt ≡ halt_past reaction.events name old.halt
  pub down : new.is_down ≡ down_past reaction.events name old.is_down
  pub told : SameInForce now (told_past reaction.events name old.entries) new.entries

-- the event tells of an order to be silent that was obeyed, or in the midst of whose writing the guard fell
abbrev pub is_order : Event → Bool
is_order (event.Obeyed host sender until) = true
is_order (event.Halted host sender until call byte) = true
is_order (event.Put flight target bytes) = false
is_order (event.Forward router in_port out_port cause) = false
is_order (event.Ask router in_port out_port) = false
is_order (event.Proved router source port) = false
is_order (event.Wild router ad port) = false
is_order (event.Refuse router number) = false
is_order (event.Drop node reason) = false
is_order (event.Got host packet) = false
is_order (event.Signed host leaf) = false
is_order (event.Stopped host leaf call byte) = false
is_order (event.Withheld host to) = false
is_order (event.Heard host number) = false
is_order (event.Kept host sender until) = false
is_order (event.PublishedPeer ad other number until) = false
is_order (event.PublishedBind ad other number until) = false
is_order (event.Unpublished number) = false

-- without an order the guard is as it was, its file included: where a shut-off is refused, and at anything else that arrives
abbrev pub LeavesUnordered : {A : Type 0} → Reaction → A → A → Type 0
LeavesUnordered reaction old new = list_any is_order reaction.events ≡ false → new ≡ old
