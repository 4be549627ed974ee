-- What a host keeps stands for the trace after inputs that stop it, halt it, start it anew, or go elsewhere.
use Rattle.std.proofs.Common.{◌≡◌, ℕ, ◌+◌, ◌||◌, max, Bool, true, false, if◌then◌else◌, List, [], ◌∷◌, ◌++◌, take, refl, sym, ◌∙◌, ap, subst, inl, inr, Option, Some, None, arith}
use Rattle.std.specs.Prelude.{◌⊎◌}
use Rattle.std.specs.Str.{bytes_eq}
use Rattle.std.proofs.Math.Nat.{zero-max}
use Rattle.std.proofs.Math.Seq.{take-nil}
use Rattle.std.proofs.lemmas.List.{append-nil}
use Rattle.std.proofs.lemmas.Slice.Eq.{bytes_eq-Decides}
use Rattle.aip_event.specs.declared.event.Event.{Event}
use Rattle.aip_event.specs.declared.event.Event.TheVariants.{Put, Signed, Stopped, Obeyed, Halted}
use Rattle.aip_event.specs.declared.input.Input.{Input}
use Rattle.aip_event.specs.declared.input.Input.TheVariants.{Send, Raw, Deliver, Shutoff, Restart, Stop, Halt}
use Rattle.aip_event.specs.declared.input.Target.{Target}
use Rattle.aip_event.specs.declared.input.Target.TheVariants as target
use Rattle.aip_topo.specs.declared.topology.Topology.{Topology}
use Rattle.sent_log.specs.Log as log
use Rattle.shutoff_filter.specs.declared.entries.ShutOffEntry.{ShutOffEntry as ShutOff}
use Rattle.shutoff_filter.specs.Entries.{SameInForce}
use Rattle.shutoff_filter.specs.InForce.{same_later}
use Rattle.aip_rules.specs.declared.Arming.{Arming}
use Rattle.aip_rules.specs.declared.Entry.{Entry}
use Rattle.aip_rules.specs.declared.Entry.TheVariants.{Taken, Happened}
use Rattle.aip_rules.specs.declared.Flight.{Flight}
use Rattle.aip_rules.specs.declared.Seat.{Seat}
use Rattle.aip_rules.specs.State.{now_of, ticks_of, is_down, is_fall_of, is_restart_of, is_stop_of, armed_stop, stop_after_input, is_halt_of, armed_halt, halt_after_input, delivered_by}
use Rattle.aip_rules.specs.Nodes.{is_guarded}
use Rattle.aip_rules.specs.Reaction.{numbered}
use Rattle.aip_rules.specs.Host.{back_up, kept_events}
use Rattle.aip_rules.specs.Standing.{standing, acts, lets_act, reaches_host, frames_put, noted_in, past_leaf, told_to, told_in}
use Rattle.aip_rules.specs.Step.{has_key, with_events, after_step}
use Rattle.aip_host.specs.Signing.{KeyState}
use Rattle.aip_host.specs.Guarding.{GuardState, with_halt}
use Rattle.aip_host.specs.HostState.{HostState, key_in, down_in, fell_in, shut_in, down_of}
use Rattle.aip_host.specs.After.{IsRestarted, stopped_in, halted_in, next_past, stop_past, halt_past, down_past}
use Rattle.aip_host.specs.StandsFor.{HostStandsFor, DisksServe}
use Rattle.aip_host.specs.Elsewhere.{resets, concerns, is_put, AreElsewhere, PutNone}
use Rattle.aip_host.proofs.Grown.{next_with, stop_with, halt_with, down_with, now_with}

-- ---- stops and halts

-- an input that takes no time
on_time : (tr : List Entry) (old new : List ShutOff) → SameInForce (now_of tr) old new → SameInForce (0 + now_of tr) old new
on_time tr old new alike = same_later (now_of tr) (0 + now_of tr) old new (omega arith) alike

own_up : (a b : Bool) → (a || b) ≡ false → (a ≡ false) × (b ≡ false)
own_up true b up = absurd cc
own_up false b up = (refl, up)

stops_case : (topo : Topology) (tr : List Entry) (at : Seat) (kept : HostState) (key : Option KeyState) (host : List ℕ) (call byte : ℕ)
    → HostStandsFor topo tr at (record kept { key = key }) → bytes_eq host at.name ≡ true → has_key (key_in key) ≡ true
    → DisksServe (record kept { key = stopped_in key (record { call = call; byte = byte }) })
    → HostStandsFor topo (after_step tr (Stop host call byte) []) at (record kept { key = stopped_in key (record { call = call; byte = byte }) })
stops_case topo tr at kept None host call byte stands named some disks = absurd cc
stops_case topo tr at kept (Some key) host call byte stands named some disks = record {
  seat = stands.seat;
  towards = stands.towards;
  room = stands.room;
  key = stands.key;
  guarded = stands.guarded;
  down = stands.down;
  log_room = stands.log_room;
  log = stands.log;
  next = stands.next;
  stop = λ up. armed (own_up key.is_down (fell_in kept.guard) up).0;
  halt = stands.halt;
  told = on_time tr (told_to tr at.name) _ stands.told;
  untold = stands.untold;
  disks = disks;
}
  where
    armed : key.is_down ≡ false → (if key.is_down then key.stop else Some (record { call = call; byte = byte })) ≡ stop_after_input (Stop host call byte) at.name (armed_stop tr at.name)
    armed up = rw (up, named) refl

-- a host with a key stands for the trace once a stop of its signings is armed
pub stops : (topo : Topology) (tr : List Entry) (at : Seat) (kept : HostState) (host : List ℕ) (call byte : ℕ)
    → HostStandsFor topo tr at kept → bytes_eq host at.name ≡ true → has_key (key_in kept.key) ≡ true → DisksServe (record kept { key = stopped_in kept.key (record { call = call; byte = byte }) })
    → HostStandsFor topo (after_step tr (Stop host call byte) []) at (record kept { key = stopped_in kept.key (record { call = call; byte = byte }) })
stops topo tr at kept host call byte stands named some disks = stops_case topo tr at kept kept.key host call byte stands named some disks

-- a guard of which only the halt changed, which is armed where it is up
halt_taken : (topo : Topology) (tr : List Entry) (at : Seat) (kept : HostState) (guard after : GuardState) (host : List ℕ) (call byte : ℕ)
    → HostStandsFor topo tr at (record kept { guard = Some guard }) → bytes_eq host at.name ≡ true → DisksServe (record kept { guard = Some after })
    → after.is_down ≡ guard.is_down → after.entries ≡ guard.entries → (guard.is_down ≡ false → after.halt ≡ Some (record { call = call; byte = byte }))
    → HostStandsFor topo (after_step tr (Halt host call byte) []) at (record kept { guard = Some after })
halt_taken topo tr at kept guard after host call byte stands named disks same_down same_entries armed =
    let same : down_of (record kept { guard = Some after }) ≡ down_of (record kept { guard = Some guard }) = ap (λ b. down_in kept.key || b) same_down in
    let guarded : true ≡ is_guarded topo.parts at.name = stands.guarded in
    record {
      seat = stands.seat;
      towards = stands.towards;
      room = stands.room;
      key = stands.key;
      guarded = stands.guarded;
      down = same ∙ stands.down;
      log_room = stands.log_room;
      log = stands.log;
      next = stands.next;
      stop = λ up. stands.stop (sym same ∙ up);
      halt = λ up.
          armed (own_up (down_in kept.key) guard.is_down (sym same ∙ up)).1
          ∙ sym (ap (λ b. if b then Some (record { call = call; byte = byte }) else armed_halt tr at.name) named)
          ∙ ap (λ b. if b then halt_after_input (Halt host call byte) at.name (armed_halt tr at.name) else None) guarded;
      told = on_time tr (told_to tr at.name) after.entries (subst (λ (es : List ShutOff). SameInForce (now_of tr) (told_to tr at.name) es) (sym same_entries) stands.told);
      untold = stands.untold;
      disks = disks;
    }

halts_case : (topo : Topology) (tr : List Entry) (at : Seat) (kept : HostState) (guard : Option GuardState) (host : List ℕ) (call byte : ℕ)
    → HostStandsFor topo tr at (record kept { guard = guard }) → bytes_eq host at.name ≡ true
    → DisksServe (record kept { guard = halted_in guard (record { call = call; byte = byte }) })
    → HostStandsFor topo (after_step tr (Halt host call byte) []) at (record kept { guard = halted_in guard (record { call = call; byte = byte }) })
halts_case topo tr at kept None host call byte stands named disks = record {
  seat = stands.seat;
  towards = stands.towards;
  room = stands.room;
  key = stands.key;
  guarded = stands.guarded;
  down = stands.down;
  log_room = stands.log_room;
  log = stands.log;
  next = stands.next;
  stop = stands.stop;
  halt = λ up. ap (λ b. if b then armed_halt (Taken (Halt host call byte) ∷ tr) at.name else None) stands.guarded;
  told = on_time tr (told_to tr at.name) [] stands.told;
  untold = stands.untold;
  disks = disks;
}
halts_case topo tr at kept (Some guard) host call byte stands named disks =
    halt_taken topo tr at kept guard (with_halt guard (record { call = call; byte = byte })) host call byte stands named disks (same_down guard.is_down) (same_entries guard.is_down)
    (λ up. ap (λ b. (if b then guard else record guard { halt = Some (record { call = call; byte = byte }) }).halt) up)
  where
    same_down : (b : Bool) → (if b then guard else record guard { halt = Some (record { call = call; byte = byte }) }).is_down ≡ guard.is_down
    same_down true = refl
    same_down false = refl

    same_entries : (b : Bool) → (if b then guard else record guard { halt = Some (record { call = call; byte = byte }) }).entries ≡ guard.entries
    same_entries true = refl
    same_entries false = refl

-- a host stands for the trace once a halt is armed at it, which changes nothing without a guard
pub halts : (topo : Topology) (tr : List Entry) (at : Seat) (kept : HostState) (host : List ℕ) (call byte : ℕ)
    → HostStandsFor topo tr at kept → bytes_eq host at.name ≡ true → DisksServe (record kept { guard = halted_in kept.guard (record { call = call; byte = byte }) })
    → HostStandsFor topo (after_step tr (Halt host call byte) []) at (record kept { guard = halted_in kept.guard (record { call = call; byte = byte }) })
halts topo tr at kept host call byte stands named disks = halts_case topo tr at kept kept.guard host call byte stands named disks

-- ---- what happens elsewhere

fall_elsewhere : (event : Event) (name : List ℕ) → concerns event name ≡ false → is_fall_of event name ≡ false
fall_elsewhere (Stopped host leaf call byte) name is = is
fall_elsewhere (Halted host sender until call byte) name is = is
fall_elsewhere _ name is = refl

stop_elsewhere : (event : Event) (name : List ℕ) → concerns event name ≡ false → is_stop_of event name ≡ false
stop_elsewhere (Stopped host leaf call byte) name is = is
stop_elsewhere _ name is = refl

halt_elsewhere : (event : Event) (name : List ℕ) → concerns event name ≡ false → is_halt_of event name ≡ false
halt_elsewhere (Halted host sender until call byte) name is = is
halt_elsewhere _ name is = refl

leaf_elsewhere : (event : Event) (name : List ℕ) → concerns event name ≡ false → past_leaf event name ≡ 0
leaf_elsewhere (Signed host leaf) name is = rw is refl
leaf_elsewhere (Stopped host leaf call byte) name is = rw is refl
leaf_elsewhere _ name is = refl

told_elsewhere : (event : Event) (name : List ℕ) → concerns event name ≡ false → told_in event name ≡ []
told_elsewhere (Obeyed host sender until) name is = rw is refl
told_elsewhere (Halted host sender until call byte) name is = rw is refl
told_elsewhere _ name is = refl

noted_none : (event : Event) → is_put event ≡ false → noted_in event ≡ []
noted_none (Put number to bytes) is = absurd cc
noted_none _ is = refl

next_stays : (events : List Event) (name : List ℕ) (next : ℕ) → AreElsewhere name events → next_past events name next ≡ next
next_stays [] name next are = refl
next_stays (event ∷ events) name next are =
    ap (λ n. next_past events name (max n next)) (leaf_elsewhere event name are.0) ∙ ap (next_past events name) (zero-max next) ∙ next_stays events name next are.1

stop_stays : (events : List Event) (name : List ℕ) (stop : Option Arming) → AreElsewhere name events → stop_past events name stop ≡ stop
stop_stays [] name stop are = refl
stop_stays (event ∷ events) name stop are =
    ap (λ s. stop_past events name (if s then None else stop)) (stop_elsewhere event name are.0) ∙ stop_stays events name stop are.1

halt_stays : (events : List Event) (name : List ℕ) (halt : Option Arming) → AreElsewhere name events → halt_past events name halt ≡ halt
halt_stays [] name halt are = refl
halt_stays (event ∷ events) name halt are =
    ap (λ h. halt_past events name (if h then None else halt)) (halt_elsewhere event name are.0) ∙ halt_stays events name halt are.1

down_stays : (events : List Event) (name : List ℕ) (down : Bool) → AreElsewhere name events → down_past events name down ≡ down
down_stays [] name down are = refl
down_stays (event ∷ events) name down are =
    ap (λ f. down_past events name (if f then true else down)) (fall_elsewhere event name are.0) ∙ down_stays events name down are.1

told_stays : (events : List Event) (tr : List Entry) (name : List ℕ) → AreElsewhere name events → told_to (with_events events tr) name ≡ told_to tr name
told_stays [] tr name are = refl
told_stays (event ∷ events) tr name are = told_stays events (Happened event ∷ tr) name are.1 ∙ ap (λ told. told ++ told_to tr name) (told_elsewhere event name are.0)

frames_idle : (events : List Event) (tr : List Entry) (name : List ℕ) → acts tr name ≡ false → frames_put (with_events events tr) name ≡ frames_put tr name
frames_idle [] tr name idle = refl
frames_idle (event ∷ events) tr name idle =
    frames_idle events (Happened event ∷ tr) name idle ∙ ap (λ a. if a then noted_in event ++ frames_put tr name else frames_put tr name) idle

frames_none : (events : List Event) (tr : List Entry) (name : List ℕ) → PutNone events → frames_put (with_events events tr) name ≡ frames_put tr name
frames_none [] tr name none = refl
frames_none (event ∷ events) tr name none =
    frames_none events (Happened event ∷ tr) name none.1 ∙ ap (λ ns. if acts tr name then ns ++ frames_put tr name else frames_put tr name) (noted_none event none.0)
    ∙ either (acts tr name)
  where
    either : (test : Bool) → (if test then [] ++ frames_put tr name else frames_put tr name) ≡ frames_put tr name
    either true = refl
    either false = refl

frames_stay : (events : List Event) (tr : List Entry) (name : List ℕ) → (acts tr name ≡ false) ⊎ PutNone events → frames_put (with_events events tr) name ≡ frames_put tr name
frames_stay events tr name (inl idle) = frames_idle events tr name idle
frames_stay events tr name (inr none) = frames_none events tr name none

no_restart : (input : Input) (name : List ℕ) → resets input name ≡ false → is_restart_of input name ≡ false
no_restart (Restart node) name is = is
no_restart _ name is = refl

no_stop : (input : Input) (name : List ℕ) (stop : Option Arming) → resets input name ≡ false → stop_after_input input name stop ≡ stop
no_stop (Restart node) name stop is = rw is refl
no_stop (Stop host call byte) name stop is = rw is refl
no_stop _ name stop is = refl

no_halt : (input : Input) (name : List ℕ) (halt : Option Arming) → resets input name ≡ false → halt_after_input input name halt ≡ halt
no_halt (Restart node) name halt is = rw is refl
no_halt (Halt host call byte) name halt is = rw is refl
no_halt _ name halt is = refl

-- a host stands for the trace after events none of which concerns it, where it doesn't act or none of them puts a flight
events_stay : (topo : Topology) (tr : List Entry) (at : Seat) (kept : HostState) (events : List Event)
    → HostStandsFor topo tr at kept → AreElsewhere at.name events → (acts tr at.name ≡ false) ⊎ PutNone events → HostStandsFor topo (with_events events tr) at kept
events_stay topo tr at kept events stands are idle = record {
  seat = stands.seat;
  towards = stands.towards;
  room = stands.room;
  key = stands.key;
  guarded = stands.guarded;
  down = stands.down ∙ sym (down_with events tr at.name ∙ down_stays events at.name _ are);
  log_room = stands.log_room;
  log = stands.log ∙ ap (take topo.settings.log) (sym (frames_stay events tr at.name idle));
  next = stands.next ∙ sym (next_with events tr at.name ∙ next_stays events at.name _ are);
  stop = λ up. stands.stop up ∙ sym (stop_with events tr at.name ∙ stop_stays events at.name _ are);
  halt = λ up. stands.halt up ∙ ap (λ halt. if is_guarded topo.parts at.name then halt else None) (sym (halt_with events tr at.name ∙ halt_stays events at.name _ are));
  told = subst (λ now. SameInForce now (told_to (with_events events tr) at.name) (shut_in kept.guard)) (sym (now_with events tr))
      (subst (λ (told : List ShutOff). SameInForce (now_of tr) told (shut_in kept.guard)) (sym (told_stays events tr at.name are)) stands.told);
  untold = λ plain. told_stays events tr at.name are ∙ stands.untold plain;
  disks = stands.disks;
}

-- and after an input that neither starts it anew nor arms a stop or a halt of its
input_stays : (topo : Topology) (tr : List Entry) (at : Seat) (kept : HostState) (input : Input) → HostStandsFor topo tr at kept → resets input at.name ≡ false → HostStandsFor topo (Taken input ∷ tr) at kept
input_stays topo tr at kept input stands same = record {
  seat = stands.seat;
  towards = stands.towards;
  room = stands.room;
  key = stands.key;
  guarded = stands.guarded;
  down = stands.down ∙ sym (ap (λ r. if r then false else is_down tr at.name) (no_restart input at.name same));
  log_room = stands.log_room;
  log = stands.log ∙ ap (take topo.settings.log) (sym (ap (λ r. if r then [] else frames_put tr at.name) (no_restart input at.name same)));
  next = stands.next;
  stop = λ up. stands.stop up ∙ sym (no_stop input at.name (armed_stop tr at.name) same);
  halt = λ up. stands.halt up ∙ ap (λ halt. if is_guarded topo.parts at.name then halt else None) (sym (no_halt input at.name (armed_halt tr at.name) same));
  told = same_later (now_of tr) (ticks_of input + now_of tr) (told_to tr at.name) (shut_in kept.guard) (omega arith) stands.told;
  untold = stands.untold;
  disks = stands.disks;
}

-- A host stands for the trace after an input that neither starts it anew nor arms a stop or a halt of its, and events none of
-- which concerns it, where it doesn't act by the input or none of the events puts a flight.
pub others_stay : (topo : Topology) (tr : List Entry) (at : Seat) (kept : HostState) (input : Input) (events : List Event)
    → HostStandsFor topo tr at kept → resets input at.name ≡ false → AreElsewhere at.name events → (lets_act tr input at.name ≡ false) ⊎ PutNone events
    → HostStandsFor topo (after_step tr input events) at kept
others_stay topo tr at kept input events stands same are idle =
    events_stay topo (Taken input ∷ tr) at kept events (input_stays topo tr at kept input stands same) are idle

-- ---- restarts

restart_taken : (topo : Topology) (tr : List Entry) (at : Seat) (kept after : HostState) (node : List ℕ)
    → HostStandsFor topo tr at kept → bytes_eq node at.name ≡ true → IsRestarted kept after → DisksServe after → HostStandsFor topo (Taken (Restart node) ∷ tr) at after
restart_taken topo tr at kept after node stands named anew disks = record {
  seat = anew.seat ∙ stands.seat;
  towards = anew.towards ∙ stands.towards;
  room = anew.room ∙ stands.room;
  key = anew.key ∙ stands.key;
  guarded = anew.guarded ∙ stands.guarded;
  down = anew.up ∙ sym (ap (λ r. if r then false else is_down tr at.name) named);
  log_room = ap (λ (l : log.Log). l.room) anew.log ∙ stands.log_room;
  log =
      ap (λ (l : log.Log). l.frames) anew.log ∙ sym (take-nil topo.settings.log)
      ∙ ap (take topo.settings.log) (sym (ap (λ r. if r then [] else frames_put tr at.name) named));
  next = anew.next ∙ stands.next;
  stop = λ _. anew.stop ∙ sym (ap (λ r. if r then None else armed_stop tr at.name) named);
  halt = λ _. anew.halt ∙ sym (ap (λ r. if is_guarded topo.parts at.name then (if r then None else armed_halt tr at.name) else None) named ∙ no_choice (is_guarded topo.parts at.name));
  told = on_time tr (told_to tr at.name) _ (subst (λ (told : List ShutOff). SameInForce (now_of tr) (told_to tr at.name) told) (sym anew.told) stands.told);
  untold = stands.untold;
  disks = disks;
}
  where
    no_choice : (b : Bool) → ◌≡◌ {A = Option Arming} (if b then None else None) None
    no_choice true = refl
    no_choice false = refl

kept_elsewhere : (host name : List ℕ) (entries : List ShutOff) → AreElsewhere name (kept_events host entries)
kept_elsewhere host name [] = tt
kept_elsewhere host name (entry ∷ entries) = (refl, kept_elsewhere host name entries)

kept_none : (host : List ℕ) (entries : List ShutOff) → PutNone (kept_events host entries)
kept_none host [] = tt
kept_none host (entry ∷ entries) = (refl, kept_none host entries)

-- a host that was started anew stands for the trace, with what it says then
pub restarts : (topo : Topology) (tr : List Entry) (at : Seat) (kept after : HostState) (node : List ℕ) (number : ℕ)
    → HostStandsFor topo tr at kept → bytes_eq node at.name ≡ true → IsRestarted kept after → DisksServe after
    → HostStandsFor topo (after_step tr (Restart node) (numbered number (back_up (standing topo tr at)))) at after
restarts topo tr at kept after node number stands named anew disks =
    events_stay topo (Taken (Restart node) ∷ tr) at after (numbered number (back_up (standing topo tr at)))
    (restart_taken topo tr at kept after node stands named anew disks)
    (subst (AreElsewhere at.name) (sym says) (elsewhere (is_guarded topo.parts at.name)))
    (inr (subst PutNone (sym says) (none (is_guarded topo.parts at.name))))
  where
    shut : List ShutOff
    shut = (standing topo tr at).shut

    says : numbered number (back_up (standing topo tr at)) ≡ (if is_guarded topo.parts at.name then kept_events at.name shut else [])
    says = append-nil (if is_guarded topo.parts at.name then kept_events at.name shut else [])

    elsewhere : (b : Bool) → AreElsewhere at.name (if b then kept_events at.name shut else [])
    elsewhere true = kept_elsewhere at.name at.name shut
    elsewhere false = tt

    none : (b : Bool) → PutNone (if b then kept_events at.name shut else [])
    none true = kept_none at.name shut
    none false = tt

-- ---- one host acts at most
