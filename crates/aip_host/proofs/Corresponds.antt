-- What a host keeps stands for the trace: it reacts as the rules do on the trace, and stands for the longer trace then.
use Rattle.std.proofs.Common.{◌≡◌, ℕ, Bool, true, false, if◌then◌else◌, List, [], ◌∷◌, ◌++◌, take, refl, sym, ◌∙◌, ap, subst, Option, None}
use Rattle.std.proofs.Math.Seq.{take-nil}
use Rattle.aip_event.specs.declared.event.Event.{Event}
use Rattle.aip_event.specs.declared.event.Reason.TheVariants as reason
use Rattle.aip_event.specs.declared.input.Input.{Input}
use Rattle.aip_event.specs.declared.input.Target.TheVariants as target
use Rattle.aip_frame.specs.declared.frame.Frame.{Frame}
use Rattle.aip_frame.specs.Frame.{frame_of}
use Rattle.aip_topo.specs.declared.topology.Topology.{Topology}
use Rattle.lms_core.specs.Tree.{Key}
use Rattle.sent_log.specs.Log as log
use Rattle.sent_log.specs.declared.log.Noted.{Noted}
use Rattle.shutoff_filter.specs.declared.entries.ShutOffEntry.{ShutOffEntry as ShutOff}
use Rattle.shutoff_filter.specs.Entries.{SameInForce, in_force, is_withheld}
use Rattle.shutoff_filter.specs.InForce.{same_in_force}
use Rattle.aip_rules.specs.declared.Arming.{Arming}
use Rattle.aip_rules.specs.declared.Entry.{Entry}
use Rattle.aip_rules.specs.declared.Entry.TheVariants.{Taken}
use Rattle.aip_rules.specs.declared.Reaction.{Reaction}
use Rattle.aip_rules.specs.declared.Seat.{Seat}
use Rattle.aip_rules.specs.State.{now_of, is_down, is_halt_of, armed_stop, armed_halt}
use Rattle.aip_rules.specs.Nodes.{name_at, key_named, is_guarded}
use Rattle.aip_rules.specs.Reaction.{nothing, dropped, numbered, put_event}
use Rattle.aip_rules.specs.Standing.{Standing, standing, lets_act, frames_put, next_leaf, told_to}
use Rattle.aip_rules.specs.Host.{handed_down, put_by, shut_by, taken_at_host, at_host, back_up}
use Rattle.aip_rules.specs.Step.{with_events, after_step}
use Rattle.aip_host.specs.HostState.{HostState, halt_in, shut_in, down_of, standing_of}
use Rattle.aip_host.specs.After.{Follows, IsNew, next_past, stop_past, halt_past, down_past, told_past, logged}
use Rattle.aip_host.specs.StandsFor.{HostStandsFor, DisksServe}
use Rattle.aip_host.proofs.Grown.{next_with, stop_with, halt_with, down_with, told_with, now_with, told_alike, up_before, next_put, stop_put, halt_put, down_put, told_put, noted_put, frames_with_put, logged_stands, logged_room, no_restart, no_stop, no_halt, no_ticks}

-- ---- a host reacts as the rules do on the trace

-- the shut-offs in force are those that the trace told
same_shut : (topo : Topology) (tr : List Entry) (at : Seat) (kept : HostState) → HostStandsFor topo tr at kept → in_force (now_of tr) (shut_in kept.guard) ≡ in_force (now_of tr) (told_to tr at.name)
same_shut topo tr at kept stands = sym (same_in_force (now_of tr) (told_to tr at.name) (shut_in kept.guard) stands.told)

-- what stands for a host that is up, by what it keeps, is what stands for it after the trace
pub same_standing : (topo : Topology) (tr : List Entry) (at : Seat) (kept : HostState) → HostStandsFor topo tr at kept → down_of kept ≡ false
    → standing_of kept (now_of tr) ≡ standing topo tr at
same_standing topo tr at kept stands up =
    let stop = stands.stop up in
    let halt = stands.halt up in
    let shut = same_shut topo tr at kept stands in
    rw (stands.seat, stands.towards, stands.key, halt, stands.guarded, stands.room, stands.down, stands.log, stands.next, stop, shut) refl

-- a reaction of a host that is up; one that is down drops what is asked of it
abbrev unless_down : (Standing → Reaction) → Standing → Reaction
unless_down react s = if s.down then dropped s.seat.name reason.Down else react s

module _ (topo : Topology) (tr : List Entry) (at : Seat) (kept : HostState) (stands : HostStandsFor topo tr at kept) where
  same_down : (react : Standing → Reaction) → down_of kept ≡ true → unless_down react (standing_of kept (now_of tr)) ≡ unless_down react (standing topo tr at)
  same_down react down =
      let fallen : is_down tr at.name ≡ true = sym stands.down ∙ down in
      ap (λ d. if d then dropped kept.seat.name reason.Down else react (standing_of kept (now_of tr))) down
      ∙ ap (λ (seat : Seat). dropped seat.name reason.Down) stands.seat
      ∙ sym (ap (λ d. if d then dropped at.name reason.Down else react (standing topo tr at)) fallen)

  -- whether the host is down or up, its reaction is that of the rules
  same_reaction : (react : Standing → Reaction) → unless_down react (standing_of kept (now_of tr)) ≡ unless_down react (standing topo tr at)
  same_reaction react = by_case (down_of kept) refl
    where
      by_case : (down : Bool) → down_of kept ≡ down → unless_down react (standing_of kept (now_of tr)) ≡ unless_down react (standing topo tr at)
      by_case true is = same_down react is
      by_case false is = ap (unless_down react) (same_standing topo tr at kept stands is)

  -- where bytes arrive
  pub arrives_as : (bytes : List ℕ) → at_host (standing_of kept (now_of tr)) bytes ≡ at_host (standing topo tr at) bytes
  arrives_as bytes = same_reaction (λ s. taken_at_host s (frame_of bytes))

  -- where it is asked to put bytes
  pub puts_as : (bytes : List ℕ) → put_by (standing_of kept (now_of tr)) bytes ≡ put_by (standing topo tr at) bytes
  puts_as bytes = same_reaction (λ s. handed_down s bytes)

  -- where it signs a shut-off
  pub shuts_as : (key : Key) (named : Frame) (ttl : ℕ) → shut_by (standing_of kept (now_of tr)) key named ttl ≡ shut_by (standing topo tr at) key named ttl
  shuts_as key named ttl = same_reaction (λ s. shut_by (record s { down = false }) key named ttl)

  -- where it starts anew
  pub restarts_as : back_up (standing_of kept (now_of tr)) ≡ back_up (standing topo tr at)
  restarts_as =
      let shut = same_shut topo tr at kept stands in
      rw (stands.guarded, stands.seat, shut) refl

-- ---- at first

-- a new host stands for the trace of no inputs
pub starts : (topo : Topology) (at : Seat) (kept : HostState)
    → IsNew at (target.Port (name_at topo.routers at.router) at.port) topo.settings (key_named topo.parts at.name) (is_guarded topo.parts at.name) kept → DisksServe kept → HostStandsFor topo [] at kept
starts topo at kept new disks = record {
  seat = new.place;
  towards = new.port;
  room = new.room;
  key = new.private;
  guarded = new.guarded;
  down = new.up;
  log_room = ap (λ (l : log.Log). l.room) new.log;
  log = ap (λ (l : log.Log). l.frames) new.log ∙ sym (take-nil topo.settings.log);
  next = new.next;
  stop = λ _. new.stop;
  halt = λ _. new.halt ∙ sym (no_choice (is_guarded topo.parts at.name));
  told = λ to time later. ap (is_withheld time to) (sym new.told);
  untold = λ _. refl;
  disks = disks;
}
  where
    no_choice : (b : Bool) → ◌≡◌ {A = Option Arming} (if b then None else None) None
    no_choice true = refl
    no_choice false = refl

-- ---- after a reaction of its own

-- the frames of a log that stands for what was put
log_frames : (room : ℕ) (kept : log.Log) (frames : List Noted) → kept.room ≡ room → kept.frames ≡ take room frames → log.LogStandsFor frames kept
log_frames room kept frames same is = record { frames = is ∙ ap (λ r. take r frames) (sym same) }

module _ (topo : Topology) (tr : List Entry) (kept after : HostState) (input : Input) (number : ℕ) (reaction : Reaction)
    (stands : HostStandsFor topo tr kept.seat kept) (moved : Follows (now_of tr) kept reaction after) (disks : DisksServe after) (acting : lets_act tr input kept.seat.name ≡ true) where
  abbrev name : List ℕ
  name = kept.seat.name

  abbrev mid : List Entry
  mid = Taken input ∷ tr

  abbrev all : List Event
  all = reaction.events ++ put_event number reaction.put

  same_frames : frames_put mid name ≡ frames_put tr name
  same_frames = ap (λ r. if r then [] else frames_put tr name) (no_restart tr input name acting)

  same_fallen : is_down mid name ≡ is_down tr name
  same_fallen = ap (λ r. if r then false else is_down tr name) (no_restart tr input name acting)

  now_down : down_of after ≡ down_past reaction.events name (is_down tr name)
  now_down = moved.down ∙ ap (down_past reaction.events name) stands.down

  all_down : is_down (with_events all mid) name ≡ down_past reaction.events name (is_down tr name)
  all_down = down_with all mid name ∙ down_put reaction.events number reaction.put name (is_down mid name) ∙ ap (down_past reaction.events name) same_fallen

  all_stop : armed_stop (with_events all mid) name ≡ stop_past reaction.events name (armed_stop tr name)
  all_stop =
      stop_with all mid name ∙ stop_put reaction.events number reaction.put name (armed_stop mid name)
      ∙ ap (stop_past reaction.events name) (no_stop tr input name (armed_stop tr name) acting)

  all_halt : armed_halt (with_events all mid) name ≡ halt_past reaction.events name (armed_halt tr name)
  all_halt =
      halt_with all mid name ∙ halt_put reaction.events number reaction.put name (armed_halt mid name)
      ∙ ap (halt_past reaction.events name) (no_halt tr input name (armed_halt tr name) acting)

  all_now : now_of (with_events all mid) ≡ now_of tr
  all_now = now_with all mid ∙ no_ticks tr input name acting

  all_told : told_to (with_events all mid) name ≡ told_past reaction.events name (told_to tr name)
  all_told = told_with all mid name ∙ told_put reaction.events number reaction.put name (told_to mid name)

  was_up : down_of after ≡ false → down_of kept ≡ false
  was_up up = stands.down ∙ up_before reaction.events name (is_down tr name) (sym now_down ∙ up)

  now_logged : log.LogStandsFor (noted_put reaction.put ++ frames_put tr name) (logged kept.log reaction.put)
  now_logged = logged_stands reaction.put kept.log (frames_put tr name) (log_frames topo.settings.log kept.log (frames_put tr name) stands.log_room stands.log)

  log_room : after.log.room ≡ topo.settings.log
  log_room = ap (λ (l : log.Log). l.room) moved.log ∙ logged_room reaction.put kept.log ∙ stands.log_room

  -- a halt of a host with a guard is as the events leave it, and a plain host has none
  now_halt : down_of kept ≡ false → halt_past reaction.events name (halt_in kept.guard) ≡ (if is_guarded topo.parts name then armed_halt (with_events all mid) name else None)
  now_halt up = ap (halt_past reaction.events name) (stands.halt up) ∙ choice (is_guarded topo.parts name)
    where
      none : (events : List Event) → halt_past events name None ≡ None
      none [] = refl
      none (event ∷ events) = ap (halt_past events name) (same (is_halt_of event name)) ∙ none events
        where
          same : (b : Bool) → ◌≡◌ {A = Option Arming} (if b then None else None) None
          same true = refl
          same false = refl

      choice : (b : Bool) → halt_past reaction.events name (if b then armed_halt tr name else None) ≡ (if b then armed_halt (with_events all mid) name else None)
      choice true = sym all_halt
      choice false = none reaction.events

  now_told : SameInForce (now_of tr) (told_past reaction.events name (told_to tr name)) (shut_in after.guard)
  now_told = λ to time later. told_alike (now_of tr) reaction.events name (told_to tr name) (shut_in kept.guard) stands.told to time later ∙ moved.told to time later

  all_frames : frames_put (with_events all mid) name ≡ noted_put reaction.put ++ frames_put tr name
  all_frames = frames_with_put reaction.events number reaction.put mid name moved.quiet acting ∙ ap (λ fs. noted_put reaction.put ++ fs) same_frames

  follows_own : HostStandsFor topo (with_events all mid) kept.seat after
  follows_own = record {
    seat = moved.seat;
    towards = moved.towards ∙ stands.towards;
    room = moved.room ∙ stands.room;
    key = moved.key ∙ stands.key;
    guarded = moved.guarded ∙ stands.guarded;
    down = now_down ∙ sym all_down;
    log_room = log_room;
    log =
        ap (λ (l : log.Log). l.frames) moved.log ∙ now_logged.frames
        ∙ ap (λ r. take r (noted_put reaction.put ++ frames_put tr name)) (logged_room reaction.put kept.log ∙ stands.log_room)
        ∙ ap (take topo.settings.log) (sym all_frames);
    next =
        moved.next ∙ ap (next_past reaction.events name) stands.next
        ∙ sym (next_with all mid name ∙ next_put reaction.events number reaction.put name (next_leaf mid name));
    stop = λ up. moved.stop ∙ ap (stop_past reaction.events name) (stands.stop (was_up up)) ∙ sym all_stop;
    halt = λ up. moved.halt ∙ now_halt (was_up up);
    told = subst (λ now. SameInForce now (told_to (with_events all mid) name) (shut_in after.guard)) (sym all_now)
        (subst (λ (told : List ShutOff). SameInForce (now_of tr) told (shut_in after.guard)) (sym all_told) now_told);
    untold = λ plain. all_told ∙ ap (told_past reaction.events name) (stands.untold plain) ∙ moved.untold (stands.guarded ∙ plain);
    disks = disks;
  }

-- after an input that lets a host act, the host stands for the trace with its reaction
pub follows : (topo : Topology) (tr : List Entry) (at : Seat) (kept after : HostState) (input : Input) (number : ℕ) (reaction : Reaction)
    → HostStandsFor topo tr at kept → Follows (now_of tr) kept reaction after → DisksServe after → lets_act tr input at.name ≡ true
    → HostStandsFor topo (after_step tr input (numbered number reaction)) at after
follows topo tr at kept after input number reaction stands moved disks acting =
    let P : Seat → Type 0 = λ place. HostStandsFor topo tr place kept → lets_act tr input place.name ≡ true → HostStandsFor topo (after_step tr input (numbered number reaction)) place after in
    subst P stands.seat (λ own own_acting. follows_own topo tr kept after input number reaction own moved disks own_acting) stands acting
