-- How what comes of an input comes about.
use Rattle.std.proofs.Common.{◌≡◌, ℕ, ◌+◌, ◌^◌, ◌==◌, ◌||◌, Bool, true, false, cond, List, [], ◌∷◌, length, Option, Some, None, Result, Ok, Err, refl, sym, ap, ◌∙◌}
use Rattle.std.specs.Prelude.{IfOk, IfSome, nat_le, nat_lt, slice_get}
use Rattle.std.specs.Str.{bytes_eq}
use Rattle.std.specs.Cmp.Lexicographic.{bytes_decides}
use Rattle.std.proofs.lemmas.Bool.{cond_both}
use Rattle.aip_addr.specs.Ids.{key_id_of}
use Rattle.aip_addr.specs.declared.ids.Address.{Address}
use Rattle.aip_frame.specs.declared.frame.Frame.{Frame}
use Rattle.aip_frame.specs.declared.frame.Kind.TheVariants.{ShutOff}
use Rattle.aip_frame.specs.Frame.{frame_of, frame_bytes, most_body}
use Rattle.aip_event.specs.declared.event.Event.{Event}
use Rattle.aip_event.specs.declared.event.Event.TheVariants as event
use Rattle.aip_event.specs.declared.input.Input.{Input}
use Rattle.aip_event.specs.declared.input.Input.TheVariants.{Tick, Send, Raw, Deliver, Inject, Cut, Mend, Shutoff, Restart, Stop, Halt, Publish}
use Rattle.aip_event.specs.declared.input.Target.{Target}
use Rattle.aip_event.specs.declared.input.Target.TheVariants as target
use Rattle.aip_topo.specs.declared.topology.Router.{Router}
use Rattle.aip_topo.specs.declared.topology.Topology.{Topology}
use Rattle.lms_core.specs.Tree.{Key}
use Rattle.shutoff_filter.specs.declared.judging.Heard.TheVariants as heard
use Rattle.aip_rules.specs.declared.Entry.{Entry}
use Rattle.aip_rules.specs.declared.Flight.{Flight}
use Rattle.aip_rules.specs.declared.Reaction.{Reaction}
use Rattle.aip_rules.specs.declared.Seat.{Seat}
use Rattle.aip_rules.specs.declared.StepFault.{StepFault}
use Rattle.aip_rules.specs.declared.StepFault.TheVariants as fault
use Rattle.aip_rules.specs.State.{ticks_of, is_restart_of, flight_at, now_of, delivered_by, frame_in}
use Rattle.aip_rules.specs.Nodes.{seats_of, seat_named, place_of_router, address_named, neighbours_of, links_of, key_named}
use Rattle.aip_rules.specs.Reaction.{nothing, happens, puts, behind}
use Rattle.aip_rules.specs.Standing.{standing, lets_act, reaches_host, is_host_target, next_leaf}
use Rattle.aip_rules.specs.Host.{hearing, handed_down, sent_frame, put_by, shut_by, at_host, back_up}
use Rattle.aip_rules.specs.Step.{most_bytes, can_be_put, sent, put_raw, arrives_at_router, arrives_at_port, arrives_at_seat, arrives, delivered, injected_at_port, injected_at_host, injected, shut_with, shut_named, shut_off, restarted, has_key, armed_with_stop, armed_with_halt, published, outcome_of}
use Rattle.aip_rules.specs.Records.{publishes, records_kept}
use Rattle.aip_rules.proofs.Publications.{of_publication}
use Rattle.aip_rules.proofs.SilentEvents.{IsPlain, ArePlain, unless_refused, where_taken}
use Rattle.aip_rules.proofs.SilentHosts.{by_put, by_shut, by_restart, by_arrival}
use Rattle.aip_rules.proofs.SilentRouters.{IsPlainReaction, at_router_plain}

-- the input lets no host act but the one that stands here; no time passes by it, and it restarts nothing
pub record IsBy (tr : List Entry) (input : Input) (seat : Seat) : Type 0 where
  pub only : (name : List ℕ) → lets_act tr input name ≡ true → name ≡ seat.name
  pub still : ticks_of input ≡ 0
  pub stays : (name : List ℕ) → is_restart_of input name ≡ false

-- the input lets no host act
abbrev pub IsOfNoHost : List Entry → Input → Type 0
IsOfNoHost tr input = (name : List ℕ) → lets_act tr input name ≡ false

-- the input delivers to the host a frame, a shut-off that is to be obeyed until then
pub record IsOrdered (topo : Topology) (tr : List Entry) (input : Input) (seat : Seat) (flight : Flight) (frame : Frame) (until : ℕ) : Type 0 where
  pub delivered : delivered_by tr input ≡ Some flight
  pub arrives : is_host_target flight.target seat.name ≡ true
  pub spelled : frame_of flight.bytes ≡ Some frame
  pub kind : frame.kind ≡ ShutOff
  pub told : hearing (standing topo tr seat) frame ≡ heard.Obeyed until

-- a reaction to an input on a trace comes about in one of these ways: by plain events; by a router or from outside; a host
-- hands bytes down; a host signs with its next leaf, and hands bytes down; a guarded host is told a shut-off
pub data Comes (topo : Topology) (tr : List Entry) (input : Input) : Reaction → Type 0 where
  Plainly : (events : List Event) → ArePlain events → Comes topo tr input (record { events = events; put = None })
  ByOther : (reaction : Reaction) → IsOfNoHost tr input → ArePlain reaction.events → Comes topo tr input reaction
  ByHand : (seat : Seat) → IsBy tr input seat → (bytes : List ℕ) → Comes topo tr input (handed_down (standing topo tr seat) bytes)
  BySignature : (seat : Seat) → IsBy tr input seat → (key : Key) → key_named topo.parts seat.name ≡ Some key → (bytes : List ℕ)
      → Comes topo tr input (behind (event.Signed seat.name (next_leaf tr seat.name)) (handed_down (standing topo tr seat) bytes))
  ByObeying : (seat : Seat) → IsBy tr input seat → (flight : Flight) (frame : Frame) (until : ℕ) → IsOrdered topo tr input seat flight frame until
      → Comes topo tr input (happens (event.Obeyed seat.name (key_id_of frame.from.eid) until))
  ByHalting : (seat : Seat) → IsBy tr input seat → (flight : Flight) (frame : Frame) (until call byte : ℕ) → IsOrdered topo tr input seat flight frame until
      → Comes topo tr input (happens (event.Halted seat.name (key_id_of frame.from.eid) until call byte))

-- what is known of each host of a name is known of the one that is found
found_named : (P : Seat → Type 0) (name : List ℕ) (seats : List Seat) → ((seat : Seat) → seat.name ≡ name → P seat) → IfSome (seat_named seats name) P
found_named P name [] h = tt
found_named P name (seat ∷ seats) h =
    cond_both (bytes_eq seat.name name) (Some seat) (seat_named seats name) (λ o. IfSome o P)
    (λ e. h seat ((bytes_decides seat.name name).0 e)) (λ e. found_named P name seats h)

-- a host that is let act by its name is the only one
only_one : (host name : List ℕ) (seat : Seat) → seat.name ≡ host → bytes_eq host name ≡ true → name ≡ seat.name
only_one host name seat is e = sym (is ∙ (bytes_decides host name).0 e)

module _ (topo : Topology) (tr : List Entry) (input : Input) where
  -- what comes about of an input
  abbrev pub IsCome : Result Reaction StepFault → Type 0
  IsCome outcome = IfOk outcome (Comes topo tr input)

  nothing_comes : Comes topo tr input nothing
  nothing_comes = Plainly [] tt

  module _ (seat : Seat) (by : IsBy tr input seat) where
    hand : (bytes : List ℕ) → Comes topo tr input (handed_down (standing topo tr seat) bytes)
    hand bytes = ByHand seat by bytes

    signature : (key : Key) (bytes : List ℕ) → key_named topo.parts seat.name ≡ Some key
        → Comes topo tr input (behind (event.Signed seat.name (next_leaf tr seat.name)) (handed_down (standing topo tr seat) bytes))
    signature key bytes own = BySignature seat by key own bytes

    put_comes : (bytes : List ℕ) → Comes topo tr input (put_by (standing topo tr seat) bytes)
    put_comes bytes = by_put (standing topo tr seat) (Comes topo tr input) Plainly hand signature bytes

    shut_comes : (key : Key) (named : Frame) (ttl : ℕ) → key_named topo.parts seat.name ≡ Some key → Comes topo tr input (shut_by (standing topo tr seat) key named ttl)
    shut_comes key named ttl own = by_shut (standing topo tr seat) (Comes topo tr input) Plainly hand signature key named ttl own

    arrival_comes : (flight : Flight) → delivered_by tr input ≡ Some flight → is_host_target flight.target seat.name ≡ true
        → Comes topo tr input (at_host (standing topo tr seat) flight.bytes)
    arrival_comes flight is there =
        by_arrival (standing topo tr seat) (Comes topo tr input) Plainly hand signature flight.bytes
        (λ frame until spelled kind told. ByObeying seat by flight frame until (record { delivered = is; arrives = there; spelled = spelled; kind = kind; told = told }))
        (λ frame until call byte spelled kind told. ByHalting seat by flight frame until call byte (record { delivered = is; arrives = there; spelled = spelled; kind = kind; told = told }))

  sent_comes : (seat : Option Seat) (to : Option Address) (packet : ℕ) (body : List ℕ) → IfSome seat (IsBy tr input) → IsCome (sent topo tr seat to packet body)
  sent_comes None to packet body by = tt
  sent_comes (Some seat) None packet body by = tt
  sent_comes (Some seat) (Some to) packet body by =
      unless_refused (Comes topo tr input) (nat_le (2 ^ 32) packet || nat_lt most_body (length body)) fault.Range _
      (put_comes seat by (frame_bytes (sent_frame to seat.address packet body)))

  raw_comes : (seat : Option Seat) (bytes : List ℕ) → IfSome seat (IsBy tr input) → IsCome (put_raw topo tr seat bytes)
  raw_comes None bytes by = tt
  raw_comes (Some seat) bytes by = where_taken (Comes topo tr input) (can_be_put (length bytes)) fault.Range _ (put_comes seat by bytes)

  router_comes : (place : ℕ) (self : Option Router) (port : ℕ) (bytes : List ℕ) → IsPlainReaction (arrives_at_router topo tr place self port bytes)
  router_comes place None port bytes = tt
  router_comes place (Some self) port bytes = at_router_plain topo tr (record { place = place; self = self; port = port }) bytes

  port_comes : (place : Option ℕ) (port : ℕ) (bytes : List ℕ) → IsPlainReaction (arrives_at_port topo tr place port bytes)
  port_comes None port bytes = tt
  port_comes (Some place) port bytes = router_comes place (slice_get topo.routers place) port bytes

  seat_comes : (seat : Option Seat) (flight : Flight) → delivered_by tr input ≡ Some flight
      → IfSome seat (λ seat. IsBy tr input seat × (is_host_target flight.target seat.name ≡ true)) → Comes topo tr input (arrives_at_seat topo tr seat flight.bytes)
  seat_comes None flight is by = nothing_comes
  seat_comes (Some seat) flight is by = arrival_comes seat by.0 flight is by.1

  outside : (to : Target) (bytes : List ℕ) → IsOfNoHost tr input → Comes topo tr input (puts to bytes)
  outside to bytes none = ByOther (puts to bytes) none tt

  injected_port_comes : (place : Option ℕ) (to : Target) (port : ℕ) (bytes : List ℕ) → IsOfNoHost tr input → IsCome (injected_at_port topo place to port bytes)
  injected_port_comes None to port bytes none = tt
  injected_port_comes (Some place) to port bytes none =
      unless_refused (Comes topo tr input) (nat_le (length (neighbours_of topo place)) port) fault.Range _
      (where_taken (Comes topo tr input) (can_be_put (length bytes)) fault.Range _ (outside to bytes none))

  injected_host_comes : (seat : Option Seat) (to : Target) (bytes : List ℕ) → IsOfNoHost tr input → IsCome (injected_at_host seat to bytes)
  injected_host_comes None to bytes none = tt
  injected_host_comes (Some seat) to bytes none = where_taken (Comes topo tr input) (can_be_put (length bytes)) fault.Range _ (outside to bytes none)

  injected_comes : (to : Target) (bytes : List ℕ) → IsOfNoHost tr input → IsCome (injected topo to bytes)
  injected_comes (target.Port name port) bytes none = injected_port_comes (place_of_router topo.routers name) (target.Port name port) port bytes none
  injected_comes (target.Host name) bytes none = injected_host_comes (seat_named (seats_of topo) name) (target.Host name) bytes none

  with_comes : (seat : Seat) (named : Frame) (ttl : ℕ) (key : Option Key) → key_named topo.parts seat.name ≡ key → IsBy tr input seat → IsCome (shut_with topo tr seat named ttl key)
  with_comes seat named ttl None own by = tt
  with_comes seat named ttl (Some key) own by = shut_comes seat by key named ttl own

  named_comes : (seat : Seat) (named : Option Frame) (ttl : ℕ) → IsBy tr input seat → IsCome (shut_named topo tr seat named ttl)
  named_comes seat None ttl by = tt
  named_comes seat (Some named) ttl by =
      unless_refused (Comes topo tr input) (nat_le (2 ^ 32) ttl) fault.Range _ (with_comes seat named ttl (key_named topo.parts seat.name) refl by)

  shut_off_comes : (seat : Option Seat) (flight : Option Flight) (ttl : ℕ) → IfSome seat (IsBy tr input) → IsCome (shut_off topo tr seat flight ttl)
  shut_off_comes None flight ttl by = tt
  shut_off_comes (Some seat) flight ttl by = named_comes seat (frame_in flight) ttl by

  restart_comes : (seat : Option Seat) (router : Option ℕ) → IsCome (restarted topo tr seat router)
  restart_comes (Some seat) router = Plainly (back_up (standing topo tr seat)).events (by_restart (standing topo tr seat))
  restart_comes None (Some router) = nothing_comes
  restart_comes None None = tt

  quiet_comes : (test : Bool) (f : StepFault) → IsCome (cond test (Err f) (Ok nothing))
  quiet_comes test f = unless_refused (Comes topo tr input) test f (Ok nothing) nothing_comes

  allowed_comes : (test : Bool) (f : StepFault) → IsCome (cond test (Ok nothing) (Err f))
  allowed_comes test f = where_taken (Comes topo tr input) test f (Ok nothing) nothing_comes

  stop_comes : (seat : Option Seat) (call byte : ℕ) → IsCome (armed_with_stop topo seat call byte)
  stop_comes None call byte = tt
  stop_comes (Some seat) call byte =
      unless_refused (Comes topo tr input) ((call == 0) || (nat_lt 2 call || nat_le 256 byte)) fault.Range _
      (allowed_comes (has_key (key_named topo.parts seat.name)) fault.Keyless)

  halt_comes : (seat : Option Seat) (call byte : ℕ) → IsCome (armed_with_halt seat call byte)
  halt_comes None call byte = tt
  halt_comes (Some seat) call byte = quiet_comes ((call == 0) || (nat_lt 4 call || nat_le 256 byte)) fault.Range

  published_comes : (bytes : List ℕ) → IsCome (published tr bytes)
  published_comes bytes =
      unless_refused (Comes topo tr input) (nat_lt most_bytes (length bytes)) fault.Range (Ok (publishes (records_kept tr) bytes))
      (Plainly (publishes (records_kept tr) bytes).events
      (of_publication IsPlain (λ ad other number until. tt) (λ ad other number until. tt) (λ number. tt) (records_kept tr) bytes, tt))

module _ (topo : Topology) (tr : List Entry) where
  -- what is delivered to a target
  target_comes : (k : ℕ) (flight : Flight) (to : Target) → flight_at tr k ≡ Some flight → flight.target ≡ to → Comes topo tr (Deliver k) (arrives topo tr to flight.bytes)
  target_comes k flight (target.Port name port) is there =
      ByOther (arrives topo tr (target.Port name port) flight.bytes)
      (λ host. ap (λ o. reaches_host o host) is ∙ ap (λ t. is_host_target t host) there)
      (port_comes topo tr (Deliver k) (place_of_router topo.routers name) port flight.bytes)
  target_comes k flight (target.Host name) is there =
      seat_comes topo tr (Deliver k) (seat_named (seats_of topo) name) flight is
      (found_named (λ seat. IsBy tr (Deliver k) seat × (is_host_target flight.target seat.name ≡ true)) name (seats_of topo)
      (λ seat own. (
        record {
          only = λ host acts. only_one name host seat own (sym (ap (λ o. reaches_host o host) is ∙ ap (λ t. is_host_target t host) there) ∙ acts);
          still = refl;
          stays = λ host. refl;
        },
        ap (λ t. is_host_target t seat.name) there ∙ (bytes_decides name seat.name).1 (sym own),
      )))

  flight_comes : (k : ℕ) (flight : Option Flight) → flight_at tr k ≡ flight → IsCome topo tr (Deliver k) (delivered topo tr flight)
  flight_comes k None is = tt
  flight_comes k (Some flight) is = target_comes k flight flight.target is refl

  -- the host of this name, which an input lets act by its name
  named_by : (input : Input) (host : List ℕ) → ((name : List ℕ) → lets_act tr input name ≡ bytes_eq host name) → ticks_of input ≡ 0 → ((name : List ℕ) → is_restart_of input name ≡ false)
      → IfSome (seat_named (seats_of topo) host) (IsBy tr input)
  named_by input host acts still stays =
      found_named (IsBy tr input) host (seats_of topo)
      (λ seat own. record { only = λ name e. only_one host name seat own (sym (acts name) ∙ e); still = still; stays = stays })

  -- each outcome of an input comes about so
  pub outcome_comes : (input : Input) → IsCome topo tr input (outcome_of topo tr input)
  outcome_comes (Tick ticks) = quiet_comes topo tr (Tick ticks) ((ticks == 0) || nat_le (2 ^ 48) (now_of tr + ticks)) fault.Range
  outcome_comes (Send host node packet body) =
      sent_comes topo tr (Send host node packet body) (seat_named (seats_of topo) host) (address_named topo node) packet body (named_by (Send host node packet body) host (λ name. refl) refl (λ name. refl))
  outcome_comes (Raw host bytes) = raw_comes topo tr (Raw host bytes) (seat_named (seats_of topo) host) bytes (named_by (Raw host bytes) host (λ name. refl) refl (λ name. refl))
  outcome_comes (Deliver k) = flight_comes k (flight_at tr k) refl
  outcome_comes (Inject to bytes) = injected_comes topo tr (Inject to bytes) to bytes (λ name. refl)
  outcome_comes (Cut link) = allowed_comes topo tr (Cut link) (nat_lt link (length (links_of topo))) fault.Range
  outcome_comes (Mend link) = allowed_comes topo tr (Mend link) (nat_lt link (length (links_of topo))) fault.Range
  outcome_comes (Shutoff host flight ttl) =
      shut_off_comes topo tr (Shutoff host flight ttl) (seat_named (seats_of topo) host) (flight_at tr flight) ttl (named_by (Shutoff host flight ttl) host (λ name. refl) refl (λ name. refl))
  outcome_comes (Restart node) = restart_comes topo tr (Restart node) (seat_named (seats_of topo) node) (place_of_router topo.routers node)
  outcome_comes (Stop host call byte) = stop_comes topo tr (Stop host call byte) (seat_named (seats_of topo) host) call byte
  outcome_comes (Halt host call byte) = halt_comes topo tr (Halt host call byte) (seat_named (seats_of topo) host) call byte
  outcome_comes (Publish bytes) = published_comes topo tr (Publish bytes) bytes
