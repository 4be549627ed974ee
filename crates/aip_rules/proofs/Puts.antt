-- An input puts at most one flight, of at most 9,216 bytes.
use Rattle.std.proofs.Common.{◌≡◌, ℕ, ◌+◌, ◌^◌, ◌==◌, ◌||◌, ◌<◌, ◌≤◌, true, false, List, length, Option, Some, None, Ok, refl, arith, lit<}
use Rattle.std.specs.Prelude.{IfSome, nat_le, nat_lt, slice_get}
use Rattle.std.proofs.lemmas.Bool.Decides.{nat_tests}
use Rattle.aip_addr.specs.declared.ids.Address.{Address}
use Rattle.aip_frame.specs.declared.frame.Frame.{Frame}
use Rattle.aip_frame.specs.Frame.{frame_of, frame_bytes, most_body, Fits, IsFrame}
use Rattle.aip_frame.proofs.Frames.{sound as frame_sound}
use Rattle.aip_event.specs.declared.input.Input.{Input}
use Rattle.aip_event.specs.declared.input.Input.TheVariants.{Tick, Send, Raw, Deliver, Inject, Cut, Mend, Shutoff, Restart, Stop, Halt, Publish}
use Rattle.aip_event.specs.declared.input.Target.{Target}
use Rattle.aip_event.specs.declared.input.Target.TheVariants as target
use Rattle.aip_topo.specs.Sound.{IsSound}
use Rattle.aip_topo.specs.declared.topology.Router.{Router}
use Rattle.aip_topo.specs.declared.topology.Topology.{Topology}
use Rattle.lms_core.specs.Tree.{Key}
use Rattle.aip_rules.specs.declared.Entry.{Entry}
use Rattle.aip_rules.specs.declared.Flight.{Flight}
use Rattle.aip_rules.specs.declared.Seat.{Seat}
use Rattle.aip_rules.specs.declared.StepFault.TheVariants as fault
use Rattle.aip_rules.specs.State.{flight_at, now_of, input_count, frame_in}
use Rattle.aip_rules.specs.Nodes.{seats_of, seat_named, place_of_router, address_named, neighbours_of, links_of, key_named}
use Rattle.aip_rules.specs.Reaction.{nothing}
use Rattle.aip_rules.specs.Records.{publishes, records_kept}
use Rattle.aip_rules.specs.Standing.{standing}
use Rattle.aip_rules.specs.Host.{sent_frame}
use Rattle.aip_rules.specs.Step.{most_bytes, most_inputs, can_be_put, sent, put_raw, arrives_at_router, arrives_at_port, arrives_at_seat, arrives, delivered, injected_at_port, injected_at_host, injected, relinked, shut_with, shut_named, shut_off, restarted, has_key, armed_with_stop, armed_with_halt, published, outcome_of, reaction_of}
use Rattle.aip_rules.specs.Laws.{InputsPutAtMostOne}
use Rattle.aip_rules.proofs.Sizes.{IsSizedAddress, HasSizedAddress, HasSized, seat_sized, address_sized, router_at_sized, fitting_short}
use Rattle.aip_rules.proofs.Publications.{of_publication}
use Rattle.aip_rules.proofs.Modest.{IsCalm, IsModest, IsModestOutcome, nothing_modest, happens_modest, puts_modest, unless, where_allowed, events_put}
use Rattle.aip_rules.proofs.PutsHost.{put_by_modest, shut_by_modest, at_host_modest, back_up_modest}
use Rattle.aip_rules.proofs.PutsRouter.{at_router_modest}

place_modest : (topo : Topology) (tr : List Entry) (place : ℕ) (self : Option Router) (port : ℕ) (bytes : List ℕ) → IfSome self HasSized → IsModest (arrives_at_router topo tr place self port bytes)
place_modest topo tr place None port bytes own = nothing_modest
place_modest topo tr place (Some self) port bytes own = at_router_modest topo tr (record { place = place; self = self; port = port }) bytes own

port_modest : (topo : Topology) (tr : List Entry) (place : Option ℕ) (port : ℕ) (bytes : List ℕ) → IsSound topo → IsModest (arrives_at_port topo tr place port bytes)
port_modest topo tr None port bytes sound = nothing_modest
port_modest topo tr (Some place) port bytes sound = place_modest topo tr place (slice_get topo.routers place) port bytes (router_at_sized topo place sound)

seat_modest : (topo : Topology) (tr : List Entry) (seat : Option Seat) (bytes : List ℕ) → IfSome seat HasSizedAddress → IsModest (arrives_at_seat topo tr seat bytes)
seat_modest topo tr None bytes s = nothing_modest
seat_modest topo tr (Some seat) bytes s = at_host_modest (standing topo tr seat) bytes s

-- what happens where bytes arrive at a target
pub arrives_modest : (topo : Topology) (tr : List Entry) (to : Target) (bytes : List ℕ) → IsSound topo → IsModest (arrives topo tr to bytes)
arrives_modest topo tr (target.Port name port) bytes sound = port_modest topo tr (place_of_router topo.routers name) port bytes sound
arrives_modest topo tr (target.Host name) bytes sound = seat_modest topo tr (seat_named (seats_of topo) name) bytes (seat_sized topo name sound)

-- bytes that can be put are short
pub short_put : (n : ℕ) → can_be_put n ≡ true → n ≤ 9216
short_put n e = grind (arith, nat_tests)

-- a body that fits a frame
fits_body : (packet n : ℕ) → (nat_le (2 ^ 32) packet || nat_lt most_body n) ≡ false → (packet < 2 ^ 32) × (n ≤ most_body)
fits_body packet n e = (grind (arith, nat_tests), grind (arith, nat_tests))

-- a data frame between short addresses is short
pub sent_short : (to from : Address) (packet : ℕ) (body : List ℕ) → IsSizedAddress to → IsSizedAddress from
    → (nat_le (2 ^ 32) packet || nat_lt most_body (length body)) ≡ false → length (frame_bytes (sent_frame to from packet body)) ≤ 9216
sent_short to from packet body t f e =
    let size = fits_body packet (length body) e in
    fitting_short (sent_frame to from packet body) (record {
      hop = lit< tt;
      packet = size.0;
      to_ad = t.ad;
      to_eid = t.eid;
      from_ad = f.ad;
      from_eid = f.eid;
      body = size.1;
      challenge = λ no_challenge. cc;
    })

sent_modest : (topo : Topology) (tr : List Entry) (seat : Option Seat) (to : Option Address) (packet : ℕ) (body : List ℕ)
    → IfSome seat HasSizedAddress → IfSome to IsSizedAddress → IsModestOutcome (sent topo tr seat to packet body)
sent_modest topo tr None to packet body s t = tt
sent_modest topo tr (Some seat) None packet body s t = tt
sent_modest topo tr (Some seat) (Some to) packet body s t =
    unless (nat_le (2 ^ 32) packet || nat_lt most_body (length body)) fault.Range _
    (λ e. put_by_modest (standing topo tr seat) _ (sent_short to seat.address packet body t s e))

raw_modest : (topo : Topology) (tr : List Entry) (seat : Option Seat) (bytes : List ℕ) → IsModestOutcome (put_raw topo tr seat bytes)
raw_modest topo tr None bytes = tt
raw_modest topo tr (Some seat) bytes =
    where_allowed (can_be_put (length bytes)) fault.Range _ (λ e. put_by_modest (standing topo tr seat) bytes (short_put (length bytes) e))

delivered_modest : (topo : Topology) (tr : List Entry) (flight : Option Flight) → IsSound topo → IsModestOutcome (delivered topo tr flight)
delivered_modest topo tr None sound = tt
delivered_modest topo tr (Some flight) sound = arrives_modest topo tr flight.target flight.bytes sound

injected_port_modest : (topo : Topology) (place : Option ℕ) (to : Target) (port : ℕ) (bytes : List ℕ) → IsModestOutcome (injected_at_port topo place to port bytes)
injected_port_modest topo None to port bytes = tt
injected_port_modest topo (Some place) to port bytes =
    unless (nat_le (length (neighbours_of topo place)) port) fault.Range _
    (λ e. where_allowed (can_be_put (length bytes)) fault.Range _ (λ e. puts_modest to bytes (short_put (length bytes) e)))

injected_host_modest : (seat : Option Seat) (to : Target) (bytes : List ℕ) → IsModestOutcome (injected_at_host seat to bytes)
injected_host_modest None to bytes = tt
injected_host_modest (Some seat) to bytes =
    where_allowed (can_be_put (length bytes)) fault.Range _ (λ e. puts_modest to bytes (short_put (length bytes) e))

pub injected_modest : (topo : Topology) (to : Target) (bytes : List ℕ) → IsModestOutcome (injected topo to bytes)
injected_modest topo (target.Port name port) bytes = injected_port_modest topo (place_of_router topo.routers name) _ port bytes
injected_modest topo (target.Host name) bytes = injected_host_modest (seat_named (seats_of topo) name) _ bytes

relinked_modest : (topo : Topology) (link : ℕ) → IsModestOutcome (relinked topo link)
relinked_modest topo link = where_allowed (nat_lt link (length (links_of topo))) fault.Range (Ok nothing) (λ e. nothing_modest)

shut_with_modest : (topo : Topology) (tr : List Entry) (seat : Seat) (named : Frame) (ttl : ℕ) (key : Option Key) → HasSizedAddress seat → Fits named → IsModestOutcome (shut_with topo tr seat named ttl key)
shut_with_modest topo tr seat named ttl None s fits = tt
shut_with_modest topo tr seat named ttl (Some key) s fits = shut_by_modest (standing topo tr seat) key named ttl s fits

shut_named_modest : (topo : Topology) (tr : List Entry) (seat : Seat) (named : Option Frame) (ttl : ℕ) → HasSizedAddress seat → IfSome named Fits → IsModestOutcome (shut_named topo tr seat named ttl)
shut_named_modest topo tr seat None ttl s fits = tt
shut_named_modest topo tr seat (Some named) ttl s fits =
    unless (nat_le (2 ^ 32) ttl) fault.Range _ (λ e. shut_with_modest topo tr seat named ttl (key_named topo.parts seat.name) s fits)

-- the frame that bytes spell has fields of their sizes
frame_fits : (bytes : List ℕ) (frame : Option Frame) → IfSome frame (IsFrame bytes) → IfSome frame Fits
frame_fits bytes None is = tt
frame_fits bytes (Some frame) is = is.fits

pub flight_fits : (flight : Option Flight) → IfSome (frame_in flight) Fits
flight_fits None = tt
flight_fits (Some flight) = frame_fits flight.bytes (frame_of flight.bytes) (frame_sound flight.bytes)

shut_modest : (topo : Topology) (tr : List Entry) (seat : Option Seat) (flight : Option Flight) (ttl : ℕ) → IfSome seat HasSizedAddress → IsModestOutcome (shut_off topo tr seat flight ttl)
shut_modest topo tr None flight ttl s = tt
shut_modest topo tr (Some seat) flight ttl s = shut_named_modest topo tr seat (frame_in flight) ttl s (flight_fits flight)

restarted_modest : (topo : Topology) (tr : List Entry) (seat : Option Seat) (router : Option ℕ) → IsModestOutcome (restarted topo tr seat router)
restarted_modest topo tr (Some seat) router = back_up_modest (standing topo tr seat)
restarted_modest topo tr None (Some router) = nothing_modest
restarted_modest topo tr None None = tt

armed_modest : (topo : Topology) (seat : Option Seat) (call byte : ℕ) → IsModestOutcome (armed_with_stop topo seat call byte)
armed_modest topo None call byte = tt
armed_modest topo (Some seat) call byte =
    unless ((call == 0) || (nat_lt 2 call || nat_le 256 byte)) fault.Range _
    (λ e. where_allowed (has_key (key_named topo.parts seat.name)) fault.Keyless (Ok nothing) (λ e. nothing_modest))

halt_modest : (seat : Option Seat) (call byte : ℕ) → IsModestOutcome (armed_with_halt seat call byte)
halt_modest None call byte = tt
halt_modest (Some seat) call byte =
    unless ((call == 0) || (nat_lt 4 call || nat_le 256 byte)) fault.Range (Ok nothing) (λ e. nothing_modest)

published_modest : (tr : List Entry) (bytes : List ℕ) → IsModestOutcome (published tr bytes)
published_modest tr bytes =
    unless (nat_lt most_bytes (length bytes)) fault.Range (Ok (publishes (records_kept tr) bytes))
    (λ e. happens_modest _ (of_publication IsCalm (λ ad other number until. refl) (λ ad other number until. refl) (λ number. refl) (records_kept tr) bytes))

-- what comes of an input is modest
pub outcome_modest : (topo : Topology) (tr : List Entry) (input : Input) → IsSound topo → IsModestOutcome (outcome_of topo tr input)
outcome_modest topo tr (Tick ticks) sound = unless ((ticks == 0) || nat_le (2 ^ 48) (now_of tr + ticks)) fault.Range (Ok nothing) (λ e. nothing_modest)
outcome_modest topo tr (Send host node packet body) sound =
    sent_modest topo tr (seat_named (seats_of topo) host) (address_named topo node) packet body (seat_sized topo host sound) (address_sized topo node sound)
outcome_modest topo tr (Raw host bytes) sound = raw_modest topo tr (seat_named (seats_of topo) host) bytes
outcome_modest topo tr (Deliver flight) sound = delivered_modest topo tr (flight_at tr flight) sound
outcome_modest topo tr (Inject to bytes) sound = injected_modest topo to bytes
outcome_modest topo tr (Cut link) sound = relinked_modest topo link
outcome_modest topo tr (Mend link) sound = relinked_modest topo link
outcome_modest topo tr (Shutoff host flight ttl) sound =
    shut_modest topo tr (seat_named (seats_of topo) host) (flight_at tr flight) ttl (seat_sized topo host sound)
outcome_modest topo tr (Restart node) sound = restarted_modest topo tr (seat_named (seats_of topo) node) (place_of_router topo.routers node)
outcome_modest topo tr (Stop host call byte) sound = armed_modest topo (seat_named (seats_of topo) host) call byte
outcome_modest topo tr (Halt host call byte) sound = halt_modest (seat_named (seats_of topo) host) call byte
outcome_modest topo tr (Publish bytes) sound = published_modest tr bytes

pub at_most_one : InputsPutAtMostOne
at_most_one = λ topo sound tr input.
    events_put tr (reaction_of topo tr input)
    (unless (nat_le most_inputs (input_count tr)) fault.Many (outcome_of topo tr input) (λ e. outcome_modest topo tr input sound))
