-- What comes of an input of the grammar has short words, on a trace whose words are short.
use Rattle.std.proofs.Common.{◌≡◌, ℕ, ◌+◌, ◌^◌, ◌<◌, ◌≤◌, ◌==◌, ◌||◌, Bool, true, false, cond, List, [], ◌∷◌, length, Option, Some, None, Result, Ok, Err, refl, sym, ◌∙◌, arith}
use Rattle.std.specs.Prelude.{IfOk, IfSome, nat_le, nat_lt, slice_get}
use Rattle.std.specs.List.{AllByRecursion}
use Rattle.std.proofs.Math.Nat.{max-le}
use Rattle.std.proofs.lemmas.Bool.{cond_both, leb-false}
use Rattle.std.proofs.lemmas.Bool.Decides.{nat_tests}
use Rattle.aip_addr.specs.declared.ids.Address.{Address}
use Rattle.aip_frame.specs.declared.frame.Frame.{Frame}
use Rattle.aip_frame.specs.Frame.{Fits, frame_bytes, most_body}
use Rattle.hex.specs.Hex.{IsBytes}
use Rattle.aip_event.specs.Lines.{IsInput, IsTarget}
use Rattle.aip_event.specs.declared.input.Input.{Input}
use Rattle.aip_event.specs.declared.input.Input.TheVariants.{Tick, Send, Raw, Deliver, Inject, Cut, Mend, Shutoff, Restart, Stop, Halt, Publish}
use Rattle.aip_event.specs.declared.input.Target.{Target}
use Rattle.aip_event.specs.declared.input.Target.TheVariants as target
use Rattle.aip_topo.specs.Sound.{IsSound}
use Rattle.aip_topo.specs.declared.topology.Router.{Router}
use Rattle.aip_topo.specs.declared.topology.Topology.{Topology}
use Rattle.lms_core.specs.Tree.{Key}
use Rattle.shutoff_filter.specs.Entries.{greatest, in_force, is_before, is_key, lasts, with_greatest}
use Rattle.shutoff_filter.specs.declared.entries.ShutOffEntry.{ShutOffEntry as ShutOffEntry}
use Rattle.aip_rules.specs.declared.Entry.{Entry}
use Rattle.aip_rules.specs.declared.Flight.{Flight}
use Rattle.aip_rules.specs.declared.Reaction.{Reaction}
use Rattle.aip_rules.specs.declared.Seat.{Seat}
use Rattle.aip_rules.specs.declared.StepFault.{StepFault}
use Rattle.aip_rules.specs.declared.StepFault.TheVariants as fault
use Rattle.aip_rules.specs.Host.{sent_frame}
use Rattle.aip_rules.specs.Nodes.{address_named, is_guarded, key_named, links_of, neighbours_of, place_of_router, seat_named, seats_of}
use Rattle.aip_rules.specs.Reaction.{nothing, puts}
use Rattle.aip_rules.specs.Records.{publishes, records_kept}
use Rattle.aip_rules.specs.Standing.{next_leaf, standing, told_to}
use Rattle.aip_rules.specs.State.{armed_halt, armed_stop, flight_at, flight_count, flights_of, frame_in, input_count, now_of}
use Rattle.aip_rules.specs.Step.{arrives, arrives_at_port, arrives_at_router, arrives_at_seat, can_be_put, delivered, armed_with_halt, has_key, injected, injected_at_host, injected_at_port, most_bytes, outcome_of, published, put_raw, refused_if, relinked, restarted, sent, shut_named, shut_off, shut_with, armed_with_stop}
use Rattle.aip_rules.proofs.Puts.{flight_fits, short_put}
use Rattle.aip_rules.proofs.Sizes.{HasSizedAddress, placed_all, seat_sized}
use Rattle.aip_replay.specs.Marks.{shown}
use Rattle.aip_replay.specs.Texts.{IsTraceLine}
use Rattle.aip_replay.proofs.Brief.{AreBrief, brief_bytes, brief_other}
use Rattle.aip_replay.proofs.Seats.{HasShortName, IsShortSeat, all_routers, name_short, seat_short}
use Rattle.aip_replay.proofs.Short.{IsLow, IsShortEntry, IsShortInput, IsShortTarget}
use Rattle.aip_replay.proofs.ShortHosts.{IsLowArming, IsShortPut, IsShortReaction, IsShortStanding, arrival_short, nothing_short, put_short, puts_short, restart_short, shut_short}
use Rattle.aip_replay.proofs.ShortRecords.{publication_short}
use Rattle.aip_replay.proofs.ShortRouters.{router_short}
use Rattle.aip_replay.proofs.Words.{name_word}

-- The words of a trace are short: each of its lines is one of a trace text, and so are the words of its flights and of what
-- its hosts keep. Its time is below 2^48, and it has no more flights, and no leaf is later, than it has inputs.
pub record IsPlainTrace (tr : List Entry) : Type 0 where
  pub lines : AllByRecursion IsTraceLine (shown tr)
  pub flights : AllByRecursion IsShortPut (flights_of tr)
  pub stops : (name : List ℕ) → IfSome (armed_stop tr name) IsLowArming
  pub halts : (name : List ℕ) → IfSome (armed_halt tr name) IsLowArming
  pub told : (name : List ℕ) → AllByRecursion IsShortEntry (told_to tr name)
  pub leaf : (name : List ℕ) → next_leaf tr name ≤ input_count tr
  pub time : now_of tr < 2 ^ 48
  pub put : flight_count tr ≤ input_count tr
  pub few : input_count tr ≤ 65536

-- ## Shut-offs in force

greatest_short : (one other : ShutOffEntry) → IsShortEntry one → IsShortEntry other → IsShortEntry (greatest one other)
greatest_short one other p q =
    let first = p.1 in
    let second = q.1 in
    let a : one.until ≤ 18446744073709551615 = omega arith in
    let b : other.until ≤ 18446744073709551615 = omega arith in
    let both = max-le a b in
    (q.0, omega arith)

with_short : (entry : ShutOffEntry) (entries : List ShutOffEntry) → IsShortEntry entry → AllByRecursion IsShortEntry entries → AllByRecursion IsShortEntry (with_greatest entry entries)
with_short entry [] p all = (p, tt)
with_short entry (e ∷ es) p all =
    cond_both (is_before entry.to e.to) (entry ∷ (e ∷ es)) (cond (is_key entry.to e.to) (greatest entry e ∷ es) (e ∷ with_greatest entry es)) (AllByRecursion IsShortEntry)
    (λ before. (p, all))
    (λ behind. cond_both (is_key entry.to e.to) (greatest entry e ∷ es) (e ∷ with_greatest entry es) (AllByRecursion IsShortEntry)
    (λ same. (greatest_short entry e p all.0, all.1)) (λ other. (all.0, with_short entry es p all.1)))

in_force_short : (now : ℕ) (entries : List ShutOffEntry) → AllByRecursion IsShortEntry entries → AllByRecursion IsShortEntry (in_force now entries)
in_force_short now [] all = tt
in_force_short now (e ∷ es) all =
    cond_both (lasts now e) (with_greatest e (in_force now es)) (in_force now es) (AllByRecursion IsShortEntry)
    (λ lasts. with_short e (in_force now es) all.0 (in_force_short now es all.1)) (λ past. in_force_short now es all.1)

-- ## Outcomes

-- what holds of an outcome, unless a test refuses it
pub refused_or : (P : Reaction → Type 0) (test : Bool) (f : StepFault) (outcome : Result Reaction StepFault) → (test ≡ false → IfOk outcome P) → IfOk (refused_if test f outcome) P
refused_or P true f outcome h = tt
refused_or P false f outcome h = h refl

-- what holds of an outcome, where a test allows it
pub allowed_or : (P : Reaction → Type 0) (test : Bool) (f : StepFault) (outcome : Result Reaction StepFault) → (test ≡ true → IfOk outcome P) → IfOk (cond test outcome (Err f)) P
allowed_or P true f outcome h = h refl
allowed_or P false f outcome h = tt

module _ (topo : Topology) (sound : IsSound topo) (tr : List Entry) (plain : IsPlainTrace tr) where
  -- what comes of an input has short words
  abbrev pub IsShortOutcome : Result Reaction StepFault → Type 0
  IsShortOutcome outcome = IfOk outcome (IsShortReaction (input_count tr))

  -- a host at its place
  abbrev IsSeated : Seat → Type 0
  IsSeated seat = IsShortSeat seat × HasSizedAddress seat

  both : (seat : Option Seat) → IfSome seat IsShortSeat → IfSome seat HasSizedAddress → IfSome seat IsSeated
  both None p q = tt
  both (Some seat) p q = (p, q)

  seated : (name : List ℕ) → IfSome (seat_named (seats_of topo) name) IsSeated
  seated name = both (seat_named (seats_of topo) name) (seat_short topo name sound) (seat_sized topo name sound)

  standing_short : (seat : Seat) → IsSeated seat → IsShortStanding (input_count tr) (standing topo tr seat)
  standing_short seat is = record {
    name = is.0.name;
    sized = is.1;
    towards = (name_short topo.routers seat.router (all_routers topo sound), is.0.port);
    now = plain.time;
    next = plain.leaf seat.name;
    stop = plain.stops seat.name;
    halt = cond_both (is_guarded topo.parts seat.name) (armed_halt tr seat.name) None (λ o. IfSome o IsLowArming) (λ e. plain.halts seat.name) (λ e. tt);
    shut = in_force_short (now_of tr) (told_to tr seat.name) (plain.told seat.name);
  }

  sent_short : (seat : Option Seat) (to : Option Address) (packet : ℕ) (body : List ℕ) → IfSome seat IsSeated → IsShortOutcome (sent topo tr seat to packet body)
  sent_short None to packet body is = tt
  sent_short (Some seat) None packet body is = tt
  sent_short (Some seat) (Some to) packet body is =
      refused_or (IsShortReaction (input_count tr)) (nat_le (2 ^ 32) packet || nat_lt most_body (length body)) fault.Range _
      (λ e. put_short (input_count tr) (standing topo tr seat) (standing_short seat is) (frame_bytes (sent_frame to seat.address packet body))
      (brief_other (sent_frame to seat.address packet body) (λ e. cc)))

  raw_short : (seat : Option Seat) (bytes : List ℕ) → IfSome seat IsSeated → AreBrief bytes → IsShortOutcome (put_raw topo tr seat bytes)
  raw_short None bytes is brief = tt
  raw_short (Some seat) bytes is brief =
      allowed_or (IsShortReaction (input_count tr)) (can_be_put (length bytes)) fault.Range _
      (λ e. put_short (input_count tr) (standing topo tr seat) (standing_short seat is) bytes brief)

  at_place : (place : ℕ) (self : Option Router) (port : ℕ) (bytes : List ℕ) → IfSome self HasShortName → IsLow port → AreBrief bytes
      → IsShortReaction (input_count tr) (arrives_at_router topo tr place self port bytes)
  at_place place None port bytes name low brief = nothing_short (input_count tr)
  at_place place (Some self) port bytes name low brief =
      router_short (input_count tr) topo sound tr (record { place = place; self = self; port = port }) name low bytes brief

  at_port : (place : Option ℕ) (port : ℕ) (bytes : List ℕ) → IsLow port → AreBrief bytes → IsShortReaction (input_count tr) (arrives_at_port topo tr place port bytes)
  at_port None port bytes low brief = nothing_short (input_count tr)
  at_port (Some place) port bytes low brief =
      at_place place (slice_get topo.routers place) port bytes (placed_all HasShortName topo.routers place (all_routers topo sound)) low brief

  at_seat : (seat : Option Seat) (bytes : List ℕ) → IfSome seat IsSeated → AreBrief bytes → IsShortReaction (input_count tr) (arrives_at_seat topo tr seat bytes)
  at_seat None bytes is brief = nothing_short (input_count tr)
  at_seat (Some seat) bytes is brief = arrival_short (input_count tr) (standing topo tr seat) (standing_short seat is) bytes brief

  arrives_short : (to : Target) (bytes : List ℕ) → IsShortTarget to → AreBrief bytes → IsShortReaction (input_count tr) (arrives topo tr to bytes)
  arrives_short (target.Port name port) bytes is brief = at_port (place_of_router topo.routers name) port bytes is.1 brief
  arrives_short (target.Host name) bytes is brief = at_seat (seat_named (seats_of topo) name) bytes (seated name) brief

  delivered_short : (flight : Option Flight) → IfSome flight IsShortPut → IsShortOutcome (delivered topo tr flight)
  delivered_short None is = tt
  delivered_short (Some flight) is = arrives_short flight.target flight.bytes is.target is.brief

  injected_there : (place : Option ℕ) (to : Target) (port : ℕ) (bytes : List ℕ) → IsShortTarget to → AreBrief bytes → IsShortOutcome (injected_at_port topo place to port bytes)
  injected_there None to port bytes is brief = tt
  injected_there (Some place) to port bytes is brief =
      refused_or (IsShortReaction (input_count tr)) (nat_le (length (neighbours_of topo place)) port) fault.Range _
      (λ e. allowed_or (IsShortReaction (input_count tr)) (can_be_put (length bytes)) fault.Range _ (λ e. puts_short (input_count tr) to bytes is brief))

  injected_here : (seat : Option Seat) (to : Target) (bytes : List ℕ) → IsShortTarget to → AreBrief bytes → IsShortOutcome (injected_at_host seat to bytes)
  injected_here None to bytes is brief = tt
  injected_here (Some seat) to bytes is brief =
      allowed_or (IsShortReaction (input_count tr)) (can_be_put (length bytes)) fault.Range _ (λ e. puts_short (input_count tr) to bytes is brief)

  injected_short : (to : Target) (bytes : List ℕ) → IsTarget to → AreBrief bytes → IsShortOutcome (injected topo to bytes)
  injected_short (target.Port name port) bytes is brief =
      let low = is.1 in
      injected_there (place_of_router topo.routers name) (target.Port name port) port bytes (name_word name is.0, omega arith) brief
  injected_short (target.Host name) bytes is brief = injected_here (seat_named (seats_of topo) name) (target.Host name) bytes (name_word name is) brief

  shut_key_short : (seat : Seat) (named : Frame) (ttl : ℕ) (key : Option Key) → IsSeated seat → Fits named → ttl < 2 ^ 32 → IsShortOutcome (shut_with topo tr seat named ttl key)
  shut_key_short seat named ttl None is fits low = tt
  shut_key_short seat named ttl (Some key) is fits low = shut_short (input_count tr) (standing topo tr seat) (standing_short seat is) key named ttl fits low

  shut_frame_short : (seat : Seat) (named : Option Frame) (ttl : ℕ) → IsSeated seat → IfSome named Fits → IsShortOutcome (shut_named topo tr seat named ttl)
  shut_frame_short seat None ttl is fits = tt
  shut_frame_short seat (Some named) ttl is fits =
      refused_or (IsShortReaction (input_count tr)) (nat_le (2 ^ 32) ttl) fault.Range _
      (λ e. shut_key_short seat named ttl (key_named topo.parts seat.name) is fits (leb-false (2 ^ 32) ttl e))

  shut_off_short : (seat : Option Seat) (flight : Option Flight) (ttl : ℕ) → IfSome seat IsSeated → IsShortOutcome (shut_off topo tr seat flight ttl)
  shut_off_short None flight ttl is = tt
  shut_off_short (Some seat) flight ttl is = shut_frame_short seat (frame_in flight) ttl is (flight_fits flight)

  restarted_short : (seat : Option Seat) (router : Option ℕ) → IfSome seat IsSeated → IsShortOutcome (restarted topo tr seat router)
  restarted_short (Some seat) router is = restart_short (input_count tr) (standing topo tr seat) (standing_short seat is)
  restarted_short None (Some router) is = nothing_short (input_count tr)
  restarted_short None None is = tt

  relinked_short : (link : ℕ) → IsShortOutcome (relinked topo link)
  relinked_short link =
      allowed_or (IsShortReaction (input_count tr)) (nat_lt link (length (links_of topo))) fault.Range (Ok nothing) (λ e. nothing_short (input_count tr))

  armed_short : (seat : Option Seat) (call byte : ℕ) → IsShortOutcome (armed_with_stop topo seat call byte)
  armed_short None call byte = tt
  armed_short (Some seat) call byte =
      refused_or (IsShortReaction (input_count tr)) ((call == 0) || (nat_lt 2 call || nat_le 256 byte)) fault.Range _
      (λ e. allowed_or (IsShortReaction (input_count tr)) (has_key (key_named topo.parts seat.name)) fault.Keyless (Ok nothing) (λ e. nothing_short (input_count tr)))

  halted_short : (seat : Option Seat) (call byte : ℕ) → IsShortOutcome (armed_with_halt seat call byte)
  halted_short None call byte = tt
  halted_short (Some seat) call byte =
      refused_or (IsShortReaction (input_count tr)) ((call == 0) || (nat_lt 4 call || nat_le 256 byte)) fault.Range (Ok nothing) (λ e. nothing_short (input_count tr))

  published_short : (bytes : List ℕ) → IsBytes bytes → IsShortOutcome (published tr bytes)
  published_short bytes small =
      refused_or (IsShortReaction (input_count tr)) (nat_lt most_bytes (length bytes)) fault.Range (Ok (publishes (records_kept tr) bytes))
      (λ e. publication_short (input_count tr) (records_kept tr) bytes small)

  -- what comes of an input of the grammar
  pub outcome_short : (input : Input) → IsInput input → IsShortOutcome (outcome_of topo tr input)
  outcome_short (Tick ticks) is =
      refused_or (IsShortReaction (input_count tr)) ((ticks == 0) || nat_le (2 ^ 48) (now_of tr + ticks)) fault.Range (Ok nothing) (λ e. nothing_short (input_count tr))
  outcome_short (Send host node packet body) is = sent_short (seat_named (seats_of topo) host) (address_named topo node) packet body (seated host)
  outcome_short (Raw host bytes) is = raw_short (seat_named (seats_of topo) host) bytes (seated host) (brief_bytes bytes is.1)
  outcome_short (Deliver flight) is = delivered_short (flight_at tr flight) (placed_all IsShortPut (flights_of tr) flight plain.flights)
  outcome_short (Inject to bytes) is = injected_short to bytes is.0 (brief_bytes bytes is.1)
  outcome_short (Cut link) is = relinked_short link
  outcome_short (Mend link) is = relinked_short link
  outcome_short (Shutoff host flight ttl) is = shut_off_short (seat_named (seats_of topo) host) (flight_at tr flight) ttl (seated host)
  outcome_short (Restart node) is = restarted_short (seat_named (seats_of topo) node) (place_of_router topo.routers node) (seated node)
  outcome_short (Stop host call byte) is = armed_short (seat_named (seats_of topo) host) call byte
  outcome_short (Halt host call byte) is = halted_short (seat_named (seats_of topo) host) call byte
  outcome_short (Publish bytes) is = published_short bytes is

-- ## Inputs that aren't refused

module _ (topo : Topology) (tr : List Entry) where
  put_bytes : (test : Bool) (bytes : List ℕ) (outcome : Result Reaction StepFault) → test ≡ can_be_put (length bytes) → IfOk (cond test outcome (Err fault.Range)) (λ r. length bytes ≤ 9216)
  put_bytes test bytes outcome is =
      allowed_or (λ r. length bytes ≤ 9216) test fault.Range outcome (λ e. taken outcome (short_put (length bytes) (sym is ∙ e)))
    where
      taken : (o : Result Reaction StepFault) → length bytes ≤ 9216 → IfOk o (λ r. length bytes ≤ 9216)
      taken (Ok r) h = h
      taken (Err f) h = tt

  sent_bytes : (seat : Option Seat) (to : Option Address) (packet : ℕ) (body : List ℕ) → IfOk (sent topo tr seat to packet body) (λ r. length body ≤ 9216)
  sent_bytes None to packet body = tt
  sent_bytes (Some seat) None packet body = tt
  sent_bytes (Some seat) (Some to) packet body =
      refused_or (λ r. length body ≤ 9216) (nat_le (2 ^ 32) packet || nat_lt most_body (length body)) fault.Range _
      (λ e. let few : length body ≤ most_body = grind (arith, nat_tests) in omega arith)

  raw_bytes : (seat : Option Seat) (bytes : List ℕ) → IfOk (put_raw topo tr seat bytes) (λ r. length bytes ≤ 9216)
  raw_bytes None bytes = tt
  raw_bytes (Some seat) bytes = put_bytes (can_be_put (length bytes)) bytes _ refl

  injected_bytes : (place : Option ℕ) (to : Target) (port : ℕ) (bytes : List ℕ) → IfOk (injected_at_port topo place to port bytes) (λ r. length bytes ≤ 9216)
  injected_bytes None to port bytes = tt
  injected_bytes (Some place) to port bytes =
      refused_or (λ r. length bytes ≤ 9216) (nat_le (length (neighbours_of topo place)) port) fault.Range _ (λ e. put_bytes (can_be_put (length bytes)) bytes (Ok (puts to bytes)) refl)

  host_bytes : (seat : Option Seat) (to : Target) (bytes : List ℕ) → IfOk (injected_at_host seat to bytes) (λ r. length bytes ≤ 9216)
  host_bytes None to bytes = tt
  host_bytes (Some seat) to bytes = put_bytes (can_be_put (length bytes)) bytes (Ok (puts to bytes)) refl

  target_bytes : (to : Target) (bytes : List ℕ) → IfOk (injected topo to bytes) (λ r. length bytes ≤ 9216)
  target_bytes (target.Port name port) bytes = injected_bytes (place_of_router topo.routers name) (target.Port name port) port bytes
  target_bytes (target.Host name) bytes = host_bytes (seat_named (seats_of topo) name) (target.Host name) bytes

  -- what holds whatever comes of an input
  always : (P : Type 0) (outcome : Result Reaction StepFault) → P → IfOk outcome (λ r. P)
  always P (Ok r) h = h
  always P (Err f) h = tt

  -- the bytes that an input brings that isn't refused are few
  pub input_bytes : (input : Input) → IfOk (outcome_of topo tr input) (λ r. IsShortInput input)
  input_bytes (Send host node packet body) = sent_bytes (seat_named (seats_of topo) host) (address_named topo node) packet body
  input_bytes (Raw host bytes) = raw_bytes (seat_named (seats_of topo) host) bytes
  input_bytes (Inject to bytes) = target_bytes to bytes
  input_bytes (Publish bytes) =
      refused_or (λ r. length bytes ≤ 9216) (nat_lt most_bytes (length bytes)) fault.Range (Ok (publishes (records_kept tr) bytes)) (λ e. let few : length bytes ≤ most_bytes = grind (arith, nat_tests) in omega arith)
  input_bytes (Tick ticks) = always (Unit {0}) (outcome_of topo tr (Tick ticks)) tt
  input_bytes (Deliver flight) = always (Unit {0}) (outcome_of topo tr (Deliver flight)) tt
  input_bytes (Cut link) = always (Unit {0}) (outcome_of topo tr (Cut link)) tt
  input_bytes (Mend link) = always (Unit {0}) (outcome_of topo tr (Mend link)) tt
  input_bytes (Shutoff host flight ttl) = always (Unit {0}) (outcome_of topo tr (Shutoff host flight ttl)) tt
  input_bytes (Restart node) = always (Unit {0}) (outcome_of topo tr (Restart node)) tt
  input_bytes (Stop host call byte) = always (Unit {0}) (outcome_of topo tr (Stop host call byte)) tt
  input_bytes (Halt host call byte) = always (Unit {0}) (outcome_of topo tr (Halt host call byte)) tt
