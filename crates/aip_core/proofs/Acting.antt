-- One host or one router of many acts.
use Rattle.std.proofs.Common.{◌≡◌, ℕ, zero, suc, ◌<◌, ◌≤◌, List, [], ◌∷◌, length, map, set, get_or, Option, Some, None, Result, Ok, Err, refl, sym, ◌∙◌, ap, subst, arith}
use Rattle.std.specs.Prelude.{All, IfOk, OnOk, IfSome, slice_get, option_and_then, option_map, position}
use Rattle.std.specs.Str.{bytes_eq}
use Rattle.std.proofs.lemmas.List.{length-map, set-get_or}
use Rattle.std.proofs.lemmas.List.Elements.{All-cons, All-head, All-tail}
use Rattle.std.proofs.lemmas.Option.{slice_get_within, slice_get_read}
use Rattle.aip_addr.specs.declared.ids.Address.{Address}
use Rattle.aip_event.specs.declared.input.Input.{Input}
use Rattle.aip_event.specs.declared.input.Input.TheVariants.{Send, Raw, Deliver, Restart, Publish}
use Rattle.aip_event.specs.declared.input.Target.{Target}
use Rattle.aip_event.specs.declared.input.Target.TheVariants as target
use Rattle.aip_topo.specs.declared.topology.Router.{Router}
use Rattle.aip_topo.specs.declared.topology.Topology.{Topology}
use Rattle.aip_registry.specs.declared.records.Record.{Record}
use Rattle.aip_rules.specs.declared.Flight.{Flight}
use Rattle.aip_rules.specs.Nodes.{seats_of, address_named, place_of_router}
use Rattle.aip_rules.specs.Reaction.{nothing}
use Rattle.aip_rules.specs.Host.{back_up}
use Rattle.aip_host.specs.HostState.{HostState, standing_of}
use Rattle.aip_rules.specs.declared.Reaction.{Reaction}
use Rattle.aip_rules.specs.declared.Seat.{Seat}
use Rattle.aip_rules.specs.declared.StepFault.{StepFault}
use Rattle.aip_core.specs.declared.reactions.NoReaction.{NoReaction}
use Rattle.aip_core.specs.declared.reactions.NoReaction.TheVariants as no
use Rattle.aip_core.specs.Kept.{Kept}
use Rattle.std.specs.declared.alloc.AllocError.{AllocError as NoMemory}
use Rattle.aip_core.specs.Rooms.{IsBootedUpTo}
use Rattle.aip_core.specs.RouterMachine.{RouterState, after_place, kept_at_place}
use Rattle.aip_core.specs.Machine.{AreSeated, basis_in, seat_place, host_of, at_host_or, host_outcome, kept_sent, kept_raw, kept_delivered, kept_outcome, port_reached, router_reached, target_reached}
use Rattle.aip_core.specs.Moves.{Does, GoesOn, GoesToPort, HostMoves, IsAnew, Moved, MovesAt, RouterMoves, after_flight, after_target, host_at, host_touched, records_with, router_at, router_touched}
use Rattle.aip_core.proofs.Found.{beside}
use Rattle.aip_core.proofs.Positions.{position_passes}

-- what stands at a place that was set
set_count : {A : Type 0} (xs : List A) (k : ℕ) (y : A) → length (set xs k y) ≡ length xs
set_count [] k y = refl
set_count (x ∷ xs) zero y = refl
set_count (x ∷ xs) (suc k) y = ap suc (set_count xs k y)

set_here : {A : Type 0} (xs : List A) (k : ℕ) (y b : A) → slice_get (set xs k y) k ≡ Some b → y ≡ b
set_here [] k y b at = absurd cc
set_here (x ∷ xs) zero y b at = cc
set_here (x ∷ xs) (suc k) y b at = set_here xs k y b at

set_other : {A : Type 0} (xs : List A) (k n : ℕ) (y : A) → (k ≡ n → ⊥) → slice_get (set xs k y) n ≡ slice_get xs n
set_other [] k n y apart = refl
set_other (x ∷ xs) zero zero y apart = absurd (apart refl)
set_other (x ∷ xs) zero (suc n) y apart = refl
set_other (x ∷ xs) (suc k) zero y apart = refl
set_other (x ∷ xs) (suc k) (suc n) y apart = set_other xs k n y (λ e. apart (ap suc e))

-- what is read at a place stands there
pub read_at : {A : Type 0} (xs : List A) (k : ℕ) (x : A) → k < length xs → x ≡ get_or xs k x → slice_get xs k ≡ Some x
read_at xs k x low is = slice_get_read xs (length xs) k x refl low is

-- a list in which one thing moved where it stood
pub set_moves : (A : Type 0) (moves : A → A → Type 0) (xs : List A) (k : ℕ) (x y : A) → slice_get xs k ≡ Some x → moves x y → MovesAt A (Some k) moves xs (set xs k y)
set_moves A moves xs k x y at moved = record {
  count = set_count xs k y;
  here = λ n a b is before after.
      let same : k ≡ n = cc in
      let old : Some x ≡ Some a = sym at ∙ ap (λ i. slice_get xs i) same ∙ before in
      let was : x ≡ a = cc in
      let now : y ≡ b = set_here xs k y b (ap (λ i. slice_get (set xs k y) i) same ∙ after) in
      subst (λ (z : A). moves a z) now (subst (λ (z : A). moves z y) was moved);
  others = λ n apart. set_other xs k n y (λ e. apart (ap (λ i. Some i) e));
}

-- where one thing does so in its place, the list does
pub does_at : (A : Type 0) (outcome : Result Reaction StepFault) (moves : Reaction → A → A → Type 0) (xs : List A) (k : ℕ) (x y : A) (result : Result Reaction NoReaction)
    → slice_get xs k ≡ Some x → x ≡ get_or xs k x → Does outcome moves x result y
    → Does outcome (λ reaction old new. MovesAt A (Some k) (moves reaction) old new) xs result (set xs k y)
does_at A outcome moves xs k x y (Ok reaction) at is does = (does.0, set_moves A (moves reaction) xs k x y at does.1)
does_at A outcome moves xs k x y (Err (no.Fault f)) at is does =
    (does.0, ap (λ (z : A). set xs k z) (does.1 ∙ is) ∙ set-get_or xs k x)
does_at A outcome moves xs k x y (Err no.Memory) at is does = tt

-- what is so of all, once one is set of which it is so
pub all_set : {A : Type 0} (P : A → Type 0) (xs : List A) (k : ℕ) (y : A) → All P xs → ((x : A) → slice_get xs k ≡ Some x → P x → P y) → All P (set xs k y)
all_set P [] k y all next = all
all_set P (x ∷ xs) zero y all next = All-cons P y xs (next x refl (All-head P x xs all)) (All-tail P x xs all)
all_set P (x ∷ xs) (suc k) y all next = All-cons P x (set xs k y) (All-head P x xs all) (all_set P xs k y (All-tail P x xs all) next)

-- the place of a name is one of the hosts'
pub place_low : (seats : List Seat) (name : List ℕ) (place : Option ℕ) → place ≡ seat_place seats name → IfSome place (λ p. p < length seats)
place_low seats name None is = tt
place_low seats name (Some p) is =
    let found = position_passes (λ (s : Seat). bytes_eq s.name name) seats p (sym is) in
    slice_get_within seats p found.item found.there

-- ---- at a host

-- what a host does by an input that lets it send
pub send_acts : (topo : Topology) (flights : List Flight) (now : ℕ) (host new : HostState) (input : Input) (name node : List ℕ) (packet : ℕ) (body bytes : List ℕ) (to : Option Address) (result : Result Reaction NoReaction)
    → input ≡ Send name node packet body → to ≡ address_named topo node → bytes ≡ body → Does (kept_sent now host to packet bytes) (GoesOn now) host result new
    → Does (host_outcome topo flights now host input) (HostMoves now input) host result new
send_acts topo flights now host new input name node packet body bytes to result is found same does =
    subst (λ (i : Input). Does (host_outcome topo flights now host i) (HostMoves now i) host result new) (sym is)
    (subst (λ b. Does (kept_sent now host (address_named topo node) packet b) (GoesOn now) host result new) same
    (subst (λ (o : Option Address). Does (kept_sent now host o packet bytes) (GoesOn now) host result new) found does))

-- or to put bytes as they are
pub raw_acts : (topo : Topology) (flights : List Flight) (now : ℕ) (host new : HostState) (input : Input) (name given bytes : List ℕ) (result : Result Reaction NoReaction)
    → input ≡ Raw name given → bytes ≡ given → Does (kept_raw now host bytes) (GoesOn now) host result new
    → Does (host_outcome topo flights now host input) (HostMoves now input) host result new
raw_acts topo flights now host new input name given bytes result is same does =
    subst (λ (i : Input). Does (host_outcome topo flights now host i) (HostMoves now i) host result new) (sym is)
    (subst (λ b. Does (kept_raw now host b) (GoesOn now) host result new) same does)

-- or that starts it anew
pub restart_acts : (topo : Topology) (flights : List Flight) (now : ℕ) (host new : HostState) (input : Input) (node : List ℕ) (result : Result Reaction NoReaction)
    → input ≡ Restart node → Does (Ok (back_up (standing_of host now))) (λ reaction. IsAnew) host result new
    → Does (host_outcome topo flights now host input) (HostMoves now input) host result new
restart_acts topo flights now host new input node result is does =
    subst (λ (i : Input). Does (host_outcome topo flights now host i) (HostMoves now i) host result new) (sym is) does

-- ---- in a core

flight_touches : (topo : Topology) (flight : Option Flight) (p : ℕ) → option_and_then (λ name. seat_place (seats_of topo) name) (option_and_then (λ f. host_at f.target) flight) ≡ Some p
    → option_and_then (λ name. place_of_router topo.routers name) (option_and_then (λ f. router_at f.target) flight) ≡ None
flight_touches topo None p touched = refl
flight_touches topo (Some flight) p touched = by_target flight.target touched where
  by_target : (to : Target) → option_and_then (λ name. seat_place (seats_of topo) name) (host_at to) ≡ Some p → option_and_then (λ name. place_of_router topo.routers name) (router_at to) ≡ None
  by_target (target.Host name) touched = refl
  by_target (target.Port name port) touched = absurd cc

-- an input that reaches a host reaches no router
host_or_router : (topo : Topology) (flights : List Flight) (input : Input) (p : ℕ) → host_touched topo flights input ≡ Some p → router_touched topo flights input ≡ None
host_or_router topo flights (Deliver flight) p touched = flight_touches topo (slice_get flights flight) p touched
host_or_router topo flights input p touched = refl

-- where no place is one that moves, all stays
pub none_moves : (A : Type 0) (place : Option ℕ) (moves : A → A → Type 0) (xs : List A) → place ≡ None → MovesAt A place moves xs xs
none_moves A place moves xs none = record {
  count = refl;
  here = λ n a b is before after. absurd (let no : None ≡ Some n = sym none ∙ is in cc);
  others = λ n apart. refl;
}

-- an input that reaches a host publishes nothing
host_publishes_nothing : (topo : Topology) (flights : List Flight) (input : Input) (p : ℕ) (records : List Record) → host_touched topo flights input ≡ Some p → records ≡ records_with input records
host_publishes_nothing topo flights (Publish bytes) p records touched = absurd cc
host_publishes_nothing topo flights input p records touched = refl

does_in : (kept next : Kept) (input : Input) (outcome : Result Reaction StepFault) (p : ℕ) (result : Result Reaction NoReaction) → next ≡ record kept { hosts = next.hosts }
    → host_touched kept.topo kept.flights input ≡ Some p
    → Does outcome (λ reaction old new. MovesAt HostState (Some p) (HostMoves kept.ticks input reaction) old new) kept.hosts result next.hosts
    → Does outcome (λ reaction old new. Moved old input reaction new) kept result next
does_in kept next input outcome p (Ok reaction) is touched does = (
  does.0,
  record {
    topo = ap (λ (k : Kept). k.topo) is;
    links = ap (λ (k : Kept). k.links) is;
    flights = ap (λ (k : Kept). k.flights) is;
    records = ap (λ (k : Kept). k.records) is ∙ host_publishes_nothing kept.topo kept.flights input p kept.records touched;
    ticks = ap (λ (k : Kept). k.ticks) is;
    inputs = ap (λ (k : Kept). k.inputs) is;
    hosts = subst (λ (o : Option ℕ). MovesAt HostState o (HostMoves kept.ticks input reaction) kept.hosts next.hosts) (sym touched) does.1;
    routers = subst (λ (rs : List RouterState). MovesAt RouterState (router_touched kept.topo kept.flights input) (RouterMoves kept (router_touched kept.topo kept.flights input) input) kept.routers rs)
        (sym (ap (λ (k : Kept). k.routers) is))
        (none_moves RouterState (router_touched kept.topo kept.flights input) (RouterMoves kept (router_touched kept.topo kept.flights input) input) kept.routers
        (host_or_router kept.topo kept.flights input p touched));
  },
)
does_in kept next input outcome p (Err (no.Fault f)) is touched does = (does.0, is ∙ ap (λ (hs : List HostState). record kept { hosts = hs }) does.1)
does_in kept next input outcome p (Err no.Memory) is touched does = tt

-- where the host at a place acts, the core moves
pub acts_in_core : (inside kept next : Kept) (input : Input) (place : ℕ) (result : Result Reaction NoReaction) (host : HostState) → inside ≡ kept → next ≡ record inside { hosts = next.hosts }
    → host_touched kept.topo kept.flights input ≡ Some place → slice_get kept.hosts place ≡ Some host
    → (slice_get inside.hosts place ≡ Some host
    → Does (host_outcome inside.topo inside.flights inside.ticks host input) (λ reaction old new. MovesAt HostState (Some place) (HostMoves inside.ticks input reaction) old new) inside.hosts result next.hosts)
    → Does (host_outcome kept.topo kept.flights kept.ticks host input) (λ reaction old new. Moved old input reaction new) kept result next
acts_in_core inside kept next input place result host same is touched at does =
    subst (λ (k : Kept). host_touched k.topo k.flights input ≡ Some place → slice_get k.hosts place ≡ Some host
    → Does (host_outcome k.topo k.flights k.ticks host input) (λ reaction old new. Moved old input reaction new) k result next) same
    (λ here there. does_in inside next input (host_outcome inside.topo inside.flights inside.ticks host input) place result is here (does there)) touched at

-- there are as many hosts as seats
pub seated_count : (topo : Topology) (hosts : List HostState) → AreSeated topo hosts → length hosts ≡ length (seats_of topo)
seated_count topo hosts seated = sym (length-map hosts (λ host. host.seat)) ∙ ap (λ (ss : List Seat). length ss) seated

-- hosts of which one is set, at the seat where it stood, stand where they stood
pub set_seated : (hosts : List HostState) (k : ℕ) (host new : HostState) → host ≡ get_or hosts k host → new.seat ≡ host.seat → map (λ h. h.seat) (set hosts k new) ≡ map (λ h. h.seat) hosts
set_seated [] k host new is same = refl
set_seated (h ∷ hosts) zero host new is same = ap (λ (s : Seat). s ∷ map (λ h. h.seat) hosts) (same ∙ ap (λ (x : HostState). x.seat) is)
set_seated (h ∷ hosts) (suc k) host new is same = ap (λ (ss : List Seat). h.seat ∷ ss) (set_seated hosts k host new is same)

-- what is at the place of a name is what is kept of the host of the name
pub named_acts : (kept next : Kept) (input : Input) (name : List ℕ) (place : ℕ) (other : Result Reaction StepFault) (result : Result Reaction NoReaction)
    → length kept.hosts ≡ length (seats_of kept.topo) → seat_place (seats_of kept.topo) name ≡ Some place
    → ((host : HostState) → slice_get kept.hosts place ≡ Some host
    → Does (host_outcome kept.topo kept.flights kept.ticks host input) (λ reaction old new. Moved old input reaction new) kept result next)
    → Does (at_host_or other kept input (host_of kept name)) (λ reaction old new. Moved old input reaction new) kept result next
named_acts kept next input name place other result count named does =
    let seat = position_passes (λ (s : Seat). bytes_eq s.name name) (seats_of kept.topo) place named in
    let host = beside (seats_of kept.topo) kept.hosts place seat.item count seat.there in
    let found : host_of kept name ≡ Some host.0 = ap (λ (o : Option ℕ). option_and_then (λ n. slice_get kept.hosts n) o) named ∙ host.1 in
    subst (λ (h : Option HostState). Does (at_host_or other kept input h) (λ reaction old new. Moved old input reaction new) kept result next) (sym found) (does host.0 host.1)

-- what a core that moves by a flight to a host does
pub host_delivered : (kept next : Kept) (input : Input) (number : ℕ) (name : List ℕ) (flight : Option Flight) (result : Result Reaction NoReaction) → input ≡ Deliver number → slice_get kept.flights number ≡ flight
    → option_map (λ f. f.target) flight ≡ Some (target.Host name)
    → Does (at_host_or (Ok nothing) kept input (host_of kept name)) (λ reaction old new. Moved old input reaction new) kept result next
    → Does (kept_outcome kept input) (λ reaction old new. Moved old input reaction new) kept result next
host_delivered kept next input number name None result is put to does = absurd cc
host_delivered kept next input number name (Some flight) result is put to does =
    let goes : flight.target ≡ target.Host name = cc in
    subst (λ (i : Input). Does (kept_outcome kept i) (λ reaction old new. Moved old i reaction new) kept result next) (sym is)
    (subst (λ (o : Option Flight). Does (kept_delivered kept (Deliver number) o) (λ reaction old new. Moved old (Deliver number) reaction new) kept result next) (sym put)
    (subst (λ (t : Target). Does (target_reached kept (Deliver number) t flight.bytes) (λ reaction old new. Moved old (Deliver number) reaction new) kept result next) (sym goes)
    (subst (λ (i : Input). Does (at_host_or (Ok nothing) kept i (host_of kept name)) (λ reaction old new. Moved old i reaction new) kept result next) is does)))

-- ---- at a router

-- what a router reacts with where it stands
pub reacts_at : (result : Result Reaction NoMemory) (xs : List RouterState) (k : ℕ) (x : RouterState) (react : RouterState → Reaction) → slice_get xs k ≡ Some x
    → IfOk result (λ reaction. reaction ≡ react x) → IfOk result (λ reaction. (state : RouterState) → slice_get xs k ≡ Some state → reaction ≡ react state)
reacts_at (Ok reaction) xs k x react at h = λ state there. let some : Some x ≡ Some state = sym at ∙ there in let same : x ≡ state = cc in h ∙ ap react same
reacts_at (Err e) xs k x react at h = tt

-- the routers move where one did
pub moves_at : (result : Result Reaction NoMemory) (xs : List RouterState) (k : ℕ) (x y : RouterState) (after : RouterState → RouterState) → slice_get xs k ≡ Some x
    → OnOk result (y ≡ after x) → OnOk result (MovesAt RouterState (Some k) (λ old new. new ≡ after old) xs (set xs k y))
moves_at (Ok reaction) xs k x y after at h = set_moves RouterState (λ old new. new ≡ after old) xs k x y at h
moves_at (Err e) xs k x y after at h = tt

-- no router was started anew more often, where the one that is set wasn't
pub boots_at : (n : ℕ) (xs : List RouterState) (k : ℕ) (x y : RouterState) → slice_get xs k ≡ Some x → y.boot ≡ x.boot → All (IsBootedUpTo n) xs → All (IsBootedUpTo n) (set xs k y)
boots_at n xs k x y at same all =
    all_set (IsBootedUpTo n) xs k y all (λ z there low.
    let some : Some x ≡ Some z = sym at ∙ there in
    let is : x ≡ z = cc in
    let boot : y.boot ≡ z.boot = same ∙ ap (λ (s : RouterState). s.boot) is in
    omega arith)

-- an outcome that is a reaction
abbrev given : Reaction → Result Reaction StepFault
given reaction = Ok reaction

-- a flight crosses a router: the core moves by what the router does
crosses : (kept next : Kept) (number place port : ℕ) (flight : Flight) (state : RouterState) (reaction : Reaction) (name : List ℕ)
    → next ≡ record kept { routers = next.routers } → slice_get kept.flights number ≡ Some flight → flight.target ≡ target.Port name port
    → place_of_router kept.topo.routers name ≡ Some place → slice_get kept.routers place ≡ Some state
    → reaction ≡ kept_at_place (basis_in kept state) place (slice_get kept.topo.routers place) port flight.bytes
    → MovesAt RouterState (Some place) (λ old new. new ≡ after_place (basis_in kept old) place (slice_get kept.topo.routers place) port flight.bytes) kept.routers next.routers
    → (kept_outcome kept (Deliver number) ≡ Ok reaction) × Moved kept (Deliver number) reaction next
crosses kept next number place port flight state reaction name is put goes named at reacts moves =
    let reached : kept_outcome kept (Deliver number) ≡ Ok (router_reached kept place port flight.bytes (Some state)) =
    ap (λ (o : Option Flight). kept_delivered kept (Deliver number) o) put
    ∙ ap (λ (t : Target). target_reached kept (Deliver number) t flight.bytes) goes
    ∙ ap (λ (o : Option ℕ). given (port_reached kept o port flight.bytes)) named
    ∙ ap (λ (o : Option RouterState). given (router_reached kept place port flight.bytes o)) at in
    let touched : router_touched kept.topo kept.flights (Deliver number) ≡ Some place =
    ap (λ (o : Option Flight). option_and_then (λ n. place_of_router kept.topo.routers n) (option_and_then (λ f. router_at f.target) o)) put
    ∙ ap (λ (t : Target). option_and_then (λ n. place_of_router kept.topo.routers n) (router_at t)) goes ∙ named in
    let unreached : host_touched kept.topo kept.flights (Deliver number) ≡ None =
    ap (λ (o : Option Flight). option_and_then (λ n. seat_place (seats_of kept.topo) n) (option_and_then (λ f. host_at f.target) o)) put
    ∙ ap (λ (t : Target). option_and_then (λ n. seat_place (seats_of kept.topo) n) (host_at t)) goes in
    let after : (s : RouterState) → after_place (basis_in kept s) place (slice_get kept.topo.routers place) port flight.bytes ≡ after_flight kept place s (slice_get kept.flights number) =
    λ s. sym (ap (λ (o : Option Flight). after_flight kept place s o) put ∙ ap (λ (t : Target). after_target kept place s t flight.bytes) goes) in (
      reached ∙ ap given (sym reacts),
      record {
        topo = ap (λ (k : Kept). k.topo) is;
        links = ap (λ (k : Kept). k.links) is;
        flights = ap (λ (k : Kept). k.flights) is;
        records = ap (λ (k : Kept). k.records) is;
        ticks = ap (λ (k : Kept). k.ticks) is;
        inputs = ap (λ (k : Kept). k.inputs) is;
        hosts = subst (λ (hs : List HostState). MovesAt HostState (host_touched kept.topo kept.flights (Deliver number)) (HostMoves kept.ticks (Deliver number) reaction) kept.hosts hs)
            (sym (ap (λ (k : Kept). k.hosts) is))
            (none_moves HostState (host_touched kept.topo kept.flights (Deliver number)) (HostMoves kept.ticks (Deliver number) reaction) kept.hosts unreached);
        routers = subst (λ (o : Option ℕ). MovesAt RouterState o (RouterMoves kept o (Deliver number)) kept.routers next.routers) (sym touched) (record {
          count = moves.count;
          here = λ n a b same before behind. moves.here n a b same before behind ∙ after a;
          others = moves.others;
        });
      },
    )

-- the same of a core whose inside is told
pub crosses_in_core : (inside kept next : Kept) (number place port : ℕ) (flight : Flight) (reaction : Reaction) → inside ≡ kept → next ≡ record inside { routers = next.routers }
    → length kept.routers ≡ length kept.topo.routers → router_touched kept.topo kept.flights (Deliver number) ≡ Some place → GoesToPort (slice_get kept.flights number) port
    → slice_get inside.flights number ≡ Some flight
    → ((state : RouterState) → slice_get inside.routers place ≡ Some state
    → reaction ≡ kept_at_place (basis_in inside state) place (slice_get inside.topo.routers place) port flight.bytes)
    → MovesAt RouterState (Some place) (λ old new. new ≡ after_place (basis_in inside old) place (slice_get inside.topo.routers place) port flight.bytes) inside.routers next.routers
    → (kept_outcome kept (Deliver number) ≡ Ok reaction) × Moved kept (Deliver number) reaction next
crosses_in_core inside kept next number place port flight reaction same is count touched port_is put reacts moves =
    subst (λ (k : Kept). length k.routers ≡ length k.topo.routers → router_touched k.topo k.flights (Deliver number) ≡ Some place → GoesToPort (slice_get k.flights number) port
    → (kept_outcome k (Deliver number) ≡ Ok reaction) × Moved k (Deliver number) reaction next) same
    (λ counts reached goes. here counts reached goes) count touched port_is where
      here : length inside.routers ≡ length inside.topo.routers → router_touched inside.topo inside.flights (Deliver number) ≡ Some place → GoesToPort (slice_get inside.flights number) port
          → (kept_outcome inside (Deliver number) ≡ Ok reaction) × Moved inside (Deliver number) reaction next
      here counts reached goes =
          let goal_port : option_map (λ (f : Flight). f.target) (Some flight) ≡ Some (target.Port goes.0 port) = ap (λ (o : Option Flight). option_map (λ f. f.target) o) (sym put) ∙ goes.1 in
          let to : flight.target ≡ target.Port goes.0 port = cc in
          let named : place_of_router inside.topo.routers goes.0 ≡ Some place =
          sym (ap (λ (o : Option Flight). option_and_then (λ n. place_of_router inside.topo.routers n) (option_and_then (λ f. router_at f.target) o)) put
          ∙ ap (λ (t : Target). option_and_then (λ n. place_of_router inside.topo.routers n) (router_at t)) to) ∙ reached in
          let self = position_passes (λ (r : Router). bytes_eq r.name goes.0) inside.topo.routers place named in
          let state = beside inside.topo.routers inside.routers place self.item counts self.there in
          crosses inside next number place port flight state.0 reaction goes.0 is put to named state.1 (reacts state.0 state.1) moves

-- ---- by the input

-- an input that names a host comes to what the host of the name does
pub named_outcome : (kept next : Kept) (input same : Input) (host : List ℕ) (other : Result Reaction StepFault) (result : Result Reaction NoReaction) → input ≡ same
    → kept_outcome kept same ≡ at_host_or other kept same (host_of kept host)
    → Does (at_host_or other kept input (host_of kept host)) (λ reaction old new. Moved old input reaction new) kept result next
    → Does (kept_outcome kept input) (λ reaction old new. Moved old input reaction new) kept result next
named_outcome kept next input same host other result is outcome does =
    let here : kept_outcome kept input ≡ at_host_or other kept input (host_of kept host) =
    subst (λ (i : Input). kept_outcome kept i ≡ at_host_or other kept i (host_of kept host)) (sym is) outcome in
    subst (λ (o : Result Reaction StepFault). Does o (λ reaction old new. Moved old input reaction new) kept result next) (sym here) does
