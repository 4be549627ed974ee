-- What a core keeps once it took an input. Nothing above this crate reads these.
use Rattle.std.specs.Prelude.{◌≡◌, ℕ, ◌+◌, ◌<◌, ⊤, Bool, true, false, zero, suc, List, [], ◌∷◌, ◌++◌, length, slice_get, option_and_then, option_map, Option, Some, None, Result, Ok, Err}
use Rattle.aip_event.specs.declared.event.Event.{Event}
use Rattle.aip_event.specs.declared.input.Input.{Input}
use Rattle.aip_event.specs.declared.input.Input.TheVariants.{Tick, Send, Raw, Deliver, Inject, Cut, Mend, Shutoff, Restart, Stop, Halt, Publish}
use Rattle.aip_event.specs.declared.input.Target.{Target}
use Rattle.aip_event.specs.declared.input.Target.TheVariants as target
use Rattle.aip_topo.specs.declared.topology.Topology.{Topology}
use Rattle.domain_routes.specs.declared.Edge.{Edge}
use Rattle.aip_registry.specs.declared.records.Record.{Record}
use Rattle.aip_registry.specs.Kept.{after as after_publication}
use Rattle.aip_rules.specs.declared.Flight.{Flight}
use Rattle.aip_rules.specs.declared.Reaction.{Reaction}
use Rattle.aip_rules.specs.declared.StepFault.{StepFault}
use Rattle.aip_rules.specs.State.{ticks_of}
use Rattle.aip_rules.specs.Nodes.{links_of, seats_of, place_of_router}
use Rattle.aip_rules.specs.Reaction.{numbered, in_put}
use Rattle.aip_rules.specs.Step.{has_key}
use Rattle.aip_host.specs.HostState.{HostState, key_in}
use Rattle.aip_host.specs.After.{Follows, IsRestarted, halted_in, stopped_in}
use Rattle.aip_host.specs.StandsFor.{DisksServe}
use Rattle.aip_rules.specs.declared.Arming.{Arming}
use Rattle.aip_core.specs.declared.reactions.NoReaction.{NoReaction}
use Rattle.aip_core.specs.declared.reactions.NoReaction.TheVariants as no
use Rattle.aip_core.specs.Kept.{Kept}
use Rattle.aip_core.specs.Machine.{basis_in, seat_place, kept_reaction}
use Rattle.aip_core.specs.RouterMachine.{RouterState, after_place, started_anew}

-- how one thing becomes another by an outcome: it moves by the reaction, or a fault leaves it as it was; of what is left where
-- memory is wanting nothing is said
abbrev pub Does : {A : Type 0} → Result Reaction StepFault → (Reaction → A → A → Type 0) → A → Result Reaction NoReaction → A → Type 0
Does outcome moves old (Ok reaction) new = (outcome ≡ Ok reaction) × moves reaction old new
Does outcome moves old (Err (no.Fault f)) new = (outcome ≡ Err f) × (new ≡ old)
Does outcome moves old (Err no.Memory) new = ⊤

-- one list follows another: it is as long, what stood at this place moves so, and all else stays
pub record MovesAt (A : Type 0) (place : Option ℕ) (moves : A → A → Type 0) (old new : List A) : Type 0 where
  pub count : length new ≡ length old
  pub here : (n : ℕ) (a b : A) → place ≡ Some n → slice_get old n ≡ Some a → slice_get new n ≡ Some b → moves a b
  pub others : (n : ℕ) → (place ≡ Some n → ⊥) → slice_get new n ≡ slice_get old n

-- ---- hosts

-- the name of the host that a target is
abbrev pub host_at : Target → Option (List ℕ)
host_at (target.Host name) = Some name
host_at (target.Port name port) = None

-- the name of the host that an input lets act, stops, halts or restarts
abbrev pub host_named_by : List Flight → Input → Option (List ℕ)
host_named_by flights (Send host node packet body) = Some host
host_named_by flights (Raw host bytes) = Some host
host_named_by flights (Deliver flight) = option_and_then (λ f. host_at f.target) (slice_get flights flight)
host_named_by flights (Shutoff host flight ttl) = Some host
host_named_by flights (Restart node) = Some node
host_named_by flights (Stop host call byte) = Some host
host_named_by flights (Halt host call byte) = Some host
host_named_by flights (Tick ticks) = None
host_named_by flights (Inject to bytes) = None
host_named_by flights (Cut link) = None
host_named_by flights (Mend link) = None
host_named_by flights (Publish bytes) = None

-- the place of that host
abbrev pub host_touched : Topology → List Flight → Input → Option ℕ
host_touched topo flights input = option_and_then (λ name. seat_place (seats_of topo) name) (host_named_by flights input)

-- a host goes on with a reaction at a time, and its disks serve
pub record GoesOn (now : ℕ) (reaction : Reaction) (old new : HostState) : Type 0 where
  pub follows : Follows now old reaction new
  pub disks : DisksServe new

-- a host with a key has a stop armed, and its disks serve
pub record IsStopped (arming : Arming) (old new : HostState) : Type 0 where
  pub keyed : has_key (key_in old.key) ≡ true
  pub stopped : new ≡ record old { key = stopped_in old.key arming }
  pub disks : DisksServe new

-- the guard of a host, if it has one, has a halt armed, and its disks serve
pub record IsHalted (arming : Arming) (old new : HostState) : Type 0 where
  pub halted : new ≡ record old { guard = halted_in old.guard arming }
  pub disks : DisksServe new

-- a host started anew, and its disks serve
pub record IsAnew (old new : HostState) : Type 0 where
  pub anew : IsRestarted old new
  pub disks : DisksServe new

-- how the host that an input names goes on with a reaction at a time
abbrev pub HostMoves : ℕ → Input → Reaction → HostState → HostState → Type 0
HostMoves now (Stop host call byte) reaction old new = IsStopped (record { call = call; byte = byte }) old new
HostMoves now (Halt host call byte) reaction old new = IsHalted (record { call = call; byte = byte }) old new
HostMoves now (Restart node) reaction old new = IsAnew old new
HostMoves now _ reaction old new = GoesOn now reaction old new

-- ---- routers

-- the name of the router whose port a target is
abbrev pub router_at : Target → Option (List ℕ)
router_at (target.Host name) = None
router_at (target.Port name port) = Some name

-- the flight goes to this port of a router
abbrev pub GoesToPort : Option Flight → ℕ → Type 0
GoesToPort flight port = (name : List ℕ) × (option_map (λ f. f.target) flight ≡ Some (target.Port name port))

-- the place of the router that a delivery reaches
abbrev pub router_touched : Topology → List Flight → Input → Option ℕ
router_touched topo flights (Deliver flight) =
    option_and_then (λ name. place_of_router topo.routers name) (option_and_then (λ f. router_at f.target) (slice_get flights flight))
router_touched topo flights _ = None

-- what a router keeps once bytes came to a target that is one of its ports
abbrev pub after_target : Kept → ℕ → RouterState → Target → List ℕ → RouterState
after_target kept place state (target.Host name) bytes = state
after_target kept place state (target.Port name port) bytes =
    after_place (basis_in kept state) place (slice_get kept.topo.routers place) port bytes

-- what the router at a place keeps once a flight reached it
abbrev pub after_flight : Kept → ℕ → RouterState → Option Flight → RouterState
after_flight kept place state None = state
after_flight kept place state (Some flight) = after_target kept place state flight.target flight.bytes

-- how the router that a delivery reaches goes on
abbrev pub RouterMoves : Kept → Option ℕ → Input → RouterState → RouterState → Type 0
RouterMoves kept (Some place) (Deliver flight) old new = new ≡ after_flight kept place old (slice_get kept.flights flight)
RouterMoves kept place _ old new = ⊤

-- what the routers keep with the one at a place started anew
abbrev pub anew_at : List RouterState → ℕ → List RouterState
anew_at [] place = []
anew_at (state ∷ states) zero = started_anew state ∷ states
anew_at (state ∷ states) (suc place) = state ∷ anew_at states place

-- the same where there is a place
abbrev pub anew_if : List RouterState → Option ℕ → List RouterState
anew_if states None = states
anew_if states (Some place) = anew_at states place

-- the place of the router of this name, unless a host has it
abbrev pub router_unless : Option ℕ → Option ℕ → Option ℕ
router_unless None router = router
router_unless (Some host) router = None

-- what the routers keep once an input started one anew, if it does
abbrev pub routers_with : Topology → Input → List RouterState → List RouterState
routers_with topo (Restart node) states = anew_if states (router_unless (seat_place (seats_of topo) node) (place_of_router topo.routers node))
routers_with topo _ states = states

-- ---- records

-- the records that are kept once an input published one, if it does
abbrev pub records_with : Input → List Record → List Record
records_with (Publish bytes) records = after_publication records bytes
records_with _ records = records

-- ---- the whole

-- a core moves by a reaction: one host or one router at most goes on, the records are those with what the input published,
-- and all else stays
pub record Moved (kept : Kept) (input : Input) (reaction : Reaction) (next : Kept) : Type 0 where
  pub topo : next.topo ≡ kept.topo
  pub links : next.links ≡ kept.links
  pub flights : next.flights ≡ kept.flights
  pub records : next.records ≡ records_with input kept.records
  pub ticks : next.ticks ≡ kept.ticks
  pub inputs : next.inputs ≡ kept.inputs
  pub hosts : MovesAt HostState (host_touched kept.topo kept.flights input) (HostMoves kept.ticks input reaction) kept.hosts next.hosts
  pub routers : MovesAt RouterState (router_touched kept.topo kept.flights input) (RouterMoves kept (router_touched kept.topo kept.flights input) input) kept.routers next.routers

-- the links with link l up or cut
abbrev pub with_link : List Edge → ℕ → Bool → List Edge
with_link [] l up = []
with_link (e ∷ es) zero up = record e { up = up } ∷ es
with_link (e ∷ es) (suc l) up = e ∷ with_link es l up

-- the links with the one that an input cuts or mends
abbrev pub links_with : Input → List Edge → List Edge
links_with (Cut link) links = with_link links link false
links_with (Mend link) links = with_link links link true
links_with _ links = links

-- what is kept once an input was taken whose reaction came
abbrev pub kept_after : Kept → Input → Reaction → Kept
kept_after kept input reaction =
    record {
      topo = kept.topo;
      links = links_with input kept.links;
      flights = kept.flights ++ in_put reaction.put;
      hosts = kept.hosts;
      routers = routers_with kept.topo input kept.routers;
      records = kept.records;
      ticks = kept.ticks + ticks_of input;
      inputs = kept.inputs + 1;
    }

-- these are the events of a step, and this is what is kept after it
pub record IsKeptStep (kept : Kept) (input : Input) (next : Kept) (told : List Event) : Type 0 where
  pub reaction : Reaction
  pub given : kept_reaction kept input ≡ Ok reaction
  pub core : Kept
  pub moved : Moved kept input reaction core
  pub after : next ≡ kept_after core input reaction
  pub events : told ≡ numbered (length kept.flights) reaction

-- the link that an input cuts or mends is one of the first n
abbrev pub LinkIsThere : ℕ → Input → Type 0
LinkIsThere n (Cut link) = link < n
LinkIsThere n (Mend link) = link < n
LinkIsThere n _ = ⊤
