-- Laws of the rules: what holds of every trace.
use Rattle.std.specs.Prelude.{◌≡◌, ◌≢◌, ◌↔◌, ℕ, ◌≤◌, ◌<◌, Bool, true, List, [], ◌∷◌, ◌++◌, length, slice_get, All, IfOk, Some}
use Rattle.aip_addr.specs.declared.ids.Id.{Id}
use Rattle.aip_addr.specs.declared.ids.Address.{Address}
use Rattle.aip_event.specs.declared.event.Cause.TheVariants as cause
use Rattle.aip_event.specs.declared.event.Event.{Event}
use Rattle.aip_event.specs.declared.input.Input.{Input}
use Rattle.aip_topo.specs.declared.topology.Router.{Router}
use Rattle.aip_topo.specs.declared.topology.Topology.{Topology}
use Rattle.aip_topo.specs.Sound.{IsSound}
use Rattle.aip_registry.specs.declared.records.Record.{Record}
use Rattle.aip_registry.specs.declared.records.RecordKind.TheVariants.{Peer}
use Rattle.aip_registry.specs.Kept.{kept_on}
use Rattle.aip_rules.specs.declared.Entry.{Entry}
use Rattle.aip_rules.specs.declared.Flight.{Flight}
use Rattle.aip_rules.specs.declared.Neighbour.TheVariants.{Link}
use Rattle.aip_rules.specs.declared.Verdict.TheVariants.{Forwards}
use Rattle.aip_rules.specs.State.{flight_in, now_of}
use Rattle.aip_rules.specs.Nodes.{neighbour_at}
use Rattle.aip_rules.specs.Records.{records_kept}
use Rattle.aip_rules.specs.Router.{Arrival, verdict_at}
use Rattle.aip_rules.specs.Promises.{HasPeer}
use Rattle.aip_rules.specs.Step.{most_bytes, step_of}

-- the flights that these events put, in their order
abbrev pub flights_put : List Event → List Flight
flights_put [] = []
flights_put (event ∷ events) = flight_in event ++ flights_put events

-- the flight has no more bytes than can be put at once
abbrev pub IsShort : Flight → Type 0
IsShort flight = length flight.bytes ≤ most_bytes

-- at most one of the events is a put, and its bytes are at most 9,216
pub record PutAtMostOne (events : List Event) : Type 0 where
  pub one : length (flights_put events) ≤ 1
  pub short : All IsShort (flights_put events)

-- on a sound topology an input puts at most one flight, of at most 9,216 bytes, whatever came before it
abbrev pub InputsPutAtMostOne : Type 0
InputsPutAtMostOne =
    (topo : Topology) → IsSound topo → (tr : List Entry) (input : Input) → IfOk (step_of topo tr input) PutAtMostOne

-- a peering record of one domain for another is kept on a trace, and in force
pub record IsPeeringKept (tr : List Entry) (own other : Id) : Type 0 where
  pub peering : Record
  pub kept : kept_on Peer own other (records_kept tr) ≡ Some peering
  pub in_force : now_of tr < peering.until

-- at a port of a router a link lies whose end here is marked or not, and another router at the other end
pub record AreNeighbours (topo : Topology) (at : Arrival) (neighbour : Router) (marked : Bool) : Type 0 where
  pub here : slice_get topo.routers at.place ≡ Some at.self
  pub other : ℕ
  pub far : ℕ
  pub link : neighbour_at topo at.place at.port ≡ Some (Link other far marked)
  pub there : slice_get topo.routers other ≡ Some neighbour

-- on a trace the verdict on a source, whichever it is, is to forward since the neighbour is trusted
abbrev pub IsTrustedAt : Topology → List Entry → Arrival → Address → Type 0
IsTrustedAt topo tr at source = verdict_at topo tr at source ≡ Forwards cause.Trusted

-- whom a router trusts at a port on a trace: a neighbour of its own domain exactly where its link end is marked; one of
-- another domain exactly where the end is marked and a peering record of the router's domain for it is kept and in force,
-- which is where the router's domain holds it for its peer
pub record TrustsRightly (topo : Topology) (tr : List Entry) (at : Arrival) (neighbour : Router) (marked : Bool) (source : Address) : Type 0 where
  pub own : neighbour.domain ≡ at.self.domain → IsTrustedAt topo tr at source ↔ (marked ≡ true)
  pub kept : neighbour.domain ≢ at.self.domain → IsTrustedAt topo tr at source ↔ ((marked ≡ true) × IsPeeringKept tr at.self.address.ad neighbour.address.ad)
  pub peer : neighbour.domain ≢ at.self.domain → IsTrustedAt topo tr at source ↔ ((marked ≡ true) × HasPeer tr at.self.address.ad neighbour.address.ad)

-- on every trace over a sound topology each router trusts its neighbours rightly
abbrev pub NeighboursAreTrustedRightly : Type 0
NeighboursAreTrustedRightly =
    (topo : Topology) → IsSound topo → (tr : List Entry) (at : Arrival) (neighbour : Router) (marked : Bool) → AreNeighbours topo at neighbour marked
    → (source : Address) → TrustsRightly topo tr at neighbour marked source
