-- The trace that a core stands for.
use Rattle.std.specs.Prelude.{◌≡◌, ℕ, List, length, slice_get, Ok, Some}
use Rattle.aip_event.specs.declared.event.Event.{Event}
use Rattle.aip_event.specs.declared.input.Input.{Input}
use Rattle.aip_topo.specs.declared.topology.Topology.{Topology}
use Rattle.aip_rules.specs.declared.Entry.{Entry}
use Rattle.aip_rules.specs.declared.Seat.{Seat}
use Rattle.aip_rules.specs.State.{now_of, input_count, flights_of}
use Rattle.aip_rules.specs.Nodes.{seats_of}
use Rattle.aip_rules.specs.Records.{records_kept}
use Rattle.aip_rules.specs.Routes.{links_now}
use Rattle.aip_rules.specs.Step.{step_of, after_step}
use Rattle.aip_host.specs.HostState.{HostState}
use Rattle.aip_host.specs.StandsFor.{HostStandsFor}
use Rattle.aip_core.specs.Kept.{Kept}
use Rattle.aip_core.specs.RouterStands.{RoutersStand}

-- the hosts stand for a trace: there is one for each host of the topology, and each stands for it
pub record HostsStand (topo : Topology) (tr : List Entry) (hosts : List HostState) : Type 0 where
  pub count : length hosts ≡ length (seats_of topo)
  pub each : (place : ℕ) (seat : Seat) (state : HostState) → slice_get (seats_of topo) place ≡ Some seat → slice_get hosts place ≡ Some state → HostStandsFor topo tr seat state

-- what is kept stands for a trace on a topology: it is this topology, with the links, the flights, the records, the time and
-- the number of inputs of the trace, and its hosts and routers stand for the trace
pub record StandsFor (topo : Topology) (tr : List Entry) (kept : Kept) : Type 0 where
  pub topology : kept.topo ≡ topo
  pub links : kept.links ≡ links_now topo tr
  pub flights : kept.flights ≡ flights_of tr
  pub records : kept.records ≡ records_kept tr
  pub time : kept.ticks ≡ now_of tr
  pub inputs : kept.inputs ≡ input_count tr
  pub hosts : HostsStand topo tr kept.hosts
  pub routers : RoutersStand topo tr kept.routers

-- for every trace that is stood for before: the events are those that the rules give, and what is kept after them stands
-- for the trace with the input and these events on top
abbrev pub IsStep : Kept → Input → Kept → List Event → Type 0
IsStep kept input after events =
    (topo : Topology) (tr : List Entry) → StandsFor topo tr kept
    → (step_of topo tr input ≡ Ok events) × StandsFor topo (after_step tr input events) after
