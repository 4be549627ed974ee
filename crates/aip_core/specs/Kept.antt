-- What contracts see of a core.
use Rattle.std.specs.Prelude.{ℕ, List}
use Rattle.domain_routes.specs.declared.Edge.{Edge}
use Rattle.aip_topo.specs.declared.topology.Topology.{Topology}
use Rattle.aip_registry.specs.declared.records.Record.{Record}
use Rattle.aip_rules.specs.declared.Flight.{Flight}
use Rattle.aip_host.specs.HostState.{HostState}
use Rattle.aip_core.specs.RouterMachine.{RouterState}

-- a topology, and what stands after the inputs so far: the links as they are, the flights in the order in which they were
-- put, the hosts and what the routers keep, by their places, the records that are kept of those that were published, the
-- time, and the number of inputs
pub record Kept : Type 0 where
  pub topo : Topology
  pub links : List Edge
  pub flights : List Flight
  pub hosts : List HostState
  pub routers : List RouterState
  pub records : List Record
  pub ticks : ℕ
  pub inputs : ℕ
