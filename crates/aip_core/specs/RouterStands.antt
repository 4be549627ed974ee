-- The trace that what a router keeps stands for.
use Rattle.std.specs.Prelude.{◌≡◌, ℕ, Bool, false, List, length, slice_get, Some}
use Rattle.std.specs.Str.{bytes_eq}
use Rattle.std.specs.List.{AllByRecursion}
use Rattle.aip_event.specs.declared.event.Event.{Event}
use Rattle.aip_event.specs.declared.event.Event.TheVariants.{Forward, Proved, Wild}
use Rattle.aip_topo.specs.declared.topology.Router.{Router}
use Rattle.aip_topo.specs.declared.topology.Topology.{Topology}
use Rattle.accept_cache.specs.StandsFor.{CacheStandsFor}
use Rattle.aip_rules.specs.declared.Entry.{Entry}
use Rattle.aip_rules.specs.Accepted.{limits_of, pair_uses, wildcard_uses}
use Rattle.aip_rules.specs.State.{restarts_of}
use Rattle.aip_core.specs.RouterMachine.{RouterState}

-- what a router keeps stands for a trace on a topology: it was started anew as often, it has the topology's limits, and it
-- accepted what the trace's uses of sources and of wildcards at the router say
pub record RouterStands (topo : Topology) (tr : List Entry) (self : Router) (state : RouterState) : Type 0 where
  pub boot : state.boot ≡ restarts_of tr self.name
  pub limits : state.cache.limits ≡ limits_of topo.settings
  pub accepts : CacheStandsFor (pair_uses tr self.name) (wildcard_uses tr self.name) state.cache

-- what the routers keep, in the order of the routers, stands for a trace on a topology
pub record RoutersStand (topo : Topology) (tr : List Entry) (states : List RouterState) : Type 0 where
  pub all : length states ≡ length topo.routers
  pub each : (place : ℕ) (self : Router) (state : RouterState) → slice_get topo.routers place ≡ Some self → slice_get states place ≡ Some state
      → RouterStands topo tr self state

-- the event uses a source or a wildcard at the router of this name
abbrev pub is_use_of : Event → List ℕ → Bool
is_use_of (Proved router source port) name = bytes_eq router name
is_use_of (Wild router ad port) name = bytes_eq router name
is_use_of (Forward router port out cause) name = bytes_eq router name
is_use_of _ name = false

-- none of the events uses a source or a wildcard at the router of this name
abbrev pub AreNoUses : List ℕ → List Event → Type 0
AreNoUses name events = AllByRecursion (λ event. is_use_of event name ≡ false) events
