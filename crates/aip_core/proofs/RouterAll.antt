-- What all routers keep before any input stands for the empty trace.
use Rattle.std.proofs.Common.{◌≡◌, ℕ, List, [], length, Some, sym, subst}
use Rattle.std.specs.Prelude.{slice_get}
use Rattle.aip_topo.specs.Sound.{IsSound}
use Rattle.aip_topo.specs.declared.topology.Topology.{Topology}
use Rattle.aip_core.specs.RouterMachine.{RouterState, router_at_start}
use Rattle.aip_core.specs.RouterStands.{RouterStands, RoutersStand}
use Rattle.aip_core.proofs.RouterUses.{starts}

-- what routers keep before any input
pub all_start : (topo : Topology) (states : List RouterState) → IsSound topo → length states ≡ length topo.routers
    → ((place : ℕ) (state : RouterState) → slice_get states place ≡ Some state → state ≡ router_at_start topo.settings) → RoutersStand topo [] states
all_start topo states sound all fresh = record {
  all = all;
  each = λ place self state here there. subst (λ (s : RouterState). RouterStands topo [] self s) (sym (fresh place state there)) (starts topo self sound);
}
