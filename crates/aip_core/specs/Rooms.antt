-- What a core keeps in its rooms.
use Rattle.std.specs.Prelude.{◌≡◌, ℕ, ◌<◌, ◌≤◌, ◌^◌, length, All}
use Rattle.aip_topo.specs.Sound.{IsSound}
use Rattle.aip_core.specs.Machine.{AreSeated}
use Rattle.aip_core.specs.RouterMachine.{RouterState}
use Rattle.aip_core.specs.Wiring.{IsWiringOf}
use Rattle.aip_core.specs.declared.engine.Core.TheInside.{Inside}
use Rattle.aip_rules.specs.Step.{most_inputs}

-- a router was started anew at most n times
abbrev pub IsBootedUpTo : ℕ → RouterState → Type 0
IsBootedUpTo n state = state.boot ≤ n

-- The topology is sound, the wiring is its wiring, each host stands at its seat, and there are as many routers as it has. The
-- time is below 2^48, the inputs are at most 65,536, and neither flights nor the starts of a router are more than the inputs.
pub record FitTogether (core : Inside) : Type 0 where
  pub sound : IsSound core.network.directory
  pub wired : IsWiringOf core.network.directory core.network.wiring
  pub hosts : AreSeated core.network.directory core.hosts.items
  pub routers : length core.routers.items ≡ length core.network.directory.routers
  pub early : core.ticks < 2 ^ 48
  pub few : core.inputs ≤ most_inputs
  pub put : length core.flights ≤ core.inputs
  pub boots : All (IsBootedUpTo core.inputs) core.routers.items
