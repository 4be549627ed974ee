use Rattle.std.proofs.Common.{◌≡◌, replicate}
use Rattle.aip_core.specs.RouterMachine.{router_at_start}
use Rattle.aip_core.proofs.routers.checks_of.Given as goal

-- so many routers keep what one keeps before any input
abbrev pub invariant-loop-router : goal.invariant-loop-router
invariant-loop-router l = l.checks.items ≡ replicate l.router (router_at_start l.settings)
