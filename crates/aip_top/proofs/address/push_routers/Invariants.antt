use Rattle.std.proofs.Common.{◌≡◌, ◌++◌, drop}
use Rattle.std.specs.Prelude.{flat_map}
use Rattle.aip_top.specs.Addresses.{router_line}
use Rattle.aip_top.proofs.address.push_routers.Given as goal

-- what is written with what is left is the whole
abbrev pub invariant-loop-router : goal.invariant-loop-router
invariant-loop-router l = l.out.items ++ flat_map router_line (drop l.router-index l.routers) ≡ l.fn.out.items ++ flat_map router_line l.routers
