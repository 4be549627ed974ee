use Rattle.std.proofs.Common.{◌≡◌, ◌++◌, drop}
use Rattle.aip_topo.specs.Canonical.{lines_text, router_line}
use Rattle.aip_topo.proofs.writing.write_routers.Given as goal

-- what is written with what is left is the whole
abbrev pub invariant-loop-router : goal.invariant-loop-router
invariant-loop-router l = l.out.items ++ lines_text (router_line l.domains) (drop l.router-index l.routers) ≡ l.fn.out.items ++ lines_text (router_line l.domains) l.routers
