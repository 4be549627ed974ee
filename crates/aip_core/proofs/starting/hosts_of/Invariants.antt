use Rattle.std.proofs.Common.{drop}
use Rattle.aip_core.specs.Starting.{AreBegun, hosts_on}
use Rattle.aip_core.proofs.starting.hosts_of.Given as goal

-- the hosts so far are new, and the others are those of the lines that are left
abbrev pub invariant-parts : goal.invariant-parts
invariant-parts l = AreBegun l.settings l.routers l.seats (hosts_on l.parts) (drop l.part-index l.parts) l.hosts.items
