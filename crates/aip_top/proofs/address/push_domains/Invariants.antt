use Rattle.std.proofs.Common.{◌≡◌, ◌++◌, drop}
use Rattle.std.specs.Prelude.{flat_map}
use Rattle.aip_top.specs.Addresses.{ad_line}
use Rattle.aip_top.proofs.address.push_domains.Given as goal

-- what is written with what is left is the whole
abbrev pub invariant-loop-domain : goal.invariant-loop-domain
invariant-loop-domain l = l.out.items ++ flat_map ad_line (drop l.domain-index l.domains) ≡ l.fn.out.items ++ flat_map ad_line l.domains
