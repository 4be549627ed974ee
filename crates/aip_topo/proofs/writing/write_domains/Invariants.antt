use Rattle.std.proofs.Common.{◌≡◌, ◌++◌, drop}
use Rattle.aip_topo.specs.Canonical.{domain_line, lines_text}
use Rattle.aip_topo.proofs.writing.write_domains.Given as goal

-- what is written with what is left is the whole
abbrev pub invariant-loop-domain : goal.invariant-loop-domain
invariant-loop-domain l = l.out.items ++ lines_text domain_line (drop l.domain-index l.domains) ≡ l.fn.out.items ++ lines_text domain_line l.domains
