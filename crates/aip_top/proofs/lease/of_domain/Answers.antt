use Rattle.aip_top.proofs.Leases.{no_domain}
use Rattle.aip_top.proofs.lease.of_domain.Goals as goal

pub returns-in-None-clause-refused : goal.returns-in-None-clause-refused
returns-in-None-clause-refused c = rw c.as_slice.ensures.domains at (no_domain _ c.in-None.ensures)
