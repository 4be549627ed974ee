use Rattle.aip_host.proofs.Standing.{shuts_on}
use Rattle.aip_host.proofs.host.Host.shut.Goals as goal

pub returns-clause-stands : goal.returns-clause-stands
returns-clause-stands c =
    let e = c.demand.ensures in
    λ key frame has there. shuts_on c.demand.result c.args.now _ _ key frame c.args.ttl (e.reaction key frame has there) e.follows e.disks
