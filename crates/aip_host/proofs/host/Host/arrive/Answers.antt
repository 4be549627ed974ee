use Rattle.aip_host.proofs.Standing.{meets_on}
use Rattle.aip_host.proofs.host.Host.arrive.Goals as goal

pub returns-clause-stands : goal.returns-clause-stands
returns-clause-stands c =
    let e = c.meet.ensures in
    meets_on c.meet.result c.args.now _ _ c.args.bytes.now e.reaction e.follows e.disks
