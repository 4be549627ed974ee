use Rattle.aip_host.proofs.Standing.{sends_on}
use Rattle.aip_host.proofs.host.Host.send.Goals as goal

pub returns-clause-stands : goal.returns-clause-stands
returns-clause-stands c =
    let e = c.emit.ensures in
    sends_on c.emit.result c.args.now _ _ c.args.to c.args.packet c.args.body.now e.reaction e.follows e.disks
