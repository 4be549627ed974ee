use Rattle.aip_host.proofs.Standing.{rises_on}
use Rattle.aip_host.proofs.host.Host.restart.Goals as goal

pub returns-clause-stands : goal.returns-clause-stands
returns-clause-stands c =
    let e = c.rise.ensures in
    rises_on c.rise.result c.args.now _ _ e.reaction e.restarted e.disks
