use Rattle.aip_host.proofs.Standing.{puts_on}
use Rattle.aip_host.proofs.host.Host.raw.Goals as goal

pub returns-clause-stands : goal.returns-clause-stands
returns-clause-stands c =
    let e = c.emit_raw.ensures in
    puts_on c.emit_raw.result c.args.now _ _ c.args.bytes.now e.reaction e.follows e.disks
