use Rattle.lease_disk.specs.Moments.{weakened}
use Rattle.lease_disk.specs.Kept.{WhileGated}
use Rattle.leaf_lease.specs.LeaseFile.{open_gate}
use Rattle.leaf_lease.specs.Format.{WhileFilled}
use Rattle.leaf_lease.proofs.Fresh.{fill_told, filled_of}
use Rattle.leaf_lease.proofs.Moments.{on_ok_then}
use Rattle.leaf_lease.proofs.formatting.fill.Goals as goal

pub returns-clause-content : goal.returns-clause-content
returns-clause-content g c =
    on_ok_then c.write_gated.result _ _ c.write_gated.ensures.content (fill_told (g.D.Disk.now c.args.disk.now) (g.D.Disk.now c.write_gated.new.disk) c.args.rest.now open_gate)

pub returns-clause-moments : goal.returns-clause-moments
returns-clause-moments g c =
    let disk = c.args.disk.now in
    let rest = c.args.rest.now in
    let images = g.D.Disk.may_leave disk in
    let content = g.D.Disk.now disk in
    weakened g.D.Disk.may_leave g.D.Disk.clock g.D.Disk.during disk c.write_gated.new.disk (WhileGated images content 0 rest) (WhileFilled images content rest) c.write_gated.ensures.moments (filled_of images content rest)
