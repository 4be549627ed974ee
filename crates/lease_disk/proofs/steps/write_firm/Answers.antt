use Rattle.std.proofs.Common.{length}
use Rattle.lease_disk.specs.Moments.{at_start, goes_on}
use Rattle.lease_disk.specs.Kept.{AfterWrite, torn_same}
use Rattle.lease_disk.proofs.steps.write_firm.Goals as goal

pub returns-in_err-write_at-clause-moments : goal.returns-in_err-write_at-clause-moments
returns-in_err-write_at-clause-moments g c =
    let disk = c.args.disk.now in
    let count = length c.args.bytes.now in
    let written = AfterWrite (g.D.Disk.may_leave disk) c.args.at count in
    goes_on g.D.Disk.may_leave g.D.Disk.clock g.D.Disk.during disk disk c.write_at.new.self written
    (at_start g.D.Disk.may_leave g.D.Disk.clock g.D.Disk.during disk written (g.met.D.Disk.only_now disk) (λ image left. (image, left, torn_same c.args.at count image)))
    c.write_at.ensures.time
    c.write_at.ensures.crash

pub returns-clause-moments : goal.returns-clause-moments
returns-clause-moments g c =
    let disk = c.args.disk.now in
    let count = length c.args.bytes.now in
    let written = AfterWrite (g.D.Disk.may_leave disk) c.args.at count in
    goes_on g.D.Disk.may_leave g.D.Disk.clock g.D.Disk.during disk c.write_at.new.self c.sync.new.self written
    (goes_on g.D.Disk.may_leave g.D.Disk.clock g.D.Disk.during disk disk c.write_at.new.self written
    (at_start g.D.Disk.may_leave g.D.Disk.clock g.D.Disk.during disk written (g.met.D.Disk.only_now disk) (λ image left. (image, left, torn_same c.args.at count image)))
    c.write_at.ensures.time
    c.write_at.ensures.crash)
    c.sync.ensures.time
    (λ image left. c.write_at.ensures.crash image (c.sync.ensures.crash image left))
