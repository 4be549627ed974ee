use Rattle.std.proofs.Common.{subst}
use Rattle.fault_counts.specs.Causes.{Rose}
use Rattle.aip_top.specs.Leasing.{asked_of}
use Rattle.aip_top.proofs.Leases.{before, reached}
use Rattle.aip_top.proofs.lease.lease.Goals as goal

pub returns-in-Ok-clause-told : goal.returns-in-Ok-clause-told
returns-in-Ok-clause-told g c =
    let met = c.put_lease.ensures in
    reached g.D.Disk.now g.D.Disk.may_leave g.D.Disk.clock g.D.Disk.during (g.S.Shelf.text c.args.shelf.now c.args.topology.now) (λ told. asked_of told c.args.domain.now) c.in-Ok.wanted
    (Rose (g.S.Shelf.faults c.args.shelf.now c.args.topology.now) (g.S.Shelf.faults c.wanted_in.new.shelf c.args.topology.now)) (Rose (g.K.Sink.faults c.args.out.now) (g.K.Sink.faults c.put_lease.new.out))
    (Rose (g.D.Disk.faults c.args.disk) (g.D.Disk.faults c.put_lease.result.1))
    c.put_lease.result.0 c.args.disk c.put_lease.result.1 (g.K.Sink.taken c.args.out.now) (g.K.Sink.taken c.put_lease.new.out) c.in-Ok.ensures.wanted met.says met.formatted met.moments met.writes met.late
    met.sink.rose met.disk.rose

pub returns-in-Err-clause-told : goal.returns-in-Err-clause-told
returns-in-Err-clause-told g c =
    before g.D.Disk.now g.D.Disk.may_leave g.D.Disk.clock g.D.Disk.during (g.S.Shelf.text c.args.shelf.now c.args.topology.now) (λ told. asked_of told c.args.domain.now) _ _ _
    c.in-Err.end c.args.disk (g.K.Sink.taken c.args.out.now) c.in-Err.ensures.ended
    (λ is. let rose = c.in-Err.ensures.counts.rose (cc) in subst (λ name. Rose (g.S.Shelf.faults c.args.shelf.now name) (g.S.Shelf.faults c.wanted_in.new.shelf name)) rose.1.0 rose.1.1)
    c.in-Err.ensures.early g.met.D.Disk.only_now
