use Rattle.std.proofs.Common.{subst}
use Rattle.fault_counts.specs.Causes.{Rose}
use Rattle.aip_top.specs.Recording.{drafted_of}
use Rattle.aip_top.proofs.Recorded.{before_disk, keeps_done, keeps_same, of_draft}
use Rattle.aip_top.proofs.issue.issue.Goals as goal

pub returns-in-Err-clause-told : goal.returns-in-Err-clause-told
returns-in-Err-clause-told g c =
    let D = g.D.Disk in
    let old = g.S.Shelf.faults c.args.shelf.now in
    let new = g.S.Shelf.faults c.draft_of.new.shelf in
    before_disk D.now D.may_leave D.clock D.during g.met.D.Disk.only_now (g.S.Shelf.text c.args.shelf.now c.args.topology.now) (λ told. drafted_of told c.args.said.now)
    (Rose (old c.args.topology.now) (new c.args.topology.now)) (Rose (g.K.Sink.faults c.args.out.now) (g.K.Sink.faults c.args.out.now)) (Rose (D.faults c.args.disk) (D.faults c.args.disk))
    c.in-Err.end c.args.disk (g.K.Sink.taken c.args.out.now) c.in-Err.ensures.ended
    (λ is. let rose = c.in-Err.ensures.counts.rose (cc) in subst (λ name. Rose (old name) (new name)) rose.1.0 rose.1.1)

pub returns-in-Err-clause-keeps : goal.returns-in-Err-clause-keeps
returns-in-Err-clause-keeps g c = keeps_same g.D.Disk.now g.D.Disk.may_leave g.D.Disk.clock g.D.Disk.during g.met.D.Disk.only_now c.in-Err.end c.args.disk c.in-Err.ensures.early

pub returns-in-Ok-clause-told : goal.returns-in-Ok-clause-told
returns-in-Ok-clause-told g c =
    let D = g.D.Disk in
    let put = c.put_record in
    let old = g.S.Shelf.faults c.args.shelf.now in
    let new = g.S.Shelf.faults c.draft_of.new.shelf in
    of_draft D.now D.may_leave D.clock D.during (g.S.Shelf.text c.args.shelf.now c.args.topology.now) (λ told. drafted_of told c.args.said.now) c.in-Ok.draft
    (Rose (old c.args.topology.now) (new c.args.topology.now)) (Rose (g.K.Sink.faults c.args.out.now) (g.K.Sink.faults put.new.out)) (Rose (D.faults c.args.disk) (D.faults put.result.1))
    put.result.0 c.args.disk put.result.1 (g.K.Sink.taken c.args.out.now) (g.K.Sink.taken put.new.out)
    c.in-Ok.ensures.drafted put.ensures.done put.ensures.read put.ensures.sink.rose put.ensures.disk.rose

pub returns-in-Ok-clause-keeps : goal.returns-in-Ok-clause-keeps
returns-in-Ok-clause-keeps g c =
    let D = g.D.Disk in
    let done = c.put_record.ensures.done in
    keeps_done D.now D.may_leave D.clock D.during g.met.D.Disk.counts_now done.leaf c.put_record.result.0 c.args.disk c.put_record.result.1 done.spares done.gone done.looks
