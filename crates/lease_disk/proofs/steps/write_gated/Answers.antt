use Rattle.std.proofs.Common.{inl, inr, ◌+◌, length}
use Rattle.lease_disk.specs.Moments.{joined, weakened}
use Rattle.lease_disk.specs.Kept.{AfterWrite, WhileGated}
use Rattle.lease_disk.proofs.Gated.{gated_told, gate_torn, on_ok_then}
use Rattle.lease_disk.proofs.steps.write_gated.Goals as goal

pub returns-clause-content : goal.returns-clause-content
returns-clause-content g c =
    on_ok_then c.write_firm-2.result _ _ c.write_firm-2.ensures.content (λ content.
    gated_told (g.D.Disk.now c.args.disk.now) (g.D.Disk.now c.write_firm.new.disk) (g.D.Disk.now c.write_firm-2.new.disk) c.args.at c.args.gate c.args.body.now c.in_ok-write_firm.ensures.content content)

pub returns-clause-moments : goal.returns-clause-moments
returns-clause-moments g c =
    let disk = c.args.disk.now in
    let mid = c.write_firm.new.disk in
    let new = c.write_firm-2.new.disk in
    let at = c.args.at in
    let body = c.args.body.now in
    let while = WhileGated (g.D.Disk.may_leave disk) (g.D.Disk.now disk) at body in
    joined g.D.Disk.may_leave g.D.Disk.clock g.D.Disk.during disk mid new while
    (weakened g.D.Disk.may_leave g.D.Disk.clock g.D.Disk.during disk mid (AfterWrite (g.D.Disk.may_leave disk) (at + 1) (length body)) while c.write_firm.ensures.moments (λ image after. inl after))
    (weakened g.D.Disk.may_leave g.D.Disk.clock g.D.Disk.during mid new (AfterWrite (g.D.Disk.may_leave mid) at 1) while c.write_firm-2.ensures.moments
    (λ image after. inr (gate_torn (g.D.Disk.now disk) (g.D.Disk.now mid) at body after.0 image c.in_ok-write_firm.ensures.content (c.in_ok-write_firm.ensures.firm after.0 after.1) after.2)))
