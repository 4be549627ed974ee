use Rattle.std.proofs.Common.{subst}
use Rattle.record_signer.specs.Signed.{IsOrCut, Signs, signed_by}
use Rattle.aip_top.proofs.Recorded.{fault_done}
use Rattle.aip_top.proofs.issue.put_record.Goals as goal

pub returns-in-Err-clause-done : goal.returns-in-Err-clause-done
returns-in-Err-clause-done g c =
    let D = g.D.Disk in
    let signed = c.sign_record-signed in
    fault_done D.now D.may_leave D.clock D.during c.args.draft.tree c.args.draft.fields c.args.disk signed.result.1 c.in-Err.fault c.from.result (g.K.Sink.taken c.args.out.now) c.from.ensures
    (λ file told. subst (IsOrCut (signed_by c.args.draft.tree c.args.draft.fields file)) c.in-Err.is (signed.ensures.told file told))
    (subst (Signs D.now D.may_leave D.clock D.during c.args.draft.tree c.args.draft.fields c.args.disk signed.result.1) c.in-Err.is signed.ensures.signs)
