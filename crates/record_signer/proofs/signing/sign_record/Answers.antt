use Rattle.std.proofs.Common.{◌≡◌, ◌≤◌, ◌^◌, inl, Ok, Err, Some, List, ℕ, IfOk, sym, ap, subst, ◌∙◌}
use Rattle.std.specs.Prelude.{Result}
use Rattle.lms_core.specs.Parameters.{levels_of}
use Rattle.lms_core.specs.Tree.{identifier_of}
use Rattle.lease_disk.specs.Images.{AtEachMoment}
use Rattle.leaf_lease.specs.Ends.{OpenSays, opened_disk}
use Rattle.host_signer.specs.Signers.{disk_of, next_of}
use Rattle.record_signer.specs.declared.faults.SigningFault.{SigningFault}
use Rattle.record_signer.specs.Signed.{SparesBut, leaf_of}
use Rattle.record_signer.proofs.Leaves.{by_signer, of_another, opened_spares, refused_signs, signed_signs, unformatted}
use Rattle.record_signer.proofs.signing.sign_record.Goals as goal

pub returns-in-Unformatted-clause-told : goal.returns-in-Unformatted-clause-told
returns-in-Unformatted-clause-told g c = λ file told.
    inl (unformatted c.args.tree c.args.fields.now file c.in-Unformatted.length c.in-Unformatted.gate
    (subst (λ e. OpenSays {G = g.D.Disk} (identifier_of c.args.tree.seed) (levels_of c.args.tree.height) file (Err e)) c.in-Unformatted.is (c.in-Err.ensures.says file told)))

pub returns-clause-told : goal.returns-clause-told
returns-clause-told g c = λ file told.
    inl (of_another c.args.tree c.args.fields.now file c.in-OtherKey.id c.in-OtherKey.height
    (subst (λ e. OpenSays {G = g.D.Disk} (identifier_of c.args.tree.seed) (levels_of c.args.tree.height) file (Err e)) c.in-OtherKey.is (c.in-Err.ensures.says file told)))

pub returns-in-Failed-clause-signs : goal.returns-in-Failed-clause-signs
returns-in-Failed-clause-signs g c =
    let D = g.D.Disk in
    let end = c.in-Err.ensures in
    let leaf = leaf_of c.args.tree (D.now c.args.disk) in
    let spares = opened_spares D.may_leave D.clock D.during leaf c.args.disk (opened_disk {G = D} (Err c.in-Err.field-0.end)) end.moments end.keeps_gone end.keeps_bytes end.no_longer end.clock in
    refused_signs D.now D.may_leave D.clock D.during c.args.tree c.args.fields.now c.args.disk c.in-Failed.disk _
    (subst (λ e. SparesBut D.may_leave D.clock D.during leaf c.args.disk (opened_disk {G = D} (Err e))) c.in-Failed.is spares)
    (subst (λ e. AtEachMoment D.clock D.during c.args.disk (opened_disk {G = D} (Err e)) (D.may_leave c.args.disk)) c.in-Failed.is end.moments)

pub returns-in-Unformatted-clause-signs : goal.returns-in-Unformatted-clause-signs
returns-in-Unformatted-clause-signs g c =
    let D = g.D.Disk in
    let end = c.in-Err.ensures in
    let leaf = leaf_of c.args.tree (D.now c.args.disk) in
    let spares = opened_spares D.may_leave D.clock D.during leaf c.args.disk (opened_disk {G = D} (Err c.in-Err.field-0.end)) end.moments end.keeps_gone end.keeps_bytes end.no_longer end.clock in
    refused_signs D.now D.may_leave D.clock D.during c.args.tree c.args.fields.now c.args.disk c.in-Unformatted.disk _
    (subst (λ e. SparesBut D.may_leave D.clock D.during leaf c.args.disk (opened_disk {G = D} (Err e))) c.in-Unformatted.is spares)
    (subst (λ e. AtEachMoment D.clock D.during c.args.disk (opened_disk {G = D} (Err e)) (D.may_leave c.args.disk)) c.in-Unformatted.is end.moments)

pub returns-clause-signs : goal.returns-clause-signs
returns-clause-signs g c =
    let D = g.D.Disk in
    let end = c.in-Err.ensures in
    let leaf = leaf_of c.args.tree (D.now c.args.disk) in
    let spares = opened_spares D.may_leave D.clock D.during leaf c.args.disk (opened_disk {G = D} (Err c.in-Err.field-0.end)) end.moments end.keeps_gone end.keeps_bytes end.no_longer end.clock in
    refused_signs D.now D.may_leave D.clock D.during c.args.tree c.args.fields.now c.args.disk c.in-OtherKey.disk _
    (subst (λ e. SparesBut D.may_leave D.clock D.during leaf c.args.disk (opened_disk {G = D} (Err e))) c.in-OtherKey.is spares)
    (subst (λ e. AtEachMoment D.clock D.during c.args.disk (opened_disk {G = D} (Err e)) (D.may_leave c.args.disk)) c.in-OtherKey.is end.moments)

pub returns-in-Ok-clause-told : goal.returns-in-Ok-clause-told
returns-in-Ok-clause-told g c = λ file told.
    by_signer c.args.tree _ c.args.fields.now file _ c.sign.result.0 c.in-Ok.ensures.tree (c.in-Ok.ensures.says file told) c.sign.ensures.line c.sign.ensures.left c.sign.ensures.refused

pub returns-in-Ok-clause-signs : goal.returns-in-Ok-clause-signs
returns-in-Ok-clause-signs g c =
    let D = g.D.Disk in
    let opened = c.in-Ok.ensures in
    let signer = c.in-Ok.signer in
    let signed = c.sign.ensures in
    signed_signs D.now D.may_leave D.clock D.during g.met.D.Disk.content_is_image c.args.tree _ c.args.fields.now c.args.disk (disk_of signer) c.sign.result.1 (next_of signer) c.sign.result.0
    opened.tree opened.says opened.content opened.firm opened.moments opened.keeps_gone opened.keeps_bytes opened.no_longer opened.clock
    (subst (λ levels. next_of signer ≤ 2 ^ levels) signer.same_height signer.leases.within) signed.line signed.gone signed.reads signed.dry signed.refused signed.moments signed.clock
