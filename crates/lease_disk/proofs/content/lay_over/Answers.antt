use Rattle.std.proofs.Common.{◌≡◌, length, ◌∙◌, arith}
use Rattle.std.proofs.lemmas.List.{take_at}
use Rattle.lease_disk.proofs.Bytes.{padded-overwritten}
use Rattle.lease_disk.proofs.content.lay_over.Goals as goal

pub returns-clause-items : goal.returns-clause-items
returns-clause-items c =
    let padded = c.deref_mut.ensures.value ∙ c.pad.ensures.items in
    let whole : length c.copy_over.new.content ≡ c.pad.new.content.len = omega (arith, c.copy_over.auto.content, c.deref_mut.ensures.len) in
    take_at c.copy_over.new.content _ c.pad.new.content.len whole
    ∙ c.copy_over.ensures
    ∙ padded-overwritten c.args.content.now.items c.args.at c.args.bytes.now c.deref_mut.result.now padded
