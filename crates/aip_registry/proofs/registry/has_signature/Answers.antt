use Rattle.aip_registry.proofs.Judged.{signed}
use Rattle.aip_registry.proofs.registry.has_signature.Goals as goal

pub returns : goal.returns
returns c =
    signed c.args.bytes.now c.key_in.result c.record_text.result _ c.args.fields.now c.verify_under.result c.verify_under.ensures c.key_in.ensures c.record_text.ensures
    c.requires.said c.split_at.ensures.back
