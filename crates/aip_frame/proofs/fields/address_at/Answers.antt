use Rattle.std.proofs.Common.{arith}
use Rattle.std.proofs.lemmas.List.{length-take}
use Rattle.aip_frame.proofs.fields.address_at.Goals as goal

pub unwrap-requires : goal.unwrap-requires
unwrap-requires c = c.read.ensures.length.1 (omega (arith, length-take 40 c.args.bytes.now))
