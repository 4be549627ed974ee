use Rattle.std.proofs.Common.{arith}
use Rattle.aip_frame.proofs.Frames.{set_spelled, set_frame}
use Rattle.aip_frame.proofs.fields.set_hop.Goals as goal

pub returns-clause-spelled : goal.returns-clause-spelled
returns-clause-spelled c = set_spelled c.args.bytes.now c.args.hop

pub returns-clause-frame : goal.returns-clause-frame
returns-clause-frame c = set_frame c.args.bytes.now c.args.hop (omega arith)
