use Rattle.std.proofs.Common.{◌≡◌, arith}
use Rattle.aip_frame.specs.Frame.{frame_of}
use Rattle.verify_packet.proofs.Answering.{judged, short}
use Rattle.verify_packet.proofs.responses.check.Goals as goal

pub returns : goal.returns
returns c =
    judged c.args.router.now c.args.now (frame_of c.args.frame.now) c.from_of.result c.body_of-body.result.now c.judge_body.result c.if-body-lt210.false
    c.from_of.ensures c.body_of-body.ensures.body c.judge_body.ensures
