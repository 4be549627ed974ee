use Rattle.aip_frame.specs.Frame.{frame_of}
use Rattle.aip_core.proofs.RouterPorts.{same_challenge}
use Rattle.aip_core.proofs.asking.challenge_body.Goals as goal

pub returns : goal.returns
returns c = record {
  body = same_challenge c.args.key.now (frame_of c.args.bytes.now) c.from_of.result c.packet_hash.result c.challenge.result c.told_port.result c.args.at.now.port c.args.at.now.time
      c.from_of.ensures c.packet_hash.ensures c.told_port.ensures c.challenge.ensures.spelled;
}
