use Rattle.aip_frame.proofs.Parsed.{hashed}
use Rattle.aip_frame.proofs.whole.packet_hash.Goals as goal

pub returns : goal.returns
returns c =
    hashed c.args.bytes.now c.finalize.result c.requires
    (c.finalize.ensures _ (c.update-3.ensures _ (c.update-2.ensures _ (c.update.ensures _ c.new-hasher.ensures))))
