use Rattle.std.proofs.Common.{◌<◌, length, arith}
use Rattle.aip_mac.proofs.Masking.{masked_more}
use Rattle.aip_mac.proofs.masked_by.Goals as goal

pub bytes-preserved : goal.bytes-preserved
bytes-preserved c =
    let inside : c.bytes.i < length c.args.block.now = omega arith in
    masked_more _ _ _ _ inside c.bytes.invariant
