use Rattle.std.proofs.Common.{arith}
use Rattle.lmots_core.proofs.Blocks.{front_two}
use Rattle.lmots_core.proofs.chains.leaf_block.Goals as goal

pub returns : goal.returns
returns c =
    let fields = front_two c.copy_from_slice.new.self c.copy_from_slice-2.new.self c.split_at_mut-leaf.result.1.now 20 (omega arith) in
    cc
