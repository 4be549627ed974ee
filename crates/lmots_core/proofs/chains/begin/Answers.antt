use Rattle.std.proofs.Common.{◌∙◌, [], ◌∷◌, ◌++◌, ap, arith, get_or, take}
use Rattle.lmots_core.proofs.Blocks.{take_fewer, take_two_set}
use Rattle.lmots_core.proofs.chains.begin.Goals as goal

pub returns-clause-chain : goal.returns-clause-chain
returns-clause-chain c =
    take_fewer 22 23 _ _ (omega arith) c.put_value.ensures.front
    ∙ take_two_set c.args.block.now 20 _ _ (omega arith)
    ∙ ap (λ bytes. take 20 c.args.block.now ++ get_or bytes 0 0 ∷ get_or bytes 1 0 ∷ []) c.to_be_bytes.ensures
