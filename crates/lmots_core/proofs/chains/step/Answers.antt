use Rattle.std.proofs.Common.{◌∙◌, ap, arith}
use Rattle.std.proofs.lemmas.List.{take-set, set_split}
use Rattle.sha2.specs.Sha256.{sha256}
use Rattle.lmots_core.proofs.Blocks.{take_fewer}
use Rattle.lmots_core.proofs.chains.step.Goals as goal

pub returns-clause-chain : goal.returns-clause-chain
returns-clause-chain c =
    take_fewer 22 23 _ _ (omega arith) c.put_value.ensures.front ∙ take-set c.args.block.now 22 _

pub returns-clause-value : goal.returns-clause-value
returns-clause-value c =
    c.put_value.ensures.value ∙ c.digest-digest.ensures ∙ ap sha256 (set_split c.args.block.now 22 c.args.j (omega arith))
