use Rattle.std.proofs.Common.{arith}
use Rattle.std.proofs.lemmas.Grind.{common_steps}
use Rattle.lms_core.specs.Tree.{signature_of}
use Rattle.lms_core.proofs.Accepted.{valid_signature}
use Rattle.lms_core.proofs.tree.Tree.sign.Goals as goal

pub returns-clause-valid : goal.returns-clause-valid
unfolding signature_of
returns-clause-valid c =
    valid_signature c.args.self.now c.args.q c.args.message.now _ c.requires.leaf (grind (arith, common_steps))
