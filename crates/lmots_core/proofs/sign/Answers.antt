use Rattle.std.proofs.Common.{◌≡◌}
use Rattle.lmots_core.specs.Chains.{signature_of}
use Rattle.lmots_core.proofs.Accepted.{accepted}
use Rattle.lmots_core.proofs.sign.Goals as goal

pub returns-clause-valid : goal.returns-clause-valid
returns-clause-valid c =
    let exact : c.put_parts.new.out ≡ signature_of c.args.width c.args.seed.now c.args.id.now c.args.q c.args.message.now = cc in
    rw exact (accepted c.args.width c.args.seed.now c.args.id.now c.args.q c.args.message.now)
