use Rattle.std.proofs.Common.{◌≡◌, ◌∙◌, ◌++◌, arith}
use Rattle.lmots_core.specs.Parameters.{chains_of}
use Rattle.lmots_core.specs.Chains.{candidate_part, joined, message_hash, prefix, randomizer_in}
use Rattle.lmots_core.proofs.Joined.{joined_none, joined_more}
use Rattle.lmots_core.proofs.candidate_under.Goals as goal

pub chains-init : goal.chains-init
chains-init c = rw joined_none c.hasher_of-hasher.ensures

pub chains-preserved : goal.chains-preserved
chains-preserved c =
    let hash = message_hash c.args.id.now c.args.q (randomizer_in c.args.signature.now) c.args.message.now in
    let f = candidate_part c.args.width c.args.id.now c.args.q hash c.args.signature.now in
    let p = prefix c.args.id.now c.args.q 0x8080 in
    let end : c.bytes_of.result ≡ candidate_part c.args.width c.args.id.now c.args.q (message_hash c.args.id.now c.args.q (randomizer_in c.args.signature.now) c.args.message.now) c.args.signature.now c.chains.i =
    rw c.message_hash-hash.ensures at (c.bytes_of.ensures ∙ c.end_values.ensures.ends c.chains.i (omega arith)) in
    rw (joined_more p f c.chains.i c.bytes_of.result end) at (c.update.ensures (p ++ joined f c.chains.i) c.chains.invariant)

pub returns : goal.returns
returns c =
    let done : c.chains.i ≡ chains_of c.args.width = omega arith in
    rw done at (c.finalize.ensures _ c.chains.invariant)
