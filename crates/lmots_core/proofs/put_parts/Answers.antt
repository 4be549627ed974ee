use Rattle.std.proofs.Common.{◌≡◌, ◌∙◌, ◌+◌, ◌*◌, ◌++◌, ap, sym, take, arith}
use Rattle.lmots_core.specs.Chains.{signed_part}
use Rattle.lmots_core.proofs.Joined.{joined_none, joined_more}
use Rattle.lmots_core.proofs.put_parts.Goals as goal

pub chains-init : goal.chains-init
chains-init c =
    sym (joined_none (take 36 c.args.out.now) (signed_part c.args.width c.args.seed.now c.args.id.now c.args.q c.args.hash.now))

pub chains-preserved : goal.chains-preserved
chains-preserved c =
    let f = signed_part c.args.width c.args.seed.now c.args.id.now c.args.q c.args.hash.now in
    let part = c.bytes_of.ensures ∙ c.sign_values.ensures.parts c.chains.i (omega arith) in
    let place : 36 + 32 * (c.chains.i + 1) ≡ 36 + 32 * c.chains.i + 32 = omega arith in
    rw place (c.put.ensures ∙ ap (λ xs. xs ++ c.bytes_of.result) c.chains.invariant ∙ joined_more (take 36 c.args.out.now) f c.chains.i c.bytes_of.result part)
