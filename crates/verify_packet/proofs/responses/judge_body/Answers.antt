use Rattle.std.proofs.Common.{◌≡◌, ◌∙◌, ap, List, ℕ, take, drop}
use Rattle.verify_packet.proofs.Answering.{by_parts}
use Rattle.verify_packet.proofs.responses.judge_body.Goals as goal

pub returns : goal.returns
returns c =
    by_parts c.args.router.now c.args.now c.args.source.now c.args.body.now _ _ _ _ c.judge.ensures
    (c.challenge_in.ensures ∙ c.split_at.ensures.front)
    (c.key_in.ensures ∙ (c.split_at-2.ensures.front ∙ ap (λ (t : List ℕ). take 56 t) c.split_at.ensures.back))
    (c.split_at-2.ensures.back ∙ ap (λ (t : List ℕ). drop 56 t) c.split_at.ensures.back)
