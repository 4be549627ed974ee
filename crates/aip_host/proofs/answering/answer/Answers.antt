use Rattle.std.proofs.Common.{◌∙◌, ap}
use Rattle.verify_packet.specs.Response.{response_text_of}
use Rattle.aip_host.specs.Signing.{signing_of}
use Rattle.aip_host.specs.Ended.{response_frame}
use Rattle.aip_host.proofs.Signed.{ended_is, signing_short}
use Rattle.aip_host.proofs.answering.answer.Goals as goal

pub responded-requires-clause-short : goal.responded-requires-clause-short
responded-requires-clause-short c = signing_short _ _ c.in-Ok.signing c.in-Ok.ensures.valid

pub returns-in-Ok-clause-reaction : goal.returns-in-Ok-clause-reaction
returns-in-Ok-clause-reaction c =
    ended_is c.responded.result c.args.seat.now c.args.towards _ _ _ _ c.responded.ensures
    (ap (λ k. response_frame c.args.seat.now.address c.args.challenge.now k) c.public-public.ensures.key)
    (c.in-Ok.ensures.answer ∙ ap (signing_of c.args.key.now) (c.response_text.ensures ∙ ap response_text_of c.challenge_in.ensures))
