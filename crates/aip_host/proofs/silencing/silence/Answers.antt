use Rattle.std.proofs.Common.{◌∙◌, ap}
use Rattle.aip_host.specs.Signing.{signing_of}
use Rattle.aip_host.specs.Ended.{demand_frame}
use Rattle.aip_host.proofs.Signed.{ended_is, signing_short}
use Rattle.aip_host.proofs.silencing.silence.Goals as goal

pub silenced-requires : goal.silenced-requires
silenced-requires c = record { short = signing_short _ _ c.in-Ok.signing c.in-Ok.ensures.valid }

pub returns-in-Ok-clause-reaction : goal.returns-in-Ok-clause-reaction
returns-in-Ok-clause-reaction c =
    ended_is c.silenced.result c.args.seat.now c.args.towards _ _ _ _ c.silenced.ensures
    (ap (λ k. demand_frame c.args.seat.now.address c.args.demand.now k) c.public-public.ensures.key)
    (c.in-Ok.ensures.answer ∙ ap (signing_of c.args.key.now) c.shutoff_text-text.ensures)
