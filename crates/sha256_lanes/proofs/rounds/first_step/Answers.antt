use Rattle.std.proofs.Common.{refl, sym, arith}
use Rattle.sha2.proofs.Schedule256.{rounds_first}
use Rattle.sha256_lanes.specs.Lanes.{lane, value_in}
use Rattle.sha256_lanes.proofs.FourLanes.{lane_word}
use Rattle.sha256_lanes.proofs.rounds.first_step.Goals as goal

pub returns : goal.returns
returns c = λ j lt b h window held.
    rounds_first b h (lane j c.args.w.now) (value_in j c.args.v) c.args.t _ _ _ c.requires window held refl (sym (lane_word c.args.w.now j c.args.t (omega arith))) (c.round.ensures j lt)
