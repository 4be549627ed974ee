use Rattle.aip_frame.specs.Frame.{frame_of}
use Rattle.shutoff_filter.specs.Entries.{entries_of}
use Rattle.shutoff_filter.proofs.Verdicts.{judged}
use Rattle.shutoff_filter.proofs.judging.judge.Goals as goal

pub returns : goal.returns
returns c =
    judged c.args.now c.args.slots.now.room (entries_of c.args.slots.now.slots.items) c.args.log.now.frames (frame_of c.args.frame.now) c.from_of.result c.to_of.result c.body_of-body.result.now c.judge_body.result c.if-body-lt-SHORTEST.false
    c.from_of.ensures c.to_of.ensures c.body_of-body.ensures.body c.judge_body.ensures
