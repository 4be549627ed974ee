use Rattle.std.proofs.Common.{◌≤◌, ◌<◌, length}
use Rattle.aip_replay.proofs.Taking.{came_to_end, stopped_early}
use Rattle.aip_replay.proofs.turns.at_end.Goals as goal

pub returns-then-judge-told-clause-told : goal.returns-then-judge-told-clause-told
returns-then-judge-told-clause-told c = λ topo file sound came.
    let less : c.args.judge.now.seen < length c.args.judge.now.due = rw c.as_slice-told.ensures at c.if-judge-told.true in
    stopped_early topo sound c.args.judge.now.core c.args.judge.now.due c.args.judge.now.seen c.args.number file less came

pub returns-else-judge-told-clause-told : goal.returns-else-judge-told-clause-told
returns-else-judge-told-clause-told c = λ topo file sound came.
    let le : length c.args.judge.now.due ≤ c.args.judge.now.seen = rw c.as_slice-told.ensures at c.if-judge-told.false in
    came_to_end topo sound c.args.judge.now.core c.args.judge.now.due c.args.judge.now.seen c.args.number file le came
