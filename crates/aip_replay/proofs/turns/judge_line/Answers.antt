use Rattle.std.proofs.Common.{◌≤◌, ◌∷◌, ◌++◌, length}
use Rattle.aip_replay.proofs.Taking.{none_comes}
use Rattle.aip_replay.proofs.turns.judge_line.Goals as goal

pub returns-clause-told : goal.returns-clause-told
returns-clause-told c = λ topo file left sound plain came.
    let le : length c.args.judge.due ≤ c.args.judge.seen = rw c.as_slice.ensures at c.if-judge-as_slice.false in
    c.take_input.ensures.told topo file left sound plain
    (none_comes topo c.args.judge.core c.args.judge.due c.args.judge.seen c.args.number file (c.args.line.now ++ 10 ∷ left) le came)
