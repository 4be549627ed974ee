use Rattle.std.proofs.Common.{inr}
use Rattle.aip_replay.proofs.Judging.{took_input}
use Rattle.aip_replay.proofs.Taking.{refused_here}
use Rattle.aip_replay.proofs.turns.step.Goals as goal

pub returns-in-Ok-clause-told : goal.returns-in-Ok-clause-told
returns-in-Ok-clause-told c = λ topo file left sound plain came.
    took_input topo sound c.args.core c.args.number file left c.args.line.now plain came c.args.input c.in-Ok.due c.in-Ok.core c.requires.1 c.requires.2 c.in-Ok.ensures.taken

pub returns-in-Err-Refused-clause-told : goal.returns-in-Err-Refused-clause-told
returns-in-Err-Refused-clause-told c = λ topo file left sound plain came.
    inr (refused_here topo sound c.args.core c.args.number file left c.args.line.now plain came c.args.input c.in-Err-Refused.field-0-0 c.in-Err-Refused.field-0-1 c.requires
    (rw c.in-Err-Refused.field-0-is at c.in-Err-Refused.ensures.refused))
