use Rattle.std.proofs.Common.{inr}
use Rattle.aip_replay.proofs.Taking.{missed_input}
use Rattle.aip_replay.proofs.turns.take_input.Goals as goal

pub returns-in-Ok-None-clause-told : goal.returns-in-Ok-None-clause-told
returns-in-Ok-None-clause-told c = λ topo file left sound plain came.
    inr (missed_input topo sound c.args.core c.args.number file left c.args.line.now plain came (rw c.in-Ok-None.field-0-is at c.in-Ok-None.ensures))
