use Rattle.std.proofs.Common.{◌∙◌, inr, sym}
use Rattle.aip_replay.proofs.Taking.{missed_event, took_event}
use Rattle.aip_replay.proofs.turns.take_event.Goals as goal

pub returns-in-Ok-true-clause-told : goal.returns-in-Ok-true-clause-told
returns-in-Ok-true-clause-told c = λ topo file left sound plain came.
    took_event topo sound c.args.judge.core c.as_slice.result.now c.args.judge.due c.args.judge.seen c.args.number file left c.args.line.now c.index-as_slice-seen.result
    c.as_slice.ensures c.requires c.index-as_slice-seen.is plain (sym c.in-Ok-true.ensures ∙ c.in-Ok-true.field-0-test) came

pub returns-in-Ok-false-clause-told : goal.returns-in-Ok-false-clause-told
returns-in-Ok-false-clause-told c = λ topo file left sound plain came.
    inr (missed_event topo sound c.args.judge.core c.as_slice.result.now c.args.judge.due c.args.judge.seen c.args.number file left c.args.line.now c.index-as_slice-seen.result
    c.as_slice.ensures c.requires c.index-as_slice-seen.is plain (sym c.in-Ok-false.ensures ∙ c.in-Ok-false.field-0-test) came)
