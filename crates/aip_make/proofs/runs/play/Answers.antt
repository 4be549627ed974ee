use Rattle.std.proofs.Common.{◌+◌, ◌-◌, arith}
use Rattle.aip_make.proofs.Whole.{as_many, summed}
use Rattle.aip_make.proofs.runs.play.Goals as goal

pub lines-init : goal.lines-init
lines-init c = λ topo whole came. as_many topo c.args.opened 0 c.args.lines (c.args.lines - 0) whole (omega arith) came

pub lines-preserved : goal.lines-preserved
lines-preserved c = λ topo whole came.
    c.in-Ok.ensures.goes topo (c.args.lines - (c.lines.index + 1)) whole
    (as_many topo c.lines.course c.lines.index (c.args.lines - c.lines.index) (c.args.lines - (c.lines.index + 1) + 1) whole (omega arith) (c.lines.invariant topo whole came))

pub returns-in-Err : goal.returns-in-Err
returns-in-Err c = λ topo whole came.
    c.in-Err.ensures.ends topo c.args.lines (c.args.lines - (c.lines.index + 1)) whole
    (as_many topo c.lines.course c.lines.index (c.args.lines - c.lines.index) (c.args.lines - (c.lines.index + 1) + 1) whole (omega arith) (c.lines.invariant topo whole came))

pub returns : goal.returns
returns c = λ topo whole came.
    let last = c.lines.invariant topo whole came in
    summed topo c.lines.course c.lines.index (c.args.lines - c.lines.index) c.args.lines whole c.sum_up.result last (omega arith)
    (c.sum_up.ensures topo last.trace last.stands last.counted)
