use Rattle.aip_make.specs.Workload.{made_run, made_topology, state_behind}
use Rattle.aip_make.proofs.Whole.{at_first}
use Rattle.aip_make.proofs.runs.taken.Goals as goal

pub returns-in-Ok : goal.returns-in-Ok
returns-in-Ok c =
    c.play.ensures c.in-Ok.ensures.opened.topo (made_run c.args.n c.args.lines)
    (at_first (made_topology c.args.n) (state_behind c.args.n) c.args.lines c.in-Ok.course c.in-Ok.ensures.opened)

pub returns-in-Err : goal.returns-in-Err
returns-in-Err c = c.in-Err.ensures.ended c.args.lines
