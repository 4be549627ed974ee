use Rattle.std.proofs.Common.{◌∙◌, sym, arith}
use Rattle.domain_routes.specs.declared.Way.{Way}
use Rattle.domain_routes.specs.Levels.{level_at}
use Rattle.domain_routes.proofs.RowLemmas.{lowest_on, lowest_past}
use Rattle.domain_routes.proofs.rows.lowest_port.Goals as goal
use Rattle.domain_routes.proofs.rows.lowest_port.Goals.{then-is_one_less, else-is_one_less}

pub loop-way-preserved : goal.loop-way-preserved
loop-way-preserved c =
    let d : Way = record { port = 0; neighbour = 0 } in
    let at = level_at c.args.distances.now in
    elim c.if-is_one_less.branch [
      | then-is_one_less w ↦ lowest_on at c.args.own c.loop-way.lowest c.if-is_one_less.lowest c.args.ways.now c.loop-way.way-index d c.loop-way.invariant (omega arith) (sym c.is_one_less.ensures ∙ w.if-is_one_less.true) (w.lowest-is ∙ w.lower-lowest.ensures)
      | else-is_one_less w ↦ lowest_past at c.args.own c.loop-way.lowest c.if-is_one_less.lowest c.args.ways.now c.loop-way.way-index d c.loop-way.invariant (omega arith) (sym c.is_one_less.ensures ∙ w.if-is_one_less.false) w.lowest-is
    ]
