use Rattle.std.proofs.Common.{arith, ap, ◌∙◌}
use Rattle.domain_routes.specs.declared.Way.{Way}
use Rattle.std.specs.Prelude.{not}
use Rattle.domain_routes.proofs.LevelLemmas.{reached_now, reached_again, reached_at_start}
use Rattle.domain_routes.proofs.levels.reach.Goals as goal
use Rattle.domain_routes.proofs.levels.reach.Goals.{then-is_none, else-is_none}

pub loop-way-init : goal.loop-way-init
loop-way-init c = reached_at_start c.args.ways.now c.args.next c.args.levels.now

pub loop-way-preserved : goal.loop-way-preserved
loop-way-preserved c =
    let i = c.loop-way.way-index in
    let d : Way = record { port = 0; neighbour = 0 } in
    elim c.if-is_none.branch [
      | then-is_none w ↦ reached_now c.args.ways.now i c.args.next c.args.levels.now c.loop-way.levels c.if-is_none.levels c.loop-way.found c.if-is_none.found d c.loop-way.invariant (omega arith) (omega (arith, c.requires i d (omega arith))) (c.is_none.ensures ∙ ap not w.if-is_none.true) w.levels-is w.found-is
      | else-is_none w ↦ reached_again c.args.ways.now i c.args.next c.args.levels.now c.loop-way.levels c.if-is_none.levels c.loop-way.found c.if-is_none.found d c.loop-way.invariant (omega arith) (c.is_none.ensures ∙ ap not w.if-is_none.false) w.levels-is w.found-is
    ]
