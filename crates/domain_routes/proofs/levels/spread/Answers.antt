use Rattle.std.proofs.Common.{◌+◌, ◌∙◌, sym, arith, length}
use Rattle.domain_routes.proofs.SpreadLemmas.{row_is, row_inside, spread_past, spread_on, other_level}
use Rattle.domain_routes.specs.Levels.{level_at}
use Rattle.domain_routes.proofs.levels.spread.Goals as goal
use Rattle.domain_routes.proofs.levels.spread.Goals.{then-eq, else-eq}

pub reach-found-requires : goal.reach-found-requires
reach-found-requires c =
    row_inside c.args.graph.now.domains.items c.args.graph.now.edges.items c.deref.result.now c.loop-router.router (length c.loop-router.levels) c.requires.edges
    (c.deref.ensures.value ∙ row_is c.args.graph.now.domains.items c.args.graph.now.edges.items c.args.ways.now c.loop-router.router c.index-ways-router.result c.requires.ways (omega arith) c.index-ways-router.is)
    (omega arith)

pub loop-router-preserved : goal.loop-router-preserved
loop-router-preserved c =
    let edges = c.args.graph.now.edges.items in
    let level = c.args.level in
    let i = c.loop-router.router in
    let xs = c.loop-router.levels in
    elim c.if-eq.branch [
      | then-eq w ↦ spread_on edges level i (level + 1) c.args.levels.now xs w.reach-found.new.levels c.if-eq.levels w.deref.result.now c.loop-router.found w.reach-found.result c.if-eq.found c.loop-router.invariant
          (sym w.if-eq.ensures)
          (w.deref.ensures.value ∙ row_is c.args.graph.now.domains.items edges c.args.ways.now i w.index-ways-router.result c.requires.ways (omega arith) w.index-ways-router.is)
          (omega arith) w.reach-found.ensures.reaches w.reach-found.ensures.same w.reach-found.ensures.fewer w.levels-is w.found-is
      | else-eq w ↦ spread_past edges level i (i + 1) c.args.levels.now xs c.if-eq.levels c.loop-router.found c.if-eq.found c.loop-router.invariant (omega arith) (other_level (level_at xs i) level (sym w.if-eq.ensures)) w.levels-is w.found-is
    ]
