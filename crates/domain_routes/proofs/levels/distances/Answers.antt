use Rattle.std.proofs.Common.{List, ℕ, subst, drop, length}
use Rattle.domain_routes.proofs.SearchLemmas.{searched_zero, search_turn, search_end}
use Rattle.domain_routes.specs.Levels.{IsLevelZero}
use Rattle.domain_routes.proofs.levels.distances.Goals as goal

pub levels-init : goal.levels-init
levels-init c =
    searched_zero c.args.graph.now.domains.items c.args.graph.now.edges.items c.args.goal c.in_ok-levels.levels.items
    (subst (λ (domains : List ℕ). IsLevelZero domains c.args.goal c.in_ok-levels.levels.items) c.deref.ensures.value c.in_ok-levels.ensures)

pub levels-preserved : goal.levels-preserved
levels-preserved c =
    search_turn c.args.graph.now.domains.items c.args.graph.now.edges.items c.args.goal c.levels.level c.levels.levels.len c.levels.levels.items c.deref_mut.result.now c.spread.new.levels (drop (length c.spread.new.levels) c.levels.levels.items)
    c.levels.invariant c.deref_mut.ensures.value c.spread.ensures.spreads c.spread.auto.levels (c.spread.ensures.fewer c.levels-test.true) c.levels.levels.ok.0

pub returns : goal.returns
returns c =
    search_end c.args.graph.now.domains.items c.args.graph.now.edges.items c.args.goal c.levels.level c.levels.levels.len c.levels.levels.items c.deref_mut.result.now c.spread.new.levels (drop (length c.spread.new.levels) c.levels.levels.items)
    c.levels.invariant c.deref_mut.ensures.value c.spread.ensures.spreads (c.spread.ensures.same c.levels-test.false) c.levels.levels.ok.0
