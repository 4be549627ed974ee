use Rattle.std.proofs.Common.{List, sym, subst}
use Rattle.domain_routes.specs.declared.Edge.{Edge}
use Rattle.domain_routes.specs.Walks.{IsSoundGraph}
use Rattle.aip_core.proofs.Links.{sound_with}
use Rattle.aip_core.proofs.wiring.Wiring.with_link.Goals as goal

pub invariant_of-result-2 : goal.invariant_of-result-2
invariant_of-result-2 c = record {
  sound = subst (λ (es : List Edge). IsSoundGraph c.self.inside.graph.domains.items es) (sym c.relinked-edges.ensures)
      (sound_with c.self.inside.graph.domains.items c.self.inside.graph.edges.items c.args.link c.args.up c.self.invariant.sound);
  short = c.self.invariant.short;
  routes = c.new-routes.ensures c.self.inside.graph.domains.items c.relinked-edges.result.items;
}
