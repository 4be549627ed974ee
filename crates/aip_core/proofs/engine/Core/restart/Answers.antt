use Rattle.std.proofs.Common.{◌∙◌, subst, sym, ap, refl}
use Rattle.aip_event.specs.declared.input.Input.TheVariants.{Restart}
use Rattle.aip_rules.specs.Nodes.{seats_of, place_of_router}
use Rattle.aip_core.specs.Kept.{Kept}
use Rattle.aip_core.specs.Machine.{AreSeated, seat_place, router_restarted}
use Rattle.aip_core.proofs.Acting.{seated_count, named_acts, named_outcome}
use Rattle.aip_core.proofs.engine.Core.restart.Goals as goal

pub returns-in-Some : goal.returns-in-Some
returns-in-Some c =
    let other = router_restarted (place_of_router c.args.self.now.topo.routers c.args.node.now) in
    named_outcome c.args.self.now c.act.new.self c.args.input.now (Restart c.args.node.now) c.args.node.now other c.act.result c.requires refl
    (named_acts c.args.self.now c.act.new.self c.args.input.now c.args.node.now c.in-Some.place other c.act.result
    (seated_count c.args.self.now.topo c.args.self.now.hosts (subst (λ (k : Kept). AreSeated k.topo k.hosts) c.self.view_is c.self.invariant.hosts))
    (sym (c.place_of_host.ensures.found ∙ ap (λ (k : Kept). seat_place (seats_of k.topo) c.args.node.now) c.self.view_is) ∙ c.in-Some.is)
    c.act.ensures)
