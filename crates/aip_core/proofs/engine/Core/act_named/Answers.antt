use Rattle.std.proofs.Common.{◌∙◌, subst, sym, ap, Err}
use Rattle.aip_rules.specs.Nodes.{seats_of}
use Rattle.aip_rules.specs.declared.StepFault.TheVariants as fault
use Rattle.aip_core.specs.Kept.{Kept}
use Rattle.aip_core.specs.Machine.{AreSeated, seat_place}
use Rattle.aip_core.proofs.Acting.{seated_count, named_acts}
use Rattle.aip_core.proofs.engine.Core.act_named.Goals as goal

pub returns-in-Some : goal.returns-in-Some
returns-in-Some c =
    named_acts c.args.self.now c.act.new.self c.args.input.now c.args.host.now c.in-Some.place (Err fault.Unknown) c.act.result
    (seated_count c.args.self.now.topo c.args.self.now.hosts (subst (λ (k : Kept). AreSeated k.topo k.hosts) c.self.view_is c.self.invariant.hosts))
    (sym (c.place_of_host.ensures.found ∙ ap (λ (k : Kept). seat_place (seats_of k.topo) c.args.host.now) c.self.view_is) ∙ c.in-Some.is)
    c.act.ensures
