use Rattle.std.proofs.Common.{◌∙◌, subst, sym, ap, refl, Some, Ok}
use Rattle.std.specs.Prelude.{slice_get}
use Rattle.aip_event.specs.declared.input.Target.{Target}
use Rattle.aip_rules.specs.Nodes.{seats_of}
use Rattle.aip_rules.specs.Reaction.{nothing}
use Rattle.aip_core.specs.Kept.{Kept}
use Rattle.aip_core.specs.Machine.{AreSeated, seat_place}
use Rattle.aip_core.proofs.Acting.{seated_count, named_acts, host_delivered}
use Rattle.aip_core.proofs.engine.Core.reach.Goals as goal

pub returns-in-Some-place_of_host : goal.returns-in-Some-place_of_host
returns-in-Some-place_of_host c =
    host_delivered c.args.self.now c.act.new.self c.args.input.now c.args.flight c.in-Host.name (slice_get c.args.self.now.flights c.args.flight) c.act.result
    c.requires.taken refl (c.requires.there ∙ ap (λ (t : Target). Some t) c.in-Host.is)
    (named_acts c.args.self.now c.act.new.self c.args.input.now c.in-Host.name c.in-Some-place_of_host.place (Ok nothing) c.act.result
    (seated_count c.args.self.now.topo c.args.self.now.hosts (subst (λ (k : Kept). AreSeated k.topo k.hosts) c.self-in-Host.view_is c.self-in-Host.invariant.hosts))
    (sym (c.place_of_host.ensures.found ∙ ap (λ (k : Kept). seat_place (seats_of k.topo) c.in-Host.name) c.self-in-Host.view_is) ∙ c.in-Some-place_of_host.is)
    c.act.ensures)
