use Rattle.std.proofs.Common.{◌∙◌, ap, List}
use Rattle.aip_topo.specs.declared.topology.Topology.{Topology}
use Rattle.aip_rules.specs.declared.Seat.{Seat}
use Rattle.aip_rules.specs.Nodes.{seats_of}
use Rattle.aip_core.specs.Machine.{seat_place}
use Rattle.aip_core.proofs.Acting.{place_low}
use Rattle.aip_core.proofs.directory.Directory.place_of_host.Goals as goal

pub returns-clause-there : goal.returns-clause-there
returns-clause-there c =
    place_low (seats_of c.args.self.now) c.args.name.now c.copied.result
    (c.copied.ensures ∙ c.get.ensures.value ∙ c.self.invariant.host_names c.args.name.now
    ∙ ap (λ (seats : List Seat). seat_place seats c.args.name.now) c.self.invariant.seats
    ∙ ap (λ (topo : Topology). seat_place (seats_of topo) c.args.name.now) c.self.view_is)
