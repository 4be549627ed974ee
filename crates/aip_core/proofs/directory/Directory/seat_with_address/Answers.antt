use Rattle.std.proofs.Common.{◌∙◌, ap, List}
use Rattle.aip_topo.specs.declared.topology.Topology.{Topology}
use Rattle.aip_rules.specs.declared.Seat.{Seat}
use Rattle.aip_addr.specs.Ids.{is_same_address}
use Rattle.aip_rules.specs.Nodes.{seats_of, seat_with_address}
use Rattle.aip_core.proofs.Keys.{looked_up}
use Rattle.aip_core.proofs.directory.Directory.seat_with_address.Goals as goal

pub returns : goal.returns
returns c =
    looked_up (λ (seat : Seat). is_same_address seat.address c.args.address.now) c.self.inside.seats.items c.deref.result.now c.copied.result c.seat_at.result
    c.seat_at.ensures.found c.deref.ensures.value (c.copied.ensures ∙ c.get.ensures.value ∙ c.self.invariant.host_addresses c.args.address.now)
    ∙ ap (λ (seats : List Seat). seat_with_address seats c.args.address.now) c.self.invariant.seats
    ∙ ap (λ (topo : Topology). seat_with_address (seats_of topo) c.args.address.now) c.self.view_is
