use Rattle.std.proofs.Common.{◌≡◌, false, sym, ap, ◌∙◌}
use Rattle.aip_host.specs.declared.silencing.Demand.{Demand}
use Rattle.aip_host.specs.HostState.{HostState, down_of}
use Rattle.aip_host.specs.Withholding.{held_back}
use Rattle.aip_host.proofs.Signed.{shut_is, signing_follows}
use Rattle.aip_host.proofs.host.Host.demand.Goals as goal

pub returns-clause-reaction : goal.returns-clause-reaction
returns-clause-reaction c =
    let inside = c.self.inside in
    let old : HostState = record { seat = inside.seat; towards = inside.towards; room = inside.room; log = inside.log; key = inside.key; guard = inside.guard } in
    let demand : Demand = record { to = c.from_of.result; hash = c.packet_hash.result; issue = c.args.now; ttl = c.args.ttl } in
    let signed = c.in_ok-signed-in-Some.ensures.reaction in
    let left = c.in_ok-reaction-in-Some.ensures in
    let up : down_of old ≡ false = ap down_of c.self.view_is ∙ sym c.is_down.ensures ∙ c.if-is_down.false in
    rw (← c.self.view_is)
    (shut_is old c.in-Some.key demand _ c.in_ok-reaction-in-Some.reaction c.in-Some.is up c.from_of.ensures c.packet_hash.ensures
    (left ∙ ap (held_back old.seat.name old.guard c.args.now) signed))

pub returns-clause-follows : goal.returns-clause-follows
returns-clause-follows c =
    let inside = c.self.inside in
    let old : HostState = record { seat = inside.seat; towards = inside.towards; room = inside.room; log = inside.log; key = inside.key; guard = inside.guard } in
    let e = c.in_ok-signed-in-Some.ensures in
    let left = c.in_ok-reaction-in-Some.ensures in
    let up : down_of old ≡ false = ap down_of c.self.view_is ∙ sym c.is_down.ensures ∙ c.if-is_down.false in
    rw (← c.self.view_is)
    (signing_follows c.args.now old c.in-Some.key c.silence.new.key c.note_put.new.log c.in_ok-reaction-in-Some.reaction _ _ c.in-Some.is up
    (left ∙ ap (held_back old.seat.name old.guard c.args.now) e.reaction) c.note_put.ensures e.next e.stop e.down e.key)
