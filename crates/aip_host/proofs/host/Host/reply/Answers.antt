use Rattle.std.proofs.Common.{◌≡◌, false, ap, ◌∙◌}
use Rattle.aip_host.specs.HostState.{HostState, down_of}
use Rattle.aip_host.specs.Withholding.{held_back}
use Rattle.aip_host.proofs.Signed.{answer_is, signing_follows}
use Rattle.aip_host.proofs.host.Host.reply.Goals as goal

pub returns-in_ok-reaction-in-Some-clause-reaction : goal.returns-in_ok-reaction-in-Some-clause-reaction
returns-in_ok-reaction-in-Some-clause-reaction c =
    let inside = c.self.inside in
    let old : HostState = record { seat = inside.seat; towards = inside.towards; room = inside.room; log = inside.log; key = inside.key; guard = inside.guard } in
    let signed = c.in_ok-signed-in-Some.ensures.reaction in
    let left = c.in_ok-reaction-in-Some.ensures in
    rw (← c.self.view_is)
    (answer_is old c.in-Some.key c.args.now c.args.challenge.now c.in_ok-reaction-in-Some.reaction c.in-Some.is (left ∙ ap (held_back old.seat.name old.guard c.args.now) signed))

pub returns-in_ok-reaction-in-Some-clause-follows : goal.returns-in_ok-reaction-in-Some-clause-follows
returns-in_ok-reaction-in-Some-clause-follows c =
    let inside = c.self.inside in
    let old : HostState = record { seat = inside.seat; towards = inside.towards; room = inside.room; log = inside.log; key = inside.key; guard = inside.guard } in
    let e = c.in_ok-signed-in-Some.ensures in
    let left = c.in_ok-reaction-in-Some.ensures in
    let up : down_of old ≡ false = ap down_of c.self.view_is ∙ c.requires.up in
    rw (← c.self.view_is)
    (signing_follows c.args.now old c.in-Some.key c.answer.new.key c.note_put.new.log c.in_ok-reaction-in-Some.reaction _ _ c.in-Some.is up
    (left ∙ ap (held_back old.seat.name old.guard c.args.now) e.reaction) c.note_put.ensures e.next e.stop e.down e.key)
