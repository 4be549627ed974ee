use Rattle.std.proofs.Common.{sym, ap, ◌∙◌}
use Rattle.aip_host.specs.HostState.{HostState}
use Rattle.aip_host.specs.Withholding.{held_back}
use Rattle.aip_host.proofs.Signed.{put_follows}
use Rattle.aip_host.proofs.Withheld.{hands_as}
use Rattle.aip_host.proofs.host.Host.put.Goals as goal

pub returns-clause-reaction : goal.returns-clause-reaction
returns-clause-reaction c =
    let inside = c.self.inside in
    let old : HostState = record { seat = inside.seat; towards = inside.towards; room = inside.room; log = inside.log; key = inside.key; guard = inside.guard } in
    rw (← c.self.view_is)
    (c.in_ok-reaction.ensures ∙ ap (held_back old.seat.name old.guard c.args.now) c.puts-puts.ensures ∙ sym (hands_as old c.args.now c.args.bytes))

pub returns-clause-follows : goal.returns-clause-follows
returns-clause-follows c =
    let inside = c.self.inside in
    let old : HostState = record { seat = inside.seat; towards = inside.towards; room = inside.room; log = inside.log; key = inside.key; guard = inside.guard } in
    rw (← c.self.view_is)
    (put_follows c.args.now old c.args.bytes c.note_put.new.log c.in_ok-reaction.reaction
    (c.in_ok-reaction.ensures ∙ ap (held_back old.seat.name old.guard c.args.now) c.puts-puts.ensures) c.note_put.ensures)
