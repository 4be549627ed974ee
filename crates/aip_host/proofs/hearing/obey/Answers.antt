use Rattle.std.proofs.Common.{◌∙◌, ap}
use Rattle.aip_rules.specs.Reaction.{happens}
use Rattle.aip_host.specs.Withholding.{GuardFollows, LeavesUnordered, order_event}
use Rattle.aip_host.proofs.Obeys.{if_ok, order_follows, ordered, told_order}
use Rattle.aip_host.proofs.hearing.obey.Goals as goal

pub returns-in-Ok-clause-follows : goal.returns-in-Ok-clause-follows
returns-in-Ok-clause-follows c =
    let done = c.in-Ok.ensures in
    if_ok c.happens.result _ (λ reaction. GuardFollows c.args.now c.args.host c.args.guard.now reaction c.obey.new.self) c.happens.ensures (λ reaction comes.
    order_follows c.args.now c.args.host c.args.guard.now c.obey.new.self c.args.sender c.args.until c.in-Ok.obeying reaction c.requires.up done.answer done.halt done.down done.entries
    (comes ∙ ap happens c.order_event.ensures))

pub returns-in-Ok-clause-unordered : goal.returns-in-Ok-clause-unordered
returns-in-Ok-clause-unordered c =
    if_ok c.happens.result _ (λ reaction. LeavesUnordered reaction c.args.guard.now c.obey.new.self) c.happens.ensures (λ reaction comes.
    ordered (order_event c.args.host c.args.sender c.args.until c.in-Ok.obeying) reaction c.args.guard.now c.obey.new.self (comes ∙ ap happens c.order_event.ensures)
    (told_order c.args.host c.args.sender c.args.until c.in-Ok.obeying))
