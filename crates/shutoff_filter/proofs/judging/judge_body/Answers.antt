use Rattle.std.proofs.Common.{◌∙◌, ℕ, List, ap}
use Rattle.std.proofs.lemmas.List.{take_rest}
use Rattle.shutoff_filter.specs.Body.{signature_in}
use Rattle.shutoff_filter.specs.Entries.{entries_of}
use Rattle.shutoff_filter.specs.Judged.{is_full, is_in_log, order_verdict}
use Rattle.shutoff_filter.specs.declared.bodies.Order.{Order}
use Rattle.shutoff_filter.proofs.judging.judge_body.Goals as goal

pub returns : goal.returns
returns c =
    let slots = c.args.slots.now in
    let log = c.args.log.now.frames in
    let from = c.args.from.now in
    let to = c.args.to.now in
    let body = c.args.body.now in
    let full = is_full slots.room c.args.now from (entries_of slots.slots.items) in
    c.judge_order.ensures
    ∙ ap (λ (signature : List ℕ). order_verdict c.args.now from to c.order_in.result signature (is_in_log log from c.order_in.result) full) (take_rest body 100)
    ∙ ap (λ (order : Order). order_verdict c.args.now from to order (signature_in body) (is_in_log log from order) full) c.order_in.ensures
