use Rattle.std.proofs.Common.{◌∙◌, ◌+◌, sym, ap}
use Rattle.std.specs.Prelude.{if◌then◌else◌}
use Rattle.shutoff_filter.proofs.Counts.{counted}
use Rattle.shutoff_filter.proofs.slots.+others_in_force.Goals as goal

pub returns-then-counts-clause-count : goal.returns-then-counts-clause-count
returns-then-counts-clause-count t c =
    let others = c.others_in_force-others.result in
    sym (ap (λ b. if b then others + 1 else others) c.if-counts.true)
    ∙ counted c.args.now c.args.to.now c.args.slots.now _ c.counts.result others c.in-len1-up.len_at_least c.counts.ensures c.others_in_force-others.ensures.count

pub returns-else-counts-clause-count : goal.returns-else-counts-clause-count
returns-else-counts-clause-count t c =
    let others = c.others_in_force-others.result in
    sym (ap (λ b. if b then others + 1 else others) c.if-counts.false)
    ∙ counted c.args.now c.args.to.now c.args.slots.now _ c.counts.result others c.in-len1-up.len_at_least c.counts.ensures c.others_in_force-others.ensures.count
