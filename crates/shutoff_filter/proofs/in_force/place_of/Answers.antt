use Rattle.std.proofs.Common.{sym, ◌∙◌}
use Rattle.shutoff_filter.proofs.Placed.{past_next}
use Rattle.shutoff_filter.proofs.in_force.place_of.Goals as goal

pub places-preserved : goal.places-preserved
places-preserved c = λ until.
    past_next (record { to = c.args.to.now; until = until }) c.args.kept.now c.places.place c.places-test.true (sym c.is_before.ensures ∙ c.if-not-is_before.false) (c.places.invariant until)
