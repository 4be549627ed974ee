use Rattle.std.proofs.Common.{rules, ◌≡◌, List, Option, sym, subst}
use Rattle.domain_routes.specs.declared.GoalRoutes.{GoalRoutes}
use Rattle.aip_core.specs.Routes.{AreKept}
use Rattle.aip_core.proofs.Slots.{kept_longer}
use Rattle.aip_core.proofs.routes.make_place.Goals as goal

pub places-preserved : goal.places-preserved
places-preserved c = λ domains edges kind h.
    subst (λ (slots : List (Option GoalRoutes)). AreKept domains edges kind slots) (sym c.in_ok-push.ensures.items)
    (kept_longer domains edges kind c.places.slots.items (c.places.invariant domains edges kind h))

pub returns-in_err-push-clause-kept : goal.returns-in_err-push-clause-kept
returns-in_err-push-clause-kept c = λ domains edges kind h.
    let same : c.push.new.self.items ≡ c.places.slots.items = search rules in
    subst (λ (slots : List (Option GoalRoutes)). AreKept domains edges kind slots) (sym same) (c.places.invariant domains edges kind h)
