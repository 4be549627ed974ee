-- Routes that are kept by their goals.
use Rattle.std.specs.Prelude.{◌≡◌, ℕ, List, Option, Some, slice_get}
use Rattle.domain_routes.specs.declared.Edge.{Edge}
use Rattle.domain_routes.specs.declared.Goal.{Goal}
use Rattle.domain_routes.specs.declared.Goal.TheVariants.{Domain, Router}
use Rattle.domain_routes.specs.declared.GoalRoutes.{GoalRoutes}
use Rattle.domain_routes.specs.Rows.{IsGoalRoutesOf}
use Rattle.aip_core.specs.declared.routes.Routes.{Routes}

-- what is kept at each number, if anything is, are the routes to the goal of this number
pub record AreKept (domains : List ℕ) (edges : List Edge) (kind : ℕ → Goal) (slots : List (Option GoalRoutes)) : Type 0 where
  pub each : (number : ℕ) (routes : GoalRoutes) → slice_get slots number ≡ Some (Some routes) → IsGoalRoutesOf routes domains edges (kind number)

-- the routes that are kept are those over the graph with these domains of routers and these links
pub record AreRoutesOver (domains : List ℕ) (edges : List Edge) (routes : Routes) : Type 0 where
  pub to_domains : AreKept domains edges (λ d. Domain d) routes.to_domains.items
  pub to_routers : AreKept domains edges (λ r. Router r) routes.to_routers.items
