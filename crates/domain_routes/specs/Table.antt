-- What the table of routes holds, and the graph whose routes they are.
use Rattle.std.specs.Prelude.{◌≡◌, ℕ, List, Option}
use Rattle.domain_routes.specs.declared.Edge.{Edge}
use Rattle.domain_routes.specs.declared.Goal.{Goal}
use Rattle.domain_routes.specs.declared.Goal.TheVariants.{Domain, Router}
use Rattle.domain_routes.specs.declared.Routes.{Routes}
use Rattle.domain_routes.specs.Walks.{port_towards, DistancesAreLeast}
use Rattle.domain_routes.specs.Rows.{entry_of}

-- the port that the table holds for a router and a goal
abbrev pub port_of : Routes → ℕ → Goal → Option ℕ
port_of routes router (Domain d) = entry_of routes.by_domain.items d router
port_of routes router (Router g) = entry_of routes.by_router.items g router

-- the table holds the routes of the graph with these domains of routers and these links
pub record IsRoutesOf (routes : Routes) (domains : List ℕ) (edges : List Edge) : Type 0 where
  pub ports : (router : ℕ) (goal : Goal) → port_of routes router goal ≡ port_towards domains edges router goal
  pub law : (goal : Goal) → DistancesAreLeast domains edges goal
