-- One row of the table of routes: for one goal the port of each router.
use Rattle.std.specs.Prelude.{◌≡◌, ℕ, List, Vec, Option, Some, None, slice_get, slice_index_or}
use Rattle.std.specs.declared.alloc.Global.{Global}
use Rattle.domain_routes.specs.declared.Edge.{Edge}
use Rattle.domain_routes.specs.declared.Goal.{Goal}
use Rattle.domain_routes.specs.declared.GoalRoutes.{GoalRoutes}
use Rattle.domain_routes.specs.Walks.{port_towards, DistancesAreLeast}

-- the port of a router, by an option of a row
abbrev pub entry_in : Option (Vec (Option ℕ) Global) → ℕ → Option ℕ
entry_in None router = None
entry_in (Some row) router = slice_index_or row.items router None

-- the entry at a goal's number and a router, none outside of the table
abbrev pub entry_of : List (Vec (Option ℕ) Global) → ℕ → ℕ → Option ℕ
entry_of rows goal router = entry_in (slice_get rows goal) router

-- the row holds the port of each router towards the goal, by distances that are least
pub record IsRow (domains : List ℕ) (edges : List Edge) (goal : Goal) (row : List (Option ℕ)) : Type 0 where
  pub ports : (router : ℕ) → slice_index_or row router None ≡ port_towards domains edges router goal
  pub law : DistancesAreLeast domains edges goal

-- the port that the routes to a goal hold for a router
abbrev pub port_in : GoalRoutes → ℕ → Option ℕ
port_in routes router = slice_index_or routes.ports.items router None

-- the routes are those to the goal over the graph with these domains of routers and these links
abbrev pub IsGoalRoutesOf : GoalRoutes → List ℕ → List Edge → Goal → Type 0
IsGoalRoutesOf routes domains edges goal = IsRow domains edges goal routes.ports.items

-- the rows, and none past them, hold the ports towards each goal of the kind
pub record AreRows (domains : List ℕ) (edges : List Edge) (kind : ℕ → Goal) (rows : List (Vec (Option ℕ) Global)) : Type 0 where
  pub ports : (number router : ℕ) → entry_of rows number router ≡ port_towards domains edges router (kind number)
  pub law : (number : ℕ) → DistancesAreLeast domains edges (kind number)
