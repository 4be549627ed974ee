-- The levels of a search from the goal outwards: a router's level is its distance, as far as the search has come.
use Rattle.std.specs.Prelude.{◌≡◌, ℕ, suc, ◌<◌, ◌==◌, ◌&&◌, ◌++◌, Bool, true, ◌⊎◌, List, [], ◌∷◌, length, Option, Some, None, slice_index_or, if◌then◌else◌, Vec, Contains, slice_get}
use Rattle.std.specs.declared.alloc.Global.{Global}
use Rattle.domain_routes.specs.declared.Edge.{Edge}
use Rattle.domain_routes.specs.declared.Way.{Way}
use Rattle.domain_routes.specs.declared.Goal.{Goal}
use Rattle.domain_routes.specs.Walks.{ways, way_if, is_in_goal, distance, DistancesAreLeast}

-- the ways in a row, if there is one
abbrev pub ways_in : Option (Vec Way Global) → List Way
ways_in None = []
ways_in (Some row) = row.items

-- the ways in a router's row, none where it has no row
abbrev pub row_of : List (Vec Way Global) → ℕ → List Way
row_of all router = ways_in (slice_get all router)

-- the router is this one
abbrev pub is_at : ℕ → ℕ → Bool
is_at router other = router == other

-- the ways out of a router along one link, if it is up
abbrev pub ways_by : Edge → ℕ → List Way
ways_by e router =
    way_if (e.up && (e.a == router)) (record { port = e.a_port; neighbour = e.b })
    ++ way_if (e.up && (e.b == router)) (record { port = e.b_port; neighbour = e.a })

-- these are the ways out of each router of the graph
pub record AreWays (domains : List ℕ) (edges : List Edge) (all : List (Vec Way Global)) : Type 0 where
  pub count : length all ≡ length domains
  pub each : (router : ℕ) (row : Vec Way Global) → slice_get all router ≡ Some row → row.items ≡ ways edges router

-- the level of a router, if it has one yet
abbrev pub level_at : List (Option ℕ) → ℕ → Option ℕ
level_at levels router = slice_index_or levels router None

-- how many routers have no level yet
abbrev pub unset : List (Option ℕ) → ℕ
unset [] = 0
unset (None ∷ rest) = suc (unset rest)
unset (Some n ∷ rest) = unset rest

-- the levels keep what they have, gain only `next` at neighbours by these ways, and each such neighbour has a level
pub record Reaches (out : List Way) (next : ℕ) (old new : List (Option ℕ)) : Type 0 where
  pub kept : (router k : ℕ) → level_at old router ≡ Some k → level_at new router ≡ Some k
  pub fresh : (router k : ℕ) → level_at new router ≡ Some k → (level_at old router ≡ Some k) ⊎ ((k ≡ next) × ((w : Way) × Contains out w × (w.neighbour ≡ router)))
  pub reached : (w : Way) → Contains out w → (k : ℕ) × (level_at new w.neighbour ≡ Some k)

-- the levels keep what they have, gain only the next level at neighbours of routers of this level below the limit, and
-- each such neighbour has a level
pub record Spreads (edges : List Edge) (level limit : ℕ) (old new : List (Option ℕ)) : Type 0 where
  pub kept : (router k : ℕ) → level_at old router ≡ Some k → level_at new router ≡ Some k
  pub fresh : (router k : ℕ) → level_at new router ≡ Some k → (level_at old router ≡ Some k) ⊎ ((k ≡ suc level) × ((near : ℕ) × (w : Way) × (level_at old near ≡ Some level) × Contains (ways edges near) w × (w.neighbour ≡ router)))
  pub reached : (near : ℕ) (w : Way) → near < limit → level_at old near ≡ Some level → Contains (ways edges near) w → (k : ℕ) × (level_at new w.neighbour ≡ Some k)

-- level 0 for a router in the goal
abbrev pub level_if : Bool → Option ℕ
level_if there = (if there then Some 0 else None)

-- the routers of the goal are at level 0, and no other router has a level yet
pub record IsLevelZero (domains : List ℕ) (goal : Goal) (levels : List (Option ℕ)) : Type 0 where
  pub count : length levels ≡ length domains
  pub each : (router : ℕ) → level_at levels router ≡ level_if (is_in_goal domains goal router)

-- level 0 is the goal
pub record StartsAtGoal (domains : List ℕ) (goal : Goal) (levels : List (Option ℕ)) : Type 0 where
  pub count : length levels ≡ length domains
  pub zero_in : (router : ℕ) → is_in_goal domains goal router ≡ true → level_at levels router ≡ Some 0
  pub in_zero : (router : ℕ) → level_at levels router ≡ Some 0 → is_in_goal domains goal router ≡ true

-- the levels are the distances of all routers to the goal, which are least
pub record AreDistances (domains : List ℕ) (edges : List Edge) (goal : Goal) (levels : List (Option ℕ)) : Type 0 where
  pub count : length levels ≡ length domains
  pub exact : (router : ℕ) → level_at levels router ≡ distance domains edges goal router
  pub law : DistancesAreLeast domains edges goal
