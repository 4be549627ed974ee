-- Walks over the links that are up, the distances that they give, and the port towards a goal.
use Rattle.std.specs.Prelude.{◌≡◌, ℕ, zero, suc, ◌+◌, ◌<◌, ◌≤◌, ◌==◌, ◌&&◌, Bool, false, IsTrue, ◌⊎◌, Contains, All, if◌then◌else◌, min, List, [], ◌∷◌, ◌++◌, length, slice_get, Option, Some, None}
use Rattle.std.specs.List.{list_any}
use Rattle.domain_routes.specs.declared.Edge.{Edge}
use Rattle.domain_routes.specs.declared.Way.{Way}
use Rattle.domain_routes.specs.declared.Goal.{Goal}
use Rattle.domain_routes.specs.declared.Goal.TheVariants.{Domain, Router}

-- the link joins two routers of the graph
abbrev pub JoinsRouters : List ℕ → Edge → Type 0
JoinsRouters domains e = (e.a < length domains) × (e.b < length domains)

-- the graph has at most 256 routers, and each link joins two of them
pub record IsSoundGraph (domains : List ℕ) (edges : List Edge) : Type 0 where
  pub routers : length domains ≤ 256
  pub links : All (JoinsRouters domains) edges

-- the option holds this number
abbrev pub holds : Option ℕ → ℕ → Bool
holds None n = false
holds (Some m) n = m == n

-- the goal takes in a router of this number, if it has a domain and this is it
abbrev pub takes_in : Goal → ℕ → Option ℕ → Bool
takes_in goal router None = false
takes_in (Domain d) router (Some domain) = domain == d
takes_in (Router g) router (Some domain) = router == g

-- the router is in the goal: a router of the graph that has the goal's domain, or that is the goal's router
abbrev pub is_in_goal : List ℕ → Goal → ℕ → Bool
is_in_goal domains goal router = takes_in goal router (slice_get domains router)

-- the one way, if it is there
abbrev pub way_if : Bool → Way → List Way
way_if there w = (if there then w ∷ [] else [])

-- the ways out of a router: the port and the neighbour of each link that is up at it, in the order of the links
abbrev pub ways : List Edge → ℕ → List Way
ways [] router = []
ways (e ∷ es) router =
    way_if (e.up && (e.a == router)) (record { port = e.a_port; neighbour = e.b })
    ++ (way_if (e.up && (e.b == router)) (record { port = e.b_port; neighbour = e.a }) ++ ways es router)

-- some walk of n links that are up leads from the router into the goal
unfoldable pub has_walk : (domains : List ℕ) (edges : List Edge) (goal : Goal) (n router : ℕ) → Bool
has_walk domains edges goal zero router = is_in_goal domains goal router
has_walk domains edges goal (suc n) router =
    list_any (λ w. has_walk domains edges goal n w.neighbour) (ways edges router)

-- the first option that holds a number
abbrev pub first_of_two : Option ℕ → Option ℕ → Option ℕ
first_of_two None q = q
first_of_two (Some n) q = Some n

-- the least number below the limit that passes the test
abbrev pub least_below : (ℕ → Bool) → ℕ → Option ℕ
least_below test zero = None
least_below test (suc n) = first_of_two (least_below test n) (if test n then Some n else None)

-- the distance of a router to the goal: the least length of a walk, which visits no router twice
unfoldable pub distance : (domains : List ℕ) (edges : List Edge) (goal : Goal) (router : ℕ) → Option ℕ
distance domains edges goal router = least_below (λ n. has_walk domains edges goal n router) (length domains)

-- the first distance is one less than the second
abbrev pub is_one_less : Option ℕ → Option ℕ → Bool
is_one_less None far = false
is_one_less (Some near) far = holds far (near + 1)

-- the lower of two ports, where there are two
abbrev pub lower_of : Option ℕ → Option ℕ → Option ℕ
lower_of None q = q
lower_of (Some p) None = Some p
lower_of (Some p) (Some q) = Some (min p q)

-- the lowest of the ports, if there is one
abbrev pub lowest : List ℕ → Option ℕ
lowest [] = None
lowest (p ∷ ps) = lower_of (Some p) (lowest ps)

-- the ports of the ways that lead one step nearer, where a router's distance is what `at` gives
abbrev pub nearer_ports : (ℕ → Option ℕ) → Option ℕ → List Way → List ℕ
nearer_ports at own [] = []
nearer_ports at own (w ∷ ws) =
    (if is_one_less (at w.neighbour) own then w.port ∷ nearer_ports at own ws else nearer_ports at own ws)

-- the port towards the goal: the lowest of those whose link is up and whose neighbour is one step nearer
unfoldable pub port_towards : (domains : List ℕ) (edges : List Edge) (router : ℕ) (goal : Goal) → Option ℕ
port_towards domains edges router goal =
    lowest (nearer_ports (distance domains edges goal) (distance domains edges goal router) (ways edges router))

-- the number is the least length of all walks from the router into the goal
pub record IsLeastWalk (domains : List ℕ) (edges : List Edge) (goal : Goal) (router n : ℕ) : Type 0 where
  pub walk : IsTrue (has_walk domains edges goal n router)
  pub least : (m : ℕ) → IsTrue (has_walk domains edges goal m router) → n ≤ m

-- no walk of any length leads from the router into the goal
abbrev pub NoWalk : (domains : List ℕ) (edges : List Edge) (goal : Goal) (router : ℕ) → Type 0
NoWalk domains edges goal router = (m : ℕ) → IsTrue (has_walk domains edges goal m router) → ⊥

-- every distance to the goal is the least length of all walks, and where there is none, there is no walk
pub record DistancesAreLeast (domains : List ℕ) (edges : List Edge) (goal : Goal) : Type 0 where
  pub least : (router n : ℕ) → distance domains edges goal router ≡ Some n → IsLeastWalk domains edges goal router n
  pub none : (router : ℕ) → distance domains edges goal router ≡ None → NoWalk domains edges goal router

-- the port leads by a link that is up one step nearer to the goal, and no lower port of the router does
pub record IsLowestStep (domains : List ℕ) (edges : List Edge) (goal : Goal) (router port : ℕ) : Type 0 where
  pub left : ℕ
  pub own : distance domains edges goal router ≡ Some (suc left)
  pub way : Way
  pub out : Contains (ways edges router) way
  pub by_port : way.port ≡ port
  pub nearer : distance domains edges goal way.neighbour ≡ Some left
  pub lowest_port : (other : Way) → Contains (ways edges router) other → distance domains edges goal other.neighbour ≡ Some left → port ≤ other.port

-- there is nowhere to go: the router is in the goal, or no walk leads there
abbrev pub HasNoStep : (domains : List ℕ) (edges : List Edge) (goal : Goal) (router : ℕ) → Type 0
HasNoStep domains edges goal router = IsTrue (is_in_goal domains goal router) ⊎ NoWalk domains edges goal router
