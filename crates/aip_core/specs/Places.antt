-- What is counted while hosts and links take their ports.
use Rattle.std.specs.Prelude.{◌≡◌, ℕ, ◌<◌, Bool, if◌then◌else◌, List, [], ◌∷◌, length, slice_index, slice_get, Vec, Option, Some, None}
use Rattle.std.specs.declared.alloc.Global.{Global}
use Rattle.aip_topo.specs.declared.topology.Part.{Part}
use Rattle.aip_topo.specs.declared.topology.Part.TheVariants.{Host, Link}
use Rattle.aip_rules.specs.declared.Neighbour.{Neighbour}
use Rattle.aip_rules.specs.Nodes.{ports_in}

-- the counts are how many ports of each router these lines take
pub record CountPorts (lines : List Part) (counts : List ℕ) : Type 0 where
  pub each : (router : ℕ) → router < length counts → slice_index counts router ≡ ports_in lines router

-- a host or a link stands at routers below n
abbrev pub IsAtRouters : ℕ → Part → Type 0
IsAtRouters n (Host host) = host.router < n
IsAtRouters n (Link link) = (link.a < n) × (link.b < n)

-- the neighbours in a row, if there is one
abbrev pub neighbours_in : Option (Vec Neighbour Global) → List Neighbour
neighbours_in None = []
neighbours_in (Some row) = row.items

-- the neighbours in a router's row, none where it has no row
abbrev pub row_of : List (Vec Neighbour Global) → ℕ → List Neighbour
row_of rows router = neighbours_in (slice_get rows router)

-- what lies at a port, if it is there
abbrev pub neighbour_if : Bool → Neighbour → List Neighbour
neighbour_if there neighbour = if there then neighbour ∷ [] else []
