-- Where names and addresses are found.
use Rattle.std.specs.Prelude.{◌≡◌, ℕ, ◌<◌, ◌≤◌, List, length, All, position}
use Rattle.std.specs.Str.{bytes_eq}
use Rattle.std.specs.BTreeMap.{get}
use Rattle.std.specs.Ordering.{nat_cmp, ordering_then}
use Rattle.std.specs.Cmp.Lexicographic.{slice_cmp}
use Rattle.std.specs.declared.cmp.Ordering.{Ordering}
use Rattle.aip_addr.specs.declared.ids.Id.{Id}
use Rattle.aip_addr.specs.declared.ids.Address.{Address}
use Rattle.aip_topo.specs.Index.{name_cmp}
use Rattle.aip_rules.specs.declared.Seat.{Seat}
use Rattle.aip_addr.specs.Ids.{is_same_address}
use Rattle.aip_rules.specs.Nodes.{seats_of, place_of_router, router_with_address, domain_with_ad}
use Rattle.aip_core.specs.declared.directory.Directory.TheInside.{Inside}

-- the order of ids
abbrev pub id_cmp : Id → Id → Ordering
id_cmp a b = slice_cmp nat_cmp a.bytes b.bytes

-- the order of addresses
abbrev pub address_cmp : Address → Address → Ordering
address_cmp a b = ordering_then (id_cmp a.ad b.ad) (id_cmp a.eid b.eid)

-- the host stands at one of the first n routers
abbrev pub SitsBelow : ℕ → Seat → Type 0
SitsBelow n seat = seat.router < n

-- the hosts are at their ports, and each name and address is found at its place
pub record FindsPlaces (directory : Inside) : Type 0 where
  pub few : length directory.topology.routers ≤ 256
  pub seats : directory.seats.items ≡ seats_of directory.topology
  pub seated : All (SitsBelow (length directory.topology.routers)) directory.seats.items
  pub host_names : (name : List ℕ) → get name_cmp directory.host_names name ≡ position (λ seat. bytes_eq seat.name name) directory.seats.items
  pub host_addresses : (address : Address) → get address_cmp directory.host_addresses address ≡ position (λ seat. is_same_address seat.address address) directory.seats.items
  pub router_names : (name : List ℕ) → get name_cmp directory.router_names name ≡ place_of_router directory.topology.routers name
  pub router_addresses : (address : Address) → get address_cmp directory.router_addresses address ≡ router_with_address directory.topology.routers address
  pub domain_ads : (ad : Id) → get id_cmp directory.domain_ads ad ≡ domain_with_ad directory.topology.domains ad
