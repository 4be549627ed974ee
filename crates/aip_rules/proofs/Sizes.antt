-- How long ids, addresses and frames are.
use Rattle.std.proofs.Common.{◌≡◌, ℕ, zero, suc, ◌-◌, ◌<◌, ◌≤◌, Bool, true, false, cond, List, [], ◌∷◌, ◌++◌, length, Option, Some, None, subst, sym, arith}
use Rattle.std.specs.Prelude.{find, slice_get, slice_index, IfSome}
use Rattle.std.specs.List.{AllByRecursion}
use Rattle.std.proofs.lemmas.List.{length-append, length-take}
use Rattle.std.specs.Prelude.{codes, take}
use Rattle.sha2.specs.Sha256.{sha256}
use Rattle.sha2.proofs.Facts256.{length-sha256}
use Rattle.aip_addr.specs.Ids.{id_of_router}
use Rattle.aip_addr.specs.declared.ids.Id.{Id}
use Rattle.aip_addr.specs.declared.ids.Address.{Address}
use Rattle.aip_frame.specs.declared.frame.Frame.{Frame}
use Rattle.aip_frame.specs.Frame.{frame_bytes, most_body, kind_at, Fits}
use Rattle.aip_frame.proofs.Spelled.{form_again}
use Rattle.aip_frame.proofs.Fitting.{body_fits_parts}
use Rattle.aip_topo.specs.Sound.{IsSound, IsDomain, IsRouterOf, IsPartOf}
use Rattle.aip_topo.specs.Steps.{ad_at}
use Rattle.aip_topo.specs.declared.topology.Domain.{Domain}
use Rattle.aip_topo.specs.declared.topology.Router.{Router}
use Rattle.aip_topo.specs.declared.topology.Part.{Part}
use Rattle.aip_topo.specs.declared.topology.Part.TheVariants.{Host, Link}
use Rattle.aip_topo.specs.declared.topology.Topology.{Topology}
use Rattle.aip_rules.specs.declared.Seat.{Seat}
use Rattle.aip_rules.specs.Nodes.{ad_of, seats_after, seats_of, seat_named, address_of_node, address_named}

-- an id of 20 bytes
abbrev pub IsSizedId : Id → Type 0
IsSizedId id = length id.bytes ≡ 20

-- an address of two ids of 20 bytes
pub record IsSizedAddress (address : Address) : Type 0 where
  pub ad : IsSizedId address.ad
  pub eid : IsSizedId address.eid

-- a host's address has its size
abbrev pub HasSizedAddress : Seat → Type 0
HasSizedAddress seat = IsSizedAddress seat.address

-- a router's address has its size
abbrev pub HasSized : Router → Type 0
HasSized router = IsSizedAddress router.address

-- what holds of each holds of the one that is found
pub found_all : {A : Type 0} (P : A → Type 0) (test : A → Bool) (xs : List A) → AllByRecursion P xs → IfSome (find test xs) P
found_all P test [] h = tt
found_all P test (x ∷ xs) h =
    elim (test x) as (λ b. IfSome (cond b (Some x) (find test xs)) P) [ true ↦ h.0 | false ↦ found_all P test xs h.1 ]

-- what holds of each holds of the one at a place
pub placed_all : {A : Type 0} (P : A → Type 0) (xs : List A) (k : ℕ) → AllByRecursion P xs → IfSome (slice_get xs k) P
placed_all P [] k h = tt
placed_all P (x ∷ xs) zero h = h.0
placed_all P (x ∷ xs) (suc k) h = placed_all P xs k h.1

-- the domain's id at a place has its size
ad_sized : (domains : List Domain) (k : ℕ) (ad : Id) → AllByRecursion IsDomain domains → ad_at k domains ≡ Some ad → IsSizedId ad
ad_sized [] k ad all e = absurd cc
ad_sized (d ∷ ds) zero ad all e =
    let same : d.ad ≡ ad = cc in
    subst IsSizedId same all.0.1.1
ad_sized (d ∷ ds) (suc k) ad all e = ad_sized ds k ad all.1 e

-- a router's id has its size
router_id_sized : (name : List ℕ) → IsSizedId (id_of_router name)
router_id_sized name =
    let hash = sha256 (codes "aip router" ++ name) in
    omega (arith, length-append (take 18 hash) (0 ∷ []), length-take 18 hash, length-sha256 (codes "aip router" ++ name))

router_sized : (domains : List Domain) (router : Router) → AllByRecursion IsDomain domains → IsRouterOf domains router → HasSized router
router_sized domains router all is = record {
  ad = ad_sized domains router.domain router.address.ad all is.2;
  eid = subst IsSizedId (sym is.3) (router_id_sized router.name);
}

routers_sized : (domains : List Domain) (routers : List Router) → AllByRecursion IsDomain domains → AllByRecursion (IsRouterOf domains) routers → AllByRecursion HasSized routers
routers_sized domains [] all is = tt
routers_sized domains (router ∷ routers) all is = (router_sized domains router all is.0, routers_sized domains routers all is.1)

-- the domain's id of the router at a place has its size
ad_of_sized : (routers : List Router) (k : ℕ) → k < length routers → AllByRecursion HasSized routers → IsSizedId (ad_of (slice_get routers k))
ad_of_sized [] k there h = absurd (omega arith)
ad_of_sized (router ∷ routers) zero there h = h.0.ad
ad_of_sized (router ∷ routers) (suc k) there h = ad_of_sized routers k (omega arith) h.1

pub hosts_sized : (routers : List Router) (before parts : List Part) → AllByRecursion HasSized routers → AllByRecursion (IsPartOf (length routers)) parts
    → AllByRecursion HasSizedAddress (seats_after routers before parts)
hosts_sized routers before [] h is = tt
hosts_sized routers before (Host host ∷ parts) h is =
    (record { ad = ad_of_sized routers host.router is.0.2 h; eid = is.0.1.1 }, hosts_sized routers (Host host ∷ before) parts h is.1)
hosts_sized routers before (Link link ∷ parts) h is = hosts_sized routers (Link link ∷ before) parts h is.1

-- the addresses of a sound topology's routers have their sizes
pub all_routers_sized : (topo : Topology) → IsSound topo → AllByRecursion HasSized topo.routers
all_routers_sized topo sound = routers_sized topo.domains topo.routers sound.domains sound.routers

-- the address of a router at a place has its size
pub router_at_sized : (topo : Topology) (place : ℕ) → IsSound topo → IfSome (slice_get topo.routers place) HasSized
router_at_sized topo place sound = placed_all HasSized topo.routers place (all_routers_sized topo sound)

-- the address of a host that is found by its name has its size
pub seat_sized : (topo : Topology) (name : List ℕ) → IsSound topo → IfSome (seat_named (seats_of topo) name) HasSizedAddress
seat_sized topo name sound =
    found_all HasSizedAddress _ (seats_of topo) (hosts_sized topo.routers [] topo.parts (all_routers_sized topo sound) sound.parts)

node_sized : (seat : Option Seat) (router : Option Router) → IfSome seat HasSizedAddress → IfSome router HasSized → IfSome (address_of_node seat router) IsSizedAddress
node_sized (Some seat) router s r = s
node_sized None (Some router) s r = r
node_sized None None s r = tt

-- the address of a node that is found by its name has its size
pub address_sized : (topo : Topology) (name : List ℕ) → IsSound topo → IfSome (address_named topo name) IsSizedAddress
address_sized topo name sound =
    node_sized _ _ (seat_sized topo name sound) (found_all HasSized _ topo.routers (all_routers_sized topo sound))

-- a frame whose fields have their sizes has at most 9,216 bytes
pub fitting_short : (f : Frame) → Fits f → length (frame_bytes f) ≤ 9216
fitting_short f fits =
    let form = form_again f fits in
    let long = form.long in
    let body : length (frame_bytes f) - 90 ≤ most_body = (body_fits_parts (kind_at (slice_index (frame_bytes f) 1)) (length (frame_bytes f) - 90) form.body).0 in
    omega arith
