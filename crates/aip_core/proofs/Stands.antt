-- A sound topology can be run: its hosts, links and neighbours are at its routers.
use Rattle.std.proofs.Common.{◌≡◌, ℕ, ◌+◌, ◌<◌, ◌≤◌, Bool, true, false, List, [], ◌∷◌, length, cond, refl, sym, subst, arith, eqb}
use Rattle.std.specs.Prelude.{All, count_by}
use Rattle.std.specs.List.{AllByRecursion}
use Rattle.std.proofs.lemmas.List.{length-map}
use Rattle.std.proofs.lemmas.List.Sums.{sum_by-cons}
use Rattle.std.proofs.lemmas.List.Elements.{All-nil, All-cons, All-head, All-tail, All-append}
use Rattle.domain_routes.specs.declared.Edge.{Edge}
use Rattle.domain_routes.specs.Walks.{IsSoundGraph}
use Rattle.aip_topo.specs.declared.topology.Topology.{Topology}
use Rattle.aip_topo.specs.declared.topology.Router.{Router}
use Rattle.aip_topo.specs.declared.topology.Part.{Part}
use Rattle.aip_topo.specs.declared.topology.Part.TheVariants.{Host, Link}
use Rattle.aip_topo.specs.Sound.{IsSound, IsPartOf}
use Rattle.aip_topo.specs.Steps.{is_host, is_link}
use Rattle.aip_rules.specs.declared.Neighbour.{Neighbour}
use Rattle.aip_rules.specs.declared.Neighbour.TheVariants as neighbour
use Rattle.aip_rules.specs.Nodes.{seats_after, seats_of, links_after, links_of, neighbours_by, neighbours_after, neighbours_of, ports_in}
use Rattle.aip_rules.specs.Routes.{domains_of_routers}
use Rattle.aip_core.specs.Directory.{SitsBelow}
use Rattle.aip_core.specs.Places.{IsAtRouters, row_of}
use Rattle.aip_core.specs.Wiring.{Wired, LeadsBelow, IsWiringOf}

-- sound hosts and links stand at routers
at_routers : (n : ℕ) (parts : List Part) → AllByRecursion (IsPartOf n) parts → All (IsAtRouters n) parts
at_routers n [] h = All-nil (IsAtRouters n)
at_routers n (Host host ∷ parts) h = All-cons (IsAtRouters n) (Host host) parts h.0.2 (at_routers n parts h.1)
at_routers n (Link link ∷ parts) h = All-cons (IsAtRouters n) (Link link) parts (h.0.0, h.0.1) (at_routers n parts h.1)

pub parts_there : (topo : Topology) → IsSound topo → All (IsAtRouters (length topo.routers)) topo.parts
parts_there topo sound = at_routers (length topo.routers) topo.parts sound.parts

-- each part is a host or a link
counted : (parts : List Part) → count_by is_host parts + count_by is_link parts ≡ length parts
counted [] = refl
counted (Host host ∷ parts) =
    omega (arith, counted parts, sum_by-cons (λ p. cond (is_host p) 1 0) (Host host) parts, sum_by-cons (λ p. cond (is_link p) 1 0) (Host host) parts)
counted (Link link ∷ parts) =
    omega (arith, counted parts, sum_by-cons (λ p. cond (is_host p) 1 0) (Link link) parts, sum_by-cons (λ p. cond (is_link p) 1 0) (Link link) parts)

pub few_parts : (topo : Topology) → IsSound topo → length topo.parts ≤ 5120
few_parts topo sound =
    let hosts : count_by is_host topo.parts ≤ 1024 = sound.few_hosts in
    let links : count_by is_link topo.parts ≤ 4096 = sound.few_links in
    omega (arith, counted topo.parts)

-- there are no more hosts than lines
no_more_seats : (routers : List Router) (before parts : List Part) → length (seats_after routers before parts) ≤ length parts
no_more_seats routers before [] = omega arith
no_more_seats routers before (Host host ∷ parts) = omega (arith, no_more_seats routers (Host host ∷ before) parts)
no_more_seats routers before (Link link ∷ parts) = omega (arith, no_more_seats routers (Link link ∷ before) parts)

pub few_seats : (topo : Topology) → IsSound topo → length (seats_of topo) ≤ 65536
few_seats topo sound = omega (arith, no_more_seats topo.routers [] topo.parts, few_parts topo sound)

-- the hosts of lines at the first n routers stand at these
hosts_seated : (n : ℕ) (routers : List Router) (before parts : List Part) → All (IsAtRouters n) parts → All (SitsBelow n) (seats_after routers before parts)
hosts_seated n routers before [] h = All-nil (SitsBelow n)
hosts_seated n routers before (Host host ∷ parts) h =
    All-cons (SitsBelow n) _ _ (All-head (IsAtRouters n) (Host host) parts h) (hosts_seated n routers (Host host ∷ before) parts (All-tail (IsAtRouters n) (Host host) parts h))
hosts_seated n routers before (Link link ∷ parts) h = hosts_seated n routers (Link link ∷ before) parts (All-tail (IsAtRouters n) (Link link) parts h)

pub seated : (topo : Topology) → IsSound topo → All (SitsBelow (length topo.routers)) (seats_of topo)
seated topo sound = hosts_seated (length topo.routers) topo.routers [] topo.parts (parts_there topo sound)

-- the link joins two of the first n routers
abbrev pub JoinsBelow : ℕ → Edge → Type 0
JoinsBelow n e = (e.a < n) × (e.b < n)

-- the links of lines at the first n routers join these
links_joined : (n : ℕ) (before parts : List Part) → All (IsAtRouters n) parts → All (JoinsBelow n) (links_after before parts)
links_joined n before [] h = All-nil (JoinsBelow n)
links_joined n before (Host host ∷ parts) h = links_joined n (Host host ∷ before) parts (All-tail (IsAtRouters n) (Host host) parts h)
links_joined n before (Link link ∷ parts) h =
    All-cons (JoinsBelow n) _ _ (All-head (IsAtRouters n) (Link link) parts h) (links_joined n (Link link ∷ before) parts (All-tail (IsAtRouters n) (Link link) parts h))

-- the links of a sound topology are those of a sound graph
pub sound_graph : (topo : Topology) (domains : List ℕ) (links : List Edge) → IsSound topo → domains ≡ domains_of_routers topo.routers → links ≡ links_of topo → IsSoundGraph domains links
sound_graph topo domains links sound d l =
    let count : length domains ≡ length topo.routers = subst (λ ds. length ds ≡ length topo.routers) (sym d) (length-map topo.routers (λ router. router.domain)) in
    let few : length topo.routers ≤ 256 = sound.few_routers in
    record {
      routers = omega arith;
      links = subst (λ (es : List Edge). All (JoinsBelow (length domains)) es) (sym l)
          (subst (λ n. All (JoinsBelow n) (links_of topo)) (sym count) (links_joined (length topo.routers) [] topo.parts (parts_there topo sound)));
    }

-- one neighbour, or none
leads_if : (n : ℕ) (b : Bool) (x : Neighbour) → LeadsBelow n x → All (LeadsBelow n) (cond b (x ∷ []) [])
leads_if n true x h = All-cons (LeadsBelow n) x [] h (All-nil (LeadsBelow n))
leads_if n false x h = All-nil (LeadsBelow n)

leads_by : (n : ℕ) (before : List Part) (part : Part) (router : ℕ) → IsAtRouters n part → All (LeadsBelow n) (neighbours_by before part router)
leads_by n before (Host host) router h = leads_if n (eqb host.router router) (neighbour.Host host.name) tt
leads_by n before (Link link) router h =
    All-append (LeadsBelow n) _ _
    (leads_if n (eqb link.a router) (neighbour.Link link.b (ports_in before link.b) link.a_trusts) h.1)
    (leads_if n (eqb link.b router) (neighbour.Link link.a (ports_in before link.a) link.b_trusts) h.0)

-- what lies at the ports of routers leads to routers
leads_after : (n : ℕ) (before parts : List Part) (router : ℕ) → All (IsAtRouters n) parts → All (LeadsBelow n) (neighbours_after before parts router)
leads_after n before [] router h = All-nil (LeadsBelow n)
leads_after n before (part ∷ parts) router h =
    All-append (LeadsBelow n) _ _ (leads_by n before part router (All-head (IsAtRouters n) part parts h))
    (leads_after n (part ∷ before) parts router (All-tail (IsAtRouters n) part parts h))

pub wiring_of : (topo : Topology) (wired : Wired) → IsSound topo → wired.domains ≡ domains_of_routers topo.routers
    → ((router : ℕ) → row_of wired.rows router ≡ neighbours_of topo router) → IsWiringOf topo wired
wiring_of topo wired sound domains rows = record {
  domains = domains;
  rows = rows;
  leads = λ router. subst (λ (ns : List Neighbour). All (LeadsBelow (length topo.routers)) ns) (sym (rows router))
      (leads_after (length topo.routers) [] topo.parts router (parts_there topo sound));
}
