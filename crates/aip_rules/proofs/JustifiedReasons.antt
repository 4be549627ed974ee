-- Why a verdict may be to forward, and what the tests of kinds, addresses and names say.
use Rattle.std.proofs.Common.{◌≡◌, ℕ, Bool, true, false, cond, not, List, Option, Some, None, refl, sym, ap, subst, ◌∙◌, true≢false, get_or}
use Rattle.std.proofs.lemmas.List.Quantifiers.{position-Some}
use Rattle.std.proofs.lemmas.Option.{get_or_from_slice_get}
use Rattle.std.proofs.lemmas.Slice.Eq.{bytes_eq-Decides}
use Rattle.std.specs.Cmp.{first_so, second_so, unsigned_Decides}
use Rattle.std.specs.Prelude.{slice_get}
use Rattle.std.specs.Str.{bytes_eq}
use Rattle.aip_addr.specs.declared.ids.Address.{Address}
use Rattle.aip_frame.specs.declared.frame.Kind.{Kind}
use Rattle.aip_frame.specs.declared.frame.Kind.TheVariants.{Data, Challenge, Response, ShutOff}
use Rattle.aip_event.specs.declared.event.Cause.{Cause}
use Rattle.aip_addr.specs.Ids.{is_same_id, is_same_address}
use Rattle.first_hop.specs.Verdict.{host_verdict}
use Rattle.border_check.specs.Verdict.{port_verdict, leads_back}
use Rattle.aip_registry.specs.declared.records.Record.{Record}
use Rattle.aip_topo.specs.declared.topology.Router.{Router}
use Rattle.aip_topo.specs.declared.topology.Topology.{Topology}
use Rattle.aip_rules.specs.declared.Entry.{Entry}
use Rattle.aip_rules.specs.declared.Neighbour.{Neighbour}
use Rattle.aip_rules.specs.declared.Neighbour.TheVariants as neighbour
use Rattle.aip_rules.specs.declared.Reaction.{Reaction}
use Rattle.aip_rules.specs.declared.Verdict.TheVariants.{Forwards}
use Rattle.aip_rules.specs.Nodes.{place_of_router}
use Rattle.aip_rules.specs.Records.{trusts}
use Rattle.aip_rules.specs.Router.{Arrival, SourceKnown, of_host, of_border, verdict_by, is_challenge, is_response}
use Rattle.aip_rules.specs.Promises.{IsLink}
use Rattle.aip_rules.proofs.JustifiedBacked.{IsRouterNamed, Follow}

-- ---- the causes

-- a link lies there, and its other end passes the test of trust
abbrev pub PassesTrust : Topology → List Record → (now : ℕ) → Router → Option Neighbour → Type 0
PassesTrust topo kept now self None = ⊥
PassesTrust topo kept now self (Some (neighbour.Host name)) = ⊥
PassesTrust topo kept now self (Some (neighbour.Link other far marked)) = trusts topo kept now self other marked ≡ true

-- why a verdict may be to forward, by what lies at the port
pub data Reasons (topo : Topology) (kept : List Record) (now : ℕ) (self : Router) (at : Option Neighbour) (port : ℕ) (source : SourceKnown) : Type 0 where
  Trusted : PassesTrust topo kept now self at → Reasons topo kept now self at port source
  Reverse : IsLink at → source.back ≡ Some port → Reasons topo kept now self at port source
  Fresh : source.fresh ≡ true → Reasons topo kept now self at port source
  FreshDomain : IsLink at → source.wild ≡ true → Reasons topo kept now self at port source

at_host_port : (topo : Topology) (kept : List Record) (now : ℕ) (at : Arrival) (name : List ℕ) (source : SourceKnown) (foreign fresh : Bool) (why : Cause)
    → (fresh ≡ true → source.fresh ≡ true)
    → of_host at.port (host_verdict foreign fresh) ≡ Forwards why → Reasons topo kept now at.self (Some (neighbour.Host name)) at.port source
at_host_port topo kept now at name source true fresh why f e = absurd cc
at_host_port topo kept now at name source false true why f e = Fresh (f refl)
at_host_port topo kept now at name source false false why f e = absurd cc

-- where a port leads back, it is the port towards the source
led_back : (back : Option ℕ) (port : ℕ) → leads_back back port ≡ true → back ≡ Some port
led_back None port t = absurd (true≢false (sym t))
led_back (Some back) port t = ap Some ((unsigned_Decides back port).0 t)

at_link_port : (topo : Topology) (kept : List Record) (now : ℕ) (at : Arrival) (other far : ℕ) (marked : Bool) (source : SourceKnown) (trusted reverse fresh wild : Bool) (why : Cause)
    → (trusted ≡ true → trusts topo kept now at.self other marked ≡ true) → (reverse ≡ true → source.back ≡ Some at.port)
    → (fresh ≡ true → source.fresh ≡ true) → (wild ≡ true → source.wild ≡ true)
    → of_border source.back (port_verdict trusted reverse fresh wild) ≡ Forwards why
    → Reasons topo kept now at.self (Some (neighbour.Link other far marked)) at.port source
at_link_port topo kept now at other far marked source true reverse fresh wild why t r f w e = Trusted (t refl)
at_link_port topo kept now at other far marked source false true fresh wild why t r f w e = Reverse tt (r refl)
at_link_port topo kept now at other far marked source false false true wild why t r f w e = Fresh (f refl)
at_link_port topo kept now at other far marked source false false false true why t r f w e = FreshDomain tt (w refl)
at_link_port topo kept now at other far marked source false false false false why t r f w e = absurd cc

-- a verdict to forward has one of the reasons
pub reasoned : (topo : Topology) (kept : List Record) (now : ℕ) (at : Arrival) (there : Option Neighbour) (source : SourceKnown) (why : Cause)
    → verdict_by topo kept now at there source ≡ Forwards why → Reasons topo kept now at.self there at.port source
reasoned topo kept now at None source why e = absurd cc
reasoned topo kept now at (Some (neighbour.Host name)) source why e =
    at_host_port topo kept now at name source (not (is_same_id source.address.ad at.self.address.ad)) source.fresh why (λ f. f) e
reasoned topo kept now at (Some (neighbour.Link other far marked)) source why e =
    at_link_port topo kept now at other far marked source (trusts topo kept now at.self other marked) (leads_back source.back at.port) source.fresh source.wild why
    (λ t. t) (led_back source.back at.port) (λ f. f) (λ w. w) e

-- ---- tests of kinds, addresses and names

pub challenges : (kind : Kind) → is_challenge kind ≡ true → kind ≡ Challenge
challenges Data t = absurd (true≢false (sym t))
challenges Challenge t = refl
challenges Response t = absurd (true≢false (sym t))
challenges ShutOff t = absurd (true≢false (sym t))

pub responses : (kind : Kind) → is_response kind ≡ true → kind ≡ Response
responses Data t = absurd (true≢false (sym t))
responses Challenge t = absurd (true≢false (sym t))
responses Response t = refl
responses ShutOff t = absurd (true≢false (sym t))

pub same_addresses : (a b : Address) → is_same_address a b ≡ true → a ≡ b
same_addresses a b t =
    let ad = (bytes_eq-Decides a.ad.bytes b.ad.bytes).0 (first_so (bytes_eq a.ad.bytes b.ad.bytes) (bytes_eq a.eid.bytes b.eid.bytes) t) in
    let eid = (bytes_eq-Decides a.eid.bytes b.eid.bytes).0 (second_so (bytes_eq a.ad.bytes b.ad.bytes) (bytes_eq a.eid.bytes b.eid.bytes) t) in
    λ i. record { ad = record { bytes = ad i }; eid = record { bytes = eid i } }

-- a router that is found by a name has it
pub found_name : (routers : List Router) (name : List ℕ) (place : ℕ) (self : Router) → place_of_router routers name ≡ Some place → slice_get routers place ≡ Some self
    → name ≡ self.name
found_name routers name place self named there =
    let passes = (position-Some (λ router. bytes_eq router.name name) routers place self named).1 in
    let read : get_or routers place self ≡ self = get_or_from_slice_get routers place self self there in
    sym ((bytes_eq-Decides self.name name).0 (subst (λ (r : Router). bytes_eq r.name name ≡ true) read passes))

-- one name is that of one router
pub same_router : (topo : Topology) (name : List ℕ) (p q : ℕ) (r s : Router) → IsRouterNamed topo name p r → IsRouterNamed topo name q s → (p ≡ q) × (r ≡ s)
same_router topo name p q r s one other =
    let place : p ≡ q = let e : Some p ≡ Some q = sym one.named ∙ other.named in cc in
    let e : Some r ≡ Some s = sym one.there ∙ ap (slice_get topo.routers) place ∙ other.there in
    (place, cc)

-- both of two outcomes follow
pub either_follows : (topo : Topology) (tr : List Entry) (test : Bool) (a b : Reaction) → (test ≡ true → Follow topo tr a.events) → (test ≡ false → Follow topo tr b.events)
    → Follow topo tr (cond test a b).events
either_follows topo tr true a b p q = p refl
either_follows topo tr false a b p q = q refl
