-- No two nodes of a sound topology have one name.
use Rattle.std.proofs.Common.{◌≡◌, ◌≢◌, ℕ, zero, suc, ◌+◌, ◌<◌, ◌||◌, Bool, true, false, List, [], ◌∷◌, ◌++◌, length, map, Option, Some, None, refl, sym, ◌∙◌, ap, subst, arith}
use Rattle.std.specs.Prelude.{slice_get}
use Rattle.std.specs.Str.{bytes_eq}
use Rattle.std.specs.List.{list_any}
use Rattle.std.proofs.lemmas.Slice.Eq.{bytes_eq-Decides}
use Rattle.std.proofs.lemmas.Option.{slice_get-map}
use Rattle.aip_topo.specs.declared.topology.Part.{Part}
use Rattle.aip_topo.specs.declared.topology.Part.TheVariants.{Host, Link}
use Rattle.aip_topo.specs.declared.topology.Router.{Router}
use Rattle.aip_topo.specs.declared.topology.Topology.{Topology}
use Rattle.aip_topo.specs.Sound.{IsSound, AreDistinct, has_text, host_names, names_of}
use Rattle.aip_rules.specs.declared.Seat.{Seat}
use Rattle.aip_rules.specs.Nodes.{seats_after, seats_of}

-- texts that aren't the same differ, whichever comes first
not_same : (b : Bool) → (b ≡ true → ⊥) → b ≡ false
not_same true never = absurd (never refl)
not_same false never = refl

pub differ : (a b : List ℕ) → (a ≡ b → ⊥) → bytes_eq a b ≡ false
differ a b apart = not_same (bytes_eq a b) (λ e. apart ((bytes_eq-Decides a b).0 e))

pub not_equal : (a b : List ℕ) → bytes_eq a b ≡ false → a ≡ b → ⊥
not_equal a b e same = absurd (let t : bytes_eq a b ≡ true = (bytes_eq-Decides a b).1 same in let f : false ≡ true = sym e ∙ t in cc)

pub turned : (a b : List ℕ) → bytes_eq a b ≡ false → bytes_eq b a ≡ false
turned a b e = differ b a (λ same. not_equal a b e (sym same))

neither : (b c : Bool) → (b || c) ≡ false → (b ≡ false) × (c ≡ false)
neither true c e = absurd cc
neither false c e = (refl, e)

-- a text that isn't among others differs from each
pub absent_at : (text other : List ℕ) (texts : List (List ℕ)) (k : ℕ) → has_text text texts ≡ false → slice_get texts k ≡ Some other → bytes_eq other text ≡ false
absent_at text other [] k absent there = absurd cc
absent_at text other (t ∷ texts) zero absent there =
    let same : t ≡ other = cc in
    subst (λ x. bytes_eq x text ≡ false) same (neither (bytes_eq t text) (has_text text texts) absent).0
absent_at text other (t ∷ texts) (suc k) absent there = absent_at text other texts k (neither (bytes_eq t text) (has_text text texts) absent).1 there

-- distinct texts differ at different places
pub distinct_at : (texts : List (List ℕ)) (p q : ℕ) (a b : List ℕ) → AreDistinct texts → (p ≡ q → ⊥) → slice_get texts p ≡ Some a → slice_get texts q ≡ Some b → bytes_eq a b ≡ false
distinct_at [] p q a b distinct apart at_p at_q = absurd cc
distinct_at (t ∷ texts) zero zero a b distinct apart at_p at_q = absurd (apart refl)
distinct_at (t ∷ texts) zero (suc q) a b distinct apart at_p at_q =
    let same : t ≡ a = cc in
    turned b a (subst (λ x. bytes_eq b x ≡ false) same (absent_at t b texts q distinct.0 at_q))
distinct_at (t ∷ texts) (suc p) zero a b distinct apart at_p at_q =
    let same : t ≡ b = cc in
    subst (λ x. bytes_eq a x ≡ false) same (absent_at t a texts p distinct.0 at_p)
distinct_at (t ∷ texts) (suc p) (suc q) a b distinct apart at_p at_q = distinct_at texts p q a b distinct.1 (λ e. apart (ap suc e)) at_p at_q

-- the later of distinct texts are distinct
later : (first rest : List (List ℕ)) → AreDistinct (first ++ rest) → AreDistinct rest
later [] rest distinct = distinct
later (t ∷ first) rest distinct = later first rest distinct.1

-- so are the earlier
absent_first : (text : List ℕ) (first rest : List (List ℕ)) → has_text text (first ++ rest) ≡ false → has_text text first ≡ false
absent_first text [] rest absent = refl
absent_first text (t ∷ first) rest absent =
    let parts = neither (bytes_eq t text) (has_text text (first ++ rest)) absent in
    both_false (bytes_eq t text) (has_text text first) parts.0 (absent_first text first rest parts.1) where
      both_false : (b c : Bool) → b ≡ false → c ≡ false → (b || c) ≡ false
      both_false b c p q = ap (λ x. x || c) p ∙ q

earlier : (first rest : List (List ℕ)) → AreDistinct (first ++ rest) → AreDistinct first
earlier [] rest distinct = tt
earlier (t ∷ first) rest distinct = (absent_first t first rest distinct.0, earlier first rest distinct.1)

-- an earlier of distinct texts and a later one differ
absent_last : (text other : List ℕ) (first rest : List (List ℕ)) (k : ℕ) → has_text text (first ++ rest) ≡ false → slice_get rest k ≡ Some other → bytes_eq other text ≡ false
absent_last text other [] rest k absent there = absent_at text other rest k absent there
absent_last text other (t ∷ first) rest k absent there =
    absent_last text other first rest k (neither (bytes_eq t text) (has_text text (first ++ rest)) absent).1 there

pub apart_at : (first rest : List (List ℕ)) (p q : ℕ) (a b : List ℕ) → AreDistinct (first ++ rest) → slice_get first p ≡ Some a → slice_get rest q ≡ Some b → bytes_eq a b ≡ false
apart_at [] rest p q a b distinct at_p at_q = absurd cc
apart_at (t ∷ first) rest zero q a b distinct at_p at_q =
    let same : t ≡ a = cc in
    turned b a (subst (λ x. bytes_eq b x ≡ false) same (absent_last t b first rest q distinct.0 at_q))
apart_at (t ∷ first) rest (suc p) q a b distinct at_p at_q = apart_at first rest p q a b distinct.1 at_p at_q

-- the name of a host that is the same
name_is : (s seat : Seat) → Some s ≡ Some seat → Some s.name ≡ Some seat.name
name_is s seat e = let same : s ≡ seat = cc in ap (λ (x : Seat). Some x.name) same

-- the hosts have the names of their lines, in the same order
pub seat_names : (routers : List Router) (before parts : List Part) (k : ℕ) (seat : Seat) → slice_get (seats_after routers before parts) k ≡ Some seat → slice_get (host_names parts) k ≡ Some seat.name
seat_names routers before [] k seat there = absurd cc
seat_names routers before (Host host ∷ parts) zero seat there = name_is _ seat there
seat_names routers before (Host host ∷ parts) (suc k) seat there = seat_names routers (Host host ∷ before) parts k seat there
seat_names routers before (Link link ∷ parts) k seat there = seat_names routers (Link link ∷ before) parts k seat there

router_name : (routers : List Router) (k : ℕ) (self : Router) → slice_get routers k ≡ Some self → slice_get (map (λ router. router.name) routers) k ≡ Some self.name
router_name [] k self there = absurd cc
router_name (r ∷ routers) zero self there = let same : r ≡ self = cc in ap (λ (x : Router). Some x.name) same
router_name (r ∷ routers) (suc k) self there = router_name routers k self there

-- the names of routers and hosts are distinct
nodes_differ : (topo : Topology) → IsSound topo → AreDistinct (map (λ router. router.name) topo.routers ++ host_names topo.parts)
nodes_differ topo sound = later (map (λ domain. domain.name) topo.domains) (map (λ router. router.name) topo.routers ++ host_names topo.parts) sound.names_differ

-- the hosts have distinct names
pub hosts_distinct : (topo : Topology) → IsSound topo → AreDistinct (host_names topo.parts)
hosts_distinct topo sound = later (map (λ router. router.name) topo.routers) (host_names topo.parts) (nodes_differ topo sound)

-- two hosts at different places have different names
pub two_hosts : (topo : Topology) (p q : ℕ) (a b : Seat) → IsSound topo → (p ≡ q → ⊥) → slice_get (seats_of topo) p ≡ Some a → slice_get (seats_of topo) q ≡ Some b → bytes_eq a.name b.name ≡ false
two_hosts topo p q a b sound apart at_p at_q =
    distinct_at (host_names topo.parts) p q a.name b.name (hosts_distinct topo sound) apart
    (seat_names topo.routers [] topo.parts p a at_p) (seat_names topo.routers [] topo.parts q b at_q)

-- two routers at different places have different names
pub two_routers : (topo : Topology) (p q : ℕ) (a b : Router) → IsSound topo → (p ≡ q → ⊥) → slice_get topo.routers p ≡ Some a → slice_get topo.routers q ≡ Some b → bytes_eq a.name b.name ≡ false
two_routers topo p q a b sound apart at_p at_q =
    distinct_at (map (λ router. router.name) topo.routers) p q a.name b.name (earlier (map (λ router. router.name) topo.routers) (host_names topo.parts) (nodes_differ topo sound)) apart
    (router_name topo.routers p a at_p) (router_name topo.routers q b at_q)

-- a router and a host have different names
pub router_and_host : (topo : Topology) (p q : ℕ) (self : Router) (seat : Seat) → IsSound topo → slice_get topo.routers p ≡ Some self → slice_get (seats_of topo) q ≡ Some seat → bytes_eq self.name seat.name ≡ false
router_and_host topo p q self seat sound at_p at_q =
    apart_at (map (λ router. router.name) topo.routers) (host_names topo.parts) p q self.name seat.name (nodes_differ topo sound)
    (router_name topo.routers p self at_p) (seat_names topo.routers [] topo.parts q seat at_q)
