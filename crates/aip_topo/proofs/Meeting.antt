-- What a line adds may stand in the topology, and is new there.
use Rattle.std.proofs.Common.{◌≡◌, ℕ, suc, ◌+◌, ◌<◌, ◌==◌, Bool, true, false, cond, not, ◌||◌, nat_lt, List, [], ◌∷◌, length, Option, Some, None, refl, sym, ap, subst, ◌∙◌, arith}
use Rattle.std.specs.Prelude.{count_by, replicate, position, unwrap_or}
use Rattle.std.specs.Str.{bytes_eq}
use Rattle.std.specs.List.{list_any, position_or_len}
use Rattle.std.specs.Option.{is_none, is_some, option_map}
use Rattle.std.proofs.lemmas.Bool.{both_ways, eqb-true, false_from_ne_true, le-ltb, leb-false, lt-ltb, ltb-false, ltb-true, or_parts}
use Rattle.std.proofs.lemmas.List.Quantifiers.{position-Some}
use Rattle.std.proofs.lemmas.Slice.Eq.{bytes_eq-Decides}
use Rattle.std.proofs.lemmas.Option.{cond_some, get_or_from_slice_get}
use Rattle.aip_addr.specs.declared.ids.Id.{Id}
use Rattle.aip_topo.specs.Lines.{IsLine}
use Rattle.aip_topo.specs.Sound.{IsDomain, IsInRange, IsPartOf, IsRouterOf}
use Rattle.aip_topo.specs.Steps.{ad_at, ad_or_zeros, addition_of, is_host, is_link, is_named, names_domain, names_host, names_router, router_place}
use Rattle.aip_topo.specs.declared.lines.Line.{Line}
use Rattle.aip_topo.specs.declared.lines.Line.TheVariants as line
use Rattle.aip_topo.specs.declared.steps.Draft.{Draft}
use Rattle.aip_topo.specs.declared.additions.Addition.{Addition}
use Rattle.aip_topo.specs.declared.additions.Addition.TheVariants as addition
use Rattle.aip_topo.specs.declared.topology.Domain.{Domain}
use Rattle.aip_topo.specs.declared.topology.Part.TheVariants as part
use Rattle.aip_topo.specs.declared.topology.Router.{Router}
use Rattle.aip_topo.specs.declared.topology.Topology.{Topology}
use Rattle.aip_topo.proofs.Accepted.{IsAccepted}
use Rattle.aip_topo.proofs.Keys.{ad_may, ad_sized, eid_sized, origin_alone, origin_id, origin_sized, origin_version}
use Rattle.aip_topo.proofs.Placing.{there_is}

-- ## What an addition is, and what it isn't yet

-- an addition that may stand in the topology
abbrev pub Stands : Topology → Addition → Type 0
Stands t (addition.Set s value) = IsInRange (s, value)
Stands t (addition.Domain domain) = IsDomain domain
Stands t (addition.Router router) = IsRouterOf t.domains router
Stands t (addition.Part p) = IsPartOf (length t.routers) p

-- it has a place and its name is new
abbrev pub IsNew : Topology → Addition → Type 0
IsNew t (addition.Set _ _) = Unit {0}
IsNew t (addition.Domain domain) = (length t.domains < 64) × (is_named domain.name t ≡ false)
IsNew t (addition.Router router) = (length t.routers < 256) × (is_named router.name t ≡ false)
IsNew t (addition.Part (part.Host host)) = (count_by is_host t.parts < 1024) × (is_named host.name t ≡ false)
IsNew t (addition.Part (part.Link _)) = count_by is_link t.parts < 4096

-- a place that was found is one of the list's
pub found_within : {A : Type 0} (p : A → Bool) (xs : List A) (k : ℕ) → position p xs ≡ Some k → k < length xs
found_within p xs k h =
    let e = cond_some (nat_lt (position_or_len p xs) (length xs)) (position_or_len p xs) k h in
    let below = ltb-true (position_or_len p xs) (length xs) e.0 in
    subst (λ n. n < length xs) e.1 below

-- what isn't none is some
pub some_of : {A : Type 0} (o : Option A) → is_none o ≡ false → (x : A) × (o ≡ Some x)
some_of None h = cc h
some_of (Some x) h = (x, refl)

-- what is known stands at its place
pub known_within : {A : Type 0} (p : A → Bool) (xs : List A) → is_none (position p xs) ≡ false → unwrap_or (position p xs) 0 < length xs
known_within p xs h =
    let it = some_of (position p xs) h in
    subst (λ o. unwrap_or o 0 < length xs) (sym it.1) (found_within p xs it.0 it.1)

-- the id of a domain that is there
pub ad_there : (domains : List Domain) (k : ℕ) → k < length domains → ad_at k domains ≡ Some (ad_or_zeros k domains)
ad_there domains k below =
    let it = there_is domains k below in
    let here : ad_at k domains ≡ Some it.0.ad = ap (option_map (λ (d : Domain). d.ad)) it.1 in
    let zeros : Id = record { bytes = replicate 20 0 } in
    here ∙ sym (ap (λ o. Some (unwrap_or o zeros)) here)

-- routers of two names stand at two places
apart : (a b : List ℕ) (rs : List Router) (i j : ℕ) → bytes_eq a b ≡ false → router_place a rs ≡ Some i → router_place b rs ≡ Some j → (i == j) ≡ false
apart a b rs i j other first second = false_from_ne_true (i == j) (λ same. both_ways (bytes_eq a b) other ((bytes_eq-Decides a b).1 (one_name (eqb-true i j same))))
  where
    one_name : i ≡ j → a ≡ b
    one_name same =
        let it = there_is rs i (found_within (names_router a) rs i first) in
        let here = get_or_from_slice_get rs i it.0 it.0 it.1 in
        let one = position-Some (names_router a) rs i it.0 first in
        let two = position-Some (names_router b) rs i it.0 (second ∙ ap Some (sym same)) in
        let named_a = (bytes_eq-Decides it.0.name a).0 (sym (ap (names_router a) here) ∙ one.1) in
        let named_b = (bytes_eq-Decides it.0.name b).0 (sym (ap (names_router b) here) ∙ two.1) in
        sym named_a ∙ named_b

-- both facts
abbrev Meets : Topology → Addition → Type 0
Meets t e = Stands t e × IsNew t e

-- what a line adds may stand, and is new
pub line_meets : (draft : Draft) (l : Line) → IsLine l → IsAccepted draft l → Meets draft.topology (addition_of draft.topology l)
line_meets draft (line.Set s value) fits met = (met.ranged, tt)
line_meets draft (line.Domain name from) fits met =
    let may = ad_may from met.ranged in
    let size = ad_sized from fits.1 in
    ((fits.0, origin_sized from size may, origin_version from may, origin_alone from met.ranged, origin_id from size), (leb-false _ _ met.few, met.once))
line_meets draft (line.Router name domain checking master) fits met =
    let t = draft.topology in
    let there = ad_there t.domains _ (known_within (names_domain domain) t.domains met.known) in
    ((fits.0, fits.2, there, refl), (leb-false _ _ met.few, met.once))
line_meets draft (line.Host name router guarded from) fits met =
    let t = draft.topology in
    let size = eid_sized from fits.2 in
    ((fits.0, origin_sized from size met.ranged, known_within (names_router router) t.routers met.known, origin_version from met.ranged, origin_id from size), (leb-false _ _ met.few, met.once))
line_meets draft (line.Link a b a_trusts b_trusts) fits met =
    let rs = draft.topology.routers in
    let known = or_parts (is_none (router_place a rs)) (is_none (router_place b rs)) met.known in
    let first = some_of (router_place a rs) known.0 in
    let second = some_of (router_place b rs) known.1 in
    let places : ℕ → ℕ → Type 0 = λ i j. (i == j) ≡ false in
    let differ = apart a b rs first.0 second.0 met.ranged first.1 second.1 in
    let other = subst (λ o. places (unwrap_or o 0) second.0) (sym first.1) differ in
    let last = subst (λ o. places (unwrap_or (router_place a rs) 0) (unwrap_or o 0)) (sym second.1) other in
    ((known_within (names_router a) rs known.0, known_within (names_router b) rs known.1, last), leb-false _ _ met.few)

-- ## What is named

-- what is known by its place is there
within : {A : Type 0} (p : A → Bool) (xs : List A) → nat_lt (position_or_len p xs) (length xs) ≡ list_any p xs
within p [] = refl
within p (x ∷ xs) = by (p x) (within p xs)
  where
    shifted : (n m : ℕ) (b : Bool) → nat_lt n m ≡ b → nat_lt (1 + n) (suc m) ≡ b
    shifted n m true e = let below = ltb-true n m e in lt-ltb (1 + n) (suc m) (omega (arith, below))
    shifted n m false e = let above = ltb-false n m e in le-ltb (1 + n) (suc m) (omega (arith, above))

    by : (b : Bool) → nat_lt (position_or_len p xs) (length xs) ≡ list_any p xs → nat_lt (cond (not b) (1 + position_or_len p xs) 0) (suc (length xs)) ≡ (b || list_any p xs)
    by true e = lt-ltb 0 (suc (length xs)) (omega arith)
    by false e = shifted (position_or_len p xs) (length xs) (list_any p xs) e

placed : {A : Type 0} (p : A → Bool) (xs : List A) → is_some (position p xs) ≡ list_any p xs
placed p xs = some_if (nat_lt (position_or_len p xs) (length xs)) (position_or_len p xs) ∙ within p xs
  where
    some_if : (b : Bool) (n : ℕ) → is_some (cond b (Some n) None) ≡ b
    some_if true n = refl
    some_if false n = refl

-- what is named, said of the elements
pub named_any : (name : List ℕ) (t : Topology) → is_named name t ≡ (list_any (names_domain name) t.domains || (list_any (names_router name) t.routers || list_any (names_host name) t.parts))
named_any name t =
    ap (λ b. b || (is_some (router_place name t.routers) || list_any (names_host name) t.parts)) (placed (names_domain name) t.domains)
    ∙ ap (λ b. list_any (names_domain name) t.domains || (b || list_any (names_host name) t.parts)) (placed (names_router name) t.routers)
