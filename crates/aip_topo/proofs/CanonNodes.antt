-- The settings, domains and routers of a sound topology are taken, line by line.
use Rattle.std.proofs.Common.{◌≡◌, ℕ, ◌^◌, ◌<◌, ◌≤◌, Bool, true, false, ◌||◌, List, [], ◌∷◌, ◌++◌, length, map, nat_lt, replicate, Option, Some, refl, sym, ap, subst, ◌∙◌, arith, lit≤, lit<, length-append, append_assoc, append-nil}
use Rattle.std.specs.Prelude.{slice_get, unwrap_or}
use Rattle.std.specs.List.{list_any, AllByRecursion}
use Rattle.std.specs.Option.{is_none, option_map}
use Rattle.std.specs.Str.{bytes_eq}
use Rattle.std.proofs.lemmas.Bool.{ltb-false, lt-leb, or_from, or_parts}
use Rattle.std.proofs.lemmas.List.{map-append}
use Rattle.std.proofs.lemmas.List.Folds.{list_any-append}
use Rattle.aip_addr.specs.Ids.{id_of_router}
use Rattle.aip_addr.specs.Naming.{IsName}
use Rattle.aip_addr.specs.declared.ids.Id.{Id}
use Rattle.aip_topo.specs.Canonical.{ad_origin, domain_line, domain_name, router_line, value_line, values_of}
use Rattle.aip_topo.specs.Reading.{empty_draft}
use Rattle.aip_topo.specs.Sound.{AreDistinct, IsDomain, IsInRange, IsRouterOf, IsSound, domain_identifiers, host_identifiers, host_names, identifiers_in}
use Rattle.aip_topo.specs.Steps.{ad_or_zeros, domain_place, has_ad, has_eid, id_from, is_key_taken, is_twin, key_of, most_of, names_domain, names_router, was_set}
use Rattle.aip_topo.specs.declared.lines.Line.TheVariants as form
use Rattle.aip_topo.specs.declared.lines.Setting.{Setting}
use Rattle.aip_topo.specs.declared.lines.Setting.TheVariants as setting
use Rattle.aip_topo.specs.declared.steps.Draft.{Draft}
use Rattle.aip_topo.specs.declared.additions.Addition.{Addition}
use Rattle.aip_topo.specs.declared.additions.Addition.TheVariants as addition
use Rattle.aip_topo.specs.declared.topology.Domain.{Domain}
use Rattle.aip_topo.specs.declared.topology.Key.{Key}
use Rattle.aip_topo.specs.declared.topology.Part.{Part}
use Rattle.aip_topo.specs.declared.topology.Router.{Router}
use Rattle.aip_topo.specs.declared.topology.Settings.{Settings}
use Rattle.aip_topo.specs.declared.topology.Topology.{Topology}
use Rattle.aip_topo.proofs.Keys.{ad_again, ad_fits, ad_key_again, ad_ranged, domain_identifiers_split, key_alone}
use Rattle.aip_topo.proofs.Placing.{all_at, all_middle, before_middle, front_distinct, place_again}
use Rattle.aip_topo.proofs.Running.{Along, Taken, after}
use Rattle.aip_topo.proofs.Meeting.{named_any}
use Rattle.aip_topo.proofs.Soundness.{any_map, mapped}

-- ## Drafts

-- what is read of the canonical text, when so much of it is read
abbrev pub stage : Settings → List Domain → List Router → List Part → Draft
stage s ds rs ps = record { topology = record { settings = s; domains = ds; routers = rs; parts = ps }; given = replicate 8 true }

abbrev pub value_addition : Setting × ℕ → Addition
value_addition pair = addition.Set pair.0 pair.1

abbrev pub domain_addition : Domain → Addition
domain_addition domain = addition.Domain domain

abbrev pub router_addition_of : Router → Addition
router_addition_of router = addition.Router router

abbrev pub part_addition : Part → Addition
part_addition p = addition.Part p

pub after_domains : (s : Settings) (ds xs : List Domain) → after domain_addition (stage s ds [] []) xs ≡ stage s (ds ++ xs) [] []
after_domains s ds [] = ap (λ l. stage s l [] []) (sym (append-nil ds))
after_domains s ds (x ∷ xs) = after_domains s (ds ++ x ∷ []) xs ∙ ap (λ l. stage s l [] []) (append_assoc ds (x ∷ []) xs)

pub after_routers : (s : Settings) (ds : List Domain) (rs xs : List Router) → after router_addition_of (stage s ds rs []) xs ≡ stage s ds (rs ++ xs) []
after_routers s ds rs [] = ap (λ l. stage s ds l []) (sym (append-nil rs))
after_routers s ds rs (x ∷ xs) = after_routers s ds (rs ++ x ∷ []) xs ∙ ap (λ l. stage s ds l []) (append_assoc rs (x ∷ []) xs)

pub after_parts : (s : Settings) (ds : List Domain) (rs : List Router) (ps xs : List Part) → after part_addition (stage s ds rs ps) xs ≡ stage s ds rs (ps ++ xs)
after_parts s ds rs ps [] = ap (λ l. stage s ds rs l) (sym (append-nil ps))
after_parts s ds rs ps (x ∷ xs) = after_parts s ds rs (ps ++ x ∷ []) xs ∙ ap (λ l. stage s ds rs l) (append_assoc ps (x ∷ []) xs)

-- ## Settings

most_small : (s : Setting) → most_of s ≤ 4294967295
most_small setting.Accept = lit≤ tt
most_small setting.Cache = lit≤ tt
most_small setting.Epoch = lit≤ tt
most_small setting.Filter = lit≤ tt
most_small setting.Log = lit≤ tt
most_small setting.Threshold = lit≤ tt
most_small setting.Wild = lit≤ tt
most_small setting.Wildcache = lit≤ tt

value_small : (s : Setting) (value : ℕ) → IsInRange (s, value) → value < 10 ^ 15
value_small s value h =
    let parts = or_parts (nat_lt value 1) (nat_lt (most_of s) value) h in
    let below = ltb-false (most_of s) value parts.1 in
    let most = most_small s in
    let wide : 4294967295 < 10 ^ 15 = lit< tt in
    omega (arith, below, most, wide)

set_taken : (draft : Draft) (s : Setting) (value : ℕ) → was_set s draft ≡ false → IsInRange (s, value) → Taken draft (form.Set s value) (addition.Set s value)
set_taken draft s value new ranged =
    record {
      fits = value_small s value ranged;
      met = record { few = refl; once = new; known = refl; ranged = ranged; alone = refl };
      makes = refl;
    }

pub settings_along : (s : Settings) → AllByRecursion IsInRange (values_of s) → Along value_line value_addition empty_draft (values_of s)
settings_along s k = (
  set_taken _ setting.Accept s.accept refl k.0,
  (
    set_taken _ setting.Cache s.cache refl k.1.0,
    (
      set_taken _ setting.Epoch s.epoch refl k.1.1.0,
      (
        set_taken _ setting.Filter s.filter refl k.1.1.1.0,
        (
          set_taken _ setting.Log s.log refl k.1.1.1.1.0,
          (
            set_taken _ setting.Threshold s.threshold refl k.1.1.1.1.1.0,
            (
              set_taken _ setting.Wild s.wild refl k.1.1.1.1.1.1.0,
              (set_taken _ setting.Wildcache s.wildcache refl k.1.1.1.1.1.1.1.0, tt),
            ),
          ),
        ),
      ),
    ),
  ),
)

-- ## Domains

abbrev made_domain : List ℕ → Id → Key → Addition
made_domain name ad k = addition.Domain (record { name = name; ad = ad; key = k })

domain_taken : (s : Settings) (ds : List Domain) (x : Domain) → length ds < 64 → list_any (names_domain x.name) ds ≡ false → list_any (has_ad x.ad) ds ≡ false
    → is_key_taken (stage s ds [] []).topology x.key ≡ false → IsDomain x → Taken (stage s ds [] []) (domain_line x) (addition.Domain x)
domain_taken s ds x few new other untaken stands =
    let from = ad_origin x.key x.ad in
    let same : made_domain x.name (id_from from) (key_of from) ≡ addition.Domain x =
    ap (λ id. made_domain x.name id (key_of from)) (ad_again x.key x.ad stands.4 stands.3) ∙ ap (made_domain x.name x.ad) (ad_key_again x.key x.ad) in
    record {
      fits = (stands.0, ad_fits x.key x.ad stands.1 stands.4);
      met =
          record {
            few = lt-leb 64 (length ds) few;
            once = named_any x.name (stage s ds [] []).topology ∙ or_from (list_any (names_domain x.name) ds) false new refl;
            known = refl;
            ranged = ad_ranged x.key x.ad stands.2 stands.3;
            alone = ap (is_twin (stage s ds [] []).topology) same ∙ or_from (list_any (has_ad x.ad) ds) (is_key_taken (stage s ds [] []).topology x.key) other untaken;
          };
      makes = same;
    }

abbrev pub d_name : Domain → List ℕ
d_name domain = domain.name

abbrev d_ad : Domain → List ℕ
d_ad domain = domain.ad.bytes

abbrev pub r_name : Router → List ℕ
r_name router = router.name

abbrev r_eid : Router → List ℕ
r_eid router = router.address.eid.bytes

pub domains_along : (t : Topology) (k : IsSound t) (ds xs : List Domain) → ds ++ xs ≡ t.domains → Along domain_line domain_addition (stage t.settings ds [] []) xs
domains_along t k ds [] e = tt
domains_along t k ds (x ∷ xs) e =
    let all_domains : List Domain → Type 0 = AllByRecursion IsDomain in
    let differ : (Domain → List ℕ) → List Domain → Type 0 = λ f l. AreDistinct (map f l) in
    let stands = all_middle IsDomain ds x xs (subst all_domains (sym e) k.domains) in
    let few : length ds < 64 = omega (arith, length-append ds (x ∷ xs), ap length e, k.few_domains) in
    let names = subst AreDistinct (map-append d_name ds (x ∷ xs)) (subst (differ d_name) (sym e) (front_distinct (map d_name t.domains) _ k.names_differ)) in
    let ads = subst AreDistinct (map-append d_ad ds (x ∷ xs)) (subst (differ d_ad) (sym e) k.ads_differ) in
    let new = any_map d_name x.name ds ∙ before_middle (map d_name ds) x.name (map d_name xs) names in
    let other = any_map d_ad x.ad.bytes ds ∙ before_middle (map d_ad ds) x.ad.bytes (map d_ad xs) ads in
    let is = domain_identifiers ds in
    let hs = host_identifiers t.parts in
    let own = identifiers_in x.key in
    let later = domain_identifiers xs in
    let with_keys : List Domain → Type 0 = λ l. AreDistinct (domain_identifiers l ++ hs) in
    let split : domain_identifiers (ds ++ x ∷ xs) ++ hs ≡ (is ++ []) ++ (own ++ (later ++ hs)) =
    ap (λ l. l ++ hs) (domain_identifiers_split ds x xs) ∙ append_assoc is (own ++ later) hs ∙ ap (λ l. is ++ l) (append_assoc own later hs)
    ∙ ap (λ l. l ++ (own ++ (later ++ hs))) (sym (append-nil is)) in
    let keys = subst AreDistinct split (subst with_keys (sym e) k.identifiers_differ) in
    let untaken = key_alone (stage t.settings ds [] []).topology x.key (later ++ hs) keys in
    (domain_taken t.settings ds x few new other untaken stands, domains_along t k (ds ++ x ∷ []) xs (append_assoc ds (x ∷ []) xs ∙ e))

-- ## Routers

abbrev made_router : List ℕ → Bool → List ℕ → ℕ → Id → Id → Addition
made_router name checking master place eid ad =
    addition.Router (record { name = name; domain = place; checking = checking; master = master; address = record { ad = ad; eid = eid } })

router_taken : (s : Settings) (ds : List Domain) (rs : List Router) (x : Router) → length rs < 256 → list_any (names_domain x.name) ds ≡ false
    → list_any (names_router x.name) rs ≡ false → list_any (has_eid x.address.eid) rs ≡ false → IsRouterOf ds x
    → domain_place (domain_name ds x.domain) ds ≡ Some x.domain → IsName (domain_name ds x.domain) → Taken (stage s ds rs []) (router_line ds x) (addition.Router x)
router_taken s ds rs x few new_d new_r alone stands place known =
    let zeros : Id = record { bytes = replicate 20 0 } in
    let own = id_of_router x.name in
    let n = domain_name ds x.domain in
    let at : ℕ → Id → Id → Addition = made_router x.name x.checking x.master in
    let same : at (unwrap_or (domain_place n ds) 0) own (ad_or_zeros (unwrap_or (domain_place n ds) 0) ds) ≡ addition.Router x =
    ap (λ o. at (unwrap_or o 0) own (ad_or_zeros (unwrap_or o 0) ds)) place ∙ ap (λ o. at x.domain own (unwrap_or o zeros)) stands.2
    ∙ ap (λ eid. at x.domain eid x.address.ad) (sym stands.3) in
    record {
      fits = (stands.0, known, stands.1);
      met =
          record {
            few = lt-leb 256 (length rs) few;
            once = named_any x.name (stage s ds rs []).topology ∙ or_from (list_any (names_domain x.name) ds) (list_any (names_router x.name) rs || false) new_d (or_from (list_any (names_router x.name) rs) false new_r refl);
            known = ap is_none place;
            ranged = refl;
            alone = ap (is_twin (stage s ds rs []).topology) same ∙ alone;
          };
      makes = same;
    }

-- the name of the domain at a place
abbrev d_name_in : Option Domain → List ℕ
d_name_in o = unwrap_or (option_map (λ domain. domain.name) o) []

pub routers_along : (t : Topology) (k : IsSound t) (rs xs : List Router) → rs ++ xs ≡ t.routers → Along (router_line t.domains) router_addition_of (stage t.settings t.domains rs []) xs
routers_along t k rs [] e = tt
routers_along t k rs (x ∷ xs) e =
    let ds : List (List ℕ) = map d_name t.domains in
    let hs : List (List ℕ) = host_names t.parts in
    let all_routers : List Router → Type 0 = AllByRecursion (IsRouterOf t.domains) in
    let stands = all_middle (IsRouterOf t.domains) rs x xs (subst all_routers (sym e) k.routers) in
    let few : length rs < 256 = omega (arith, length-append rs (x ∷ xs), ap length e, k.few_routers) in
    let with_names : List Router → Type 0 = λ l. AreDistinct (ds ++ (map r_name l ++ hs)) in
    let behind : List (List ℕ) = map r_name xs ++ hs in
    let split : ds ++ (map r_name (rs ++ x ∷ xs) ++ hs) ≡ (ds ++ map r_name rs) ++ x.name ∷ behind =
    ap (λ l. ds ++ (l ++ hs)) (map-append r_name rs (x ∷ xs)) ∙ ap (λ l. ds ++ l) (append_assoc (map r_name rs) (x.name ∷ map r_name xs) hs)
    ∙ sym (append_assoc ds (map r_name rs) (x.name ∷ behind)) in
    let before = before_middle (ds ++ map r_name rs) x.name behind (subst AreDistinct split (subst with_names (sym e) k.names_differ)) in
    let test : List ℕ → Bool = λ other. bytes_eq other x.name in
    let parts = or_parts (list_any test ds) (list_any test (map r_name rs)) (sym (list_any-append test ds (map r_name rs)) ∙ before) in
    let with_eids : List Router → Type 0 = λ l. AreDistinct (map r_eid l) in
    let eids = subst AreDistinct (map-append r_eid rs (x ∷ xs)) (subst with_eids (sym e) k.eids_differ) in
    let alone = any_map r_eid x.address.eid.bytes rs ∙ before_middle (map r_eid rs) x.address.eid.bytes (map r_eid xs) eids in
    let found = mapped (λ (d : Domain). d.ad) (slice_get t.domains x.domain) x.address.ad stands.2 in
    let written : domain_name t.domains x.domain ≡ found.0.name = ap d_name_in found.1 in
    let is_name : List ℕ → Type 0 = λ n. IsName n in
    let is_place : List ℕ → Type 0 = λ n. domain_place n t.domains ≡ Some x.domain in
    let known = subst is_name (sym written) (all_at IsDomain t.domains x.domain found.0 k.domains found.1).0 in
    let place = subst is_place (sym written) (place_again d_name t.domains x.domain found.0 (front_distinct ds _ k.names_differ) found.1) in (
      router_taken t.settings t.domains rs x few (any_map d_name x.name t.domains ∙ parts.0) (any_map r_name x.name rs ∙ parts.1) alone stands place known,
      routers_along t k (rs ++ x ∷ []) xs (append_assoc rs (x ∷ []) xs ∙ e),
    )
