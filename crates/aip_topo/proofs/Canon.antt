-- The canonical text of a sound topology is read as that topology.
use Rattle.std.proofs.Common.{◌≡◌, ℕ, suc, ◌+◌, ◌*◌, ◌<◌, ◌≤◌, ◌==◌, eq-eqb, Bool, true, false, cond, ◌||◌, List, [], ◌∷◌, ◌++◌, length, map, take, Option, Some, Result, Ok, Err, IfOk, refl, sym, ap, subst, ◌∙◌, arith, length-append, append_assoc, append-nil}
use Rattle.std.specs.Prelude.{count_by, unwrap_or}
use Rattle.std.specs.List.{list_any, AllByRecursion}
use Rattle.std.specs.Option.{is_none, option_map}
use Rattle.std.specs.Str.{bytes_eq}
use Rattle.std.specs.declared.alloc.AllocError.{AllocError}
use Rattle.std.proofs.lemmas.Bool.{both_ways, false_from_ne_true, lt-leb, or_from, or_parts}
use Rattle.std.proofs.lemmas.Option.{same_Some}
use Rattle.std.proofs.lemmas.Slice.Eq.{bytes_eq-Decides}
use Rattle.std.proofs.lemmas.List.Folds.{list_any-append}
use Rattle.std.proofs.lemmas.List.Sums.{sum_by-append}
use Rattle.aip_addr.specs.Naming.{IsName}
use Rattle.aip_addr.specs.declared.ids.Id.{Id}
use Rattle.aip_text.specs.Lines.{lines_of}
use Rattle.aip_topo.specs.Canonical.{canonical_text, domain_line, eid_origin, lines_text, part_line, router_line, router_name, settings_text, value_line, values_of}
use Rattle.aip_topo.specs.Reading.{RefusedLine, empty_draft, finished, topology_of, with_lines}
use Rattle.aip_topo.specs.Sound.{AreDistinct, IsPartOf, IsRouterOf, IsSound, domain_identifiers, host_identifiers, host_key_ids, host_names, identifiers_in}
use Rattle.aip_topo.specs.Steps.{has_key_id, id_from, is_host, is_key_taken, is_link, is_twin, key_of, names_domain, names_host, names_router, router_place}
use Rattle.aip_topo.specs.declared.lines.Line.{Line}
use Rattle.aip_topo.specs.declared.steps.Draft.{Draft}
use Rattle.aip_topo.specs.declared.additions.Addition.{Addition}
use Rattle.aip_topo.specs.declared.additions.Addition.TheVariants as addition
use Rattle.aip_topo.specs.declared.topology.Domain.{Domain}
use Rattle.aip_topo.specs.declared.topology.HostPart.{HostPart}
use Rattle.aip_topo.specs.declared.topology.Key.{Key}
use Rattle.aip_topo.specs.declared.topology.LinkPart.{LinkPart}
use Rattle.aip_topo.specs.declared.topology.Part.{Part}
use Rattle.aip_topo.specs.declared.topology.Part.TheVariants as part
use Rattle.aip_topo.specs.declared.topology.Router.{Router}
use Rattle.aip_topo.specs.declared.topology.Topology.{Topology}
use Rattle.aip_topo.proofs.Keys.{eid_again, eid_fits, eid_key_again, eid_ranged, host_identifiers_split, key_alone}
use Rattle.aip_topo.proofs.Placing.{all_at, all_middle, back_distinct, before_middle, front_distinct, place_again, there_is}
use Rattle.aip_topo.proofs.Running.{Along, Reaches, Taken, after, along_short, reach_all, reach_then}
use Rattle.aip_topo.proofs.Meeting.{named_any}
use Rattle.aip_topo.proofs.Soundness.{any_host_name, any_key_id, any_map}
use Rattle.aip_topo.proofs.CanonNodes.{after_domains, after_parts, after_routers, d_name, domain_addition, domains_along, part_addition, r_name, router_addition_of, routers_along, settings_along, stage, value_addition}

-- ## Hosts and links

host_names_split : (ps : List Part) (host : HostPart) (xs : List Part) → host_names (ps ++ part.Host host ∷ xs) ≡ host_names ps ++ host.name ∷ host_names xs
host_names_split [] host xs = refl
host_names_split (part.Host other ∷ ps) host xs = ap (λ names. other.name ∷ names) (host_names_split ps host xs)
host_names_split (part.Link _ ∷ ps) host xs = host_names_split ps host xs

host_key_ids_split : (ps : List Part) (host : HostPart) (xs : List Part) → host_key_ids (ps ++ part.Host host ∷ xs) ≡ host_key_ids ps ++ take 19 host.eid.bytes ∷ host_key_ids xs
host_key_ids_split [] host xs = refl
host_key_ids_split (part.Host other ∷ ps) host xs = ap (λ ids. take 19 other.eid.bytes ∷ ids) (host_key_ids_split ps host xs)
host_key_ids_split (part.Link _ ∷ ps) host xs = host_key_ids_split ps host xs

abbrev one_if : Bool → ℕ
one_if b = cond b 1 0

-- the first and the others
count_cons : (p : Part → Bool) (x : Part) (xs : List Part) (n : ℕ) → one_if (p x) ≡ n → count_by p (x ∷ xs) ≡ n + count_by p xs
count_cons p x xs n e =
    let split = sum_by-append (λ y. one_if (p y)) (x ∷ []) xs in
    let here : count_by p (x ∷ []) ≡ 0 + one_if (p x) = refl in
    omega (arith, split, here, e)

-- there was room for one that counts
room_before : (p : Part → Bool) (ps : List Part) (x : Part) (xs : List Part) (n : ℕ) → p x ≡ true → count_by p (ps ++ x ∷ xs) ≤ n → count_by p ps < n
room_before p ps x xs n counts within =
    let one : one_if (p x) ≡ 1 = ap one_if counts in
    let from = count_cons p x xs 1 one in
    let split : count_by p (ps ++ x ∷ xs) ≡ count_by p ps + count_by p (x ∷ xs) = sum_by-append (λ y. one_if (p y)) ps (x ∷ xs) in
    omega (arith, split, from, one, within)

-- the name of the router at a place
abbrev r_name_in : Option Router → List ℕ
r_name_in o = unwrap_or (option_map (λ router. router.name) o) []

-- a router that is there: its name is one, and is found at its place
record IsThere (rs : List Router) (place : ℕ) : Type 0 where
  name : IsName (router_name rs place)
  found : router_place (router_name rs place) rs ≡ Some place

is_there : (t : Topology) (k : IsSound t) (place : ℕ) → place < length t.routers → IsThere t.routers place
is_there t k place below =
    let it = there_is t.routers place below in
    let rs : List (List ℕ) = map r_name t.routers in
    let differ = front_distinct rs (host_names t.parts) (back_distinct (map d_name t.domains) _ k.names_differ) in
    let written : router_name t.routers place ≡ it.0.name = ap r_name_in it.1 in
    let is_name : List ℕ → Type 0 = λ n. IsName n in
    let is_place : List ℕ → Type 0 = λ n. router_place n t.routers ≡ Some place in
    record {
      name = subst is_name (sym written) (all_at (IsRouterOf t.domains) t.routers place it.0 k.routers it.1).0;
      found = subst is_place (sym written) (place_again r_name t.routers place it.0 differ it.1);
    }

abbrev made_host : List ℕ → ℕ → Bool → Id → Key → Addition
made_host name place guarded eid k = addition.Part (part.Host (record { name = name; router = place; guarded = guarded; eid = eid; key = k }))

host_taken : (t : Topology) (ps : List Part) (x : HostPart) (there : IsThere t.routers x.router) → count_by is_host ps < 1024 → list_any (names_domain x.name) t.domains ≡ false
    → list_any (names_router x.name) t.routers ≡ false → list_any (names_host x.name) ps ≡ false → list_any (has_key_id x.eid) ps ≡ false
    → is_key_taken (stage t.settings t.domains t.routers ps).topology x.key ≡ false
    → IsPartOf (length t.routers) (part.Host x) → Taken (stage t.settings t.domains t.routers ps) (part_line t.routers (part.Host x)) (addition.Part (part.Host x))
host_taken t ps x there few new_d new_r new_h other untaken stands =
    let topology = (stage t.settings t.domains t.routers ps).topology in
    let from = eid_origin x.key x.eid in
    let at : ℕ → Addition = λ place. made_host x.name place x.guarded (id_from from) (key_of from) in
    let same : at (unwrap_or (router_place (router_name t.routers x.router) t.routers) 0) ≡ addition.Part (part.Host x) =
    ap (λ o. at (unwrap_or o 0)) there.found ∙ ap (λ id. made_host x.name x.router x.guarded id (key_of from)) (eid_again x.key x.eid stands.4)
    ∙ ap (made_host x.name x.router x.guarded x.eid) (eid_key_again x.key x.eid) in
    record {
      fits = (stands.0, there.name, eid_fits x.key x.eid stands.1 stands.4);
      met =
          record {
            few = lt-leb 1024 (count_by is_host ps) few;
            once = named_any x.name topology ∙ or_from _ (list_any (names_router x.name) t.routers || list_any (names_host x.name) ps) new_d (or_from (list_any (names_router x.name) t.routers) (list_any (names_host x.name) ps) new_r new_h);
            known = ap is_none there.found;
            ranged = eid_ranged x.key x.eid stands.1 stands.3;
            alone = ap (is_twin topology) same ∙ or_from (list_any (has_key_id x.eid) ps) (is_key_taken topology x.key) other untaken;
          };
      makes = same;
    }

-- routers at two places have two names
names_apart : (rs : List Router) (i j : ℕ) → IsThere rs i → IsThere rs j → (i == j) ≡ false → bytes_eq (router_name rs i) (router_name rs j) ≡ false
names_apart rs i j first second other = false_from_ne_true (bytes_eq a b) (λ e. both_ways (i == j) other (eq-eqb i j (same_Some i j (sym first.found ∙ ap (λ n. router_place n rs) ((bytes_eq-Decides a b).0 e) ∙ second.found))))
  where
    a : List ℕ
    a = router_name rs i

    b : List ℕ
    b = router_name rs j

abbrev made_link : Bool → Bool → ℕ → ℕ → Addition
made_link a_trusts b_trusts a b = addition.Part (part.Link (record { a = a; b = b; a_trusts = a_trusts; b_trusts = b_trusts }))

link_taken : (t : Topology) (ps : List Part) (x : LinkPart) (first : IsThere t.routers x.a) (second : IsThere t.routers x.b) → count_by is_link ps < 4096
    → IsPartOf (length t.routers) (part.Link x) → Taken (stage t.settings t.domains t.routers ps) (part_line t.routers (part.Link x)) (addition.Part (part.Link x))
link_taken t ps x first second few stands =
    let rs = t.routers in
    let at : ℕ → ℕ → Addition = made_link x.a_trusts x.b_trusts in
    let last : Option ℕ = router_place (router_name rs x.b) rs in
    record {
      fits = (first.name, second.name);
      met =
          record {
            few = lt-leb 4096 (count_by is_link ps) few;
            once = refl;
            known = or_from (is_none (router_place (router_name rs x.a) rs)) (is_none last) (ap is_none first.found) (ap is_none second.found);
            ranged = names_apart rs x.a x.b first second stands.2;
            alone = refl;
          };
      makes = ap (λ o. at (unwrap_or o 0) (unwrap_or last 0)) first.found ∙ ap (λ o. at x.a (unwrap_or o 0)) second.found;
    }

host_step : (t : Topology) (k : IsSound t) (ps : List Part) (x : HostPart) (xs : List Part) → ps ++ part.Host x ∷ xs ≡ t.parts
    → Taken (stage t.settings t.domains t.routers ps) (part_line t.routers (part.Host x)) (addition.Part (part.Host x))
host_step t k ps x xs e =
    let ds : List (List ℕ) = map d_name t.domains in
    let rs : List (List ℕ) = map r_name t.routers in
    let hs : List (List ℕ) = host_names ps in
    let all_parts : List Part → Type 0 = AllByRecursion (IsPartOf (length t.routers)) in
    let stands = all_middle (IsPartOf (length t.routers)) ps (part.Host x) xs (subst all_parts (sym e) k.parts) in
    let hosts_within : List Part → Type 0 = λ l. count_by is_host l ≤ 1024 in
    let few = room_before is_host ps (part.Host x) xs 1024 refl (subst hosts_within (sym e) k.few_hosts) in
    let with_names : List Part → Type 0 = λ l. AreDistinct (ds ++ (rs ++ host_names l)) in
    let behind : List (List ℕ) = host_names xs in
    let split : ds ++ (rs ++ host_names (ps ++ part.Host x ∷ xs)) ≡ (ds ++ (rs ++ hs)) ++ x.name ∷ behind =
    ap (λ l. ds ++ (rs ++ l)) (host_names_split ps x xs) ∙ ap (λ l. ds ++ l) (sym (append_assoc rs hs (x.name ∷ behind))) ∙ sym (append_assoc ds (rs ++ hs) (x.name ∷ behind)) in
    let before = before_middle (ds ++ (rs ++ hs)) x.name behind (subst AreDistinct split (subst with_names (sym e) k.names_differ)) in
    let test : List ℕ → Bool = λ other. bytes_eq other x.name in
    let outer = or_parts (list_any test ds) (list_any test (rs ++ hs)) (sym (list_any-append test ds (rs ++ hs)) ∙ before) in
    let inner = or_parts (list_any test rs) (list_any test hs) (sym (list_any-append test rs hs) ∙ outer.1) in
    let with_ids : List Part → Type 0 = λ l. AreDistinct (host_key_ids l) in
    let ids = subst AreDistinct (host_key_ids_split ps x xs) (subst with_ids (sym e) k.key_ids_differ) in
    let other = any_key_id x.eid ps ∙ before_middle (host_key_ids ps) (take 19 x.eid.bytes) (host_key_ids xs) ids in
    let is = domain_identifiers t.domains in
    let before_keys = host_identifiers ps in
    let own = identifiers_in x.key in
    let later = host_identifiers xs in
    let with_keys : List Part → Type 0 = λ l. AreDistinct (is ++ host_identifiers l) in
    let split_keys : is ++ host_identifiers (ps ++ part.Host x ∷ xs) ≡ (is ++ before_keys) ++ (own ++ later) =
    ap (λ l. is ++ l) (host_identifiers_split ps x xs) ∙ sym (append_assoc is before_keys (own ++ later)) in
    let keys = subst AreDistinct split_keys (subst with_keys (sym e) k.identifiers_differ) in
    let untaken = key_alone (stage t.settings t.domains t.routers ps).topology x.key later keys in
    host_taken t ps x (is_there t k x.router stands.2) few (any_map d_name x.name t.domains ∙ outer.0) (any_map r_name x.name t.routers ∙ inner.0)
    (any_host_name x.name ps ∙ inner.1) other untaken stands

link_step : (t : Topology) (k : IsSound t) (ps : List Part) (x : LinkPart) (xs : List Part) → ps ++ part.Link x ∷ xs ≡ t.parts
    → Taken (stage t.settings t.domains t.routers ps) (part_line t.routers (part.Link x)) (addition.Part (part.Link x))
link_step t k ps x xs e =
    let all_parts : List Part → Type 0 = AllByRecursion (IsPartOf (length t.routers)) in
    let stands = all_middle (IsPartOf (length t.routers)) ps (part.Link x) xs (subst all_parts (sym e) k.parts) in
    let links_within : List Part → Type 0 = λ l. count_by is_link l ≤ 4096 in
    let few = room_before is_link ps (part.Link x) xs 4096 refl (subst links_within (sym e) k.few_links) in
    link_taken t ps x (is_there t k x.a stands.0) (is_there t k x.b stands.1) few stands

parts_along : (t : Topology) (k : IsSound t) (ps xs : List Part) → ps ++ xs ≡ t.parts → Along (part_line t.routers) part_addition (stage t.settings t.domains t.routers ps) xs
parts_along t k ps [] e = tt
parts_along t k ps (part.Host x ∷ xs) e =
    (host_step t k ps x xs e, parts_along t k (ps ++ part.Host x ∷ []) xs (append_assoc ps (part.Host x ∷ []) xs ∙ e))
parts_along t k ps (part.Link x ∷ xs) e =
    (link_step t k ps x xs e, parts_along t k (ps ++ part.Link x ∷ []) xs (append_assoc ps (part.Link x ∷ []) xs ∙ e))

-- ## The whole

-- each is a host or a link
kinds : (ps : List Part) → count_by is_host ps + count_by is_link ps ≡ length ps
kinds [] = refl
kinds (part.Host x ∷ ps) =
    let more = kinds ps in
    let hosts : count_by is_host (part.Host x ∷ ps) ≡ 1 + count_by is_host ps = count_cons is_host (part.Host x) ps 1 refl in
    let links : count_by is_link (part.Host x ∷ ps) ≡ 0 + count_by is_link ps = count_cons is_link (part.Host x) ps 0 refl in
    let longer : length (part.Host x ∷ ps) ≡ suc (length ps) = refl in
    omega (arith, more, hosts, links, longer)
kinds (part.Link x ∷ ps) =
    let more = kinds ps in
    let hosts : count_by is_host (part.Link x ∷ ps) ≡ 0 + count_by is_host ps = count_cons is_host (part.Link x) ps 0 refl in
    let links : count_by is_link (part.Link x ∷ ps) ≡ 1 + count_by is_link ps = count_cons is_link (part.Link x) ps 1 refl in
    let longer : length (part.Link x ∷ ps) ≡ suc (length ps) = refl in
    omega (arith, more, hosts, links, longer)

-- all are taken, to this draft
reach_list : {X : Type 0} (says : X → Line) (addition : X → Addition) (total number start : ℕ) (draft next : Draft) (xs : List X) (rest : List ℕ) → after addition draft xs ≡ next
    → Along says addition draft xs → start + length (lines_text says xs ++ rest) ≤ 1048576 → Reaches total number start draft (lines_text says xs ++ rest) next rest
reach_list says addition total number start draft next xs rest e along within =
    let to : Draft → Type 0 = λ d. Reaches total number start draft (lines_text says xs ++ rest) d rest in
    subst to e (reach_all says addition total number start draft xs rest along within)

-- no more than is read
sizes_within : (ss ds rs ps : List ℕ) (domains : List Domain) (routers : List Router) (parts : List Part) → length ss ≤ 140 * 8 → length ds ≤ 140 * length domains
    → length rs ≤ 140 * length routers → length ps ≤ 140 * length parts → length domains ≤ 64 → length routers ≤ 256 → count_by is_host parts ≤ 1024 → count_by is_link parts ≤ 4096
    → length (ss ++ (ds ++ (rs ++ (ps ++ [])))) ≤ 1048576
sizes_within ss ds rs ps domains routers parts s d r p few_domains few_routers few_hosts few_links =
    let all = kinds parts in
    let first = length-append ss (ds ++ (rs ++ (ps ++ []))) in
    let second = length-append ds (rs ++ (ps ++ [])) in
    let third = length-append rs (ps ++ []) in
    let fourth = ap length (append-nil ps) in
    omega (arith, all, first, second, third, fourth)

-- the canonical text is read to its end
reached : (t : Topology) → IsSound t → (total : ℕ)
    → Reaches total 1 0 empty_draft (settings_text t.settings ++ (lines_text domain_line t.domains ++ (lines_text (router_line t.domains) t.routers ++ (lines_text (part_line t.routers) t.parts ++ []))))
    (stage t.settings t.domains t.routers t.parts) []
unfolding settings_text
reached t k total =
    let s = t.settings in
    let ss : List ℕ = lines_text value_line (values_of s) in
    let ds : List ℕ = lines_text domain_line t.domains in
    let rs : List ℕ = lines_text (router_line t.domains) t.routers in
    let ps : List ℕ = lines_text (part_line t.routers) t.parts in
    let by_settings = settings_along s k.settings in
    let by_domains = domains_along t k [] t.domains refl in
    let by_routers = routers_along t k [] t.routers refl in
    let by_parts = parts_along t k [] t.parts refl in
    let s_size : length ss ≤ 140 * 8 = along_short value_line value_addition _ (values_of s) by_settings in
    let d_size = along_short domain_line domain_addition _ t.domains by_domains in
    let r_size = along_short (router_line t.domains) router_addition_of _ t.routers by_routers in
    let p_size = along_short (part_line t.routers) part_addition _ t.parts by_parts in
    let whole : length (ss ++ (ds ++ (rs ++ (ps ++ [])))) ≤ 1048576 =
    sizes_within ss ds rs ps t.domains t.routers t.parts s_size d_size r_size p_size k.few_domains k.few_routers k.few_hosts k.few_links in
    let start : 0 + length (ss ++ (ds ++ (rs ++ (ps ++ [])))) ≤ 1048576 = omega (arith, whole) in
    let one = reach_list value_line value_addition total 1 0 empty_draft (stage s [] [] []) (values_of s) (ds ++ (rs ++ (ps ++ []))) refl by_settings start in
    let two = reach_list domain_line domain_addition total one.count one.place (stage s [] [] []) (stage s t.domains [] []) t.domains (rs ++ (ps ++ [])) (after_domains s [] t.domains) by_domains one.within in
    let three = reach_list (router_line t.domains) router_addition_of total two.count two.place (stage s t.domains [] []) (stage s t.domains t.routers []) t.routers (ps ++ []) (after_routers s t.domains [] t.routers) by_routers two.within in
    let four = reach_list (part_line t.routers) part_addition total three.count three.place (stage s t.domains t.routers []) (stage s t.domains t.routers t.parts) t.parts [] (after_parts s t.domains t.routers [] t.parts) by_parts three.within in
    reach_then total 1 0 empty_draft (stage s [] [] []) _ (ss ++ (ds ++ (rs ++ (ps ++ [])))) (ds ++ (rs ++ (ps ++ []))) [] one
    (reach_then total one.count one.place (stage s [] [] []) (stage s t.domains [] []) _ (ds ++ (rs ++ (ps ++ []))) (rs ++ (ps ++ [])) [] two
    (reach_then total two.count two.place (stage s t.domains [] []) (stage s t.domains t.routers []) _ (rs ++ (ps ++ [])) (ps ++ []) [] three four))

-- what the canonical text of a sound topology is read as
pub read_back : (t : Topology) → IsSound t → topology_of (canonical_text t) ≡ Ok t
read_back t k =
    let total = length (canonical_text t) in
    let text_with : List ℕ → List ℕ = λ tail. settings_text t.settings ++ (lines_text domain_line t.domains ++ (lines_text (router_line t.domains) t.routers ++ tail)) in
    let r = reached t k total in
    let ended : canonical_text t ≡ text_with (lines_text (part_line t.routers) t.parts ++ []) = ap text_with (sym (append-nil (lines_text (part_line t.routers) t.parts))) in
    let read : List ℕ → Result Topology RefusedLine = λ text. finished (with_lines total 1 0 empty_draft (lines_of text)) in
    ap read ended ∙ ap finished r.same

-- the same of what was written
pub written_back : (t : Topology) (r : Result (List ℕ) AllocError) → IfOk r (λ text. text ≡ canonical_text t) → IfOk r (λ text. IsSound t → topology_of text ≡ Ok t)
written_back t (Ok text) h = λ k. ap topology_of h ∙ read_back t k
written_back t (Err e) h = tt
