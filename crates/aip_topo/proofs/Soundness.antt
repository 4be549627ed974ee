-- Every topology that is read is sound.
use Rattle.std.proofs.Common.{◌≡◌, ℕ, ◌+◌, ◌<◌, ◌≤◌, Bool, true, false, cond, ◌||◌, List, [], ◌∷◌, ◌++◌, length, map, take, Option, Some, None, Result, Ok, Err, IfOk, refl, sym, ap, subst, ◌∙◌, arith, length-append, append_assoc}
use Rattle.std.specs.Prelude.{count_by, get_or, slice_get}
use Rattle.std.proofs.Common.{lit≤}
use Rattle.std.proofs.Math.ListN.{get_or-append}
use Rattle.std.specs.Str.{bytes_eq}
use Rattle.std.specs.List.{list_any, AllByRecursion}
use Rattle.std.specs.Option.{option_map}
use Rattle.std.proofs.lemmas.Bool.{or_from, or_parts}
use Rattle.std.proofs.lemmas.List.{map-append}
use Rattle.std.proofs.lemmas.List.Folds.{list_any-append}
use Rattle.std.proofs.lemmas.List.Sums.{sum_by-append}
use Rattle.std.proofs.lemmas.Option.{get_or_from_slice_get, none-some, same_Some, slice_get-get_or, slice_get_within}
use Rattle.aip_addr.specs.declared.ids.Id.{Id}
use Rattle.aip_text.specs.Lines.{lines_of, is_skipped, has_carriage_return}
use Rattle.aip_topo.specs.Canonical.{values_of}
use Rattle.aip_topo.specs.LineReading.{line_in}
use Rattle.aip_topo.specs.Lines.{IsLine}
use Rattle.aip_topo.specs.Reading.{RefusedLine, at_line, empty_draft, finished, is_long, then_with, topology_of, with_lines, with_read, with_text}
use Rattle.aip_topo.specs.Sound.{AreDistinct, IsDomain, IsInRange, IsPartOf, IsRouterOf, IsSound, has_text, host_key_ids, host_names, domain_identifiers, names_of}
use Rattle.aip_topo.specs.Steps.{ad_at, addition_of, has_ad, has_key_id, is_host, is_key_taken, is_link, is_named, is_twin, names_domain, names_host, names_router, with_addition, with_line, with_setting}
use Rattle.aip_topo.specs.declared.faults.TopoEnd.{TopoEnd}
use Rattle.aip_topo.specs.declared.faults.TopoFault.{TopoFault}
use Rattle.aip_topo.specs.declared.lines.Line.{Line}
use Rattle.aip_topo.specs.declared.lines.Setting.{Setting}
use Rattle.aip_topo.specs.declared.lines.Setting.TheVariants as setting
use Rattle.aip_topo.specs.declared.steps.Draft.{Draft}
use Rattle.aip_topo.specs.declared.additions.Addition.{Addition}
use Rattle.aip_topo.specs.declared.additions.Addition.TheVariants as addition
use Rattle.aip_topo.specs.declared.topology.Domain.{Domain}
use Rattle.aip_topo.specs.declared.topology.HostPart.{HostPart}
use Rattle.aip_topo.specs.declared.topology.LinkPart.{LinkPart}
use Rattle.aip_topo.specs.declared.topology.Part.{Part}
use Rattle.aip_topo.specs.declared.topology.Part.TheVariants as part
use Rattle.aip_topo.specs.declared.topology.Router.{Router}
use Rattle.aip_topo.specs.declared.topology.Settings.{Settings}
use Rattle.aip_topo.specs.declared.topology.Topology.{Topology}
use Rattle.aip_topo.proofs.Distinct.{added, all_more, all_then, inserted}
use Rattle.aip_topo.proofs.Accepted.{past, taken_accepted}
use Rattle.aip_topo.proofs.Keys.{domain_more, host_identifiers-link, host_more}
use Rattle.aip_topo.proofs.LineLaws.{line_found}
use Rattle.aip_topo.proofs.Meeting.{IsNew, Stands, line_meets, named_any}

-- ## One more

-- one is mapped to what was given
pub mapped : {A B : Type 0} (f : A → B) (o : Option A) (y : B) → option_map f o ≡ Some y → (x : A) × (o ≡ Some x) × (f x ≡ y)
mapped f None y h = absurd (none-some y h)
mapped f (Some x) y h = (x, refl, same_Some (f x) y h)

-- the settings with one of them changed
set_keeps : (s : Setting) (value : ℕ) (t : Settings) → IsInRange (s, value) → AllByRecursion IsInRange (values_of t) → AllByRecursion IsInRange (values_of (with_setting s value t))
set_keeps setting.Accept value t h k = (h, k.1)
set_keeps setting.Cache value t h k = (k.0, (h, k.1.1))
set_keeps setting.Epoch value t h k = (k.0, (k.1.0, (h, k.1.1.1)))
set_keeps setting.Filter value t h k = (k.0, (k.1.0, (k.1.1.0, (h, k.1.1.1.1))))
set_keeps setting.Log value t h k = (k.0, (k.1.0, (k.1.1.0, (k.1.1.1.0, (h, k.1.1.1.1.1)))))
set_keeps setting.Threshold value t h k = (k.0, (k.1.0, (k.1.1.0, (k.1.1.1.0, (k.1.1.1.1.0, (h, k.1.1.1.1.1.1))))))
set_keeps setting.Wild value t h k = (k.0, (k.1.0, (k.1.1.0, (k.1.1.1.0, (k.1.1.1.1.0, (k.1.1.1.1.1.0, (h, k.1.1.1.1.1.1.1)))))))
set_keeps setting.Wildcache value t h k = (k.0, (k.1.0, (k.1.1.0, (k.1.1.1.0, (k.1.1.1.1.0, (k.1.1.1.1.1.0, (k.1.1.1.1.1.1.0, (h, tt))))))))

-- a text of some field of each
pub any_map : {A : Type 0} (f : A → List ℕ) (x : List ℕ) (xs : List A) → list_any (λ a. bytes_eq (f a) x) xs ≡ has_text x (map f xs)
any_map f x [] = refl
any_map f x (a ∷ xs) = ap (λ b. bytes_eq (f a) x || b) (any_map f x xs)

pub any_host_name : (name : List ℕ) (parts : List Part) → list_any (names_host name) parts ≡ has_text name (host_names parts)
any_host_name name [] = refl
any_host_name name (part.Host host ∷ parts) = ap (λ b. bytes_eq host.name name || b) (any_host_name name parts)
any_host_name name (part.Link _ ∷ parts) = any_host_name name parts

pub any_key_id : (eid : Id) (parts : List Part) → list_any (has_key_id eid) parts ≡ has_text (take 19 eid.bytes) (host_key_ids parts)
any_key_id eid [] = refl
any_key_id eid (part.Host host ∷ parts) = ap (λ b. bytes_eq (take 19 host.eid.bytes) (take 19 eid.bytes) || b) (any_key_id eid parts)
any_key_id eid (part.Link _ ∷ parts) = any_key_id eid parts

host_names-host : (parts : List Part) (host : HostPart) → host_names (parts ++ part.Host host ∷ []) ≡ host_names parts ++ host.name ∷ []
host_names-host [] host = refl
host_names-host (part.Host other ∷ parts) host = ap (λ names. other.name ∷ names) (host_names-host parts host)
host_names-host (part.Link _ ∷ parts) host = host_names-host parts host

host_names-link : (parts : List Part) (link : LinkPart) → host_names (parts ++ part.Link link ∷ []) ≡ host_names parts
host_names-link [] link = refl
host_names-link (part.Host other ∷ parts) link = ap (λ names. other.name ∷ names) (host_names-link parts link)
host_names-link (part.Link _ ∷ parts) link = host_names-link parts link

host_key_ids-host : (parts : List Part) (host : HostPart) → host_key_ids (parts ++ part.Host host ∷ []) ≡ host_key_ids parts ++ take 19 host.eid.bytes ∷ []
host_key_ids-host [] host = refl
host_key_ids-host (part.Host other ∷ parts) host = ap (λ ids. take 19 other.eid.bytes ∷ ids) (host_key_ids-host parts host)
host_key_ids-host (part.Link _ ∷ parts) host = host_key_ids-host parts host

host_key_ids-link : (parts : List Part) (link : LinkPart) → host_key_ids (parts ++ part.Link link ∷ []) ≡ host_key_ids parts
host_key_ids-link [] link = refl
host_key_ids-link (part.Host other ∷ parts) link = ap (λ ids. take 19 other.eid.bytes ∷ ids) (host_key_ids-link parts link)
host_key_ids-link (part.Link _ ∷ parts) link = host_key_ids-link parts link

-- a name of none is none of the names
new_name : (name : List ℕ) (t : Topology) → is_named name t ≡ false → has_text name (names_of t) ≡ false
new_name name t h =
    let test : List ℕ → Bool = λ other. bytes_eq other name in
    let ds : List (List ℕ) = map (λ (domain : Domain). domain.name) t.domains in
    let rs : List (List ℕ) = map (λ (router : Router). router.name) t.routers in
    let first = or_parts (list_any (names_domain name) t.domains) (list_any (names_router name) t.routers || list_any (names_host name) t.parts) (sym (named_any name t) ∙ h) in
    let rest = or_parts (list_any (names_router name) t.routers) (list_any (names_host name) t.parts) first.1 in
    let no_domain : list_any test ds ≡ false = sym (any_map (λ (domain : Domain). domain.name) name t.domains) ∙ first.0 in
    let no_router : list_any test rs ≡ false = sym (any_map (λ (router : Router). router.name) name t.routers) ∙ rest.0 in
    let no_host : list_any test (host_names t.parts) ≡ false = sym (any_host_name name t.parts) ∙ rest.1 in
    let behind : list_any test (rs ++ host_names t.parts) ≡ false =
    list_any-append test rs (host_names t.parts) ∙ or_from (list_any test rs) (list_any test (host_names t.parts)) no_router no_host in
    list_any-append test ds (rs ++ host_names t.parts) ∙ or_from (list_any test ds) (list_any test (rs ++ host_names t.parts)) no_domain behind

-- one more at the end of the first, the second and the third of three lists
first_of_three : {A : Type 0} (f : A → List ℕ) (xs : List A) (x : A) (rest : List (List ℕ)) → AreDistinct (map f xs ++ rest) → has_text (f x) (map f xs ++ rest) ≡ false → AreDistinct (map f (xs ++ x ∷ []) ++ rest)
first_of_three f xs x rest differ new =
    subst AreDistinct (sym (ap (λ ys. ys ++ rest) (map-append f xs (x ∷ [])) ∙ append_assoc (map f xs) (f x ∷ []) rest)) (inserted (map f xs) rest (f x) differ new)

second_of_three : {A : Type 0} (before : List (List ℕ)) (f : A → List ℕ) (xs : List A) (x : A) (rest : List (List ℕ)) → AreDistinct (before ++ (map f xs ++ rest)) → has_text (f x) (before ++ (map f xs ++ rest)) ≡ false → AreDistinct (before ++ (map f (xs ++ x ∷ []) ++ rest))
second_of_three before f xs x rest differ new =
    let joined = append_assoc before (map f xs) rest in
    let more = inserted (before ++ map f xs) rest (f x) (subst AreDistinct (sym joined) differ) (ap (has_text (f x)) joined ∙ new) in
    let apart = subst AreDistinct (append_assoc before (map f xs) (f x ∷ rest)) more in
    subst AreDistinct (sym (ap (λ ys. before ++ ys) (ap (λ ys. ys ++ rest) (map-append f xs (x ∷ [])) ∙ append_assoc (map f xs) (f x ∷ []) rest))) apart

third_of_three : (before middle last : List (List ℕ)) (x : List ℕ) → AreDistinct (before ++ (middle ++ last)) → has_text x (before ++ (middle ++ last)) ≡ false → AreDistinct (before ++ (middle ++ (last ++ x ∷ [])))
third_of_three before middle last x differ new =
    subst AreDistinct (append_assoc before (middle ++ last) (x ∷ []) ∙ ap (λ ys. before ++ ys) (append_assoc middle last (x ∷ []))) (added (before ++ (middle ++ last)) x differ new)

-- one more of a mapped list
mapped_more : {A : Type 0} (f : A → List ℕ) (xs : List A) (x : A) → AreDistinct (map f xs) → list_any (λ a. bytes_eq (f a) (f x)) xs ≡ false → AreDistinct (map f (xs ++ x ∷ []))
mapped_more f xs x differ new =
    subst AreDistinct (sym (map-append f xs (x ∷ []))) (added (map f xs) (f x) differ (sym (any_map f (f x) xs) ∙ new))

-- what stood at a place stands there still
pub ad_more : (place : ℕ) (domains : List Domain) (domain : Domain) (ad : Id) → ad_at place domains ≡ Some ad → ad_at place (domains ++ domain ∷ []) ≡ Some ad
ad_more place domains domain ad h =
    let found = mapped (λ (d : Domain). d.ad) (slice_get domains place) ad h in
    let below = slice_get_within domains place found.0 found.1 in
    let longer : place < length (domains ++ domain ∷ []) = omega (arith, length-append domains (domain ∷ []), below) in
    let same : get_or (domains ++ domain ∷ []) place found.0 ≡ found.0 =
    get_or-append domains (domain ∷ []) found.0 place below ∙ get_or_from_slice_get domains place found.0 found.0 found.1 in
    let there : slice_get (domains ++ domain ∷ []) place ≡ Some found.0 =
    slice_get-get_or (domains ++ domain ∷ []) place found.0 longer ∙ ap Some same in
    ap (option_map (λ (d : Domain). d.ad)) there ∙ ap Some found.2

router_stays : (domains : List Domain) (domain : Domain) (router : Router) → IsRouterOf domains router → IsRouterOf (domains ++ domain ∷ []) router
router_stays domains domain router h = (h.0, h.1, ad_more router.domain domains domain router.address.ad h.2, h.3)

part_stays : (n m : ℕ) → n ≤ m → (p : Part) → IsPartOf n p → IsPartOf m p
part_stays n m up (part.Host host) h = (h.0, h.1, omega (arith, h.2), h.3, h.4)
part_stays n m up (part.Link link) h = (omega (arith, h.0), omega (arith, h.1), h.2)

-- 1 for what counts
abbrev one_if : Bool → ℕ
one_if b = cond b 1 0

-- one more to count, or not
count_more : (p : Part → Bool) (parts : List Part) (q : Part) (n : ℕ) → p q ≡ true → count_by p parts < n → count_by p (parts ++ q ∷ []) ≤ n
count_more p parts q n counts below =
    let one : one_if (p q) ≡ 1 = ap one_if counts in
    omega (arith, sum_by-append (λ x. one_if (p x)) parts (q ∷ []), one, below)

count_same : (p : Part → Bool) (parts : List Part) (q : Part) (n : ℕ) → p q ≡ false → count_by p parts ≤ n → count_by p (parts ++ q ∷ []) ≤ n
count_same p parts q n other below =
    let none : one_if (p q) ≡ 0 = ap one_if other in
    omega (arith, sum_by-append (λ x. one_if (p x)) parts (q ∷ []), none, below)

-- a sound topology with what a line adds is sound
sound_with : (t : Topology) (e : Addition) → IsSound t → Stands t e → IsNew t e → is_twin t e ≡ false → IsSound (with_addition t e)
sound_with t (addition.Set s value) k stands new alone =
    record {
      few_domains = k.few_domains;
      few_routers = k.few_routers;
      few_hosts = k.few_hosts;
      few_links = k.few_links;
      settings = set_keeps s value t.settings stands k.settings;
      domains = k.domains;
      routers = k.routers;
      parts = k.parts;
      names_differ = k.names_differ;
      ads_differ = k.ads_differ;
      eids_differ = k.eids_differ;
      key_ids_differ = k.key_ids_differ;
      identifiers_differ = k.identifiers_differ;
    }
sound_with t (addition.Domain domain) k stands new alone =
    let apart = or_parts (list_any (has_ad domain.ad) t.domains) (is_key_taken t domain.key) alone in
    record {
      few_domains = omega (arith, length-append t.domains (domain ∷ []), new.0);
      few_routers = k.few_routers;
      few_hosts = k.few_hosts;
      few_links = k.few_links;
      settings = k.settings;
      domains = all_more IsDomain t.domains domain k.domains stands;
      routers = all_then (IsRouterOf t.domains) (IsRouterOf (t.domains ++ domain ∷ [])) (router_stays t.domains domain) t.routers k.routers;
      parts = k.parts;
      names_differ = first_of_three (λ (d : Domain). d.name) t.domains domain (map (λ (r : Router). r.name) t.routers ++ host_names t.parts) k.names_differ (new_name domain.name t new.1);
      ads_differ = mapped_more (λ (d : Domain). d.ad.bytes) t.domains domain k.ads_differ apart.0;
      eids_differ = k.eids_differ;
      key_ids_differ = k.key_ids_differ;
      identifiers_differ = domain_more t domain k.identifiers_differ apart.1;
    }
sound_with t (addition.Router router) k stands new alone =
    record {
      few_domains = k.few_domains;
      few_routers = omega (arith, length-append t.routers (router ∷ []), new.0);
      few_hosts = k.few_hosts;
      few_links = k.few_links;
      settings = k.settings;
      domains = k.domains;
      routers = all_more (IsRouterOf t.domains) t.routers router k.routers stands;
      parts = all_then (IsPartOf (length t.routers)) (IsPartOf (length (t.routers ++ router ∷ []))) (part_stays (length t.routers) (length (t.routers ++ router ∷ [])) (omega (arith, length-append t.routers (router ∷ [])))) t.parts k.parts;
      names_differ = second_of_three (map (λ (d : Domain). d.name) t.domains) (λ (r : Router). r.name) t.routers router (host_names t.parts) k.names_differ (new_name router.name t new.1);
      ads_differ = k.ads_differ;
      eids_differ = mapped_more (λ (r : Router). r.address.eid.bytes) t.routers router k.eids_differ alone;
      key_ids_differ = k.key_ids_differ;
      identifiers_differ = k.identifiers_differ;
    }
sound_with t (addition.Part (part.Host host)) k stands new alone =
    let ds : List (List ℕ) = map (λ (d : Domain). d.name) t.domains in
    let rs : List (List ℕ) = map (λ (r : Router). r.name) t.routers in
    let names : List (List ℕ) → Type 0 = λ hosts. AreDistinct (ds ++ (rs ++ hosts)) in
    let apart = or_parts (list_any (has_key_id host.eid) t.parts) (is_key_taken t host.key) alone in
    record {
      few_domains = k.few_domains;
      few_routers = k.few_routers;
      few_hosts = count_more is_host t.parts (part.Host host) 1024 refl new.0;
      few_links = count_same is_link t.parts (part.Host host) 4096 refl k.few_links;
      settings = k.settings;
      domains = k.domains;
      routers = k.routers;
      parts = all_more (IsPartOf (length t.routers)) t.parts (part.Host host) k.parts stands;
      names_differ = subst names (sym (host_names-host t.parts host)) (third_of_three ds rs (host_names t.parts) host.name k.names_differ (new_name host.name t new.1));
      ads_differ = k.ads_differ;
      eids_differ = k.eids_differ;
      key_ids_differ = subst AreDistinct (sym (host_key_ids-host t.parts host)) (added (host_key_ids t.parts) (take 19 host.eid.bytes) k.key_ids_differ (sym (any_key_id host.eid t.parts) ∙ apart.0));
      identifiers_differ = host_more t host k.identifiers_differ apart.1;
    }
sound_with t (addition.Part (part.Link link)) k stands new alone =
    let ds : List (List ℕ) = map (λ (d : Domain). d.name) t.domains in
    let rs : List (List ℕ) = map (λ (r : Router). r.name) t.routers in
    let names : List (List ℕ) → Type 0 = λ hosts. AreDistinct (ds ++ (rs ++ hosts)) in
    let identifiers : List (List ℕ) → Type 0 = λ hosts. AreDistinct (domain_identifiers t.domains ++ hosts) in
    record {
      few_domains = k.few_domains;
      few_routers = k.few_routers;
      few_hosts = count_same is_host t.parts (part.Link link) 1024 refl k.few_hosts;
      few_links = count_more is_link t.parts (part.Link link) 4096 refl new;
      settings = k.settings;
      domains = k.domains;
      routers = k.routers;
      parts = all_more (IsPartOf (length t.routers)) t.parts (part.Link link) k.parts stands;
      names_differ = subst names (sym (host_names-link t.parts link)) k.names_differ;
      ads_differ = k.ads_differ;
      eids_differ = k.eids_differ;
      key_ids_differ = subst AreDistinct (sym (host_key_ids-link t.parts link)) k.key_ids_differ;
      identifiers_differ = subst identifiers (sym (host_identifiers-link t.parts link)) k.identifiers_differ;
    }

-- ## A whole text

line_keeps : (draft next : Draft) (l : Line) → IsLine l → IsSound draft.topology → with_line draft l ≡ Ok next → IsSound next.topology
line_keeps draft next l fits k h =
    let it = taken_accepted draft l next h in
    let may = line_meets draft l fits it.met in
    subst (λ (d : Draft). IsSound d.topology) it.gives (sound_with draft.topology (addition_of draft.topology l) k may.0 may.1 it.met.alone)

pub at_line_ok : (number : ℕ) (r : Result Draft TopoFault) (next : Draft) → at_line number r ≡ Ok next → r ≡ Ok next
at_line_ok number (Ok draft) next h = let same : draft ≡ next = cc in ap Ok same
at_line_ok number (Err f) next h = cc h

read_keeps : (number : ℕ) (draft next : Draft) (text : List ℕ) (o : Option Line) → o ≡ line_in text → IsSound draft.topology → with_read number draft o ≡ Ok next → IsSound next.topology
read_keeps number draft next text None e k h = cc h
read_keeps number draft next text (Some l) e k h =
    line_keeps draft next l (line_found text l (sym e)).0 k (at_line_ok number (with_line draft l) next h)

skipped_keeps : (b : Bool) (r : Result Draft RefusedLine) (draft next : Draft) → IsSound draft.topology → (r ≡ Ok next → IsSound next.topology) → cond b (Ok draft) r ≡ Ok next → IsSound next.topology
skipped_keeps true r draft next k f h = let same : draft ≡ next = cc in subst (λ (d : Draft). IsSound d.topology) same k
skipped_keeps false r draft next k f h = f h

text_keeps : (number ending : ℕ) (draft next : Draft) (text : List ℕ) → IsSound draft.topology → with_text number ending draft text ≡ Ok next → IsSound next.topology
text_keeps number ending draft next text k h =
    let short = past (is_long ending text) _ _ next h in
    let clean = past (has_carriage_return text) _ _ next short.1 in
    skipped_keeps (is_skipped text) (with_read number draft (line_in text)) draft next k (read_keeps number draft next text (line_in text) refl k) clean.1

pub then_ok : (r : Result Draft RefusedLine) (f : Draft → Result Draft RefusedLine) (next : Draft) → then_with r f ≡ Ok next → (draft : Draft) × (r ≡ Ok draft) × (f draft ≡ Ok next)
then_ok (Ok draft) f next h = (draft, refl, h)
then_ok (Err e) f next h = cc h

lines_keep : (total number start : ℕ) (draft next : Draft) (texts : List (List ℕ)) → IsSound draft.topology → with_lines total number start draft texts ≡ Ok next → IsSound next.topology
lines_keep total number start draft next [] k h = let same : draft ≡ next = cc in subst (λ (d : Draft). IsSound d.topology) same k
lines_keep total number start draft next (text ∷ texts) k h =
    let step = then_ok _ _ next h in
    lines_keep total (number + 1) (start + length text + 1) step.0 next texts (text_keeps number _ draft step.0 text k step.1) step.2

-- nothing is sound
empty_sound : IsSound empty_draft.topology
empty_sound =
    record {
      few_domains = lit≤ tt;
      few_routers = lit≤ tt;
      few_hosts = lit≤ tt;
      few_links = lit≤ tt;
      settings = (refl, (refl, (refl, (refl, (refl, (refl, (refl, (refl, tt))))))));
      domains = tt;
      routers = tt;
      parts = tt;
      names_differ = tt;
      ads_differ = tt;
      eids_differ = tt;
      key_ids_differ = tt;
      identifiers_differ = tt;
    }

finished_sound : (r : Result Draft RefusedLine) (t : Topology) → ((draft : Draft) → r ≡ Ok draft → IsSound draft.topology) → finished r ≡ Ok t → IsSound t
finished_sound (Ok draft) t each h = let same : draft.topology ≡ t = cc in subst IsSound same (each draft refl)
finished_sound (Err e) t each h = cc h

-- what a text gives is sound
pub given_sound : (text : List ℕ) (t : Topology) → topology_of text ≡ Ok t → IsSound t
given_sound text t h =
    finished_sound (with_lines (length text) 1 0 empty_draft (lines_of text)) t (λ draft e. lines_keep (length text) 1 0 empty_draft draft (lines_of text) empty_sound e) h

-- the same of what was answered
pub answered_sound : (text : List ℕ) (r : Result Topology TopoEnd) → IfOk r (λ t. topology_of text ≡ Ok t) → IfOk r IsSound
answered_sound text (Ok t) h = given_sound text t h
answered_sound text (Err e) h = tt
