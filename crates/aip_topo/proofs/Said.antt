-- A text that is read gives the topology of its lines.
use Rattle.std.proofs.Common.{◌≡◌, ℕ, ◌+◌, ◌<◌, ◌==◌, Bool, true, false, cond, not, nat_lt, List, [], ◌∷◌, ◌++◌, length, map, Option, Some, None, Result, Ok, Err, IfOk, refl, sym, ap, subst, ◌∙◌, arith, length-append, append_assoc, append-nil}
use Rattle.std.specs.Prelude.{flat_map, position, unwrap_or, replicate}
use Rattle.std.specs.List.{AllByRecursion, position_or_len}
use Rattle.std.specs.Option.{is_none}
use Rattle.std.proofs.lemmas.Bool.{cond-false, cond-true, eqb-true, false_from_ne_true, lt-ltb, ltb-true, or_from, or_parts}
use Rattle.std.proofs.lemmas.Grind.{flat_map-append}
use Rattle.std.proofs.lemmas.List.Folds.{position_or_len_push}
use Rattle.std.proofs.lemmas.Option.{cond_some}
use Rattle.aip_addr.specs.Ids.{id_of_router}
use Rattle.aip_addr.specs.declared.ids.Id.{Id}
use Rattle.aip_text.specs.Lines.{has_carriage_return, is_skipped, lines_of}
use Rattle.aip_topo.specs.LineReading.{line_in}
use Rattle.aip_topo.specs.Lines.{IsLine, line_text}
use Rattle.aip_topo.specs.Meaning.{IsSaid, domain_by, domains_said, part_by, router_by, saying, settings_said, topology_said, value_behind, value_by}
use Rattle.aip_topo.specs.Reading.{RefusedLine, empty_draft, finished, is_long, topology_of, with_lines, with_read, with_text}
use Rattle.aip_topo.specs.Steps.{ad_or_zeros, default_of, domain_from, domain_place, addition_of, id_from, is_unknown, key_of, names_domain, names_router, router_from, router_place, settings_with, with_addition, with_line, with_setting}
use Rattle.aip_topo.specs.declared.additions.Addition.{Addition}
use Rattle.aip_topo.specs.declared.additions.Addition.TheVariants as addition
use Rattle.aip_topo.specs.declared.faults.TopoEnd.{TopoEnd}
use Rattle.aip_topo.specs.declared.lines.Line.{Line}
use Rattle.aip_topo.specs.declared.lines.Line.TheVariants as line
use Rattle.aip_topo.specs.declared.lines.Setting.{Setting}
use Rattle.aip_topo.specs.declared.lines.Setting.TheVariants as setting
use Rattle.aip_topo.specs.declared.steps.Draft.{Draft}
use Rattle.aip_topo.specs.declared.topology.Domain.{Domain}
use Rattle.aip_topo.specs.declared.topology.Part.{Part}
use Rattle.aip_topo.specs.declared.topology.Part.TheVariants as part
use Rattle.aip_topo.specs.declared.topology.Router.{Router}
use Rattle.aip_topo.specs.declared.topology.Settings.{Settings}
use Rattle.aip_topo.specs.declared.topology.Topology.{Topology}
use Rattle.aip_topo.proofs.Accepted.{past, taken_accepted}
use Rattle.aip_topo.proofs.Distinct.{all_more, all_then}
use Rattle.aip_topo.proofs.LineLaws.{line_found}
use Rattle.aip_topo.proofs.Meeting.{ad_there, known_within, some_of}
use Rattle.aip_topo.proofs.Soundness.{ad_more, at_line_ok, then_ok}

-- ## One more of a list

-- what is known stands at its place still
place_kept : {A : Type 0} (p : A → Bool) (xs : List A) (y : A) → is_none (position p xs) ≡ false → position p (xs ++ y ∷ []) ≡ position p xs
place_kept p xs y h =
    let n = position_or_len p xs in
    let more = xs ++ y ∷ [] in
    let it = some_of (position p xs) h in
    let inside = (cond_some (nat_lt n (length xs)) n it.0 it.1).0 in
    let below = ltb-true n (length xs) inside in
    let apart : (n == length xs) ≡ false = false_from_ne_true (n == length xs) (λ e. let same = eqb-true n (length xs) e in omega (arith, same, below)) in
    let here : position_or_len p more ≡ n = position_or_len_push p xs y ∙ cond-false (n == length xs) _ _ apart in
    let found : ℕ → Option ℕ = λ k. cond (nat_lt k (length more)) (Some k) None in
    ap found here ∙ cond-true (nat_lt n (length more)) _ _ (lt-ltb n (length more) (omega (arith, length-append xs (y ∷ []), below)))
    ∙ sym (cond-true (nat_lt n (length xs)) _ _ inside)

-- a line that names what is there
abbrev Known : Topology → Line → Type 0
Known t l = is_unknown t l ≡ false

known_kept : (t : Topology) (e : Addition) (l : Line) → Known t l → Known (with_addition t e) l
known_kept t (addition.Set s value) (line.Set _ _) h = h
known_kept t (addition.Set s value) (line.Domain _ _) h = h
known_kept t (addition.Set s value) (line.Router _ _ _ _) h = h
known_kept t (addition.Set s value) (line.Host _ _ _ _) h = h
known_kept t (addition.Set s value) (line.Link _ _ _ _) h = h
known_kept t (addition.Domain d) (line.Set _ _) h = h
known_kept t (addition.Domain d) (line.Domain _ _) h = h
known_kept t (addition.Domain d) (line.Router _ domain _ _) h = ap is_none (place_kept (names_domain domain) t.domains d h) ∙ h
known_kept t (addition.Domain d) (line.Host _ _ _ _) h = h
known_kept t (addition.Domain d) (line.Link _ _ _ _) h = h
known_kept t (addition.Router r) (line.Set _ _) h = h
known_kept t (addition.Router r) (line.Domain _ _) h = h
known_kept t (addition.Router r) (line.Router _ _ _ _) h = h
known_kept t (addition.Router r) (line.Host _ router _ _) h = ap is_none (place_kept (names_router router) t.routers r h) ∙ h
known_kept t (addition.Router r) (line.Link a b _ _) h =
    let known = or_parts (is_none (router_place a t.routers)) (is_none (router_place b t.routers)) h in
    or_from (is_none (router_place a (t.routers ++ r ∷ []))) (is_none (router_place b (t.routers ++ r ∷ [])))
    (ap is_none (place_kept (names_router a) t.routers r known.0) ∙ known.0) (ap is_none (place_kept (names_router b) t.routers r known.1) ∙ known.1)
known_kept t (addition.Part p) (line.Set _ _) h = h
known_kept t (addition.Part p) (line.Domain _ _) h = h
known_kept t (addition.Part p) (line.Router _ _ _ _) h = h
known_kept t (addition.Part p) (line.Host _ _ _ _) h = h
known_kept t (addition.Part p) (line.Link _ _ _ _) h = h

-- the id of a domain that is there stays
ad_kept : (domains : List Domain) (d : Domain) (k : ℕ) → k < length domains → ad_or_zeros k (domains ++ d ∷ []) ≡ ad_or_zeros k domains
ad_kept domains d k below =
    let zeros : Id = record { bytes = replicate 20 0 } in
    ap (λ o. unwrap_or o zeros) (ad_more k domains d (ad_or_zeros k domains) (ad_there domains k below))

router_kept : (t : Topology) (d : Domain) (l : Line) → Known t l → router_by (t.domains ++ d ∷ []) l ≡ router_by t.domains l
router_kept t d (line.Set _ _) h = refl
router_kept t d (line.Domain _ _) h = refl
router_kept t d (line.Router name domain checking master) h =
    let ds = t.domains in
    let more = ds ++ d ∷ [] in
    let k = unwrap_or (domain_place domain ds) 0 in
    let made : ℕ → Id → List Router = λ place ad. record { name = name; domain = place; checking = checking; master = master; address = record { ad = ad; eid = id_of_router name } } ∷ [] in
    ap (λ o. made (unwrap_or o 0) (ad_or_zeros (unwrap_or o 0) more)) (place_kept (names_domain domain) ds d h) ∙ ap (made k) (ad_kept ds d k (known_within (names_domain domain) ds h))
router_kept t d (line.Host _ _ _ _) h = refl
router_kept t d (line.Link _ _ _ _) h = refl

part_kept : (t : Topology) (r : Router) (l : Line) → Known t l → part_by (t.routers ++ r ∷ []) l ≡ part_by t.routers l
part_kept t r (line.Set _ _) h = refl
part_kept t r (line.Domain _ _) h = refl
part_kept t r (line.Router _ _ _ _) h = refl
part_kept t r (line.Host name router guarded from) h =
    let made : Option ℕ → List Part = λ o. part.Host (record { name = name; router = unwrap_or o 0; guarded = guarded; eid = id_from from; key = key_of from }) ∷ [] in
    ap made (place_kept (names_router router) t.routers r h)
part_kept t r (line.Link a b a_trusts b_trusts) h =
    let known = or_parts (is_none (router_place a t.routers)) (is_none (router_place b t.routers)) h in
    let made : Option ℕ → Option ℕ → List Part = λ o p. part.Link (record { a = unwrap_or o 0; b = unwrap_or p 0; a_trusts = a_trusts; b_trusts = b_trusts }) ∷ [] in
    ap (λ o. made o (router_place b (t.routers ++ r ∷ []))) (place_kept (names_router a) t.routers r known.0)
    ∙ ap (made (router_place a t.routers)) (place_kept (names_router b) t.routers r known.1)

-- ## One more line

flat_same : {A B : Type 0} (f g : A → List B) (xs : List A) → AllByRecursion (λ x. f x ≡ g x) xs → flat_map f xs ≡ flat_map g xs
flat_same f g [] h = refl
flat_same f g (x ∷ xs) h = ap (λ ys. ys ++ flat_map f xs) h.0 ∙ ap (λ ys. g x ++ ys) (flat_same f g xs h.1)

-- what is made of one more
flat_more : {A B : Type 0} (f : A → List B) (xs : List A) (x : A) → flat_map f (xs ++ x ∷ []) ≡ flat_map f xs ++ f x
flat_more f xs x = flat_map-append f xs (x ∷ []) ∙ ap (λ ys. flat_map f xs ++ ys) (append-nil (f x))

-- nothing more is made of one that gives nothing
flat_none : {A B : Type 0} (f : A → List B) (xs : List A) (x : A) → f x ≡ [] → flat_map f (xs ++ x ∷ []) ≡ flat_map f xs
flat_none f xs x e = flat_more f xs x ∙ ap (λ ys. flat_map f xs ++ ys) e ∙ append-nil (flat_map f xs)

value_more : (s : Setting) (before : ℕ) (ls : List Line) (l : Line) → value_behind s before (ls ++ l ∷ []) ≡ value_by l s (value_behind s before ls)
value_more s before [] l = refl
value_more s before (x ∷ xs) l = value_more s (value_by x s before) xs l

settings_same : (f g : Setting → ℕ) → ((s : Setting) → f s ≡ g s) → settings_with f ≡ settings_with g
settings_same f g h = rw (h setting.Accept, h setting.Cache, h setting.Epoch, h setting.Filter, h setting.Log, h setting.Threshold, h setting.Wild, h setting.Wildcache) refl

-- the values, once one of them is set
set_one : (s : Setting) (value : ℕ) (f : Setting → ℕ) → settings_with (λ x. value_by (line.Set s value) x (f x)) ≡ with_setting s value (settings_with f)
set_one setting.Accept value f = refl
set_one setting.Cache value f = refl
set_one setting.Epoch value f = refl
set_one setting.Filter value f = refl
set_one setting.Log value f = refl
set_one setting.Threshold value f = refl
set_one setting.Wild value f = refl
set_one setting.Wildcache value f = refl

settings_more : (ls : List Line) (l : Line) → settings_said (ls ++ l ∷ []) ≡ settings_with (λ x. value_by l x (value_behind x (default_of x) ls))
settings_more ls l = settings_same _ (λ x. value_by l x (value_behind x (default_of x) ls)) (λ x. value_more x (default_of x) ls l)

-- the topology of lines, once each of its parts is known
abbrev made : Settings → List Domain → List Router → List Part → Topology
made s ds rs ps = record { settings = s; domains = ds; routers = rs; parts = ps }

said_by_parts : (ls : List Line) (s : Settings) (ds : List Domain) (rs : List Router) (ps : List Part) → settings_said ls ≡ s → domains_said ls ≡ ds
    → flat_map (router_by ds) ls ≡ rs → flat_map (part_by rs) ls ≡ ps → topology_said ls ≡ made s ds rs ps
said_by_parts ls s ds rs ps es ed er ep =
    let by_domains : List Domain → Topology = λ d. made (settings_said ls) d (flat_map (router_by d) ls) (flat_map (part_by (flat_map (router_by d) ls)) ls) in
    ap by_domains ed ∙ ap (λ r. made (settings_said ls) ds r (flat_map (part_by r) ls)) er ∙ ap (λ p. made (settings_said ls) ds rs p) ep ∙ ap (λ x. made x ds rs ps) es

-- one more line adds what it adds to the topology of those before
said_more : (ls : List Line) (l : Line) → AllByRecursion (Known (topology_said ls)) ls → topology_said (ls ++ l ∷ []) ≡ with_addition (topology_said ls) (addition_of (topology_said ls) l)
said_more ls (line.Set s value) known =
    let l = line.Set s value in
    let t = topology_said ls in
    said_by_parts (ls ++ l ∷ []) _ t.domains t.routers t.parts (settings_more ls l ∙ set_one s value (λ x. value_behind x (default_of x) ls))
    (flat_none domain_by ls l refl) (flat_none (router_by t.domains) ls l refl) (flat_none (part_by t.routers) ls l refl)
said_more ls (line.Domain name from) known =
    let l = line.Domain name from in
    let t = topology_said ls in
    let d = domain_from name from in
    let kept = flat_same (router_by (t.domains ++ d ∷ [])) (router_by t.domains) ls (all_then (Known t) (λ x. router_by (t.domains ++ d ∷ []) x ≡ router_by t.domains x) (router_kept t d) ls known) in
    said_by_parts (ls ++ l ∷ []) t.settings (t.domains ++ d ∷ []) t.routers t.parts (settings_more ls l)
    (flat_more domain_by ls l) (flat_none (router_by (t.domains ++ d ∷ [])) ls l refl ∙ kept) (flat_none (part_by t.routers) ls l refl)
said_more ls (line.Router name domain checking master) known =
    let l = line.Router name domain checking master in
    let t = topology_said ls in
    let r = router_from t.domains name domain checking master in
    let kept = flat_same (part_by (t.routers ++ r ∷ [])) (part_by t.routers) ls (all_then (Known t) (λ x. part_by (t.routers ++ r ∷ []) x ≡ part_by t.routers x) (part_kept t r) ls known) in
    said_by_parts (ls ++ l ∷ []) t.settings t.domains (t.routers ++ r ∷ []) t.parts (settings_more ls l)
    (flat_none domain_by ls l refl) (flat_more (router_by t.domains) ls l) (flat_none (part_by (t.routers ++ r ∷ [])) ls l refl ∙ kept)
said_more ls (line.Host name router guarded from) known =
    let l = line.Host name router guarded from in
    let t = topology_said ls in
    said_by_parts (ls ++ l ∷ []) t.settings t.domains t.routers _ (settings_more ls l)
    (flat_none domain_by ls l refl) (flat_none (router_by t.domains) ls l refl) (flat_more (part_by t.routers) ls l)
said_more ls (line.Link a b a_trusts b_trusts) known =
    let l = line.Link a b a_trusts b_trusts in
    let t = topology_said ls in
    said_by_parts (ls ++ l ∷ []) t.settings t.domains t.routers _ (settings_more ls l)
    (flat_none domain_by ls l refl) (flat_none (router_by t.domains) ls l refl) (flat_more (part_by t.routers) ls l)

-- ## A whole text

-- a draft that is the topology of these lines, each of which names what is there
record Follows (ls : List Line) (draft : Draft) : Type 0 where
  same : topology_said ls ≡ draft.topology
  known : AllByRecursion (Known draft.topology) ls

-- one more line that is taken
follows_more : (ls : List Line) (l : Line) (draft next : Draft) → Follows ls draft → with_line draft l ≡ Ok next → Follows (ls ++ l ∷ []) next
follows_more ls l draft next k h =
    let it = taken_accepted draft l next h in
    let t = draft.topology in
    let e = addition_of t l in
    let of_draft : Topology → Type 0 = λ x. AllByRecursion (Known x) ls in
    let step : Topology → Topology = λ x. with_addition x (addition_of x l) in
    let each = all_then (Known t) (Known (with_addition t e)) (known_kept t e) ls k.known in
    let all = all_more (Known (with_addition t e)) ls l each (known_kept t e l it.met.known) in
    subst (Follows (ls ++ l ∷ [])) it.gives (record { same = said_more ls l (subst of_draft (sym k.same) k.known) ∙ ap step k.same; known = all })

-- how a text that is taken is taken: it is skipped, or is the spelling of a line that is taken
text_cases : (number ending : ℕ) (draft next : Draft) (text : List ℕ) (P : Type 0) → with_text number ending draft text ≡ Ok next
    → (is_skipped text ≡ true → draft ≡ next → P) → ((l : Line) → is_skipped text ≡ false → line_in text ≡ Some l → with_line draft l ≡ Ok next → P) → P
text_cases number ending draft next text P h skipped taken = by (is_skipped text) refl clean.1
  where
    clean : (has_carriage_return text ≡ false) × (cond (is_skipped text) (Ok draft) (with_read number draft (line_in text)) ≡ Ok next)
    clean = past (has_carriage_return text) _ _ next (past (is_long ending text) _ _ next h).1

    line_by : (o : Option Line) → line_in text ≡ o → is_skipped text ≡ false → with_read number draft o ≡ Ok next → P
    line_by None e seen r = cc r
    line_by (Some l) e seen r = taken l seen e (at_line_ok number (with_line draft l) next r)

    by : (b : Bool) → is_skipped text ≡ b → cond b (Ok draft) (with_read number draft (line_in text)) ≡ Ok next → P
    by true e r = skipped e (let same : draft ≡ next = cc in same)
    by false e r = line_by (line_in text) refl e r

-- the lines that texts say, on from lines that were read
record SaysOn (before : List Line) (texts : List (List ℕ)) (next : Draft) : Type 0 where
  lines : List Line
  formed : AllByRecursion IsLine lines
  spelled : map line_text lines ≡ saying texts
  same : topology_said (before ++ lines) ≡ next.topology

says_on : (total number start : ℕ) (before : List Line) (draft next : Draft) (texts : List (List ℕ)) → Follows before draft → with_lines total number start draft texts ≡ Ok next → SaysOn before texts next
says_on total number start before draft next [] k h =
    let same : draft ≡ next = cc in
    record { lines = []; formed = tt; spelled = refl; same = ap topology_said (append-nil before) ∙ k.same ∙ ap (λ (d : Draft). d.topology) same }
says_on total number start before draft next (text ∷ texts) k h =
    let step = then_ok _ _ next h in
    text_cases number _ draft step.0 text (SaysOn before (text ∷ texts) next) step.1
    (λ skip same.
    let rest = says_on total (number + 1) (start + length text + 1) before step.0 next texts (subst (Follows before) same k) step.2 in
    record { lines = rest.lines; formed = rest.formed; spelled = rest.spelled ∙ sym (cond-false (not (is_skipped text)) _ _ (ap not skip)); same = rest.same })
    (λ l seen says taken.
    let rest = says_on total (number + 1) (start + length text + 1) (before ++ l ∷ []) step.0 next texts (follows_more before l draft step.0 k taken) step.2 in
    let read = line_found text l says in
    record {
      lines = l ∷ rest.lines;
      formed = (read.0, rest.formed);
      spelled = ap (λ ys. line_text l ∷ ys) rest.spelled ∙ ap (λ t. t ∷ saying texts) (sym read.1) ∙ sym (cond-true (not (is_skipped text)) _ _ (ap not seen));
      same = ap topology_said (sym (append_assoc before (l ∷ []) rest.lines)) ∙ rest.same;
    })

finished_ok : (r : Result Draft RefusedLine) (t : Topology) → finished r ≡ Ok t → (draft : Draft) × (r ≡ Ok draft) × (draft.topology ≡ t)
finished_ok (Ok draft) t h = let same : draft.topology ≡ t = cc in (draft, refl, same)
finished_ok (Err e) t h = cc h

-- what a text gives is the topology of its lines
pub is_said : (text : List ℕ) (t : Topology) → topology_of text ≡ Ok t → IsSaid text t
is_said text t h =
    let draft = finished_ok (with_lines (length text) 1 0 empty_draft (lines_of text)) t h in
    let on = says_on (length text) 1 0 [] empty_draft draft.0 (lines_of text) (record { same = refl; known = tt }) draft.1 in
    record { lines = on.lines; formed = on.formed; spelled = on.spelled; same = on.same ∙ draft.2 }

-- the same of what was answered
pub answered_said : (text : List ℕ) (r : Result Topology TopoEnd) → IfOk r (λ t. topology_of text ≡ Ok t) → IfOk r (IsSaid text)
answered_said text (Ok t) h = is_said text t h
answered_said text (Err e) h = tt
