-- On the rows of the table of routes.
use Rattle.std.proofs.Common.{◌≡◌, ℕ, suc, zero, ◌<◌, ◌≤◌, ◌+◌, inl, inr, Bool, true, false, List, [], ◌∷◌, ◌++◌, length, get_or, take, refl, sym, ◌∙◌, ap, subst, arith, Option, Some, None, All, Contains, Vec, length-append, min, eqb}
use Rattle.std.specs.Prelude.{slice_get, if◌then◌else◌}
use Rattle.std.specs.List.{list_any}
use Rattle.std.proofs.lemmas.List.Folds.{list_any_at}
use Rattle.std.proofs.lemmas.Bool.{cases_eq, cases_lt, eqb-true, eq-eqb}
use Rattle.std.proofs.lemmas.List.{get_or_past, get_or_append_left, get_or_push, get_or_default, take_more}
use Rattle.std.proofs.lemmas.Option.{slice_get-get_or, slice_get_within}
use Rattle.std.specs.declared.alloc.Global.{Global}
use Rattle.domain_routes.specs.declared.Edge.{Edge}
use Rattle.domain_routes.specs.declared.Way.{Way}
use Rattle.domain_routes.specs.declared.Goal.{Goal}
use Rattle.domain_routes.specs.declared.Goal.TheVariants.{Domain, Router}
use Rattle.domain_routes.specs.Walks.{ways, takes_in, is_in_goal, has_walk, distance, is_one_less, lower_of, lowest, nearer_ports, port_towards, DistancesAreLeast}
use Rattle.domain_routes.specs.Levels.{level_at, AreDistances}
use Rattle.domain_routes.specs.Rows.{entry_in, IsRow, AreRows}
use Rattle.domain_routes.proofs.WayLemmas.{walk-first, walk-zero}
use Rattle.domain_routes.proofs.SearchLemmas.{least_below-none}

-- the ports that lead nearer go by the distances alone
pub nearer_same : (at bt : ℕ → Option ℕ) (own : Option ℕ) (ws : List Way) → ((r : ℕ) → at r ≡ bt r) → nearer_ports at own ws ≡ nearer_ports bt own ws
nearer_same at bt own [] h = refl
nearer_same at bt own (w ∷ ws) h = rw (h w.neighbour, nearer_same at bt own ws h) refl

-- no neighbour is nearer than a router without a distance
is_less_none : (o : Option ℕ) → is_one_less o None ≡ false
is_less_none None = refl
is_less_none (Some n) = refl

pub nearer_none : (at : ℕ → Option ℕ) (ws : List Way) → nearer_ports at None ws ≡ []
nearer_none at [] = refl
nearer_none at (w ∷ ws) = rw (is_less_none (at w.neighbour), nearer_none at ws) refl

-- without a distance there is no port
pub port-none : (domains : List ℕ) (edges : List Edge) (goal : Goal) (router : ℕ) → distance domains edges goal router ≡ None → port_towards domains edges router goal ≡ None
unfolding port_towards
port-none domains edges goal router e =
    ap (λ (own : Option ℕ). lowest (nearer_ports (distance domains edges goal) own (ways edges router))) e ∙ ap lowest (nearer_none (distance domains edges goal) (ways edges router))

-- the lowest nearer port by the levels is the port towards the goal
pub port-by_levels : (domains : List ℕ) (edges : List Edge) (goal : Goal) (levels : List (Option ℕ)) (router : ℕ) (ws : List Way) → AreDistances domains edges goal levels → ws ≡ ways edges router → lowest (nearer_ports (level_at levels) (level_at levels router) ws) ≡ port_towards domains edges router goal
unfolding port_towards
port-by_levels domains edges goal levels router ws h is =
    ap (λ (own : Option ℕ). lowest (nearer_ports (level_at levels) own ws)) (h.exact router)
    ∙ ap lowest (nearer_same (level_at levels) (distance domains edges goal) (distance domains edges goal router) ws h.exact)
    ∙ ap (λ (out : List Way). lowest (nearer_ports (distance domains edges goal) (distance domains edges goal router) out)) is

-- a goal without routers has no walk
pub empty_walk : (domains : List ℕ) (edges : List Edge) (goal : Goal) (n router : ℕ) → ((r : ℕ) → is_in_goal domains goal r ≡ false) → has_walk domains edges goal n router ≡ true → ⊥
empty_walk domains edges goal zero router h e = let a : is_in_goal domains goal router ≡ true = sym (walk-zero domains edges goal router) ∙ e in let b : is_in_goal domains goal router ≡ false = h router in cc
empty_walk domains edges goal (suc n) router h e =
    let s : (w : Way) × Contains (ways edges router) w × (has_walk domains edges goal n w.neighbour ≡ true) = walk-first domains edges goal n router e in
    empty_walk domains edges goal n s.0.neighbour h s.2

true_or_not : (b : Bool) → (b ≡ true → ⊥) → b ≡ false
true_or_not true h = absurd (h refl)
true_or_not false h = refl

pub empty_distance : (domains : List ℕ) (edges : List Edge) (goal : Goal) (router : ℕ) → ((r : ℕ) → is_in_goal domains goal r ≡ false) → distance domains edges goal router ≡ None
unfolding distance
empty_distance domains edges goal router h =
    least_below-none (λ n. has_walk domains edges goal n router) (length domains) (λ m lt. true_or_not (has_walk domains edges goal m router) (empty_walk domains edges goal m router h))

pub empty_law : (domains : List ℕ) (edges : List Edge) (goal : Goal) → ((r : ℕ) → is_in_goal domains goal r ≡ false) → DistancesAreLeast domains edges goal
empty_law domains edges goal h = record {
  least = λ router n e. absurd (let a : distance domains edges goal router ≡ None = empty_distance domains edges goal router h in cc);
  none = λ router e m t. empty_walk domains edges goal m router h t;
}

-- the empty row is that of a goal without routers
pub empty_row : (domains : List ℕ) (edges : List Edge) (goal : Goal) → ((r : ℕ) → is_in_goal domains goal r ≡ false) → IsRow domains edges goal []
empty_row domains edges goal h = record {
  ports = λ router. sym (port-none domains edges goal router (empty_distance domains edges goal router h));
  law = empty_law domains edges goal h;
}

-- a row as far as a router
pub record IsRowUpTo (domains : List ℕ) (edges : List Edge) (goal : Goal) (n : ℕ) (row : List (Option ℕ)) : Type 0 where
  pub count : length row ≡ n
  pub each : (router : ℕ) → router < n → get_or row router None ≡ port_towards domains edges router goal

pub row_none : (domains : List ℕ) (edges : List Edge) (goal : Goal) → IsRowUpTo domains edges goal 0 []
row_none domains edges goal = record { count = refl; each = λ router lt. absurd (omega arith) }

pub row_more : (domains : List ℕ) (edges : List Edge) (goal : Goal) (n : ℕ) (row : List (Option ℕ)) (port : Option ℕ) → IsRowUpTo domains edges goal n row → port ≡ port_towards domains edges n goal → IsRowUpTo domains edges goal (n + 1) (row ++ port ∷ [])
row_more domains edges goal n row port h is = record {
  count = let c : length row ≡ n = h.count in omega (arith, length-append row (port ∷ []));
  each = λ router below. let c : length row ≡ n = h.count in elim (cases_eq router n) [
    | inl q ↦ get_or_push row port None router (c ∙ sym q) ∙ is ∙ ap (λ (r : ℕ). port_towards domains edges r goal) (sym q)
    | inr ne ↦ let in' : router < length row = omega arith in get_or_append_left row (port ∷ []) None router in' ∙ h.each router (omega arith)
  ];
}

pub row_all : (domains : List ℕ) (edges : List Edge) (goal : Goal) (n : ℕ) (row levels : List (Option ℕ)) → IsRowUpTo domains edges goal n row → AreDistances domains edges goal levels → n ≡ length domains → IsRow domains edges goal row
row_all domains edges goal n row levels h ds all = record {
  ports = λ router. elim (cases_lt router n) [
    | inl lt ↦ h.each router lt
    | inr past ↦
        let c : length row ≡ n = h.count in
        let d : length levels ≡ length domains = ds.count in
        get_or_past row router None (omega arith) ∙ sym (port-none domains edges goal router (sym (ds.exact router) ∙ get_or_past levels router None (omega arith)))
  ];
  law = ds.law;
}

-- rows as far as a goal's number
pub record AreRowsUpTo (domains : List ℕ) (edges : List Edge) (kind : ℕ → Goal) (n : ℕ) (rows : List (Vec (Option ℕ) Global)) : Type 0 where
  pub count : length rows ≡ n
  pub each : (number : ℕ) (d : Vec (Option ℕ) Global) → number < n → IsRow domains edges (kind number) (get_or rows number d).items

pub rows_none : (domains : List ℕ) (edges : List Edge) (kind : ℕ → Goal) → AreRowsUpTo domains edges kind 0 []
rows_none domains edges kind = record { count = refl; each = λ number d lt. absurd (omega arith) }

pub rows_more : (domains : List ℕ) (edges : List Edge) (kind : ℕ → Goal) (n : ℕ) (rows : List (Vec (Option ℕ) Global)) (row : Vec (Option ℕ) Global) → AreRowsUpTo domains edges kind n rows → IsRow domains edges (kind n) row.items → AreRowsUpTo domains edges kind (n + 1) (rows ++ row ∷ [])
rows_more domains edges kind n rows row h is = record {
  count = let c : length rows ≡ n = h.count in omega (arith, length-append rows (row ∷ []));
  each = λ number d below. let c : length rows ≡ n = h.count in elim (cases_eq number n) [
    | inl q ↦ subst (λ (v : Vec (Option ℕ) Global). IsRow domains edges (kind number) v.items) (sym (get_or_push rows row d number (c ∙ sym q))) (subst (λ (m : ℕ). IsRow domains edges (kind m) row.items) (sym q) is)
    | inr ne ↦ let in' : number < length rows = omega arith in subst (λ (v : Vec (Option ℕ) Global). IsRow domains edges (kind number) v.items) (sym (get_or_append_left rows (row ∷ []) d number in')) (h.each number d (omega arith))
  ];
}

entry_is : (domains : List ℕ) (edges : List Edge) (goal : Goal) (number router : ℕ) (rows : List (Vec (Option ℕ) Global)) (o : Option (Vec (Option ℕ) Global)) → slice_get rows number ≡ o → ((row : Vec (Option ℕ) Global) → o ≡ Some row → IsRow domains edges goal row.items) → (o ≡ None → (r : ℕ) → is_in_goal domains goal r ≡ false) → entry_in o router ≡ port_towards domains edges router goal
entry_is domains edges goal number router rows None e some none = sym (port-none domains edges goal router (empty_distance domains edges goal router (none refl)))
entry_is domains edges goal number router rows (Some row) e some none = (some row refl).ports router

row_at : (domains : List ℕ) (edges : List Edge) (kind : ℕ → Goal) (n : ℕ) (rows : List (Vec (Option ℕ) Global)) (number : ℕ) (row : Vec (Option ℕ) Global) → AreRowsUpTo domains edges kind n rows → slice_get rows number ≡ Some row → IsRow domains edges (kind number) row.items
row_at domains edges kind n rows number row h e =
    let in' : number < length rows = slice_get_within rows number row e in
    let c : length rows ≡ n = h.count in
    let same : Some row ≡ Some (get_or rows number row) = sym e ∙ slice_get-get_or rows number row in' in
    let q : row ≡ get_or rows number row = cc in
    subst (λ (v : Vec (Option ℕ) Global). IsRow domains edges (kind number) v.items) (sym q) (h.each number row (omega arith))

past_of : (rows : List (Vec (Option ℕ) Global)) (number : ℕ) → slice_get rows number ≡ None → length rows ≤ number
past_of [] number e = omega arith
past_of (row ∷ rows) zero e = cc
past_of (row ∷ rows) (suc number) e = omega (arith, past_of rows number e)

law_at : (domains : List ℕ) (edges : List Edge) (kind : ℕ → Goal) (n number : ℕ) (rows : List (Vec (Option ℕ) Global)) (o : Option (Vec (Option ℕ) Global)) → slice_get rows number ≡ o → AreRowsUpTo domains edges kind n rows → ((m : ℕ) → n ≤ m → (r : ℕ) → is_in_goal domains (kind m) r ≡ false) → DistancesAreLeast domains edges (kind number)
law_at domains edges kind n number rows None e h past = empty_law domains edges (kind number) (past number (let c : length rows ≡ n = h.count in omega (arith, past_of rows number e)))
law_at domains edges kind n number rows (Some row) e h past = (row_at domains edges kind n rows number row h e).law

pub rows_all : (domains : List ℕ) (edges : List Edge) (kind : ℕ → Goal) (n : ℕ) (rows : List (Vec (Option ℕ) Global)) → AreRowsUpTo domains edges kind n rows → ((m : ℕ) → n ≤ m → (r : ℕ) → is_in_goal domains (kind m) r ≡ false) → AreRows domains edges kind rows
rows_all domains edges kind n rows h past = record {
  ports = λ number router. entry_is domains edges (kind number) number router rows (slice_get rows number) refl
      (λ row e. row_at domains edges kind n rows number row h e)
      (λ e. past number (let c : length rows ≡ n = h.count in omega (arith, past_of rows number e)));
  law = λ number. law_at domains edges kind n number rows (slice_get rows number) refl h past;
}

-- a router outside of the graph is a goal without routers
router_past : (g r : ℕ) (domains : List ℕ) (o : Option ℕ) → slice_get domains r ≡ o → length domains ≤ g → takes_in (Router g) r o ≡ false
router_past g r domains None e past = refl
router_past g r domains (Some d) e past = true_or_not (eqb r g) (λ t. let in' : r < length domains = slice_get_within domains r d e in let q : r ≡ g = eqb-true r g t in omega arith)

pub routers_past : (domains : List ℕ) (g : ℕ) → length domains ≤ g → (r : ℕ) → is_in_goal domains (Router g) r ≡ false
routers_past domains g past r = router_past g r domains (slice_get domains r) refl past

-- a number that no router has as its domain is a goal without routers
domain_past : (wanted r : ℕ) (domains : List ℕ) (o : Option ℕ) → slice_get domains r ≡ o → All (λ d. d ≡ wanted → ⊥) domains → takes_in (Domain wanted) r o ≡ false
domain_past wanted r domains None e none = refl
domain_past wanted r domains (Some d) e none = true_or_not (eqb d wanted) (λ t.
    let in' : r < length domains = slice_get_within domains r d e in
    let same : Some d ≡ Some (get_or domains r d) = sym e ∙ slice_get-get_or domains r d in' in
    let q : d ≡ get_or domains r d = cc in
    none r d in' (sym q ∙ eqb-true d wanted t))

pub domains_past : (domains : List ℕ) (wanted : ℕ) → All (λ d. d ≡ wanted → ⊥) domains → (r : ℕ) → is_in_goal domains (Domain wanted) r ≡ false
domains_past domains wanted none r = domain_past wanted r domains (slice_get domains r) refl none

min_of_three : (a b c : ℕ) → min a (min b c) ≡ min (min a b) c
min_of_three a b c = omega arith

lower-lower : (x p : ℕ) (o : Option ℕ) → lower_of (Some x) (lower_of o (Some p)) ≡ lower_of (lower_of (Some x) o) (Some p)
lower-lower x p None = refl
lower-lower x p (Some q) = ap Some (min_of_three x q p)

pub lowest-push : (ps : List ℕ) (p : ℕ) → lowest (ps ++ p ∷ []) ≡ lower_of (lowest ps) (Some p)
lowest-push [] p = refl
lowest-push (x ∷ ps) p = ap (lower_of (Some x)) (lowest-push ps p) ∙ lower-lower x p (lowest ps)

nearer_by : (b : Bool) (p : ℕ) (xs ys zs : List ℕ) → xs ≡ ys ++ zs → (if b then p ∷ xs else xs) ≡ (if b then p ∷ ys else ys) ++ zs
nearer_by true p xs ys zs e = ap (λ (l : List ℕ). p ∷ l) e
nearer_by false p xs ys zs e = e

pub nearer-push : (at : ℕ → Option ℕ) (own : Option ℕ) (ws : List Way) (w : Way) → nearer_ports at own (ws ++ w ∷ []) ≡ nearer_ports at own ws ++ nearer_ports at own (w ∷ [])
nearer-push at own [] w = refl
nearer-push at own (v ∷ ws) w = nearer_by (is_one_less (at v.neighbour) own) v.port (nearer_ports at own (ws ++ w ∷ [])) (nearer_ports at own ws) (nearer_ports at own (w ∷ [])) (nearer-push at own ws w)

append_nil : (xs : List ℕ) → xs ++ [] ≡ xs
append_nil [] = refl
append_nil (x ∷ xs) = ap (λ (l : List ℕ). x ∷ l) (append_nil xs)

-- a way that leads nearer
pub lowest_on : (at : ℕ → Option ℕ) (own best new : Option ℕ) (ws : List Way) (i : ℕ) (d : Way) → best ≡ lowest (nearer_ports at own (take i ws)) → i < length ws → is_one_less (at (get_or ws i d).neighbour) own ≡ true → new ≡ lower_of best (Some (get_or ws i d).port) → new ≡ lowest (nearer_ports at own (take (i + 1) ws))
lowest_on at own best new ws i d h lt near is =
    let w : Way = get_or ws i d in
    let one : nearer_ports at own (w ∷ []) ≡ w.port ∷ [] = rw near refl in
    is ∙ ap (λ (o : Option ℕ). lower_of o (Some w.port)) h ∙ sym (lowest-push (nearer_ports at own (take i ws)) w.port)
    ∙ ap (λ (l : List ℕ). lowest (nearer_ports at own (take i ws) ++ l)) (sym one)
    ∙ ap lowest (sym (nearer-push at own (take i ws) w)) ∙ ap (λ (l : List Way). lowest (nearer_ports at own l)) (sym (take_more ws i d lt))

-- a way that leads no nearer
pub lowest_past : (at : ℕ → Option ℕ) (own best new : Option ℕ) (ws : List Way) (i : ℕ) (d : Way) → best ≡ lowest (nearer_ports at own (take i ws)) → i < length ws → is_one_less (at (get_or ws i d).neighbour) own ≡ false → new ≡ best → new ≡ lowest (nearer_ports at own (take (i + 1) ws))
lowest_past at own best new ws i d h lt far is =
    let w : Way = get_or ws i d in
    let one : nearer_ports at own (w ∷ []) ≡ [] = rw far refl in
    is ∙ h ∙ ap lowest (sym (append_nil (nearer_ports at own (take i ws))))
    ∙ ap (λ (l : List ℕ). lowest (nearer_ports at own (take i ws) ++ l)) (sym one)
    ∙ ap lowest (sym (nearer-push at own (take i ws) w)) ∙ ap (λ (l : List Way). lowest (nearer_ports at own l)) (sym (take_more ws i d lt))

-- a turn of a row, as the code makes it
pub row_turn : (domains : List ℕ) (edges : List Edge) (goal : Goal) (n : ℕ) (row new levels seen : List (Option ℕ)) (ws : List Way) (own port : Option ℕ) → IsRowUpTo domains edges goal n row → AreDistances domains edges goal levels → seen ≡ levels → ws ≡ ways edges n → n < length levels → own ≡ get_or levels n own → port ≡ lowest (nearer_ports (level_at seen) own ws) → new ≡ row ++ port ∷ [] → IsRowUpTo domains edges goal (n + 1) new
row_turn domains edges goal n row new levels seen ws own port h ds same is lt at found pushed =
    let own_is : own ≡ get_or levels n None = at ∙ get_or_default levels n own None lt in
    let by : lowest (nearer_ports (level_at seen) own ws) ≡ port_towards domains edges n goal =
    ap (λ (xs : List (Option ℕ)). lowest (nearer_ports (level_at xs) own ws)) same ∙ ap (λ (o : Option ℕ). lowest (nearer_ports (level_at levels) o ws)) own_is ∙ port-by_levels domains edges goal levels n ws ds is in
    subst (λ (xs : List (Option ℕ)). IsRowUpTo domains edges goal (n + 1) xs) (sym pushed) (row_more domains edges goal n row port h (found ∙ by))

-- what a test finds nowhere is not there
pub not_there : (xs : List ℕ) (wanted : ℕ) → list_any (λ y. eqb y wanted) xs ≡ false → All (λ d. d ≡ wanted → ⊥) xs
not_there xs wanted e k d lt same =
    let found : list_any (λ y. eqb y wanted) xs ≡ true = list_any_at (λ y. eqb y wanted) xs k d lt (eq-eqb (get_or xs k d) wanted same) in cc

-- numbers past a limit above all domains
pub limit_past : (xs : List ℕ) (limit m : ℕ) → All (λ d. d < limit) xs → limit ≤ m → All (λ d. d ≡ m → ⊥) xs
limit_past xs limit m above le k d lt same = let p : get_or xs k d < limit = above k d lt in omega arith

pub domain_rows_all : (domains seen : List ℕ) (edges : List Edge) (limit n : ℕ) (rows : List (Vec (Option ℕ) Global)) → AreRowsUpTo domains edges (λ d. Domain d) n rows → All (λ d. d < limit) seen → seen ≡ domains → n ≡ limit → AreRows domains edges (λ d. Domain d) rows
domain_rows_all domains seen edges limit n rows h above same all =
    rows_all domains edges (λ d. Domain d) n rows h (λ m le. domains_past domains m (limit_past domains limit m (subst (λ (xs : List ℕ). All (λ d. d < limit) xs) same above) (omega arith)))

pub router_rows_all : (domains : List ℕ) (edges : List Edge) (n : ℕ) (rows : List (Vec (Option ℕ) Global)) → AreRowsUpTo domains edges (λ r. Router r) n rows → n ≡ length domains → AreRows domains edges (λ r. Router r) rows
router_rows_all domains edges n rows h all = rows_all domains edges (λ r. Router r) n rows h (λ m le. routers_past domains m (omega arith))

pub rows_turn : (domains : List ℕ) (edges : List Edge) (kind : ℕ → Goal) (n : ℕ) (rows new : List (Vec (Option ℕ) Global)) (row : Vec (Option ℕ) Global) → AreRowsUpTo domains edges kind n rows → IsRow domains edges (kind n) row.items → new ≡ rows ++ row ∷ [] → AreRowsUpTo domains edges kind (n + 1) new
rows_turn domains edges kind n rows new row h is pushed = subst (λ (xs : List (Vec (Option ℕ) Global)). AreRowsUpTo domains edges kind (n + 1) xs) (sym pushed) (rows_more domains edges kind n rows row h is)
