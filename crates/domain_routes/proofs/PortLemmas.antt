-- On the port towards a goal.
use Rattle.std.proofs.Common.{◌≡◌, ℕ, suc, zero, ◌≤◌, ◌+◌, inl, inr, Bool, true, false, List, [], ◌∷◌, refl, sym, ◌∙◌, ap, subst, arith, Option, Some, None, Contains, min}
use Rattle.std.specs.Prelude.{if◌then◌else◌, IfSome, IsNone, ◌↔◌}
use Rattle.std.proofs.lemmas.Bool.{eqb-true, eq-eqb, cases_lt}
use Rattle.std.proofs.lemmas.List.Elements.{All-contains, All-nil, All-cons, Contains-append_right, Contains-append_cases}
use Rattle.domain_routes.specs.declared.Edge.{Edge}
use Rattle.domain_routes.specs.declared.Way.{Way}
use Rattle.domain_routes.specs.declared.Goal.{Goal}
use Rattle.domain_routes.specs.declared.Goal.TheVariants.{Domain, Router}
use Rattle.domain_routes.specs.declared.Routes.{Routes}
use Rattle.domain_routes.specs.Walks.{ways, is_in_goal, has_walk, distance, is_one_less, lower_of, lowest, nearer_ports, port_towards, NoWalk, IsLeastWalk, DistancesAreLeast, IsLowestStep, HasNoStep}
use Rattle.domain_routes.specs.Rows.{AreRows, port_in, IsGoalRoutesOf}
use Rattle.domain_routes.specs.declared.GoalRoutes.{GoalRoutes}
use Rattle.domain_routes.specs.Table.{port_of, IsRoutesOf}
use Rattle.domain_routes.proofs.WayLemmas.{walk-first, walk-more, walk-zero}
use Rattle.domain_routes.proofs.RowLemmas.{port-none}

no_port : (p : ℕ) → Contains [] p → ⊥
no_port p c = All-contains (λ (y : ℕ). ⊥) [] p (All-nil (λ (y : ℕ). ⊥)) c

one_only : (x p : ℕ) → Contains (x ∷ []) p → p ≡ x
one_only x p c = All-contains (λ (y : ℕ). y ≡ x) (x ∷ []) p (All-cons (λ (y : ℕ). y ≡ x) x [] refl (All-nil (λ (y : ℕ). y ≡ x))) c

way_only : (x p : Way) → Contains (x ∷ []) p → p ≡ x
way_only x p c = All-contains (λ (y : Way). y ≡ x) (x ∷ []) p (All-cons (λ (y : Way). y ≡ x) x [] refl (All-nil (λ (y : Way). y ≡ x))) c

-- the lowest port is one of them, and none is lower
pub record IsLowestOf (ps : List ℕ) (p : ℕ) : Type 0 where
  pub there : Contains ps p
  pub least : (q : ℕ) → Contains ps q → p ≤ q

lower_there : (x n p : ℕ) (ps : List ℕ) → Contains ps n → min x n ≡ p → Contains (x ∷ ps) p
lower_there x n p ps c is = elim (cases_lt x n) [
  | inl lt ↦ let q : x ≡ p = omega arith in subst (λ (m : ℕ). Contains (x ∷ ps) m) q (0, omega arith, refl)
  | inr ge ↦ let q : n ≡ p = omega arith in subst (λ (m : ℕ). Contains (x ∷ ps) m) q (Contains-append_right (x ∷ []) ps n c)
]

lower_step : (x p : ℕ) (ps : List ℕ) (o : Option ℕ) → lowest ps ≡ o → ((n : ℕ) → o ≡ Some n → IsLowestOf ps n) → (o ≡ None → ps ≡ []) → lower_of (Some x) o ≡ Some p → IsLowestOf (x ∷ ps) p
lower_step x p ps None e some none is =
    let q : x ≡ p = cc in
    let nil : ps ≡ [] = none refl in
    record {
      there = subst (λ (n : ℕ). Contains (x ∷ ps) n) q (0, omega arith, refl);
      least = λ r c. elim (Contains-append_cases (x ∷ []) ps r c) [
        | inl h ↦ let s : r ≡ x = one_only x r h in omega arith
        | inr h ↦ absurd (no_port r (subst (λ (l : List ℕ). Contains l r) nil h))
      ];
    }
lower_step x p ps (Some n) e some none is =
    let q : min x n ≡ p = cc in
    let h : IsLowestOf ps n = some n refl in
    record {
      there = lower_there x n p ps h.there q;
      least = λ r c. elim (Contains-append_cases (x ∷ []) ps r c) [
        | inl k ↦ let s : r ≡ x = one_only x r k in omega arith
        | inr k ↦ let s : n ≤ r = h.least r k in omega arith
      ];
    }

lower_is_some : (x : ℕ) (o : Option ℕ) → lower_of (Some x) o ≡ None → ⊥
lower_is_some x None e = cc
lower_is_some x (Some n) e = cc

pub lowest-none : (ps : List ℕ) → lowest ps ≡ None → ps ≡ []
lowest-none [] e = refl
lowest-none (x ∷ ps) e = absurd (lower_is_some x (lowest ps) e)

pub lowest-some : (ps : List ℕ) (p : ℕ) → lowest ps ≡ Some p → IsLowestOf ps p
lowest-some [] p e = cc
lowest-some (x ∷ ps) p e = lower_step x p ps (lowest ps) refl (λ n k. lowest-some ps n k) (lowest-none ps) e

-- a nearer port is that of a way that leads nearer
pub record IsNearerWay (at : ℕ → Option ℕ) (own : Option ℕ) (ws : List Way) (p : ℕ) : Type 0 where
  pub way : Way
  pub out : Contains ws way
  pub by_port : way.port ≡ p
  pub nearer : is_one_less (at way.neighbour) own ≡ true

later_way : (at : ℕ → Option ℕ) (own : Option ℕ) (w : Way) (ws : List Way) (p : ℕ) → IsNearerWay at own ws p → IsNearerWay at own (w ∷ ws) p
later_way at own w ws p h = record { way = h.way; out = Contains-append_right (w ∷ []) ws h.way h.out; by_port = h.by_port; nearer = h.nearer }

nearer_step : (b : Bool) (at : ℕ → Option ℕ) (own : Option ℕ) (w : Way) (ws : List Way) (p : ℕ) (ps : List ℕ) → is_one_less (at w.neighbour) own ≡ b → Contains (if b then w.port ∷ ps else ps) p → (Contains ps p → IsNearerWay at own ws p) → IsNearerWay at own (w ∷ ws) p
nearer_step true at own w ws p ps e c later = elim (Contains-append_cases (w.port ∷ []) ps p c) [
  | inl h ↦ record { way = w; out = (0, omega arith, refl); by_port = sym (one_only w.port p h); nearer = e }
  | inr h ↦ later_way at own w ws p (later h)
]
nearer_step false at own w ws p ps e c later = later_way at own w ws p (later c)

pub nearer_way : (at : ℕ → Option ℕ) (own : Option ℕ) (ws : List Way) (p : ℕ) → Contains (nearer_ports at own ws) p → IsNearerWay at own ws p
nearer_way at own [] p c = absurd (no_port p c)
nearer_way at own (w ∷ ws) p c = nearer_step (is_one_less (at w.neighbour) own) at own w ws p (nearer_ports at own ws) refl c (nearer_way at own ws p)

in_if : (b : Bool) (p q : ℕ) (ps : List ℕ) → Contains ps q → Contains (if b then p ∷ ps else ps) q
in_if true p q ps c = Contains-append_right (p ∷ []) ps q c
in_if false p q ps c = c

at_if : (b : Bool) (p : ℕ) (ps : List ℕ) → b ≡ true → Contains (if b then p ∷ ps else ps) p
at_if true p ps e = (0, omega arith, refl)
at_if false p ps e = cc

-- a way that leads nearer has its port among them
pub nearer_in : (at : ℕ → Option ℕ) (own : Option ℕ) (ws : List Way) (w : Way) → Contains ws w → is_one_less (at w.neighbour) own ≡ true → Contains (nearer_ports at own ws) w.port
nearer_in at own [] w c e = absurd (All-contains (λ (y : Way). ⊥) [] w (All-nil (λ (y : Way). ⊥)) c)
nearer_in at own (v ∷ ws) w c e = elim (Contains-append_cases (v ∷ []) ws w c) [
  | inl h ↦
      let q : w ≡ v = way_only v w h in
      subst (λ (x : Way). Contains (nearer_ports at own (v ∷ ws)) x.port) (sym q) (at_if (is_one_less (at v.neighbour) own) v.port (nearer_ports at own ws) (subst (λ (x : Way). is_one_less (at x.neighbour) own ≡ true) q e))
  | inr h ↦ in_if (is_one_less (at v.neighbour) own) v.port w.port (nearer_ports at own ws) (nearer_in at own ws w h e)
]

one_less_some : (near far : Option ℕ) → is_one_less near far ≡ true → (n : ℕ) × (near ≡ Some n) × (far ≡ Some (suc n))
one_less_some None far e = cc
one_less_some (Some n) None e = cc
one_less_some (Some n) (Some m) e = (n, refl, ap Some (let q : m ≡ n + 1 = eqb-true m (n + 1) e in omega arith))

some_one_less : (near far : Option ℕ) (n : ℕ) → near ≡ Some n → far ≡ Some (suc n) → is_one_less near far ≡ true
some_one_less near far n p q = ap (λ (o : Option ℕ). is_one_less o far) p ∙ ap (λ (o : Option ℕ). is_one_less (Some n) o) q ∙ eq-eqb (suc n) (n + 1) (omega arith)

-- what the port towards a goal is
pub port-some : (domains : List ℕ) (edges : List Edge) (goal : Goal) (router p : ℕ) → port_towards domains edges router goal ≡ Some p → IsLowestStep domains edges goal router p
unfolding port_towards
port-some domains edges goal router p e =
    let at = distance domains edges goal in
    let own : Option ℕ = distance domains edges goal router in
    let low : IsLowestOf (nearer_ports at own (ways edges router)) p = lowest-some (nearer_ports at own (ways edges router)) p e in
    let by : IsNearerWay at own (ways edges router) p = nearer_way at own (ways edges router) p low.there in
    let n : (n : ℕ) × (at by.way.neighbour ≡ Some n) × (own ≡ Some (suc n)) = one_less_some (at by.way.neighbour) own by.nearer in
    record {
      left = n.0;
      own = n.2;
      way = by.way;
      out = by.out;
      by_port = by.by_port;
      nearer = n.1;
      lowest_port = λ other c near. low.least other.port (nearer_in at own (ways edges router) other c (some_one_less (at other.neighbour) own n.0 near n.2));
    }

near_of : (domains : List ℕ) (edges : List Edge) (goal : Goal) (router : ℕ) (w : Way) (n : ℕ) → DistancesAreLeast domains edges goal → IsLeastWalk domains edges goal router (suc n) → Contains (ways edges router) w → has_walk domains edges goal n w.neighbour ≡ true → (o : Option ℕ) → distance domains edges goal w.neighbour ≡ o → o ≡ Some n
near_of domains edges goal router w n law h c t None e = absurd (law.none w.neighbour e n t)
near_of domains edges goal router w n law h c t (Some k) e =
    let l : IsLeastWalk domains edges goal w.neighbour k = law.least w.neighbour k e in
    let le : k ≤ n = l.least n t in
    let ge : suc n ≤ suc k = h.least (suc k) (walk-more domains edges goal k router w c l.walk) in
    ap Some (omega arith)

-- a router with a walk that is not in the goal has a port
pub port_of_walk : (domains : List ℕ) (edges : List Edge) (goal : Goal) (router n : ℕ) → DistancesAreLeast domains edges goal → distance domains edges goal router ≡ Some (suc n) → port_towards domains edges router goal ≡ None → ⊥
unfolding port_towards
port_of_walk domains edges goal router n law e none =
    let h : IsLeastWalk domains edges goal router (suc n) = law.least router (suc n) e in
    let s : (w : Way) × Contains (ways edges router) w × (has_walk domains edges goal n w.neighbour ≡ true) = walk-first domains edges goal n router h.walk in
    let near : distance domains edges goal s.0.neighbour ≡ Some n = near_of domains edges goal router s.0 n law h s.1 s.2 (distance domains edges goal s.0.neighbour) refl in
    let c : Contains (nearer_ports (distance domains edges goal) (distance domains edges goal router) (ways edges router)) s.0.port = nearer_in (distance domains edges goal) (distance domains edges goal router) (ways edges router) s.0 s.1 (some_one_less (distance domains edges goal s.0.neighbour) (distance domains edges goal router) n near e) in
    no_port s.0.port (subst (λ (l : List ℕ). Contains l s.0.port) (lowest-none (nearer_ports (distance domains edges goal) (distance domains edges goal router) (ways edges router)) none) c)

no_step_by : (domains : List ℕ) (edges : List Edge) (goal : Goal) (router : ℕ) (o : Option ℕ) → DistancesAreLeast domains edges goal → distance domains edges goal router ≡ o → port_towards domains edges router goal ≡ None → HasNoStep domains edges goal router
no_step_by domains edges goal router None law e none = inr (law.none router e)
no_step_by domains edges goal router (Some zero) law e none = inl (sym (walk-zero domains edges goal router) ∙ (law.least router 0 e).walk)
no_step_by domains edges goal router (Some (suc n)) law e none = absurd (port_of_walk domains edges goal router n law e none)

at_goal : (domains : List ℕ) (edges : List Edge) (goal : Goal) (router : ℕ) (o : Option ℕ) → DistancesAreLeast domains edges goal → is_in_goal domains goal router ≡ true → distance domains edges goal router ≡ o → o ≡ Some 0
at_goal domains edges goal router None law t e = absurd (law.none router e 0 (walk-zero domains edges goal router ∙ t))
at_goal domains edges goal router (Some n) law t e = let q : n ≤ 0 = (law.least router n e).least 0 (walk-zero domains edges goal router ∙ t) in ap Some (omega arith)

never_by : (domains : List ℕ) (edges : List Edge) (goal : Goal) (router : ℕ) (o : Option ℕ) → DistancesAreLeast domains edges goal → NoWalk domains edges goal router → distance domains edges goal router ≡ o → o ≡ None
never_by domains edges goal router None law never e = refl
never_by domains edges goal router (Some n) law never e = absurd (never n (law.least router n e).walk)

none_by : (domains : List ℕ) (edges : List Edge) (goal : Goal) (router : ℕ) (o : Option ℕ) → distance domains edges goal router ≡ Some 0 → port_towards domains edges router goal ≡ o → o ≡ None
none_by domains edges goal router None e p = refl
none_by domains edges goal router (Some p) e is =
    let s : IsLowestStep domains edges goal router p = port-some domains edges goal router p is in
    let q : Some 0 ≡ Some (suc s.left) = sym e ∙ s.own in
    let z : 0 ≡ suc s.left = cc in absurd (omega arith)

pub no_step_none : (domains : List ℕ) (edges : List Edge) (goal : Goal) (router : ℕ) → DistancesAreLeast domains edges goal → HasNoStep domains edges goal router → port_towards domains edges router goal ≡ None
no_step_none domains edges goal router law h = elim h [
  | inl t ↦ none_by domains edges goal router (port_towards domains edges router goal) (at_goal domains edges goal router (distance domains edges goal router) law t refl) refl
  | inr never ↦ port-none domains edges goal router (never_by domains edges goal router (distance domains edges goal router) law never refl)
]

pub none_no_step : (domains : List ℕ) (edges : List Edge) (goal : Goal) (router : ℕ) → DistancesAreLeast domains edges goal → port_towards domains edges router goal ≡ None → HasNoStep domains edges goal router
none_no_step domains edges goal router law none = no_step_by domains edges goal router (distance domains edges goal router) law refl none

is_none_of : (o : Option ℕ) → o ≡ None → IsNone o
is_none_of None e = refl
is_none_of (Some n) e = cc

none_is : (o : Option ℕ) → IsNone o → o ≡ None
none_is None e = refl
none_is (Some n) e = cc

if_some : (o : Option ℕ) (P : ℕ → Type 0) → ((p : ℕ) → o ≡ Some p → P p) → IfSome o P
if_some None P h = tt
if_some (Some p) P h = h p refl

routes_port : (domains : List ℕ) (edges : List Edge) (routes : Routes) → AreRows domains edges (λ d. Domain d) routes.by_domain.items → AreRows domains edges (λ r. Router r) routes.by_router.items → (router : ℕ) (goal : Goal) → port_of routes router goal ≡ port_towards domains edges router goal
routes_port domains edges routes d r router (Domain n) = d.ports n router
routes_port domains edges routes d r router (Router n) = r.ports n router

routes_law : (domains : List ℕ) (edges : List Edge) (routes : Routes) → AreRows domains edges (λ d. Domain d) routes.by_domain.items → AreRows domains edges (λ r. Router r) routes.by_router.items → (goal : Goal) → DistancesAreLeast domains edges goal
routes_law domains edges routes d r (Domain n) = d.law n
routes_law domains edges routes d r (Router n) = r.law n

-- the two halves of the table are the routes
pub routes_of : (domains : List ℕ) (edges : List Edge) (routes : Routes) → AreRows domains edges (λ d. Domain d) routes.by_domain.items → AreRows domains edges (λ r. Router r) routes.by_router.items → IsRoutesOf routes domains edges
routes_of domains edges routes d r = record {
  ports = λ router goal. routes_port domains edges routes d r router goal;
  law = λ goal. routes_law domains edges routes d r goal;
}

-- what a port says, for the graph whose routes these are
pub port_lowest : (routes : Routes) (router : ℕ) (goal : Goal) (answer : Option ℕ) → answer ≡ port_of routes router goal → (domains : List ℕ) (edges : List Edge) → IsRoutesOf routes domains edges → IfSome answer (IsLowestStep domains edges goal router)
port_lowest routes router goal answer is domains edges h = if_some answer (IsLowestStep domains edges goal router) (λ p e. port-some domains edges goal router p (sym (is ∙ h.ports router goal) ∙ e))

pub port_nowhere : (routes : Routes) (router : ℕ) (goal : Goal) (answer : Option ℕ) → answer ≡ port_of routes router goal → (domains : List ℕ) (edges : List Edge) → IsRoutesOf routes domains edges → IsNone answer ↔ HasNoStep domains edges goal router
port_nowhere routes router goal answer is domains edges h = (
  λ none. none_no_step domains edges goal router (h.law goal) (sym (is ∙ h.ports router goal) ∙ none_is answer none),
  λ nowhere. is_none_of answer (is ∙ h.ports router goal ∙ no_step_none domains edges goal router (h.law goal) nowhere),
)

-- what a port of the routes to a goal says, for the graph whose routes these are
pub goal_port_lowest : (routes : GoalRoutes) (router : ℕ) (answer : Option ℕ) → answer ≡ port_in routes router → (domains : List ℕ) (edges : List Edge) (goal : Goal) → IsGoalRoutesOf routes domains edges goal → IfSome answer (IsLowestStep domains edges goal router)
goal_port_lowest routes router answer is domains edges goal h = if_some answer (IsLowestStep domains edges goal router) (λ p e. port-some domains edges goal router p (sym (is ∙ h.ports router) ∙ e))

pub goal_port_nowhere : (routes : GoalRoutes) (router : ℕ) (answer : Option ℕ) → answer ≡ port_in routes router → (domains : List ℕ) (edges : List Edge) (goal : Goal) → IsGoalRoutesOf routes domains edges goal → IsNone answer ↔ HasNoStep domains edges goal router
goal_port_nowhere routes router answer is domains edges goal h = (
  λ none. none_no_step domains edges goal router h.law (sym (is ∙ h.ports router) ∙ none_is answer none),
  λ nowhere. is_none_of answer (is ∙ h.ports router ∙ no_step_none domains edges goal router h.law nowhere),
)
