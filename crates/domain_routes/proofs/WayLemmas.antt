-- On the ways out of a router, and on walks.
use Rattle.std.proofs.Common.{◌≡◌, ℕ, suc, ◌<◌, ◌&&◌, ◌+◌, ◌⊎◌, inl, inr, Bool, true, false, List, [], ◌∷◌, ◌++◌, length, get_or, refl, sym, ◌∙◌, ap, subst, arith, Some, All, Contains, eqb}
use Rattle.std.proofs.Common.{Vec, length-append}
use Rattle.std.specs.declared.alloc.Global.{Global}
use Rattle.std.proofs.lemmas.List.{get_or_append_left, get_or_push}
use Rattle.std.proofs.lemmas.Option.{slice_get-get_or, slice_get_within}
use Rattle.domain_routes.specs.Levels.{AreWays}
use Rattle.std.proofs.lemmas.Bool.{eqb-true, eq-eqb, and_parts, and_from, cases_eq}
use Rattle.std.proofs.lemmas.List.Elements.{All-contains, All-cons, All-nil, All-head, All-tail, Contains-append_cases, Contains-append_left, Contains-append_right}
use Rattle.std.proofs.lemmas.List.Folds.{Any-from_list_any, list_any-from_Any}
use Rattle.domain_routes.specs.declared.Edge.{Edge}
use Rattle.domain_routes.specs.declared.Way.{Way}
use Rattle.domain_routes.specs.declared.Goal.{Goal}
use Rattle.domain_routes.specs.Walks.{JoinsRouters, way_if, ways, has_walk, is_in_goal}

pub in_way_if : (b : Bool) (w x : Way) → Contains (way_if b w) x → (b ≡ true) × (x ≡ w)
in_way_if true w x c = (refl, All-contains (λ y. y ≡ w) (w ∷ []) x (All-cons (λ y. y ≡ w) w [] refl (All-nil (λ y. y ≡ w))) c)
in_way_if false w x c = absurd (All-contains (λ y. ⊥) [] x (All-nil (λ y. ⊥)) c)

pub way_if_in : (b : Bool) (w : Way) → b ≡ true → Contains (way_if b w) w
way_if_in true w e = (0, omega arith, refl)
way_if_in false w e = cc

-- a way out of a router, by the link that it follows
pub record IsWayBy (e : Edge) (router : ℕ) (w : Way) : Type 0 where
  pub up : e.up ≡ true
  pub ends : ((e.a ≡ router) × (w ≡ record { port = e.a_port; neighbour = e.b })) ⊎ ((e.b ≡ router) × (w ≡ record { port = e.b_port; neighbour = e.a }))

-- a way out of a router is by the first link, or by a later one
pub ways_cases : (e : Edge) (es : List Edge) (router : ℕ) (w : Way) → Contains (ways (e ∷ es) router) w → IsWayBy e router w ⊎ Contains (ways es router) w
ways_cases e es router w c =
    let back : List Way = way_if (e.up && (eqb e.b router)) (record { port = e.b_port; neighbour = e.a }) in
    elim (Contains-append_cases (way_if (e.up && (eqb e.a router)) (record { port = e.a_port; neighbour = e.b })) (back ++ ways es router) w c) [
      | inl h ↦
          let p : (e.up && (eqb e.a router) ≡ true) × (w ≡ record { port = e.a_port; neighbour = e.b }) = in_way_if (e.up && (eqb e.a router)) (record { port = e.a_port; neighbour = e.b }) w h in
          let q : (e.up ≡ true) × (eqb e.a router ≡ true) = and_parts e.up (eqb e.a router) p.0 in
          inl (record { up = q.0; ends = inl (eqb-true e.a router q.1, p.1) })
      | inr h ↦ elim (Contains-append_cases back (ways es router) w h) [
        | inl k ↦
            let p : (e.up && (eqb e.b router) ≡ true) × (w ≡ record { port = e.b_port; neighbour = e.a }) = in_way_if (e.up && (eqb e.b router)) (record { port = e.b_port; neighbour = e.a }) w k in
            let q : (e.up ≡ true) × (eqb e.b router ≡ true) = and_parts e.up (eqb e.b router) p.0 in
            inl (record { up = q.0; ends = inr (eqb-true e.b router q.1, p.1) })
        | inr k ↦ inr k
      ]
    ]

pub ways-later : (e : Edge) (es : List Edge) (router : ℕ) (w : Way) → Contains (ways es router) w → Contains (ways (e ∷ es) router) w
ways-later e es router w c =
    Contains-append_right (way_if (e.up && (eqb e.a router)) (record { port = e.a_port; neighbour = e.b })) (way_if (e.up && (eqb e.b router)) (record { port = e.b_port; neighbour = e.a }) ++ ways es router) w
    (Contains-append_right (way_if (e.up && (eqb e.b router)) (record { port = e.b_port; neighbour = e.a })) (ways es router) w c)

pub ways-forth : (e : Edge) (es : List Edge) (router : ℕ) → e.up ≡ true → e.a ≡ router → Contains (ways (e ∷ es) router) (record { port = e.a_port; neighbour = e.b })
ways-forth e es router up at =
    Contains-append_left (way_if (e.up && (eqb e.a router)) (record { port = e.a_port; neighbour = e.b })) (way_if (e.up && (eqb e.b router)) (record { port = e.b_port; neighbour = e.a }) ++ ways es router) (record { port = e.a_port; neighbour = e.b })
    (way_if_in (e.up && (eqb e.a router)) (record { port = e.a_port; neighbour = e.b }) (and_from e.up (eqb e.a router) up (eq-eqb e.a router at)))

pub ways-back : (e : Edge) (es : List Edge) (router : ℕ) → e.up ≡ true → e.b ≡ router → Contains (ways (e ∷ es) router) (record { port = e.b_port; neighbour = e.a })
ways-back e es router up at =
    Contains-append_right (way_if (e.up && (eqb e.a router)) (record { port = e.a_port; neighbour = e.b })) (way_if (e.up && (eqb e.b router)) (record { port = e.b_port; neighbour = e.a }) ++ ways es router) (record { port = e.b_port; neighbour = e.a })
    (Contains-append_left (way_if (e.up && (eqb e.b router)) (record { port = e.b_port; neighbour = e.a })) (ways es router) (record { port = e.b_port; neighbour = e.a })
    (way_if_in (e.up && (eqb e.b router)) (record { port = e.b_port; neighbour = e.a }) (and_from e.up (eqb e.b router) up (eq-eqb e.b router at))))

-- a link may be followed both ways
pub way_back : (es : List Edge) (router : ℕ) (w : Way) → Contains (ways es router) w → (v : Way) × Contains (ways es w.neighbour) v × (v.neighbour ≡ router)
way_back [] router w c = absurd (All-contains (λ y. ⊥) [] w (All-nil (λ y. ⊥)) c)
way_back (e ∷ es) router w c = elim (ways_cases e es router w c) [
  | inl h ↦ elim h.ends [
    | inl p ↦ (record { port = e.b_port; neighbour = e.a }, ways-back e es w.neighbour h.up (sym (ap (λ (x : Way). x.neighbour) p.1)), p.0)
    | inr p ↦ (record { port = e.a_port; neighbour = e.b }, ways-forth e es w.neighbour h.up (sym (ap (λ (x : Way). x.neighbour) p.1)), p.0)
  ]
  | inr h ↦ let r : (v : Way) × Contains (ways es w.neighbour) v × (v.neighbour ≡ router) = way_back es router w h in (r.0, ways-later e es w.neighbour r.0 r.1, r.2)
]

-- the ways of the graph's links join routers of the graph
pub ways_inside : (domains : List ℕ) (es : List Edge) (router : ℕ) (w : Way) → All (JoinsRouters domains) es → Contains (ways es router) w → (router < length domains) × (w.neighbour < length domains)
ways_inside domains [] router w ok c = absurd (All-contains (λ y. ⊥) [] w (All-nil (λ y. ⊥)) c)
ways_inside domains (e ∷ es) router w ok c =
    let here : (e.a < length domains) × (e.b < length domains) = All-head (JoinsRouters domains) e es ok in
    elim (ways_cases e es router w c) [
      | inl h ↦ elim h.ends [
        | inl p ↦ (subst (λ n. n < length domains) p.0 here.0, subst (λ n. n < length domains) (sym (ap (λ (x : Way). x.neighbour) p.1)) here.1)
        | inr p ↦ (subst (λ n. n < length domains) p.0 here.1, subst (λ n. n < length domains) (sym (ap (λ (x : Way). x.neighbour) p.1)) here.0)
      ]
      | inr h ↦ ways_inside domains es router w (All-tail (JoinsRouters domains) e es ok) h
    ]

-- a walk begins with a way
pub walk-first : (domains : List ℕ) (es : List Edge) (goal : Goal) (n router : ℕ) → has_walk domains es goal (suc n) router ≡ true → (w : Way) × Contains (ways es router) w × (has_walk domains es goal n w.neighbour ≡ true)
unfolding has_walk
walk-first domains es goal n router h =
    let a = Any-from_list_any (λ (w : Way). has_walk domains es goal n w.neighbour) (ways es router) h in (a.1, (a.0, a.2, a.3), a.4)

-- a way to a router with a walk begins a longer walk
pub walk-more : (domains : List ℕ) (es : List Edge) (goal : Goal) (n router : ℕ) (w : Way) → Contains (ways es router) w → has_walk domains es goal n w.neighbour ≡ true → has_walk domains es goal (suc n) router ≡ true
unfolding has_walk
walk-more domains es goal n router w c h =
    list_any-from_Any (λ (w : Way). has_walk domains es goal n w.neighbour) (ways es router) (c.0, w, c.1, c.2, h)

pub walk-zero : (domains : List ℕ) (es : List Edge) (goal : Goal) (router : ℕ) → has_walk domains es goal 0 router ≡ is_in_goal domains goal router
unfolding has_walk
walk-zero domains es goal router = refl
