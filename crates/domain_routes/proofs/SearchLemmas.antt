-- Levels that no step changes are the least lengths of walks.
use Rattle.std.proofs.Common.{◌≡◌, ℕ, suc, zero, ◌<◌, ◌≤◌, ◌+◌, inl, inr, Bool, true, false, List, [], ◌∷◌, length, get_or, refl, sym, ◌∙◌, ap, subst, arith, Option, Some, None, Contains}
use Rattle.std.proofs.lemmas.Bool.{cases_eq, cases_lt}
use Rattle.std.proofs.Common.{◌++◌, length-append, take}
use Rattle.std.proofs.Math.Seq.{take-append_seam}
use Rattle.std.proofs.lemmas.List.{get_or_past, get_or_append_left, get_or_push}
use Rattle.std.proofs.lemmas.Option.{slice_get-get_or, slice_get_past}
use Rattle.domain_routes.specs.declared.Edge.{Edge}
use Rattle.domain_routes.specs.declared.Way.{Way}
use Rattle.domain_routes.specs.declared.Goal.{Goal}
use Rattle.domain_routes.specs.Walks.{ways, takes_in, is_in_goal, has_walk, least_below, distance}
use Rattle.domain_routes.specs.Levels.{level_at, level_if, unset, IsLevelZero, Spreads, StartsAtGoal, AreDistances}
use Rattle.domain_routes.proofs.WayLemmas.{way_back, walk-first, walk-more, walk-zero}

-- the levels up to one of them are right, and the routers below it have given the next level to their neighbours
pub record IsSearched (domains : List ℕ) (edges : List Edge) (goal : Goal) (level : ℕ) (xs : List (Option ℕ)) : Type 0 where
  pub start : StartsAtGoal domains goal xs
  pub step : (router m : ℕ) → level_at xs router ≡ Some (suc m) → (w : Way) × Contains (ways edges router) w × (level_at xs w.neighbour ≡ Some m)
  pub most : (router m : ℕ) → level_at xs router ≡ Some m → m ≤ level
  pub near : (router m : ℕ) (w : Way) → level_at xs router ≡ Some m → m < level → Contains (ways edges router) w → (k : ℕ) × (level_at xs w.neighbour ≡ Some k) × (k ≤ suc m)
  pub room : level + unset xs ≤ length domains
  pub strict : (router m : ℕ) → level_at xs router ≡ Some m → level + unset xs < length domains

-- levels at which the search ends
pub record IsSettled (domains : List ℕ) (edges : List Edge) (goal : Goal) (xs : List (Option ℕ)) : Type 0 where
  pub start : StartsAtGoal domains goal xs
  pub step : (router m : ℕ) → level_at xs router ≡ Some (suc m) → (w : Way) × Contains (ways edges router) w × (level_at xs w.neighbour ≡ Some m)
  pub near : (router m : ℕ) (w : Way) → level_at xs router ≡ Some m → Contains (ways edges router) w → (k : ℕ) × (level_at xs w.neighbour ≡ Some k) × (k ≤ suc m)
  pub bound : (router m : ℕ) → level_at xs router ≡ Some m → m < length domains

-- a level is the length of a walk
pub settled_walk : (domains : List ℕ) (edges : List Edge) (goal : Goal) (xs : List (Option ℕ)) (m router : ℕ) → IsSettled domains edges goal xs → level_at xs router ≡ Some m → has_walk domains edges goal m router ≡ true
settled_walk domains edges goal xs zero router h e = walk-zero domains edges goal router ∙ h.start.in_zero router e
settled_walk domains edges goal xs (suc m) router h e =
    let s : (w : Way) × Contains (ways edges router) w × (level_at xs w.neighbour ≡ Some m) = h.step router m e in
    walk-more domains edges goal m router s.0 s.1 (settled_walk domains edges goal xs m s.0.neighbour h s.2)

-- no walk is shorter than the level
pub settled_least : (domains : List ℕ) (edges : List Edge) (goal : Goal) (xs : List (Option ℕ)) (n router : ℕ) → IsSettled domains edges goal xs → has_walk domains edges goal n router ≡ true → (k : ℕ) × (level_at xs router ≡ Some k) × (k ≤ n)
settled_least domains edges goal xs zero router h e = (0, h.start.zero_in router (sym (walk-zero domains edges goal router) ∙ e), omega arith)
settled_least domains edges goal xs (suc n) router h e =
    let s : (w : Way) × Contains (ways edges router) w × (has_walk domains edges goal n w.neighbour ≡ true) = walk-first domains edges goal n router e in
    let r : (k : ℕ) × (level_at xs s.0.neighbour ≡ Some k) × (k ≤ n) = settled_least domains edges goal xs n s.0.neighbour h s.2 in
    let b : (v : Way) × Contains (ways edges s.0.neighbour) v × (v.neighbour ≡ router) = way_back edges router s.0 s.1 in
    let q : (k : ℕ) × (level_at xs b.0.neighbour ≡ Some k) × (k ≤ suc r.0) = h.near s.0.neighbour r.0 b.0 r.1 b.1 in
    (q.0, subst (λ (v : ℕ). level_at xs v ≡ Some q.0) b.2 q.1, let x : q.0 ≤ suc r.0 = q.2 in let y : r.0 ≤ n = r.2 in omega arith)

-- the least number that passes, where it is below the limit
pub least_below-none : (test : ℕ → Bool) (limit : ℕ) → ((m : ℕ) → m < limit → test m ≡ false) → least_below test limit ≡ None
least_below-none test zero h = refl
least_below-none test (suc n) h =
    let a : least_below test n ≡ None = least_below-none test n (λ m lt. h m (omega arith)) in
    let b : test n ≡ false = h n (omega arith) in
    rw (a, b) refl

pub least_below-some : (test : ℕ → Bool) (limit n : ℕ) → n < limit → test n ≡ true → ((m : ℕ) → m < n → test m ≡ false) → least_below test limit ≡ Some n
least_below-some test zero n lt t h = absurd (omega arith)
least_below-some test (suc limit) n lt t h = elim (cases_eq n limit) [
  | inl q ↦ let a : least_below test limit ≡ None = least_below-none test limit (λ m l. h m (omega arith)) in let b : test limit ≡ true = ap test (sym q) ∙ t in rw (a, b) (ap Some (sym q))
  | inr ne ↦ let a : least_below test limit ≡ Some n = least_below-some test limit n (omega arith) t h in rw a refl
]

true_or_false : (b : Bool) → (b ≡ true → ⊥) → b ≡ false
true_or_false true h = absurd (h refl)
true_or_false false h = refl

-- where there is a level, the distance is the level
pub settled_some : (domains : List ℕ) (edges : List Edge) (goal : Goal) (xs : List (Option ℕ)) (router m : ℕ) → IsSettled domains edges goal xs → level_at xs router ≡ Some m → distance domains edges goal router ≡ Some m
unfolding distance
settled_some domains edges goal xs router m h e =
    least_below-some (λ n. has_walk domains edges goal n router) (length domains) m (h.bound router m e) (settled_walk domains edges goal xs m router h e)
    (λ n lt. true_or_false (has_walk domains edges goal n router) (λ t. let r : (k : ℕ) × (level_at xs router ≡ Some k) × (k ≤ n) = settled_least domains edges goal xs n router h t in let same : Some m ≡ Some r.0 = sym e ∙ r.1 in let q : m ≡ r.0 = cc in let l : r.0 ≤ n = r.2 in omega arith))

-- where there is no level, there is no distance
pub settled_none : (domains : List ℕ) (edges : List Edge) (goal : Goal) (xs : List (Option ℕ)) (router : ℕ) → IsSettled domains edges goal xs → level_at xs router ≡ None → distance domains edges goal router ≡ None
unfolding distance
settled_none domains edges goal xs router h e =
    least_below-none (λ n. has_walk domains edges goal n router) (length domains)
    (λ n lt. true_or_false (has_walk domains edges goal n router) (λ t. let r : (k : ℕ) × (level_at xs router ≡ Some k) × (k ≤ n) = settled_least domains edges goal xs n router h t in let a : level_at xs router ≡ Some r.0 = r.1 in cc))

exact_by : (domains : List ℕ) (edges : List Edge) (goal : Goal) (xs : List (Option ℕ)) (router : ℕ) (o : Option ℕ) → IsSettled domains edges goal xs → level_at xs router ≡ o → o ≡ distance domains edges goal router
exact_by domains edges goal xs router None h e = sym (settled_none domains edges goal xs router h e)
exact_by domains edges goal xs router (Some m) h e = sym (settled_some domains edges goal xs router m h e)

-- settled levels are the distances
pub settled_are_distances : (domains : List ℕ) (edges : List Edge) (goal : Goal) (xs : List (Option ℕ)) → IsSettled domains edges goal xs → AreDistances domains edges goal xs
settled_are_distances domains edges goal xs h =
    let exact : (router : ℕ) → level_at xs router ≡ distance domains edges goal router = λ router. exact_by domains edges goal xs router (level_at xs router) h refl in
    record {
      count = h.start.count;
      exact = exact;
      law = record {
        least = λ router n e. record {
          walk = settled_walk domains edges goal xs n router h (exact router ∙ e);
          least = λ m t. let r : (k : ℕ) × (level_at xs router ≡ Some k) × (k ≤ m) = settled_least domains edges goal xs m router h t in let same : Some n ≡ Some r.0 = sym (exact router ∙ e) ∙ r.1 in let q : n ≡ r.0 = cc in let l : r.0 ≤ m = r.2 in omega arith;
        };
        none = λ router e m t. let r : (k : ℕ) × (level_at xs router ≡ Some k) × (k ≤ m) = settled_least domains edges goal xs m router h t in let a : level_at xs router ≡ Some r.0 = r.1 in let b : level_at xs router ≡ None = exact router ∙ e in cc;
      };
    }

-- a router with a level is in the list
pub level_within : (xs : List (Option ℕ)) (router m : ℕ) → level_at xs router ≡ Some m → router < length xs
level_within xs router m e = elim (cases_lt router (length xs)) [
  | inl lt ↦ lt
  | inr past ↦ absurd (let a : level_at xs router ≡ None = get_or_past xs router None past in cc)
]

-- after the step at a level, the routers up to that level have given the next level to their neighbours
searched_near : (domains : List ℕ) (edges : List Edge) (goal : Goal) (level : ℕ) (old new : List (Option ℕ)) → IsSearched domains edges goal level old → Spreads edges level (length old) old new → (router m : ℕ) (w : Way) → level_at new router ≡ Some m → m < suc level → Contains (ways edges router) w → (k : ℕ) × (level_at new w.neighbour ≡ Some k) × (k ≤ suc m)
searched_near domains edges goal level old new h s router m w e lt c =
    let had : level_at old router ≡ Some m = elim (s.fresh router m e) [ inl p ↦ p | inr p ↦ absurd (let q : m ≡ suc level = p.0 in omega arith) ] in
    elim (cases_eq m level) [
      | inl q ↦
          let at : level_at old router ≡ Some level = had ∙ ap Some q in
          let r : (k : ℕ) × (level_at new w.neighbour ≡ Some k) = s.reached router w (level_within old router level at) at c in (
            r.0,
            r.1,
            elim (s.fresh w.neighbour r.0 r.1) [
              | inl p ↦ let b : r.0 ≤ level = h.most w.neighbour r.0 p in omega arith
              | inr p ↦ let b : r.0 ≡ suc level = p.0 in omega arith
            ],
          )
      | inr ne ↦
          let r : (k : ℕ) × (level_at old w.neighbour ≡ Some k) × (k ≤ suc m) = h.near router m w had (omega arith) c in
          (r.0, s.kept w.neighbour r.0 r.1, r.2)
    ]

searched_step : (domains : List ℕ) (edges : List Edge) (goal : Goal) (level : ℕ) (old new : List (Option ℕ)) → IsSearched domains edges goal level old → Spreads edges level (length old) old new → (router m : ℕ) → level_at new router ≡ Some (suc m) → (w : Way) × Contains (ways edges router) w × (level_at new w.neighbour ≡ Some m)
searched_step domains edges goal level old new h s router m e = elim (s.fresh router (suc m) e) [
  | inl p ↦ let r : (w : Way) × Contains (ways edges router) w × (level_at old w.neighbour ≡ Some m) = h.step router m p in (r.0, r.1, s.kept r.0.neighbour m r.2)
  | inr p ↦
      let near : ℕ = p.1.0 in
      let w : Way = p.1.1 in
      let b : (v : Way) × Contains (ways edges w.neighbour) v × (v.neighbour ≡ near) = way_back edges near w p.1.3 in
      let same : suc m ≡ suc level = p.0 in
      let m_is : m ≡ level = omega arith in
      (b.0, subst (λ (n : ℕ). Contains (ways edges n) b.0) p.1.4 b.1, ap (level_at new) b.2 ∙ s.kept near level p.1.2 ∙ ap Some (sym m_is))
]

searched_start : (domains : List ℕ) (edges : List Edge) (goal : Goal) (level : ℕ) (old new : List (Option ℕ)) → IsSearched domains edges goal level old → Spreads edges level (length old) old new → length new ≡ length old → StartsAtGoal domains goal new
searched_start domains edges goal level old new h s len = record {
  count = len ∙ h.start.count;
  zero_in = λ router e. s.kept router 0 (h.start.zero_in router e);
  in_zero = λ router e. elim (s.fresh router 0 e) [ inl p ↦ h.start.in_zero router p | inr p ↦ absurd (let q : 0 ≡ suc level = p.0 in omega arith) ];
}

-- the step to the next level
pub searched_next : (domains : List ℕ) (edges : List Edge) (goal : Goal) (level : ℕ) (old new : List (Option ℕ)) → IsSearched domains edges goal level old → Spreads edges level (length old) old new → length new ≡ length old → unset new < unset old → IsSearched domains edges goal (suc level) new
searched_next domains edges goal level old new h s len fewer =
    let room : level + unset old ≤ length domains = h.room in
    record {
      start = searched_start domains edges goal level old new h s len;
      step = searched_step domains edges goal level old new h s;
      most = λ router m e. elim (s.fresh router m e) [ inl p ↦ let q : m ≤ level = h.most router m p in omega arith | inr p ↦ let q : m ≡ suc level = p.0 in omega arith ];
      near = λ router m w e lt c. searched_near domains edges goal level old new h s router m w e lt c;
      room = omega arith;
      strict = λ router m e. elim (s.fresh router m e) [
        | inl p ↦ let q : level + unset old < length domains = h.strict router m p in omega arith
        | inr p ↦ let q : level + unset old < length domains = h.strict p.1.0 level p.1.2 in omega arith
      ];
    }

-- where the step finds none, the levels are settled
pub searched_all : (domains : List ℕ) (edges : List Edge) (goal : Goal) (level : ℕ) (old new : List (Option ℕ)) → IsSearched domains edges goal level old → Spreads edges level (length old) old new → new ≡ old → IsSettled domains edges goal new
searched_all domains edges goal level old new h s same = record {
  start = searched_start domains edges goal level old new h s (ap length same);
  step = searched_step domains edges goal level old new h s;
  near = λ router m w e c.
      let q : m ≤ level = h.most router m (ap (λ (xs : List (Option ℕ)). level_at xs router) (sym same) ∙ e) in
      searched_near domains edges goal level old new h s router m w e (omega arith) c;
  bound = λ router m e.
      let d : level_at old router ≡ Some m = ap (λ (xs : List (Option ℕ)). level_at xs router) (sym same) ∙ e in
      let q : m ≤ level = h.most router m d in
      let r : level + unset old < length domains = h.strict router m d in omega arith;
}

unset_most : (xs : List (Option ℕ)) → unset xs ≤ length xs
unset_most [] = omega arith
unset_most (None ∷ xs) = omega (arith, unset_most xs)
unset_most (Some n ∷ xs) = omega (arith, unset_most xs)

unset_fewer : (xs : List (Option ℕ)) (router m : ℕ) → level_at xs router ≡ Some m → unset xs < length xs
unset_fewer [] router m e = cc
unset_fewer (None ∷ xs) zero m e = cc
unset_fewer (None ∷ xs) (suc router) m e = omega (arith, unset_fewer xs router m e)
unset_fewer (Some n ∷ xs) router m e = omega (arith, unset_most xs)

-- the search begins with the goal
pub searched_first : (domains : List ℕ) (edges : List Edge) (goal : Goal) (xs : List (Option ℕ)) → StartsAtGoal domains goal xs → ((router m : ℕ) → level_at xs router ≡ Some m → m ≡ 0) → IsSearched domains edges goal 0 xs
searched_first domains edges goal xs start only = record {
  start = start;
  step = λ router m e. absurd (let q : suc m ≡ 0 = only router (suc m) e in omega arith);
  most = λ router m e. let q : m ≡ 0 = only router m e in omega arith;
  near = λ router m w e lt c. absurd (omega arith);
  room = let l : length xs ≡ length domains = start.count in omega (arith, unset_most xs);
  strict = λ router m e. let l : length xs ≡ length domains = start.count in omega (arith, unset_fewer xs router m e);
}

-- level 0 as far as a router
pub record IsZeroUpTo (domains : List ℕ) (goal : Goal) (n : ℕ) (xs : List (Option ℕ)) : Type 0 where
  pub count : length xs ≡ n
  pub each : (router : ℕ) → router < n → level_at xs router ≡ level_if (is_in_goal domains goal router)

pub zero_all : (domains : List ℕ) (goal : Goal) (n : ℕ) (xs : List (Option ℕ)) → IsZeroUpTo domains goal n xs → n ≡ length domains → IsLevelZero domains goal xs
zero_all domains goal n xs h all = record {
  count = h.count ∙ all;
  each = λ router. elim (cases_lt router n) [
    | inl lt ↦ h.each router lt
    | inr past ↦ let c : length xs ≡ n = h.count in
        get_or_past xs router None (omega arith) ∙ ap (λ (o : Option ℕ). level_if (takes_in goal router o)) (sym (slice_get_past domains router (omega arith)))
  ];
}

level_if_zero : (b : Bool) (m : ℕ) → level_if b ≡ Some m → (b ≡ true) × (m ≡ 0)
level_if_zero true m e = (refl, let p : 0 ≡ m = cc in sym p)
level_if_zero false m e = cc

-- level 0 begins the search
pub searched_zero : (domains : List ℕ) (edges : List Edge) (goal : Goal) (xs : List (Option ℕ)) → IsLevelZero domains goal xs → IsSearched domains edges goal 0 xs
searched_zero domains edges goal xs h =
    searched_first domains edges goal xs
    (record {
      count = h.count;
      zero_in = λ router e. h.each router ∙ ap level_if e;
      in_zero = λ router e. (level_if_zero (is_in_goal domains goal router) 0 (sym (h.each router) ∙ e)).0;
    })
    (λ router m e. (level_if_zero (is_in_goal domains goal router) m (sym (h.each router) ∙ e)).1)

-- what a slice wrote back to the whole of a vector
written_back : (n : ℕ) (xs ys : List (Option ℕ)) → n ≡ length xs → take n (xs ++ ys) ≡ xs
written_back n xs ys e = ap (λ (m : ℕ). take m (xs ++ ys)) e ∙ take-append_seam xs ys

-- a turn of the search, as the code makes it through a slice
pub search_turn : (domains : List ℕ) (edges : List Edge) (goal : Goal) (level n : ℕ) (old seen new rest : List (Option ℕ)) → IsSearched domains edges goal level old → seen ≡ old → Spreads edges level (length seen) seen new → length new ≡ length seen → unset new < unset seen → n ≡ length old → IsSearched domains edges goal (level + 1) (take n (new ++ rest))
search_turn domains edges goal level n old seen new rest h is s len fewer all =
    subst (λ (xs : List (Option ℕ)). IsSearched domains edges goal (level + 1) xs) (sym (written_back n new rest (all ∙ sym (ap length is) ∙ sym len)))
    (subst (λ (m : ℕ). IsSearched domains edges goal m new) (omega arith)
    (searched_next domains edges goal level seen new (subst (λ (xs : List (Option ℕ)). IsSearched domains edges goal level xs) (sym is) h) s len fewer))

-- the search's end
pub search_end : (domains : List ℕ) (edges : List Edge) (goal : Goal) (level n : ℕ) (old seen new rest : List (Option ℕ)) → IsSearched domains edges goal level old → seen ≡ old → Spreads edges level (length seen) seen new → new ≡ seen → n ≡ length old → AreDistances domains edges goal (take n (new ++ rest))
search_end domains edges goal level n old seen new rest h is s same all =
    subst (λ (xs : List (Option ℕ)). AreDistances domains edges goal xs) (sym (written_back n new rest (all ∙ sym (ap length is) ∙ sym (ap length same))))
    (settled_are_distances domains edges goal new (searched_all domains edges goal level seen new (subst (λ (xs : List (Option ℕ)). IsSearched domains edges goal level xs) (sym is) h) s same))
