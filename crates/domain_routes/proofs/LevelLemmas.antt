-- On levels, and on what a step of the search does to them.
use Rattle.std.proofs.Common.{◌≡◌, ℕ, suc, zero, ◌<◌, ◌≤◌, ◌+◌, inl, inr, List, [], ◌∷◌, ◌++◌, length, get_or, set, take, refl, sym, ◌∙◌, ap, arith, Option, Some, None, Contains, get_or-set_same, get_or-set_other}
use Rattle.std.specs.Prelude.{is_some}
use Rattle.std.proofs.Common.{Bool, true, false}
use Rattle.std.proofs.lemmas.Bool.{cases_eq}
use Rattle.std.proofs.lemmas.List.{take_more}
use Rattle.std.proofs.lemmas.List.Elements.{All-contains, All-nil, Contains-push, Contains-push_cases, Contains-append_left}
use Rattle.domain_routes.specs.declared.Way.{Way}
use Rattle.domain_routes.specs.Levels.{level_at, unset, Reaches}

-- a router that gets a level is one less without
pub unset-set : (xs : List (Option ℕ)) (i n : ℕ) → i < length xs → get_or xs i None ≡ None → suc (unset (set xs i (Some n))) ≡ unset xs
unset-set [] i n lt e = absurd (omega arith)
unset-set (None ∷ xs) zero n lt e = refl
unset-set (Some m ∷ xs) zero n lt e = cc
unset-set (None ∷ xs) (suc i) n lt e = ap suc (unset-set xs i n (omega arith) e)
unset-set (Some m ∷ xs) (suc i) n lt e = unset-set xs i n (omega arith) e

pub no_way : (w : Way) → Contains [] w → ⊥
no_way w c = All-contains (λ (y : Way). ⊥) [] w (All-nil (λ (y : Way). ⊥)) c

pub reaches_none : (next : ℕ) (xs : List (Option ℕ)) → Reaches [] next xs xs
reaches_none next xs = record {
  kept = λ r k e. e;
  fresh = λ r k e. inl e;
  reached = λ w c. absurd (no_way w c);
}

-- a neighbour that has a level already
pub reaches_again : (out : List Way) (w : Way) (next k : ℕ) (old xs : List (Option ℕ)) → Reaches out next old xs → level_at xs w.neighbour ≡ Some k → Reaches (out ++ w ∷ []) next old xs
reaches_again out w next k old xs h e = record {
  kept = h.kept;
  fresh = λ r j f. elim (h.fresh r j f) [ inl p ↦ inl p | inr p ↦ inr (p.0, (p.1.0, Contains-append_left out (w ∷ []) p.1.0 p.1.1, p.1.2)) ];
  reached = λ v c. elim (Contains-push_cases out w v c) [ inl d ↦ h.reached v d | inr q ↦ (k, ap (λ (x : Way). level_at xs x.neighbour) (sym q) ∙ e) ];
}

-- a neighbour that gets its level now
pub reaches_now : (out : List Way) (w : Way) (next : ℕ) (old xs : List (Option ℕ)) → Reaches out next old xs → w.neighbour < length xs → level_at xs w.neighbour ≡ None → Reaches (out ++ w ∷ []) next old (set xs w.neighbour (Some next))
reaches_now out w next old xs h lt e = record {
  kept = λ r k f. elim (cases_eq r w.neighbour) [
    | inl q ↦ absurd (let a : level_at xs w.neighbour ≡ Some k = ap (level_at xs) (sym q) ∙ h.kept r k f in cc)
    | inr ne ↦ get_or-set_other xs w.neighbour r (Some next) None ne ∙ h.kept r k f
  ];
  fresh = λ r k f. elim (cases_eq r w.neighbour) [
    | inl q ↦ inr (let a : get_or (set xs w.neighbour (Some next)) w.neighbour None ≡ Some next = get_or-set_same xs w.neighbour (Some next) None lt in let b : get_or (set xs w.neighbour (Some next)) w.neighbour None ≡ Some k = ap (λ (n : ℕ). level_at (set xs w.neighbour (Some next)) n) (sym q) ∙ f in cc, (w, Contains-push out w, sym q))
    | inr ne ↦ elim (h.fresh r k (sym (get_or-set_other xs w.neighbour r (Some next) None ne) ∙ f)) [ inl p ↦ inl p | inr p ↦ inr (p.0, (p.1.0, Contains-append_left out (w ∷ []) p.1.0 p.1.1, p.1.2)) ]
  ];
  reached = λ v c. elim (cases_eq v.neighbour w.neighbour) [
    | inl q ↦ (next, ap (λ (n : ℕ). level_at (set xs w.neighbour (Some next)) n) q ∙ get_or-set_same xs w.neighbour (Some next) None lt)
    | inr ne ↦ elim (Contains-push_cases out w v c) [
      | inl d ↦ let p : (k : ℕ) × (level_at xs v.neighbour ≡ Some k) = h.reached v d in (p.0, get_or-set_other xs w.neighbour v.neighbour (Some next) None ne ∙ p.1)
      | inr q ↦ absurd (ne (ap (λ (x : Way). x.neighbour) (sym q)))
    ]
  ];
}

-- a turn's levels against those at the start: what is reached by the ways so far, and how many have no level yet
pub record IsReached (out : List Way) (next : ℕ) (old xs : List (Option ℕ)) (found : Bool) : Type 0 where
  pub reaches : Reaches out next old xs
  pub same : found ≡ false → xs ≡ old
  pub less : found ≡ true → unset xs < unset old
  pub at_most : unset xs ≤ unset old

pub none_of : (o : Option ℕ) → is_some o ≡ false → o ≡ None
none_of None e = refl
none_of (Some n) e = cc

pub some_of : (o : Option ℕ) → is_some o ≡ true → (n : ℕ) × (o ≡ Some n)
some_of None e = cc
some_of (Some n) e = (n, refl)

pub reached_now : (ws : List Way) (i next : ℕ) (old xs new : List (Option ℕ)) (f g : Bool) (d : Way) → IsReached (take i ws) next old xs f → i < length ws → (get_or ws i d).neighbour < length xs → is_some (level_at xs (get_or ws i d).neighbour) ≡ false → new ≡ set xs (get_or ws i d).neighbour (Some next) → g ≡ true → IsReached (take (i + 1) ws) next old new g
reached_now ws i next old xs new f g d h lt in' e is is_true =
    let w : Way = get_or ws i d in
    let fewer : suc (unset (set xs w.neighbour (Some next))) ≡ unset xs = unset-set xs w.neighbour next in' (none_of (level_at xs w.neighbour) e) in
    let most : unset xs ≤ unset old = h.at_most in
    let below : unset new < unset old = rw is (omega arith) in
    record {
      reaches = rw (is, take_more ws i d lt) (reaches_now (take i ws) w next old xs h.reaches in' (none_of (level_at xs w.neighbour) e));
      same = λ no. cc;
      less = λ yes. below;
      at_most = omega arith;
    }

pub reached_again : (ws : List Way) (i next : ℕ) (old xs new : List (Option ℕ)) (f g : Bool) (d : Way) → IsReached (take i ws) next old xs f → i < length ws → is_some (level_at xs (get_or ws i d).neighbour) ≡ true → new ≡ xs → g ≡ f → IsReached (take (i + 1) ws) next old new g
reached_again ws i next old xs new f g d h lt e is same =
    let w : Way = get_or ws i d in
    let k : (n : ℕ) × (level_at xs w.neighbour ≡ Some n) = some_of (level_at xs w.neighbour) e in
    record {
      reaches = rw (is, take_more ws i d lt) (reaches_again (take i ws) w next k.0 old xs h.reaches k.1);
      same = λ no. is ∙ h.same (sym same ∙ no);
      less = λ yes. rw is (h.less (sym same ∙ yes));
      at_most = rw is h.at_most;
    }

pub reached_at_start : (ws : List Way) (next : ℕ) (xs : List (Option ℕ)) → IsReached (take 0 ws) next xs xs false
reached_at_start ws next xs = record {
  reaches = reaches_none next xs;
  same = λ e. refl;
  less = λ e. cc;
  at_most = omega arith;
}
