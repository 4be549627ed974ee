-- On the search's step from one level to the next.
use Rattle.std.proofs.Common.{◌≡◌, ℕ, suc, ◌<◌, ◌≤◌, ◌+◌, inl, inr, Bool, true, false, ◌||◌, List, length, get_or, refl, sym, ◌∙◌, ap, subst, arith, Option, Some, None, Contains}
use Rattle.std.proofs.Common.{eqb}
use Rattle.std.specs.Option.{option_eq}
use Rattle.std.proofs.lemmas.Bool.{cases_eq, eqb-true, eqb-false}
use Rattle.domain_routes.specs.declared.Edge.{Edge}
use Rattle.domain_routes.specs.declared.Way.{Way}
use Rattle.std.proofs.Common.{All, Vec}
use Rattle.std.proofs.lemmas.Option.{slice_get_read}
use Rattle.std.proofs.lemmas.List.Elements.{Contains-get_or}
use Rattle.std.specs.declared.alloc.Global.{Global}
use Rattle.domain_routes.specs.Walks.{ways, JoinsRouters}
use Rattle.domain_routes.specs.Levels.{level_at, unset, Reaches, Spreads, AreWays}
use Rattle.domain_routes.proofs.WayLemmas.{ways_inside}

-- what had this level in mid-step had it before
pub had_level : (edges : List Edge) (level i router : ℕ) (old xs : List (Option ℕ)) → Spreads edges level i old xs → level_at xs router ≡ Some level → level_at old router ≡ Some level
had_level edges level i router old xs h e = elim (h.fresh router level e) [ inl p ↦ p | inr p ↦ absurd (let q : level ≡ suc level = p.0 in omega arith) ]

-- a router of the level gives the next one to its neighbours
pub spreads_turn : (edges : List Edge) (level i j : ℕ) (old xs new : List (Option ℕ)) → Spreads edges level i old xs → j ≡ suc i → level_at xs i ≡ Some level → Reaches (ways edges i) (suc level) xs new → Spreads edges level j old new
spreads_turn edges level i j old xs new h js at more = record {
  kept = λ r k e. more.kept r k (h.kept r k e);
  fresh = λ r k e. elim (more.fresh r k e) [ inl p ↦ h.fresh r k p | inr p ↦ inr (p.0, (i, p.1.0, had_level edges level i i old xs h at, p.1.1, p.1.2)) ];
  reached = λ near w lt e c. elim (cases_eq near i) [
    | inl q ↦ more.reached w (subst (λ n. Contains (ways edges n) w) q c)
    | inr ne ↦ let p : (k : ℕ) × (level_at xs w.neighbour ≡ Some k) = h.reached near w (omega arith) e c in (p.0, more.kept w.neighbour p.0 p.1)
  ];
}

-- a router of another level is passed over
pub spreads_past : (edges : List Edge) (level i j : ℕ) (old xs : List (Option ℕ)) → Spreads edges level i old xs → j ≡ suc i → (level_at xs i ≡ Some level → ⊥) → Spreads edges level j old xs
spreads_past edges level i j old xs h js not_at = record {
  kept = h.kept;
  fresh = h.fresh;
  reached = λ near w lt e c. elim (cases_eq near i) [
    | inl q ↦ absurd (not_at (ap (level_at xs) (sym q) ∙ h.kept near level e))
    | inr ne ↦ h.reached near w (omega arith) e c
  ];
}

-- the step so far, up to a router
pub record IsSpread (edges : List Edge) (level i : ℕ) (old xs : List (Option ℕ)) (found : Bool) : Type 0 where
  pub spreads : Spreads edges level i old xs
  pub same : found ≡ false → xs ≡ old
  pub less : found ≡ true → unset xs < unset old
  pub at_most : unset xs ≤ unset old

pub spread_past : (edges : List Edge) (level i j : ℕ) (old xs new : List (Option ℕ)) (f g : Bool) → IsSpread edges level i old xs f → j ≡ suc i → (level_at xs i ≡ Some level → ⊥) → new ≡ xs → g ≡ f → IsSpread edges level j old new g
spread_past edges level i j old xs new f g h js not_at is same = record {
  spreads = rw is (spreads_past edges level i j old xs h.spreads js not_at);
  same = λ e. is ∙ h.same (sym same ∙ e);
  less = λ e. rw is (h.less (sym same ∙ e));
  at_most = rw is h.at_most;
}

least_turn : (f more : Bool) (a b c : ℕ) → (f ≡ true → b < c) → b ≤ c → (more ≡ true → a < b) → (more ≡ false → a ≡ b) → (f || more) ≡ true → a < c
least_turn true true a b c p q r s e = let u : a < b = r refl in omega arith
least_turn true false a b c p q r s e = let u : b < c = p refl in let v : a ≡ b = s refl in omega arith
least_turn false true a b c p q r s e = let u : a < b = r refl in omega arith
least_turn false false a b c p q r s e = cc

most_turn : (more : Bool) (a b c : ℕ) → b ≤ c → (more ≡ true → a < b) → (more ≡ false → a ≡ b) → a ≤ c
most_turn true a b c q r s = let u : a < b = r refl in omega arith
most_turn false a b c q r s = let v : a ≡ b = s refl in omega arith

same_turn : (f more : Bool) (old xs new : List (Option ℕ)) → (f ≡ false → xs ≡ old) → (more ≡ false → new ≡ xs) → (f || more) ≡ false → new ≡ old
same_turn true more old xs new p q e = cc
same_turn false true old xs new p q e = cc
same_turn false false old xs new p q e = q refl ∙ p refl

pub spread_turn : (edges : List Edge) (level i j : ℕ) (old xs new : List (Option ℕ)) (f more g : Bool) → IsSpread edges level i old xs f → j ≡ suc i → level_at xs i ≡ Some level → Reaches (ways edges i) (suc level) xs new → (more ≡ false → new ≡ xs) → (more ≡ true → unset new < unset xs) → g ≡ (f || more) → IsSpread edges level j old new g
spread_turn edges level i j old xs new f more g h js at reaches same less is = record {
  spreads = spreads_turn edges level i j old xs new h.spreads js at reaches;
  same = λ e. same_turn f more old xs new h.same same (sym is ∙ e);
  less = λ e. least_turn f more (unset new) (unset xs) (unset old) h.less h.at_most less (λ k. ap unset (same k)) (sym is ∙ e);
  at_most = most_turn more (unset new) (unset xs) (unset old) h.at_most less (λ k. ap unset (same k));
}

-- the ways out of a router of the graph, as they are kept
pub row_is : (domains : List ℕ) (edges : List Edge) (all : List (Vec Way Global)) (i : ℕ) (row : Vec Way Global) → AreWays domains edges all → i < length domains → row ≡ get_or all i row → row.items ≡ ways edges i
row_is domains edges all i row h lt e = h.each i row (slice_get_read all (length all) i row refl (let c : length all ≡ length domains = h.count in omega arith) e)

-- ways out of a router lead into the graph
pub row_inside : (domains : List ℕ) (edges : List Edge) (ws : List Way) (i n : ℕ) → All (JoinsRouters domains) edges → ws ≡ ways edges i → n ≡ length domains → All (λ w. w.neighbour < n) ws
row_inside domains edges ws i n ok is count k d lt =
    let p : (i < length domains) × ((get_or ws k d).neighbour < length domains) = ways_inside domains edges i (get_or ws k d) ok (subst (λ (xs : List Way). Contains xs (get_or ws k d)) is (Contains-get_or ws k d lt)) in
    let q : (get_or ws k d).neighbour < length domains = p.1 in omega arith

pub same_level : (o : Option ℕ) (n : ℕ) → option_eq eqb o (Some n) ≡ true → o ≡ Some n
same_level None n e = cc
same_level (Some m) n e = ap Some (eqb-true m n e)

pub other_level : (o : Option ℕ) (n : ℕ) → option_eq eqb o (Some n) ≡ false → o ≡ Some n → ⊥
other_level None n e q = cc
other_level (Some m) n e q = eqb-false m n e (let p : m ≡ n = cc in p)

-- a turn at a router of the level, as the code makes it
pub spread_on : (edges : List Edge) (level i next : ℕ) (old xs after new : List (Option ℕ)) (ws : List Way) (f more g : Bool) → IsSpread edges level i old xs f → option_eq eqb (level_at xs i) (Some level) ≡ true → ws ≡ ways edges i → next ≡ suc level → Reaches ws next xs after → (more ≡ false → after ≡ xs) → (more ≡ true → unset after < unset xs) → new ≡ after → g ≡ (f || more) → IsSpread edges level (i + 1) old new g
spread_on edges level i next old xs after new ws f more g h at rows steps reaches same less is found =
    rw is (spread_turn edges level i (i + 1) old xs after f more g h (omega arith) (same_level (level_at xs i) level at)
    (subst (λ (n : ℕ). Reaches (ways edges i) n xs after) steps (subst (λ (out : List Way). Reaches out next xs after) rows reaches)) same less found)
