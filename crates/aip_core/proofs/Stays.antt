-- On a place in a list at which one thing moved.
use Rattle.std.proofs.Common.{◌≡◌, ℕ, zero, suc, ◌<◌, ◌⊎◌, inl, inr, Bool, true, false, List, [], ◌∷◌, length, Option, Some, None, refl, sym, ◌∙◌, ap, subst, arith, eqb}
use Rattle.std.specs.Prelude.{slice_get}
use Rattle.std.proofs.lemmas.Bool.{eqb-true, eqb-false}
use Rattle.aip_core.specs.Moves.{MovesAt, anew_at}
use Rattle.aip_core.specs.RouterMachine.{RouterState, started_anew}
use Rattle.aip_core.proofs.Found.{beside}

same_or_not : (q p : ℕ) (b : Bool) → eqb q p ≡ b → (Some q ≡ Some p) ⊎ (Some q ≡ Some p → ⊥)
same_or_not q p true e = inl (ap (λ n. Some n) (eqb-true q p e))
same_or_not q p false e = inr (λ same. eqb-false q p e (let is : q ≡ p = cc in is))

-- a place is this one, or it isn't
pub is_here : (place : Option ℕ) (p : ℕ) → (place ≡ Some p) ⊎ (place ≡ Some p → ⊥)
is_here None p = inr (λ e. absurd (let no : None ≡ Some p = e in cc))
is_here (Some q) p = same_or_not q p (eqb q p) refl

-- what stands at a place after a move stood there before, or moved there
pub moved_from : (A : Type 0) (place : Option ℕ) (moves : A → A → Type 0) (old new : List A) (p : ℕ) (b : A) → MovesAt A place moves old new → slice_get new p ≡ Some b
    → (a : A) × (slice_get old p ≡ Some a) × ((place ≡ Some p → ⊥) → a ≡ b)
moved_from A place moves old new p b m at =
    let before = beside new old p b (sym m.count) at in
    (before.0, before.1, λ elsewhere. let is : Some before.0 ≡ Some b = sym before.1 ∙ sym (m.others p elsewhere) ∙ at in cc)

-- a router that starts anew at a place is the only one that changes
pub anew_here : (states : List RouterState) (p : ℕ) (state : RouterState) → slice_get states p ≡ Some state → slice_get (anew_at states p) p ≡ Some (started_anew state)
anew_here [] p state at = absurd cc
anew_here (s ∷ states) zero state at = let same : s ≡ state = cc in ap (λ (x : RouterState). Some (started_anew x)) same
anew_here (s ∷ states) (suc p) state at = anew_here states p state at

pub anew_elsewhere : (states : List RouterState) (q p : ℕ) → (q ≡ p → ⊥) → slice_get (anew_at states q) p ≡ slice_get states p
anew_elsewhere [] q p apart = refl
anew_elsewhere (s ∷ states) zero zero apart = absurd (apart refl)
anew_elsewhere (s ∷ states) zero (suc p) apart = refl
anew_elsewhere (s ∷ states) (suc q) zero apart = refl
anew_elsewhere (s ∷ states) (suc q) (suc p) apart = anew_elsewhere states q p (λ e. apart (ap suc e))

pub anew_count : (states : List RouterState) (q : ℕ) → length (anew_at states q) ≡ length states
anew_count [] q = refl
anew_count (s ∷ states) zero = refl
anew_count (s ∷ states) (suc q) = ap suc (anew_count states q)
