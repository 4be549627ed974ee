-- On the ways out of all routers, as links are added one by one.
use Rattle.std.proofs.Common.{◌≡◌, ℕ, zero, suc, ◌<◌, ◌&&◌, Bool, true, false, List, [], ◌∷◌, ◌++◌, length, set, get_or, refl, sym, ◌∙◌, ap, arith, Vec, eqb, Some}
use Rattle.std.specs.Prelude.{slice_get}
use Rattle.std.proofs.lemmas.List.{append-nil, append_assoc}
use Rattle.std.proofs.lemmas.Bool.{eqb-true, eqb-false}
use Rattle.std.specs.declared.alloc.Global.{Global}
use Rattle.domain_routes.specs.declared.Edge.{Edge}
use Rattle.domain_routes.specs.declared.Way.{Way}
use Rattle.domain_routes.specs.Levels.{AreWays, row_of, ways_in, ways_by}
use Rattle.domain_routes.specs.Walks.{ways, way_if}

-- a row that gains a way, by a test whether it is the row that is asked for
row_tested : (all : List (Vec Way Global)) (i other : ℕ) (row d : Vec Way Global) (way : Way) (b : Bool)
    → i < length all → row.items ≡ (get_or all i d).items ++ way ∷ [] → (b ≡ true → i ≡ other) → (b ≡ false → i ≡ other → ⊥)
    → row_of (set all i row) other ≡ row_of all other ++ way_if b way
row_tested [] i other row d way b there is hit miss = absurd (omega arith)
row_tested (x ∷ xs) zero zero row d way true there is hit miss = is
row_tested (x ∷ xs) zero zero row d way false there is hit miss = absurd (miss refl refl)
row_tested (x ∷ xs) zero (suc k) row d way true there is hit miss = absurd (let q : zero ≡ suc k = hit refl in omega arith)
row_tested (x ∷ xs) zero (suc k) row d way false there is hit miss = sym (append-nil (row_of xs k))
row_tested (x ∷ xs) (suc i) zero row d way true there is hit miss = absurd (let q : suc i ≡ zero = hit refl in omega arith)
row_tested (x ∷ xs) (suc i) zero row d way false there is hit miss = sym (append-nil x.items)
row_tested (x ∷ xs) (suc i) (suc k) row d way b there is hit miss =
    row_tested xs i k row d way b (omega arith) is (λ e. let q : suc i ≡ suc k = hit e in omega arith) (λ e q. miss e (ap suc q))

-- the row that gains a way has it at its end, and every other row stays
pub row_added : (all : List (Vec Way Global)) (i other : ℕ) (old row : Vec Way Global) (way : Way)
    → i < length all → old ≡ get_or all i old → row.items ≡ old.items ++ way ∷ []
    → row_of (set all i row) other ≡ row_of all other ++ way_if (eqb i other) way
row_added all i other old row way there at is =
    row_tested all i other row old way (eqb i other) there (is ∙ ap (λ (v : Vec Way Global). v.items ++ way ∷ []) at) (eqb-true i other) (eqb-false i other)

-- each row holds the ways along the links so far, and those along the links that are left are still to come
pub record AreWaysSoFar (n : ℕ) (edges left : List Edge) (all : List (Vec Way Global)) : Type 0 where
  pub count : length all ≡ n
  pub rest : (router : ℕ) → row_of all router ++ ways left router ≡ ways edges router

-- a row that is there holds its ways
row_at : (all : List (Vec Way Global)) (router : ℕ) (row : Vec Way Global) → slice_get all router ≡ Some row → row_of all router ≡ row.items
row_at all router row e = ap ways_in e
