-- On the rows of neighbours, as one more is added to a row.
use Rattle.std.proofs.Common.{◌≡◌, ℕ, zero, suc, ◌<◌, Bool, true, false, List, [], ◌∷◌, ◌++◌, length, set, get_or, refl, sym, ◌∙◌, ap, subst, arith, Vec, eqb, replicate, slice_index}
use Rattle.std.proofs.lemmas.List.{append-nil}
use Rattle.std.proofs.lemmas.Bool.{eqb-true, eqb-false}
use Rattle.std.specs.declared.alloc.Global.{Global}
use Rattle.aip_rules.specs.declared.Neighbour.{Neighbour}
use Rattle.aip_topo.specs.declared.topology.Part.{Part}
use Rattle.aip_rules.specs.Nodes.{neighbours_after}
use Rattle.aip_core.specs.Places.{row_of, neighbour_if}

-- a row that gains a neighbour, by a test whether it is the row that is asked for
row_tested : (all : List (Vec Neighbour Global)) (i other : ℕ) (row d : Vec Neighbour Global) (n : Neighbour) (b : Bool)
    → i < length all → row.items ≡ (get_or all i d).items ++ n ∷ [] → (b ≡ true → i ≡ other) → (b ≡ false → i ≡ other → ⊥)
    → row_of (set all i row) other ≡ row_of all other ++ neighbour_if b n
row_tested [] i other row d n b there is hit miss = absurd (omega arith)
row_tested (x ∷ xs) zero zero row d n true there is hit miss = is
row_tested (x ∷ xs) zero zero row d n false there is hit miss = absurd (miss refl refl)
row_tested (x ∷ xs) zero (suc k) row d n true there is hit miss = absurd (let q : zero ≡ suc k = hit refl in omega arith)
row_tested (x ∷ xs) zero (suc k) row d n false there is hit miss = sym (append-nil (row_of xs k))
row_tested (x ∷ xs) (suc i) zero row d n true there is hit miss = absurd (let q : suc i ≡ zero = hit refl in omega arith)
row_tested (x ∷ xs) (suc i) zero row d n false there is hit miss = sym (append-nil x.items)
row_tested (x ∷ xs) (suc i) (suc k) row d n b there is hit miss =
    row_tested xs i k row d n b (omega arith) is (λ e. let q : suc i ≡ suc k = hit e in omega arith) (λ e q. miss e (ap suc q))

-- the row that gains a neighbour has it at its end, and every other row stays
pub row_added : (all : List (Vec Neighbour Global)) (i other : ℕ) (old row : Vec Neighbour Global) (n : Neighbour)
    → i < length all → old ≡ get_or all i old → row.items ≡ old.items ++ n ∷ []
    → row_of (set all i row) other ≡ row_of all other ++ neighbour_if (eqb i other) n
row_added all i other old row n there at is =
    row_tested all i other row old n (eqb i other) there (is ∙ ap (λ (v : Vec Neighbour Global). v.items ++ n ∷ []) at) (eqb-true i other) (eqb-false i other)

-- before any line is read, all neighbours are still to come
pub rows_at_start : (rows : List (Vec Neighbour Global)) (parts : List Part) → ((router : ℕ) → row_of rows router ≡ [])
    → (router : ℕ) → row_of rows router ++ neighbours_after [] parts router ≡ neighbours_after [] parts router
rows_at_start rows parts none router = ap (λ (row : List Neighbour). row ++ neighbours_after [] parts router) (none router)

-- so many zeros
zero_at : (n k : ℕ) → slice_index (replicate n 0) k ≡ 0
zero_at zero zero = refl
zero_at zero (suc k) = refl
zero_at (suc n) zero = refl
zero_at (suc n) (suc k) = zero_at n k

pub zeros : (counts : List ℕ) (n : ℕ) → counts ≡ replicate n 0 → (k : ℕ) → slice_index counts k ≡ 0
zeros counts n none k = subst (λ (cs : List ℕ). slice_index cs k ≡ 0) (sym none) (zero_at n k)
