-- On the first place in a list at which a test passes, and on lists in which one place moved.
use Rattle.std.proofs.Common.{◌≡◌, ℕ, zero, suc, ◌+◌, ◌<◌, Bool, true, false, cond, List, [], ◌∷◌, length, Option, Some, None, refl, sym, ◌∙◌, ap, subst, arith}
use Rattle.std.specs.Prelude.{position, slice_get}
use Rattle.std.specs.List.{position_from}
use Rattle.std.proofs.lemmas.Iterator.Adapters.{position_from-zero}

-- what stands at a place passes a test
pub record PassesAt (A : Type 0) (test : A → Bool) (xs : List A) (k : ℕ) : Type 0 where
  pub item : A
  pub there : slice_get xs k ≡ Some item
  pub passes : test item ≡ true

-- a place counted from n on passes
abbrev pub PassesFrom : (A : Type 0) → (A → Bool) → List A → ℕ → ℕ → Type 0
PassesFrom A test xs n m = (k : ℕ) × (m ≡ n + k) × PassesAt A test xs k

here_or_later : {A : Type 0} (test : A → Bool) (n : ℕ) (x : A) (xs : List A) (m : ℕ) (b : Bool) → test x ≡ b
    → cond b (Some n) (position_from test (n + 1) xs) ≡ Some m
    → (position_from test (n + 1) xs ≡ Some m → PassesFrom A test xs (n + 1) m) → PassesFrom A test (x ∷ xs) n m
here_or_later test n x xs m true here e later = (zero, let same : n ≡ m = cc in omega arith, record { item = x; there = refl; passes = here })
here_or_later test n x xs m false here e later =
    let found = later e in
    let at : m ≡ n + 1 + found.0 = found.1 in
    (suc found.0, omega arith, record { item = found.2.item; there = found.2.there; passes = found.2.passes })

first_passes : {A : Type 0} (test : A → Bool) (n : ℕ) (xs : List A) (m : ℕ) → position_from test n xs ≡ Some m → PassesFrom A test xs n m
first_passes test n [] m e = absurd cc
first_passes test n (x ∷ xs) m e = here_or_later test n x xs m (test x) refl e (first_passes test (n + 1) xs m)

-- what stands at the first place at which a test passes does pass it
pub position_passes : {A : Type 0} (test : A → Bool) (xs : List A) (m : ℕ) → position test xs ≡ Some m → PassesAt A test xs m
position_passes {A} test xs m e =
    let found = first_passes test 0 xs m (sym (position_from-zero test xs) ∙ e) in
    let at : found.0 ≡ m = omega (arith, found.1) in
    subst (λ k. PassesAt A test xs k) at found.2

neither : {A : Type 0} (test : A → Bool) (n : ℕ) (x : A) (xs : List A) (b : Bool) → test x ≡ b → cond b (Some n) (position_from test (n + 1) xs) ≡ None
    → (test x ≡ false) × (position_from test (n + 1) xs ≡ None)
neither test n x xs true here e = absurd cc
neither test n x xs false here e = (here, e)

none_from : {A : Type 0} (test : A → Bool) (n : ℕ) (xs : List A) (k : ℕ) (x : A) → position_from test n xs ≡ None → slice_get xs k ≡ Some x → test x ≡ false
none_from test n [] k x e there = absurd cc
none_from test n (y ∷ xs) zero x e there = let same : y ≡ x = cc in subst (λ z. test z ≡ false) same (neither test n y xs (test y) refl e).0
none_from test n (y ∷ xs) (suc k) x e there = none_from test (n + 1) xs k x (neither test n y xs (test y) refl e).1 there

-- where there is no such place, nothing passes
pub none_passes : {A : Type 0} (test : A → Bool) (xs : List A) (k : ℕ) (x : A) → position test xs ≡ None → slice_get xs k ≡ Some x → test x ≡ false
none_passes test xs k x e there = none_from test 0 xs k x (sym (position_from-zero test xs) ∙ e) there
