-- Where things stand in lists that have no name twice.
use Rattle.std.proofs.Common.{◌≡◌, ℕ, zero, suc, ◌+◌, ◌<◌, Bool, true, false, cond, not, nat_lt, List, [], ◌∷◌, ◌++◌, length, map, Option, Some, None, refl, sym, ap, subst, ◌∙◌, arith}
use Rattle.std.specs.Prelude.{slice_get, position}
use Rattle.std.specs.List.{list_any, AllByRecursion, position_or_len}
use Rattle.std.specs.Str.{bytes_eq}
use Rattle.std.proofs.lemmas.Bool.{cond-true, lt-ltb, or_parts}
use Rattle.std.proofs.lemmas.List.Folds.{list_any-append}
use Rattle.std.proofs.lemmas.Option.{none-some, same_Some, slice_get_within}
use Rattle.std.proofs.lemmas.Slice.Eq.{bytes_eq-Decides}
use Rattle.aip_topo.specs.Sound.{AreDistinct, has_text}
use Rattle.aip_topo.proofs.Distinct.{other_way}

-- a text is itself
self_same : (x : List ℕ) → bytes_eq x x ≡ true
self_same x = (bytes_eq-Decides x x).1 refl

-- the front of texts that differ
pub front_distinct : (xs ys : List (List ℕ)) → AreDistinct (xs ++ ys) → AreDistinct xs
front_distinct [] ys h = tt
front_distinct (x ∷ xs) ys h =
    let test : List ℕ → Bool = λ other. bytes_eq other x in
    let parts = or_parts (list_any test xs) (list_any test ys) (sym (list_any-append test xs ys) ∙ h.0) in
    (parts.0, front_distinct xs ys h.1)

-- none before it is the same
pub before_middle : (xs : List (List ℕ)) (x : List ℕ) (ys : List (List ℕ)) → AreDistinct (xs ++ x ∷ ys) → has_text x xs ≡ false
before_middle [] x ys h = refl
before_middle (w ∷ ws) x ys h =
    let test : List ℕ → Bool = λ other. bytes_eq other w in
    let parts = or_parts (list_any test ws) (list_any test (x ∷ ys)) (sym (list_any-append test ws (x ∷ ys)) ∙ h.0) in
    let here = or_parts (bytes_eq x w) (list_any test ys) parts.1 in
    rw (other_way x w here.0) (before_middle ws x ys h.1)

-- a fact of all holds in the middle
pub all_middle : {A : Type 0} (P : A → Type 0) (xs : List A) (x : A) (ys : List A) → AllByRecursion P (xs ++ x ∷ ys) → P x
all_middle P [] x ys h = h.0
all_middle P (w ∷ ws) x ys h = all_middle P ws x ys h.1

-- a fact of all holds at a place
pub all_at : {A : Type 0} (P : A → Type 0) (xs : List A) (k : ℕ) (x : A) → AllByRecursion P xs → slice_get xs k ≡ Some x → P x
all_at P [] k x h e = absurd (none-some x e)
all_at P (w ∷ ws) zero x h e = subst P (same_Some w x e) h.0
all_at P (w ∷ ws) (suc k) x h e = all_at P ws k x h.1 e

-- what isn't there is at no place
absent_at : {A : Type 0} (f : A → List ℕ) (w : List ℕ) (xs : List A) (k : ℕ) (x : A) → has_text w (map f xs) ≡ false → slice_get xs k ≡ Some x → bytes_eq (f x) w ≡ false
absent_at f w [] k x h e = absurd (none-some x e)
absent_at f w (y ∷ ys) zero x h e =
    let parts = or_parts (bytes_eq (f y) w) (has_text w (map f ys)) h in
    ap (λ z. bytes_eq (f z) w) (sym (same_Some y x e)) ∙ parts.0
absent_at f w (y ∷ ys) (suc k) x h e =
    let parts = or_parts (bytes_eq (f y) w) (has_text w (map f ys)) h in
    absent_at f w ys k x parts.1 e

-- how many stand before the first of a name
abbrev place_in : {A : Type 0} → (A → List ℕ) → List ℕ → List A → ℕ
place_in f name xs = position_or_len (λ a. bytes_eq (f a) name) xs

counted : {A : Type 0} (f : A → List ℕ) (xs : List A) (k : ℕ) (x : A) → AreDistinct (map f xs) → slice_get xs k ≡ Some x → place_in f (f x) xs ≡ k
counted f [] k x h e = absurd (none-some x e)
counted f (y ∷ ys) zero x h e =
    let here : bytes_eq (f y) (f x) ≡ true = ap (λ z. bytes_eq (f z) (f x)) (same_Some y x e) ∙ self_same (f x) in
    let stop : Bool → ℕ = λ b. cond (not b) (1 + place_in f (f x) ys) 0 in
    ap stop here
counted f (y ∷ ys) (suc k) x h e =
    let other : bytes_eq (f y) (f x) ≡ false = other_way (f x) (f y) (absent_at f (f y) ys k x h.0 e) in
    let stop : Bool → ℕ = λ b. cond (not b) (1 + place_in f (f x) ys) 0 in
    let more = counted f ys k x h.1 e in
    ap stop other ∙ omega (arith, more)

-- the place of a name is that of the one that has it
pub place_again : {A : Type 0} (f : A → List ℕ) (xs : List A) (k : ℕ) (x : A) → AreDistinct (map f xs) → slice_get xs k ≡ Some x → position (λ a. bytes_eq (f a) (f x)) xs ≡ Some k
place_again f xs k x h e =
    let there = counted f xs k x h e in
    let below = slice_get_within xs k x e in
    let pick : ℕ → Option ℕ = λ n. cond (nat_lt n (length xs)) (Some n) None in
    ap pick there ∙ cond-true (nat_lt k (length xs)) _ _ (lt-ltb k (length xs) below)

-- the back of texts that differ
pub back_distinct : (xs ys : List (List ℕ)) → AreDistinct (xs ++ ys) → AreDistinct ys
back_distinct [] ys h = h
back_distinct (x ∷ xs) ys h = back_distinct xs ys h.1

-- something stands at each place of the list
pub there_is : {A : Type 0} (xs : List A) (k : ℕ) → k < length xs → (x : A) × (slice_get xs k ≡ Some x)
there_is [] k h = absurd (omega arith)
there_is (x ∷ xs) zero h = (x, refl)
there_is (x ∷ xs) (suc k) h = there_is xs k (omega (arith, h))
