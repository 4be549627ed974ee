-- A list of keys in order of last touch: cut to its first keys it moves as the whole does, and a key's place in it is the count of the others.
use Rattle.std.proofs.Common.{◌≡◌, ℕ, zero, suc, Bool, true, false, cond, ◌&&◌, ◌||◌, nat_lt, List, [], ◌∷◌, length, take, refl, sym, ap, ◌∙◌, arith}
use Rattle.std.proofs.lemmas.List.{take-take}
use Rattle.std.proofs.lemmas.Map.Made.{length-from_keys}
use Rattle.std.specs.Cmp.{IsEquivalence}
use Rattle.std.specs.List.{AllByRecursion, IsDistinct}
use Rattle.std.specs.Set.{is_member, remove_key, distinct_count}
use Rattle.accept_cache.specs.Recency.{after_last, by_last_touch, is_held}

-- taking a key out of one key more leaves the same first keys
pub take_remove : {K : Type 0} (test : K → Bool) (n : ℕ) (ks : List K) → take n (remove_key test (take (suc n) ks)) ≡ take n (remove_key test ks)
take_remove test zero ks = refl
take_remove test (suc n) [] = refl
take_remove {K} test (suc n) (k ∷ ks) = by (test k) (take_remove test n ks)
  where
    by : (b : Bool) → take n (remove_key test (take (suc n) ks)) ≡ take n (remove_key test ks)
        → take (suc n) (cond b (take (suc n) ks) (k ∷ remove_key test (take (suc n) ks))) ≡ take (suc n) (cond b ks (k ∷ remove_key test ks))
    by true h = take-take (suc n) (suc n) ks (omega arith)
    by false h = ap (λ l. k ∷ l) h

-- what holds of each key holds of each that is left
pub all_left : {K : Type 0} (P : K → Type 0) (test : K → Bool) (ks : List K) → AllByRecursion P ks → AllByRecursion P (remove_key test ks)
all_left P test [] a = tt
all_left {K} P test (k ∷ ks) a = by (test k) (all_left P test ks a.1)
  where
    by : (b : Bool) → AllByRecursion P (remove_key test ks) → AllByRecursion P (cond b ks (k ∷ remove_key test ks))
    by true r = a.1
    by false r = (a.0, r)

pub all_taken : {K : Type 0} (P : K → Type 0) (n : ℕ) (ks : List K) → AllByRecursion P ks → AllByRecursion P (take n ks)
all_taken P zero ks a = tt
all_taken P (suc n) [] a = tt
all_taken P (suc n) (k ∷ ks) a = (a.0, all_taken P n ks a.1)

-- keys are still distinct once one is taken out, and so are the first of them
pub distinct_left : {K : Type 0} (eq : K → K → Bool) (test : K → Bool) (ks : List K) → IsDistinct eq ks → IsDistinct eq (remove_key test ks)
unfolding IsDistinct
distinct_left eq test [] d = tt
distinct_left {K} eq test (k ∷ ks) d = by (test k) (all_left (λ y. eq k y ≡ false) test ks d.0) (distinct_left eq test ks d.1)
  where
    by : (b : Bool) → AllByRecursion (λ y. eq k y ≡ false) (remove_key test ks) → IsDistinct eq (remove_key test ks) → IsDistinct eq (cond b ks (k ∷ remove_key test ks))
    by true a r = d.1
    by false a r = (a, r)

pub distinct_taken : {K : Type 0} (eq : K → K → Bool) (n : ℕ) (ks : List K) → IsDistinct eq ks → IsDistinct eq (take n ks)
unfolding IsDistinct
distinct_taken eq zero ks d = tt
distinct_taken eq (suc n) [] d = tt
distinct_taken eq (suc n) (k ∷ ks) d = (all_taken (λ y. eq k y ≡ false) n ks d.0, distinct_taken eq n ks d.1)

module _ {K : Type 0} (eq : K → K → Bool) (laws : IsEquivalence eq) where
  -- where a key is taken out of distinct keys, none that is left is equal to it
  pub apart_left : (key : K) (ks : List K) → IsDistinct eq ks → AllByRecursion (λ y. eq key y ≡ false) (remove_key (eq key) ks)
  unfolding IsDistinct
  apart_left key [] d = tt
  apart_left key (k ∷ ks) d = by (eq key k) refl (apart_left key ks d.1)
    where
      carried : eq key k ≡ true → (ys : List K) → AllByRecursion (λ y. eq k y ≡ false) ys → AllByRecursion (λ y. eq key y ≡ false) ys
      carried t [] a = tt
      carried t (y ∷ ys) a = (laws.congr key k y t ∙ a.0, carried t ys a.1)

      by : (b : Bool) → eq key k ≡ b → AllByRecursion (λ y. eq key y ≡ false) (remove_key (eq key) ks) → AllByRecursion (λ y. eq key y ≡ false) (cond b ks (k ∷ remove_key (eq key) ks))
      by true t r = carried t ks d.0
      by false t r = (t, r)

  -- in the order of last touch each key stands once
  pub IsDistinct-by_last_touch : (keys : List K) → IsDistinct eq (by_last_touch eq keys)
  unfolding IsDistinct
  IsDistinct-by_last_touch [] = tt
  IsDistinct-by_last_touch (k ∷ keys) = let rest = IsDistinct-by_last_touch keys in
      (apart_left k (by_last_touch eq keys) rest, distinct_left eq (eq k) (by_last_touch eq keys) rest)

  -- another key is a member as before
  pub is_member-remove_key : (key q : K) (ks : List K) → eq q key ≡ false → is_member eq (remove_key (eq key) ks) q ≡ is_member eq ks q
  is_member-remove_key key q [] n = refl
  is_member-remove_key key q (k ∷ ks) n = by (eq key k) (eq q k) refl refl (is_member-remove_key key q ks n)
    where
      by : (b c : Bool) → eq key k ≡ b → eq q k ≡ c → is_member eq (remove_key (eq key) ks) q ≡ is_member eq ks q
          → is_member eq (cond b ks (k ∷ remove_key (eq key) ks)) q ≡ (c || is_member eq ks q)
      by true true t u h = let back = laws.congr q k key u in let turned = laws.symm k key in cc
      by true false t u h = refl
      by false c t u h = ap (λ d. d || is_member eq (remove_key (eq key) ks) q) u ∙ ap (λ d. c || d) h

  -- each key that was touched, and no other, stands in the order of last touch
  pub is_member-by_last_touch : (keys : List K) (q : K) → is_member eq (by_last_touch eq keys) q ≡ is_member eq keys q
  is_member-by_last_touch [] q = refl
  is_member-by_last_touch (k ∷ keys) q = by (eq q k) refl (is_member-by_last_touch keys q)
    where
      by : (b : Bool) → eq q k ≡ b → is_member eq (by_last_touch eq keys) q ≡ is_member eq keys q → (b || is_member eq (remove_key (eq k) (by_last_touch eq keys)) q) ≡ (b || is_member eq keys q)
      by true t h = refl
      by false t h = is_member-remove_key k q (by_last_touch eq keys) t ∙ h

  -- where another key is taken out, it is taken out of those before q
  pub after_last-remove_key : (q key : K) (ks : List K) → eq q key ≡ false → after_last eq q (remove_key (eq key) ks) ≡ remove_key (eq key) (after_last eq q ks)
  after_last-remove_key q key [] n = refl
  after_last-remove_key q key (k ∷ ks) n = by (eq key k) (eq q k) refl refl (after_last-remove_key q key ks n)
    where
      by : (b c : Bool) → eq key k ≡ b → eq q k ≡ c → after_last eq q (remove_key (eq key) ks) ≡ remove_key (eq key) (after_last eq q ks)
          → after_last eq q (cond b ks (k ∷ remove_key (eq key) ks)) ≡ remove_key (eq key) (cond c [] (k ∷ after_last eq q ks))
      by true true t u h = let back = laws.congr q k key u in let turned = laws.symm k key in cc
      by true false t u h = sym (ap (λ d. cond d (after_last eq q ks) (k ∷ remove_key (eq key) (after_last eq q ks))) t)
      by false true t u h = ap (λ d. cond d [] (k ∷ after_last eq q (remove_key (eq key) ks))) u
      by false false t u h = ap (λ d. cond d [] (k ∷ after_last eq q (remove_key (eq key) ks))) u ∙ ap (λ l. k ∷ l) h ∙ sym (ap (λ d. cond d (after_last eq q ks) (k ∷ remove_key (eq key) (after_last eq q ks))) t)

  -- the keys before q in the order of last touch are those touched since its last touch, each once
  pub after_last-by_last_touch : (q : K) (keys : List K) → after_last eq q (by_last_touch eq keys) ≡ by_last_touch eq (after_last eq q keys)
  after_last-by_last_touch q [] = refl
  after_last-by_last_touch q (k ∷ keys) = by (eq q k) refl (after_last-by_last_touch q keys)
    where
      by : (b : Bool) → eq q k ≡ b → after_last eq q (by_last_touch eq keys) ≡ by_last_touch eq (after_last eq q keys)
          → cond b [] (k ∷ after_last eq q (remove_key (eq k) (by_last_touch eq keys))) ≡ by_last_touch eq (cond b [] (k ∷ after_last eq q keys))
      by true t h = refl
      by false t h = ap (λ l. k ∷ l) (after_last-remove_key q k (by_last_touch eq keys) t ∙ ap (remove_key (eq k)) h)

  -- the order of last touch is as long as there are distinct keys
  pub length-by_last_touch : (keys : List K) → length (by_last_touch eq keys) ≡ distinct_count eq keys
  length-by_last_touch keys = length-from_keys laws (by_last_touch eq keys) keys (IsDistinct-by_last_touch keys) (is_member-by_last_touch keys)

  -- a key is among the first of a list where it stands there and few stand before it
  pub is_member-take : (n : ℕ) (ks : List K) (q : K) → is_member eq (take n ks) q ≡ (is_member eq ks q && nat_lt (length (after_last eq q ks)) n)
  is_member-take zero [] q = refl
  is_member-take zero (k ∷ ks) q = grind arith
  is_member-take (suc n) [] q = refl
  is_member-take (suc n) (k ∷ ks) q = by (eq q k) (is_member-take n ks q)
    where
      by : (b : Bool) → is_member eq (take n ks) q ≡ (is_member eq ks q && nat_lt (length (after_last eq q ks)) n)
          → (b || is_member eq (take n ks) q) ≡ ((b || is_member eq ks q) && nat_lt (length (cond b [] (k ∷ after_last eq q ks))) (suc n))
      by true h = grind arith
      by false h = grind arith

  -- the first `room` keys in order of last touch are those held: the place in the list is the count of the others
  pub is_member-is_held : (room : ℕ) (keys : List K) (q : K) → is_member eq (take room (by_last_touch eq keys)) q ≡ is_held eq room keys q
  is_member-is_held room keys q =
      is_member-take room (by_last_touch eq keys) q
      ∙ ap (λ b. b && nat_lt (length (after_last eq q (by_last_touch eq keys))) room) (is_member-by_last_touch keys q)
      ∙ ap (λ n. is_member eq keys q && nat_lt n room) (ap length (after_last-by_last_touch q keys) ∙ length-by_last_touch (after_last eq q keys))
