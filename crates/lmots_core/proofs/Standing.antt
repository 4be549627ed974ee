-- Chains that go on side by side.
use Rattle.std.proofs.Common.{◌≡◌, ℕ, zero, suc, ◌+◌, ◌-◌, ◌<◌, ◌≤◌, ◌≢◌, ◌⊎◌, inl, inr, List, [], ◌∷◌, ◌++◌, length, sym, ◌∙◌, arith, slice_index, slice_index_or, slice_set, take, replicate}
use Rattle.std.specs.Int.{w16, to_be_bytes}
use Rattle.std.proofs.lemmas.List.{get_or-set_same, get_or-set_other, get_or-replicate, length-set, set_past, take-replicate}
use Rattle.std.proofs.lemmas.Bool.{cases_lt, cases_order}
use Rattle.sha2.specs.Sha256.{digest_bytes}
use Rattle.lmots_core.specs.Chains.{step, steps}
use Rattle.lmots_core.specs.Standing.{IsOpen, Stand, StandsAt, left}
use Rattle.lmots_core.proofs.Steps.{steps_done, steps_more}

-- once a step is taken, the others lead where all did
pub step_leads : (p : List ℕ) (a b : ℕ) (x y goal : List ℕ) → a < b → y ≡ step p a x → steps p a (b - a) x ≡ goal → steps p (a + 1) (b - (a + 1)) y ≡ goal
step_leads p a b x y goal lt is h = rw is (sym (steps_more p a b x lt) ∙ h)

differs : (j k : ℕ) → (j < k) ⊎ (k < j) → j ≢ k
differs j k (inl lt) = omega arith
differs j k (inr lt) = omega arith

-- a number and a value of chain k are written
stands_set : (p from to : List ℕ) (goal : ℕ → List ℕ) (values : List (List ℕ)) (k n j : ℕ) (x : List ℕ)
    → k < length from → k < length values
    → steps (p ++ to_be_bytes w16 k) n (slice_index to k - n) (digest_bytes x 8) ≡ goal k
    → StandsAt p from to goal values j → StandsAt p (slice_set from k n) to goal (slice_set values k x) j
stands_set p from to goal values k n j x b c h stands =
    elim (cases_order j k) [
      | inl same ↦
          let number : slice_index (slice_set from k n) k ≡ n = get_or-set_same from k n 0 b in
          let value : slice_index_or (slice_set values k x) k [] ≡ x = get_or-set_same values k x [] c in
          rw (same, number, value) h
      | inr other ↦
          let number : slice_index (slice_set from k n) j ≡ slice_index from j = get_or-set_other from k j n 0 (differs j k other) in
          let value : slice_index_or (slice_set values k x) j [] ≡ slice_index_or values j [] = get_or-set_other values k j x [] (differs j k other) in
          rw (number, value) stands
    ]

pub stand_set : (p from to : List ℕ) (goal : ℕ → List ℕ) (values : List (List ℕ)) (k n : ℕ) (x : List ℕ)
    → k < length from → k < length values
    → steps (p ++ to_be_bytes w16 k) n (slice_index to k - n) (digest_bytes x 8) ≡ goal k
    → Stand p from to goal values → Stand p (slice_set from k n) to goal (slice_set values k x)
stand_set p from to goal values k n x b c h stand = λ j lt.
    stands_set p from to goal values k n j x b c h (stand j (omega (arith, length-set values k x)))

-- a number of `from` that is a step further than `old` there, and the step's value, are written
pub stand_step : (p from to : List ℕ) (goal : ℕ → List ℕ) (old : List ℕ) (before values : List (List ℕ)) (k : ℕ) (x : List ℕ)
    → k < length old → length from ≡ length old → length values ≡ length before → length old ≡ length before
    → slice_index old k < slice_index to k
    → digest_bytes x 8 ≡ step (p ++ to_be_bytes w16 k) (slice_index old k) (digest_bytes (slice_index_or before k []) 8)
    → Stand p old to goal before
    → Stand p from to goal values → Stand p (slice_set from k (slice_index old k + 1)) to goal (slice_set values k x)
stand_step p from to goal old before values k x b lf lv l further is stood stand =
    stand_set p from to goal values k (slice_index old k + 1) x (omega arith) (omega arith)
    (step_leads (p ++ to_be_bytes w16 k) (slice_index old k) (slice_index to k) (digest_bytes (slice_index_or before k []) 8) (digest_bytes x 8) (goal k) further is (stood k (omega arith))) stand

-- at the end nothing is left
pub stands_done : (p from to : List ℕ) (goal : ℕ → List ℕ) (values : List (List ℕ)) (k : ℕ) → slice_index to k ≤ slice_index from k
    → StandsAt p from to goal values k → digest_bytes (slice_index_or values k []) 8 ≡ goal k
stands_done p from to goal values k h stands = sym (steps_done (p ++ to_be_bytes w16 k) (slice_index from k) (slice_index to k) _ h) ∙ stands

-- a number that doesn't fall leaves no more steps
pub left_set : (from to : List ℕ) (k n : ℕ) → slice_index from k ≤ n → left (slice_set from k n) to ≤ left from to
unfolding left
left_set [] to k n h = omega arith
left_set (a ∷ from) [] zero n h = omega arith
left_set (a ∷ from) [] (suc k) n h = omega arith
left_set (a ∷ from) (b ∷ to) zero n h = omega arith
left_set (a ∷ from) (b ∷ to) (suc k) n h = omega (arith, left_set from to k n h)

-- a step of a chain that isn't at its end leaves fewer
pub left_step : (from to : List ℕ) (k : ℕ) → k < length from → slice_index from k < slice_index to k → left (slice_set from k (slice_index from k + 1)) to < left from to
unfolding left
left_step [] to k b h = absurd (omega arith)
left_step (a ∷ from) [] k b h = absurd (omega arith)
left_step (a ∷ from) (b ∷ to) zero c h = omega arith
left_step (a ∷ from) (b ∷ to) (suc k) c h = omega (arith, left_step from to k (omega arith) h)

-- no chain has come more than a step further
abbrev pub Near : List ℕ → List ℕ → Type 0
Near from now = (k : ℕ) → slice_index now k ≤ slice_index from k + 1

near_there : (from now : List ℕ) (k : ℕ) → Near from now → slice_index (slice_set now k (slice_index from k + 1)) k ≤ slice_index from k + 1
near_there from now k near =
    elim (cases_lt k (length now)) [
      | inl inside ↦ let written : slice_index (slice_set now k (slice_index from k + 1)) k ≡ slice_index from k + 1 = get_or-set_same now k (slice_index from k + 1) 0 inside in omega (arith, written)
      | inr past ↦ let as_before : slice_set now k (slice_index from k + 1) ≡ now = set_past now k (slice_index from k + 1) past in rw as_before (near k)
    ]

near_at : (from now : List ℕ) (k j : ℕ) → Near from now → slice_index (slice_set now k (slice_index from k + 1)) j ≤ slice_index from j + 1
near_at from now k j near =
    elim (cases_order j k) [
      | inl same ↦ rw same (near_there from now k near)
      | inr other ↦ let as_before : slice_index (slice_set now k (slice_index from k + 1)) j ≡ slice_index now j = get_or-set_other now k j (slice_index from k + 1) 0 (differs j k other) in rw as_before (near j)
    ]

pub near_set : (from now : List ℕ) (k : ℕ) → Near from now → Near from (slice_set now k (slice_index from k + 1))
near_set from now k near = λ j. near_at from now k j near

-- four steps leave fewer
pub left_four : (from to : List ℕ) (a b c d : ℕ) → a < length from → slice_index from a < slice_index to a
    → left (slice_set (slice_set (slice_set (slice_set from a (slice_index from a + 1)) b (slice_index from b + 1)) c (slice_index from c + 1)) d (slice_index from d + 1)) to < left from to
left_four from to a b c d inside further =
    let one = slice_set from a (slice_index from a + 1) in
    let two = slice_set one b (slice_index from b + 1) in
    let three = slice_set two c (slice_index from c + 1) in
    let near_one = near_set from from a (λ j. omega arith) in
    let near_two = near_set from one b near_one in
    let near_three = near_set from two c near_two in
    let first = left_step from to a inside further in
    let second = left_set one to b (slice_index from b + 1) (near_one b) in
    let third = left_set two to c (slice_index from c + 1) (near_two c) in
    let fourth = left_set three to d (slice_index from d + 1) (near_three d) in
    omega (arith, first, second, third, fourth)

-- the chains below n have their values
abbrev pub Filled : (ℕ → List ℕ) → ℕ → List (List ℕ) → Type 0
Filled f n values = (k : ℕ) → k < n → k < length values → digest_bytes (slice_index_or values k []) 8 ≡ f k

pub filled_more : (f : ℕ → List ℕ) (n : ℕ) (values : List (List ℕ)) (value : List ℕ) → digest_bytes value 8 ≡ f n → Filled f n values → Filled f (n + 1) (slice_set values n value)
filled_more f n values value is h k lt b =
    let len = length-set values n value in
    elim (cases_lt k n) [
      | inl below ↦
          let other : slice_index_or (slice_set values n value) k [] ≡ slice_index_or values k [] = get_or-set_other values n k value [] (omega arith) in
          rw other (h k below (omega arith))
      | inr ge ↦
          let here : k ≡ n = omega arith in
          let written : slice_index_or (slice_set values n value) n [] ≡ value = get_or-set_same values n value [] (omega arith) in
          rw (here, written) is
    ]

pub length-four : (values : List (List ℕ)) (a b c d : ℕ) (w x y z : List ℕ) → length (slice_set (slice_set (slice_set (slice_set values a w) b x) c y) d z) ≡ length values
length-four values a b c d w x y z =
    length-set (slice_set (slice_set (slice_set values a w) b x) c y) d z
    ∙ length-set (slice_set (slice_set values a w) b x) c y
    ∙ length-set (slice_set values a w) b x
    ∙ length-set values a w

-- four more of them
pub filled_four : (f : ℕ → List ℕ) (n m : ℕ) (values : List (List ℕ)) (w x y z : List ℕ) → n + 4 ≡ m
    → digest_bytes w 8 ≡ f n → digest_bytes x 8 ≡ f (n + 1) → digest_bytes y 8 ≡ f (n + 2) → digest_bytes z 8 ≡ f (n + 3)
    → Filled f n values → Filled f m (slice_set (slice_set (slice_set (slice_set values n w) (n + 1) x) (n + 2) y) (n + 3) z)
filled_four f n m values w x y z e hw hx hy hz h =
    let second : n + 1 + 1 ≡ n + 2 = omega arith in
    let third : n + 2 + 1 ≡ n + 3 = omega arith in
    let fourth : n + 3 + 1 ≡ m = omega arith in
    let one = filled_more f n values w hw h in
    let two = rw second at (filled_more f (n + 1) _ x hx one) in
    let three = rw third at (filled_more f (n + 2) _ y hy two) in
    rw fourth at (filled_more f (n + 3) _ z hz three)

-- one digit more
pub digits_more : (f : ℕ → ℕ) (n : ℕ) (xs : List ℕ) (x : ℕ) → n < length xs → x ≡ f n → ((k : ℕ) → k < n → slice_index xs k ≡ f k) → (k : ℕ) → k < n + 1 → slice_index (slice_set xs n x) k ≡ f k
digits_more f n xs x b is h k lt =
    elim (cases_lt k n) [
      | inl below ↦ get_or-set_other xs n k x 0 (omega arith) ∙ h k below
      | inr ge ↦ let here : k ≡ n = omega arith in rw here (get_or-set_same xs n x 0 b ∙ is)
    ]

-- each place in the front of an array of one number
pub front_same : (m n k y : ℕ) (xs : List ℕ) → xs ≡ take m (replicate n y) → m ≤ n → k < m → slice_index xs k ≡ y
front_same m n k y xs e h b = rw (e, take-replicate m n y h) (get_or-replicate m k y 0 b)

-- where no chain is found that isn't at its end, each is
pub ended : (from to : List ℕ) (k next : ℕ) → k < length from → length from ≤ next → ((k : ℕ) → IsOpen from to k → next < length from) → slice_index to k ≤ slice_index from k
ended from to k next inside none found =
    elim (cases_lt (slice_index from k) (slice_index to k)) [
      | inl lt ↦ let less = found k (inside, lt) in absurd (omega (arith, less))
      | inr ge ↦ ge
    ]
