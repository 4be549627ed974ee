-- The steps of a chain, one after another, and the sum over digits.
use Rattle.std.proofs.Common.{◌≡◌, ℕ, zero, suc, ◌+◌, ◌-◌, ◌*◌, ◌^◌, ◌<◌, ◌≤◌, List, length, refl, arith, add-one, add-zero, zero-add}
use Rattle.sha2.proofs.Facts256.{length-sha256}
use Rattle.lmots_core.specs.Chains.{coefficient, shortfall, step, steps}

-- no step is left
pub steps_done : (p : List ℕ) (a b : ℕ) (x : List ℕ) → b ≤ a → steps p a (b - a) x ≡ x
unfolding steps
steps_done p a b x h = let none : b - a ≡ 0 = omega arith in rw none

-- the first step, and then the rest
pub steps_more : (p : List ℕ) (a b : ℕ) (x : List ℕ) → a < b → steps p a (b - a) x ≡ steps p (a + 1) (b - (a + 1)) (step p a x)
unfolding steps
steps_more p a b x h = let one : b - a ≡ suc (b - (a + 1)) = omega arith in rw one

-- m steps and then n more
pub steps-append : (p : List ℕ) (a m n : ℕ) (x : List ℕ) → steps p (a + m) n (steps p a m x) ≡ steps p a (m + n) x
unfolding steps
steps-append p a zero n x = rw (add-zero, zero-add)
steps-append p a (suc m) n x =
    let l : a + suc m ≡ a + 1 + m = omega arith in
    let r : suc m + n ≡ suc (m + n) = omega arith in
    rw (l, r) (steps-append p (a + 1) m n (step p a x))

-- as far as d, and then on to g
pub steps_through : (p : List ℕ) (d g : ℕ) (x : List ℕ) → d ≤ g → steps p d (g - d) (steps p 0 (d - 0) x) ≡ steps p 0 (g - 0) x
steps_through p d g x h =
    let first : d - 0 ≡ d = omega arith in
    let place : 0 + d ≡ d = omega arith in
    let all : d + (g - d) ≡ g - 0 = omega arith in
    let e = steps-append p 0 d (g - d) x in
    cc

-- steps keep the length of a digest
pub length-steps : (p : List ℕ) (a n : ℕ) (x : List ℕ) → length x ≡ 32 → length (steps p a n x) ≡ 32
unfolding steps
length-steps p a zero x h = h
length-steps p a (suc n) x h = length-steps p (a + 1) n (step p a x) (length-sha256 _)

-- one digit more
pub shortfall_more : (s : List ℕ) (w i : ℕ) → shortfall s w (i + 1) ≡ shortfall s w i + (2 ^ w - 1 - coefficient s i w)
unfolding shortfall
shortfall_more s w i = rw add-one

pub shortfall_none : (s : List ℕ) (w : ℕ) → shortfall s w 0 ≡ 0
unfolding shortfall
shortfall_none s w = refl

-- a sum of terms that are at most g
pub below_more : (g a b i : ℕ) → a ≤ g * i → b ≤ g → a + b ≤ g * (i + 1)
below_more g a b i h k = omega arith
