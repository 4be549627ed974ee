-- What a crash may leave of a disk: its images, at one moment and over a span of time.
use Rattle.std.specs.Prelude.{◌≡◌, ◌⊎◌, ◌↔◌, ℕ, ◌+◌, ◌-◌, ◌<◌, ◌≤◌, max, List, ◌++◌, length, take, drop, replicate, slice_index, Option, Some, None}

-- these bytes with others written at an offset, and a gap past their end filled with 0
abbrev pub overwritten : List ℕ → ℕ → List ℕ → List ℕ
overwritten bytes at written = take at bytes ++ (replicate (at - length bytes) 0 ++ (written ++ drop (at + length written) bytes))

-- after a write of so many bytes that a crash cuts short: any bytes in its range and past the old end, the same elsewhere
pub record Torn (at count : ℕ) (old new : List ℕ) : Type 0 where
  pub no_shorter : length old ≤ length new
  pub no_longer : length new ≤ max (length old) (at + count)
  pub outside : (k : ℕ) → k < length old → (k < at) ⊎ (at + count ≤ k) → slice_index new k ≡ slice_index old k

-- each new image is an old one after a step
abbrev pub ComesFrom : (List ℕ → List ℕ → Type 0) → (List ℕ → Type 0) → (List ℕ → Type 0) → Type 0
ComesFrom step old new = (image : List ℕ) → new image → (before : List ℕ) × old before × step before image

-- both have the same images
abbrev pub SameImages : (List ℕ → Type 0) → (List ℕ → Type 0) → Type 0
SameImages old new = (image : List ℕ) → new image ↔ old image

-- content is told after a step exactly where it was told before it, and then the step leads from the one to the other
abbrev pub Told : (List ℕ → List ℕ → Type 0) → Option (List ℕ) → Option (List ℕ) → Type 0
Told step None None = Unit {0}
Told step (Some old) (Some new) = step old new
Told step None (Some new) = ⊥
Told step (Some old) None = ⊥

-- A call that only looks: the content, the clock and every image stay.
pub record OnlyLooks {D : Type 0} (content : D → Option (List ℕ)) (may_leave : D → List ℕ → Type 0) (clock : D → ℕ) (during : D → ℕ → List ℕ → Type 0) (old new : D) : Type 0 where
  pub same_content : content new ≡ content old
  pub same_images : SameImages (may_leave old) (may_leave new)
  pub same_clock : clock new ≡ clock old
  pub same_past : (t : ℕ) → SameImages (during old t) (during new t)

-- A call that may change images: the clock rises by at most one, and by one where they change. What a crash since
-- an earlier moment may have left is what it was before the call, and what a crash may leave now.
pub record Elapses {D : Type 0} (may_leave : D → List ℕ → Type 0) (clock : D → ℕ) (during : D → ℕ → List ℕ → Type 0) (old new : D) : Type 0 where
  pub later : clock old ≤ clock new
  pub by_one : clock new ≤ clock old + 1
  pub still : clock new ≡ clock old → SameImages (may_leave old) (may_leave new)
  pub nothing_else : (t : ℕ) (image : List ℕ) → t ≤ clock old → during new t image → during old t image ⊎ may_leave new image
  pub keeps : (t : ℕ) (image : List ℕ) → t ≤ clock old → during old t image → during new t image

-- Each image of a moment since the old disk has the property, and a run that began earlier adds no other image.
pub record AtEachMoment {D : Type 0} (clock : D → ℕ) (during : D → ℕ → List ℕ → Type 0) (old new : D) (property : List ℕ → Type 0) : Type 0 where
  pub later : clock old ≤ clock new
  pub each : (image : List ℕ) → during new (clock old) image → property image
  pub earlier : (t : ℕ) (image : List ℕ) → t ≤ clock old → during new t image → during old t image ⊎ property image
