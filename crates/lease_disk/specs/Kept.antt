-- What stays in each image over a call, where images are those at its start, and later ones those of each moment of it.
use Rattle.std.specs.Prelude.{◌≡◌, ◌⊎◌, ℕ, ◌+◌, ◌<◌, ◌≤◌, max, List, [], ◌∷◌, length, slice_index, Option, Some}
use Rattle.std.proofs.Common.{refl, arith}
use Rattle.lease_disk.specs.Images.{overwritten, Torn}

-- an image after a write of so many bytes that a crash may have cut short
abbrev pub AfterWrite : (List ℕ → Type 0) → ℕ → ℕ → List ℕ → Type 0
AfterWrite images at count image = (before : List ℕ) × images before × Torn at count before image

-- the byte is there and has this value
abbrev pub Stands : ℕ → ℕ → List ℕ → Type 0
Stands at byte image = (at < length image) × (slice_index image at ≡ byte)

-- a byte that stands with one value in every image stands so in every later one
abbrev pub KeepsByte : ℕ → (List ℕ → Type 0) → (List ℕ → Type 0) → Type 0
KeepsByte at images later = (byte : ℕ) → ((image : List ℕ) → images image → Stands at byte image) → (image : List ℕ) → later image → Stands at byte image

-- no later image is longer than the longest, or than so many bytes
abbrev pub NoLongerThan : ℕ → (List ℕ → Type 0) → (List ℕ → Type 0) → Type 0
NoLongerThan size images later = (longest : ℕ) → ((image : List ℕ) → images image → length image ≤ longest) → (image : List ℕ) → later image → length image ≤ max longest size

-- the bytes after a gated write: the body stands past the gate
abbrev pub gated : ℕ → ℕ → List ℕ → List ℕ → List ℕ
gated at gate body file = overwritten (overwritten file (at + 1) body) at (gate ∷ [])

-- an image during a gated write: the body may be cut short and the gate is as it was, or the body stands whole and the
-- gate may be cut short
abbrev pub WhileGated : (List ℕ → Type 0) → Option (List ℕ) → ℕ → List ℕ → List ℕ → Type 0
WhileGated images content at body image =
    AfterWrite images (at + 1) (length body) image ⊎ ((file : List ℕ) × (content ≡ Some file) × Torn at 1 (overwritten file (at + 1) body) image)

-- no change is a write that a crash cut short
pub torn_same : (at count : ℕ) (bytes : List ℕ) → Torn at count bytes bytes
torn_same at count bytes = record { no_shorter = omega arith; no_longer = omega arith; outside = λ k there out. refl }
