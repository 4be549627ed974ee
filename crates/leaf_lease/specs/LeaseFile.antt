-- A lease file: a gate, the identifier of a key, its height, and a byte for each of its leaves.
use Rattle.std.specs.Prelude.{◌≡◌, ◌≢◌, ℕ, ◌+◌, ◌^◌, ◌<◌, ◌≤◌, Bool, ◌&&◌, ◌||◌, nat_le, ◌==◌, List, ◌∷◌, ◌++◌, length, take, drop, replicate, slice_index}

-- the gate of a file that is formatted
abbrev pub open_gate : ℕ
open_gate = 0xa5

-- the leaves begin past the gate, the 16 bytes of the identifier and the height
abbrev pub head_size : ℕ
head_size = 18

-- how many bytes a key of that height takes, one for each leaf
abbrev pub file_size : ℕ → ℕ
file_size height = head_size + 2 ^ height

-- the leaf's byte is there and is not 0
pub record IsGone (leaf : ℕ) (image : List ℕ) : Type 0 where
  pub there : head_size + leaf < length image
  pub nonzero : slice_index image (head_size + leaf) ≢ 0

-- the file has a head, and its gate is open
pub record IsOpen (image : List ℕ) : Type 0 where
  pub there : head_size ≤ length image
  pub gate : slice_index image 0 ≡ open_gate

-- the identifier that the file keeps
abbrev pub kept_id : List ℕ → List ℕ
kept_id image = take 16 (drop 1 image)

-- the height that the file keeps
abbrev pub kept_height : List ℕ → ℕ
kept_height image = slice_index image 17

-- the file keeps this key
pub record HasKey (id : List ℕ) (height : ℕ) (image : List ℕ) : Type 0 where
  pub same_id : kept_id image ≡ id
  pub same_height : kept_height image ≡ height

-- what is written past the gate of a fresh file: no leaf is gone
abbrev pub fresh_rest : List ℕ → ℕ → List ℕ
fresh_rest id height = id ++ height ∷ replicate (2 ^ height) 0

-- a file that is freshly formatted
abbrev pub fresh_file : List ℕ → ℕ → List ℕ
fresh_file id height = open_gate ∷ fresh_rest id height

-- the leaf is one past the last that is gone, or 0
pub record IsFirstFree (height : ℕ) (image : List ℕ) (leaf : ℕ) : Type 0 where
  pub within : leaf ≤ 2 ^ height
  pub free : (later : ℕ) → leaf ≤ later → later < 2 ^ height → slice_index image (head_size + later) ≡ 0
  pub last_gone : (last : ℕ) → leaf ≡ last + 1 → slice_index image (head_size + last) ≢ 0

-- the file is formatted for this key, it has a byte for each leaf, and this leaf is the first that is free
pub record IsLeaseFile (id : List ℕ) (height next : ℕ) (image : List ℕ) : Type 0 where
  pub is_open : IsOpen image
  pub has_key : HasKey id height image
  pub whole : file_size height ≤ length image
  pub first_free : IsFirstFree height image next

-- whether the file has a head and its gate is open
abbrev pub is_open : List ℕ → Bool
is_open file = nat_le head_size (length file) && (slice_index file 0 == open_gate)

-- whether the gate is to be closed first: the file is empty, or too short for its open gate
abbrev pub needs_shut : List ℕ → Bool
needs_shut file = (length file == 0) || (slice_index file 0 == open_gate)
