-- The record of what was written to a disk since it was made, the newest entry first, and the images that follow from
-- it. The base is the bytes that the disk was made with.
use Rattle.std.specs.Prelude.{◌≡◌, ◌⊎◌, ℕ, ◌+◌, ◌<◌, ◌≤◌, max, Bool, true, false, ◌&&◌, ◌||◌, nat_lt, nat_le, IsTrue, List, [], ◌∷◌, length, map, slice_index, if◌then◌else◌}
use Rattle.std.specs.List.{range_with_len}
use Rattle.lease_disk.specs.Images.{overwritten}

-- a write at an offset of these bytes, and whether it was done; or a sync that succeeded
pub data Act : Type 0 where
  Wrote : ℕ → List ℕ → Bool → Act
  Synced : Act

-- the bytes as they read: a write that failed changes nothing that is read
abbrev pub content_of : List ℕ → List Act → List ℕ
content_of base [] = base
content_of base (Wrote at bytes done ∷ past) = if done then overwritten (content_of base past) at bytes else content_of base past
content_of base (Synced ∷ past) = content_of base past

-- the bytes as they read at the last sync
abbrev pub synced_of : List ℕ → List Act → List ℕ
synced_of base [] = base
synced_of base (Wrote at bytes done ∷ past) = synced_of base past
synced_of base (Synced ∷ past) = content_of base past

-- the greatest length since the last sync, where a write that failed counts with the length that it would have given
abbrev pub reach_of : List ℕ → List Act → ℕ
reach_of base [] = length base
reach_of base (Wrote at bytes done ∷ past) = max (reach_of base past) (at + length bytes)
reach_of base (Synced ∷ past) = length (content_of base past)

-- whether the byte lies in a range that was written since the last sync
abbrev pub is_written_at : List Act → ℕ → Bool
is_written_at [] k = false
is_written_at (Wrote at bytes done ∷ past) k = (nat_le at k && nat_lt k (at + length bytes)) || is_written_at past k
is_written_at (Synced ∷ past) k = false

-- whether the byte waits for a sync: it was written since the last one, or it lies past what was synced, as a gap does
-- that a write filled
abbrev pub is_pending_at : List ℕ → List Act → ℕ → Bool
is_pending_at base past k = is_written_at past k || nat_le (length (synced_of base past)) k

-- the byte waits for a sync
abbrev pub IsPending : List ℕ → List Act → ℕ → Type 0
IsPending base past k = IsTrue (is_pending_at base past k)

-- a crash may leave this: any length that was reached since the last sync, and what was synced wherever no write is pending
pub record IsImage (base : List ℕ) (past : List Act) (image : List ℕ) : Type 0 where
  pub no_shorter : length (synced_of base past) ≤ length image
  pub no_longer : length image ≤ reach_of base past
  pub firm : (k : ℕ) → k < length image → ¬ IsPending base past k → slice_index image k ≡ slice_index (synced_of base past) k

-- a crash since the record had so many entries may have left this
abbrev pub WasImage : List ℕ → ℕ → List Act → List ℕ → Type 0
WasImage base since [] image = IsImage base [] image
WasImage base since (entry ∷ past) image = IsImage base (entry ∷ past) image ⊎ ((since ≤ length past) × WasImage base since past image)

-- whether a write waits for a sync
abbrev pub is_pending : List Act → Bool
is_pending [] = false
is_pending (Wrote at bytes done ∷ past) = true
is_pending (Synced ∷ past) = false

-- how many bytes the record keeps
abbrev pub kept_bytes : List Act → ℕ
kept_bytes [] = 0
kept_bytes (Wrote at bytes done ∷ past) = length bytes + kept_bytes past
kept_bytes (Synced ∷ past) = kept_bytes past

-- the bytes as they read, but this byte wherever one waits for a sync
abbrev pub filled : List ℕ → List Act → ℕ → List ℕ
filled base past fill = map (λ k. if is_pending_at base past k then fill else slice_index (content_of base past) k) (range_with_len 0 (length (content_of base past)))
