-- What comes of signing a record, by the lease file as it was.
use Rattle.std.specs.Prelude.{◌≡◌, ◌≢◌, ◌⊎◌, ℕ, zero, suc, ◌+◌, ◌^◌, ◌<◌, ◌≤◌, ◌==◌, ◌&&◌, Bool, true, false, not, nat_lt, if◌then◌else◌, List, [], ◌∷◌, ◌++◌, length, slice_index, Option, Some, None, Result, Ok, Err, IfOk, OnOk, option_map}
use Rattle.std.specs.Option.{ForSome}
use Rattle.std.specs.Str.{bytes_eq}
use Rattle.hex.specs.Hex.{encode_lower}
use Rattle.lms_core.specs.Parameters.{leaves_of, levels_of}
use Rattle.lms_core.specs.Tree.{Key, identifier_of, public_key_of, signature_of}
use Rattle.lease_disk.specs.Images.{AtEachMoment, overwritten}
use Rattle.lease_disk.specs.Kept.{AfterWrite, KeepsByte, NoLongerThan}
use Rattle.leaf_lease.specs.Kept.{KeepsGone}
use Rattle.leaf_lease.specs.LeaseFile.{IsGone, is_open, kept_id, kept_height, file_size, head_size}
use Rattle.aip_registry.specs.Record.{record_of, record_text_of}
use Rattle.aip_registry.specs.declared.records.Record.{Record}
use Rattle.record_signer.specs.declared.faults.SigningFault.{SigningFault}
use Rattle.record_signer.specs.declared.faults.SigningFault.TheVariants as fault

-- ## By the file

-- the line of hex of a record that a leaf of a key signed
abbrev pub signed_line : Key → ℕ → Record → List ℕ
signed_line key leaf r = encode_lower (record_of r (public_key_of key) (signature_of key leaf (record_text_of r))) ++ (10 ∷ [])

-- one past the last leaf below a number that is gone, or 0 where none is
unfoldable pub next_below : List ℕ → ℕ → ℕ
next_below file zero = 0
next_below file (suc leaf) = if slice_index file (head_size + leaf) == 0 then next_below file leaf else suc leaf

-- the leaf that signs next: one past the last of the key's that is gone, or 0
abbrev pub next_leaf : Key → List ℕ → ℕ
next_leaf key file = next_below file (leaves_of key.height)

-- the same where the file is told
abbrev pub leaf_of : Key → Option (List ℕ) → ℕ
leaf_of key None = 0
leaf_of key (Some file) = next_leaf key file

-- whether the file keeps the identifier and the height of a key
abbrev pub has_key : Key → List ℕ → Bool
has_key key file = bytes_eq (kept_id file) (identifier_of key.seed) && (kept_height file == levels_of key.height)

-- a leaf signs the record, unless it is past the last
abbrev pub signed_at : Key → Record → ℕ → Result (List ℕ) SigningFault
signed_at key r leaf = if leaf == leaves_of key.height then Err (fault.Dry (levels_of key.height)) else Ok (signed_line key leaf r)

-- what a file gives: the first that applies of a closed gate or a short head, another key, a byte that lacks for some leaf,
-- and no leaf that is left; or the line of the record, which the next leaf signed
unfoldable pub signed_by : Key → Record → List ℕ → Result (List ℕ) SigningFault
signed_by key r file =
    if not (is_open file) then Err (fault.Unformatted (length file) (slice_index file 0)) else
    if not (has_key key file) then Err (fault.OtherKey (kept_id file) (kept_height file)) else
    if nat_lt (length file) (file_size (levels_of key.height)) then Err (fault.Unformatted (length file) (slice_index file 0)) else
    signed_at key r (next_leaf key file)

-- the answer is the one that is expected, or memory was wanting, or the disk failed
abbrev pub IsOrCut : Result (List ℕ) SigningFault → Result (List ℕ) SigningFault → Type 0
IsOrCut expected result = (result ≡ expected) ⊎ ((result ≡ Err fault.Memory) ⊎ (result ≡ Err fault.Disk))

-- whether the disk failed
abbrev pub is_disk_fault : Result (List ℕ) SigningFault → Bool
is_disk_fault (Ok line) = false
is_disk_fault (Err fault.Disk) = true
is_disk_fault (Err (fault.Unformatted size gate)) = false
is_disk_fault (Err (fault.OtherKey id height)) = false
is_disk_fault (Err (fault.Dry height)) = false
is_disk_fault (Err fault.Memory) = false

-- whether the file refuses the record: its gate is closed, it is short or of another key, or no leaf is left
abbrev pub is_refusal : Result (List ℕ) SigningFault → Bool
is_refusal (Ok line) = false
is_refusal (Err fault.Disk) = false
is_refusal (Err (fault.Unformatted size gate)) = true
is_refusal (Err (fault.OtherKey id height)) = true
is_refusal (Err (fault.Dry height)) = true
is_refusal (Err fault.Memory) = false

-- why a signer that was opened gave no record: no leaf was left, the disk failed, or memory was wanting
abbrev pub IsSigningFault : Key → ℕ → SigningFault → Type 0
IsSigningFault key next (fault.Dry height) = (next ≡ leaves_of key.height) × (height ≡ levels_of key.height)
IsSigningFault key next fault.Disk = Unit {0}
IsSigningFault key next fault.Memory = Unit {0}
IsSigningFault key next (fault.Unformatted size gate) = ⊥
IsSigningFault key next (fault.OtherKey id height) = ⊥

-- ## Over a disk

-- what a disk reads once a leaf is spent, where it tells it: the leaf's byte is 1, and all else stands
abbrev pub spent : ℕ → Option (List ℕ) → Option (List ℕ)
spent leaf content = option_map (λ file. overwritten file (head_size + leaf) (1 ∷ [])) content

-- What a signing leaves of a disk, whatever the answer, but for the byte of one leaf: each image of each moment is one of
-- those at the start, with at most that byte changed. So no leaf that is gone comes back, every other byte stays, and no
-- image grows. The clock rises by at most 3.
pub record SparesBut {D : Type 0} (may_leave : D → List ℕ → Type 0) (clock : D → ℕ) (during : D → ℕ → List ℕ → Type 0) (leaf : ℕ) (old new : D) : Type 0 where
  pub moments : AtEachMoment clock during old new (AfterWrite (may_leave old) (head_size + leaf) 1)
  pub gone : KeepsGone (may_leave old) (during new (clock old))
  pub bytes : (at : ℕ) → at ≢ head_size + leaf → KeepsByte at (may_leave old) (during new (clock old))
  pub lengths : NoLongerThan 0 (may_leave old) (during new (clock old))
  pub ticks : clock new ≤ clock old + 3

-- What a signing does over a disk with one leaf of the key, which is the next where the file is told: a line that is given
-- is signed with it, and then it is gone in every image that a crash may leave, and what reads has its byte at 1. But for its byte all stays, whatever the
-- answer; and where the file refuses the record, that byte too: each image of each moment is one of those at the start.
pub record Signs {D : Type 0} (content : D → Option (List ℕ)) (may_leave : D → List ℕ → Type 0) (clock : D → ℕ) (during : D → ℕ → List ℕ → Type 0) (key : Key) (r : Record) (old new : D) (result : Result (List ℕ) SigningFault) : Type 0 where
  pub leaf : ℕ
  pub next : ForSome (content old) (λ file. leaf ≡ next_leaf key file)
  pub line : IfOk result (λ line. line ≡ signed_line key leaf r)
  pub gone : OnOk result ((image : List ℕ) → may_leave new image → IsGone leaf image)
  pub reads : OnOk result (content new ≡ spent leaf (content old))
  pub looks : is_refusal result ≡ true → AtEachMoment clock during old new (may_leave old)
  pub spared : ForSome (content old) (λ file. is_refusal (signed_by key r file) ≡ true → AtEachMoment clock during old new (may_leave old))
  pub spares : SparesBut may_leave clock during leaf old new
