-- How a signing key is kept: a signer that is up, or the disk and the tree of one that fell.
use Rattle.std.specs.Prelude.{◌≡◌, ℕ, zero, suc, ◌+◌, ◌≤◌, true, false, ◌==◌, if◌then◌else◌, List, [], length, slice_index, Option, Some, None, Result, Ok, Err}
use Rattle.lease_disk.specs.declared.stop.Stop.TheVariants.{Unarmed}
use Rattle.lease_disk.specs.Past.{content_of, is_pending, kept_bytes}
use Rattle.lease_disk.specs.MemDisk.{DiskState, new_disk, restarted}
use Rattle.leaf_lease.specs.LeaseFile.{head_size, file_size}
use Rattle.lmots_core.specs.declared.parameters.Width.TheVariants.{W1}
use Rattle.lms_core.specs.declared.height.Height.TheVariants.{H5}
use Rattle.lms_core.specs.Parameters.{levels_of, leaves_of}
use Rattle.lms_core.specs.Tree.{Key, key_from}
use Rattle.host_signer.specs.Signers.{disk_of, key_of, next_of}
use Rattle.aip_host.specs.declared.signing.Signing.{Signing}
use Rattle.aip_host.specs.declared.signing.State.{State}
use Rattle.aip_host.specs.declared.signing.State.TheVariants.{Ready, Fallen}
use Rattle.aip_host.specs.Signing.{KeyState, Spends, IsSpentBelow, SameButPlace, signing_of, next_after, stop_after, down_after, disk_after}

-- one past the last of so many leaves that is gone in the bytes of a lease file, or 0
abbrev pub first_free : ℕ → List ℕ → ℕ
first_free zero image = 0
first_free (suc leaf) image = if slice_index image (head_size + leaf) == 0 then first_free leaf image else suc leaf

-- what callers see of a key that is up or that fell
abbrev pub kept_in : State → KeyState
kept_in (Ready signer armed) = record { key = key_of signer; next = next_of signer; stop = armed; is_down = false; disk = disk_of signer }
kept_in (Fallen disk tree) = record { key = tree; next = first_free (leaves_of tree.height) (restarted disk).base; stop = None; is_down = true; disk = disk }

-- what callers see of a key, which is taken out only while a call lasts: no caller sees it then
abbrev pub kept_of : Option State → KeyState
kept_of (Some state) = kept_in state
kept_of None = record { key = key_from [] W1 H5; next = 0; stop = None; is_down = true; disk = new_disk 0 [] }

-- there is a key, and it spends its leaves on its disk
abbrev pub HoldsKey : Option State → Type 0
HoldsKey (Some state) = Spends (kept_in state)
HoldsKey None = ⊥

-- the disk serves, nothing on it is pending, and just the leaves of the key below the next are spent on it
pub record IsAtRest (key : Key) (next : ℕ) (disk : DiskState) : Type 0 where
  pub within : next ≤ leaves_of key.height
  pub unlisted : disk.failing ≡ []
  pub room : file_size (levels_of key.height) ≤ disk.room
  pub unarmed : disk.stop ≡ Unarmed
  pub still : is_pending disk.past ≡ false
  pub spent : IsSpentBelow key next (content_of disk.base disk.past)

-- the key is up again, with no stop armed, and its leaves are as they were
pub record IsWoken (kept after : KeyState) : Type 0 where
  pub up : after.is_down ≡ false
  pub unarmed : after.stop ≡ None
  pub same_key : after.key ≡ kept.key
  pub same_next : after.next ≡ kept.next
  pub spends : Spends after

-- the record of the disk has place for the two calls of a signing, of which one writes a byte
pub record HasPlace (disk : DiskState) : Type 0 where
  pub entries : length disk.past + 2 ≤ disk.entry_place
  pub bytes : kept_bytes disk.past + 1 ≤ disk.byte_place

-- how a key stands after a signing that ended so
pub record IsDone (kept : KeyState) (message : List ℕ) (signing : Signing) (after : KeyState) : Type 0 where
  pub answer : signing ≡ signing_of kept message
  pub next : after.next ≡ next_after kept
  pub stop : after.stop ≡ stop_after kept
  pub down : after.is_down ≡ down_after kept
  pub same_key : after.key ≡ kept.key
  pub disk : after.disk ≡ disk_after kept after.disk
  pub spends : Spends after

-- how a key stands where memory was wanting for a signing: as before, but for places on its disk
pub record IsUnchanged (kept after : KeyState) : Type 0 where
  pub same_next : after.next ≡ kept.next
  pub same_stop : after.stop ≡ kept.stop
  pub same_down : after.is_down ≡ kept.is_down
  pub same_disk : SameButPlace kept.disk after.disk
  pub same_key : after.key ≡ kept.key
  pub spends : Spends after

-- how a key stands after a signing
abbrev pub IsSigning : {E : Type 0} → KeyState → List ℕ → Result Signing E → KeyState → Type 0
IsSigning kept message (Ok signing) after = IsDone kept message signing after
IsSigning kept message (Err end) after = IsUnchanged kept after
