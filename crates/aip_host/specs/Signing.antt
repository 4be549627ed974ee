-- What callers see of a key that spends its leaves on a disk.
use Rattle.std.specs.Prelude.{◌≡◌, ◌≢◌, ℕ, ◌+◌, ◌<◌, ◌≤◌, Bool, true, false, ◌==◌, if◌then◌else◌, List, [], length, slice_index, Option, Some, None, is_some}
use Rattle.lease_disk.specs.declared.stop.Stop.{Stop}
use Rattle.lease_disk.specs.declared.stop.Stop.TheVariants.{Unarmed, Armed}
use Rattle.lease_disk.specs.Past.{is_pending}
use Rattle.lease_disk.specs.MemDisk.{DiskState, MayLeave, restarted, stopped_at}
use Rattle.leaf_lease.specs.LeaseFile.{IsOpen, HasKey, file_size, head_size}
use Rattle.lms_core.specs.Parameters.{levels_of, leaves_of, most_signature}
use Rattle.lms_core.specs.Tree.{Key, identifier_of, signature_of}
use Rattle.lms_core.specs.Verify.{IsValidSignature}
use Rattle.aip_rules.specs.declared.Arming.{Arming}
use Rattle.aip_host.specs.declared.signing.Signing.{Signing}
use Rattle.aip_host.specs.declared.signing.Signing.TheVariants.{Signed, Dry, Stopped}

-- a key with the disk on which its leaves are spent
pub record KeyState : Type 0 where
  -- the private key
  pub key : Key
  -- the leaf that signs next, or 2^h where none is left
  pub next : ℕ
  -- the stop that is armed, none while the key is down
  pub stop : Option Arming
  -- whether a stop fell since the last restart
  pub is_down : Bool
  -- the disk, as it stands
  pub disk : DiskState

-- The bytes are a lease file of the key: the gate is open, the identifier and the height are the key's, each leaf has a
-- byte, and just the leaves below the next are gone.
pub record IsSpentBelow (key : Key) (next : ℕ) (image : List ℕ) : Type 0 where
  pub is_open : IsOpen image
  pub has_key : HasKey (identifier_of key.seed) (levels_of key.height) image
  pub whole : file_size (levels_of key.height) ≤ length image
  pub gone : (leaf : ℕ) → leaf < leaves_of key.height → leaf < next → slice_index image (head_size + leaf) ≢ 0
  pub free : (leaf : ℕ) → leaf < leaves_of key.height → next ≤ leaf → slice_index image (head_size + leaf) ≡ 0

-- the stop of the disk, where this one is armed
abbrev pub stop_as : Option Arming → Stop
stop_as None = Unarmed
stop_as (Some arming) = Armed arming.call arming.byte

-- where a stop is armed, it falls at the first or the second call of a signing
abbrev pub IsArming : Option Arming → Type 0
IsArming None = Unit {0}
IsArming (Some arming) = (1 ≤ arming.call) × (arming.call ≤ 2)

-- While the key is up, each image that a crash may leave has just the leaves below the next gone, no write is pending, and
-- the disk stops where the key's stop is armed.
pub record SpendsUp (kept : KeyState) : Type 0 where
  pub images : (image : List ℕ) → MayLeave kept.disk image → IsSpentBelow kept.key kept.next image
  pub still : is_pending kept.disk.past ≡ false
  pub stops : kept.disk.stop ≡ stop_as kept.stop
  pub arming : IsArming kept.stop

-- while the key is down, the bytes that the restart gives have just the leaves below the next gone, and no stop is armed
pub record SpendsDown (kept : KeyState) : Type 0 where
  pub left : IsSpentBelow kept.key kept.next (restarted kept.disk).base
  pub unarmed : kept.stop ≡ None

-- the leaves are spent on the disk as it fits a key that is down, or one that is up
abbrev pub SpendsWhile : Bool → KeyState → Type 0
SpendsWhile false kept = SpendsUp kept
SpendsWhile true kept = SpendsDown kept

-- On the disk of the key just the leaves below the next are spent. No call of the disk is listed as failing, and it has
-- room for a byte for each leaf.
pub record Spends (kept : KeyState) : Type 0 where
  pub within : kept.next ≤ leaves_of kept.key.height
  pub unlisted : kept.disk.failing ≡ []
  pub room : file_size (levels_of kept.key.height) ≤ kept.disk.room
  pub standing : SpendsWhile kept.is_down kept

-- whether no leaf is left
abbrev pub is_dry : KeyState → Bool
is_dry kept = kept.next == leaves_of kept.key.height

-- how a signing ends where a leaf is left: the leaf signs, or the stop that is armed falls
abbrev pub spent_on : KeyState → List ℕ → Option Arming → Signing
spent_on kept message None = Signed kept.next (signature_of kept.key kept.next message)
spent_on kept message (Some arming) = Stopped kept.next arming.call arming.byte

-- how a signing ends: no leaf is left, else the stop that is armed falls, else the next leaf signs
abbrev pub signing_of : KeyState → List ℕ → Signing
signing_of kept message = if is_dry kept then Dry else spent_on kept message kept.stop

-- where a leaf signed, the signature of the message is valid under the public key
abbrev pub SignsValidly : List ℕ → List ℕ → Signing → Type 0
SignsValidly key message (Signed leaf signature) = IsValidSignature key message signature
SignsValidly key message Dry = Unit {0}
SignsValidly key message (Stopped leaf call byte) = Unit {0}

-- where a leaf signed, the signature is so short that a frame has room for it
abbrev pub IsShort : Signing → Type 0
IsShort (Signed leaf signature) = length signature ≤ most_signature
IsShort Dry = Unit {0}
IsShort (Stopped leaf call byte) = Unit {0}

-- the leaf that is next once the stop fell: a stop that leaves the byte 0 spends no leaf
abbrev pub next_once_stopped : ℕ → Option Arming → ℕ
next_once_stopped next None = next + 1
next_once_stopped next (Some arming) = if arming.byte == 0 then next else next + 1

-- the leaf that signs next after a signing
abbrev pub next_after : KeyState → ℕ
next_after kept = if is_dry kept then kept.next else next_once_stopped kept.next kept.stop

-- the stop that is armed after a signing: a dry key keeps its own, and else none is left
abbrev pub stop_after : KeyState → Option Arming
stop_after kept = if is_dry kept then kept.stop else None

-- whether the key is down after a signing: a leaf was left, and a stop was armed
abbrev pub down_after : KeyState → Bool
down_after kept = if is_dry kept then false else is_some kept.stop

-- the disk with the places of another's record
abbrev pub placed_as : DiskState → DiskState → DiskState
placed_as disk other = record disk { entry_place = other.entry_place; byte_place = other.byte_place }

-- the disk is the same but for the places of its record
abbrev pub SameButPlace : DiskState → DiskState → Type 0
SameButPlace old new = new ≡ placed_as old new

-- the disk after a signing that left this one: that of a dry key is the same but for the places of its record
abbrev pub disk_after : KeyState → DiskState → DiskState
disk_after kept new = if is_dry kept then placed_as kept.disk new else new

-- the key with this stop armed in place of any other: while it is down nothing changes
abbrev pub with_stop : KeyState → Arming → KeyState
with_stop kept arming = record kept {
  stop = if kept.is_down then kept.stop else Some arming;
  disk = if kept.is_down then kept.disk else stopped_at kept.disk arming.call arming.byte;
}
