-- What callers see of a guard, which keeps what a host was told on a disk of its own.
use Rattle.std.specs.Prelude.{◌≡◌, ℕ, ◌-◌, ◌≤◌, Bool, true, false, if◌then◌else◌, List, ◌∷◌, length, Option, Some, None, is_some}
use Rattle.aip_addr.specs.declared.ids.KeyId.{KeyId}
use Rattle.lease_disk.specs.MemDisk.{DiskState, MayLeave, restarted}
use Rattle.shutoff_filter.specs.declared.entries.ShutOffEntry.{ShutOffEntry}
use Rattle.shutoff_filter.specs.Entries.{is_withheld}
use Rattle.shutoff_filter.specs.FilterFile.{IsFilter, file_size}
use Rattle.shutoff_filter.specs.Keeping.{entries_in}
use Rattle.shutoff_filter.specs.Stops.{IsQuiet}
use Rattle.aip_rules.specs.declared.Arming.{Arming}
use Rattle.aip_rules.specs.Standing.{left_entry}
use Rattle.aip_host.specs.declared.guard.Obeying.{Obeying}
use Rattle.aip_host.specs.declared.guard.Obeying.TheVariants.{Obeyed, Halted}

-- a guard with the disk on which it keeps what it was told
pub record GuardState : Type 0 where
  -- for how many key identifiers it has room
  pub room : ℕ
  -- the entries by which it withholds; while it is down, those that its restart gives
  pub entries : List ShutOffEntry
  -- the halt that is armed, none while the guard is down
  pub halt : Option Arming
  -- whether a halt fell since the last restart
  pub is_down : Bool
  -- the disk, as it stands
  pub disk : DiskState

-- the bytes are a filter file of this room, whole, with an open gate and no byte more, and its entries are these
pub record IsFileOf (room : ℕ) (entries : List ShutOffEntry) (file : List ℕ) : Type 0 where
  pub filter : IsFilter room file
  pub long : length file ≡ file_size room
  pub same : entries_in room file ≡ entries

-- where a halt is armed, it falls at one of the four calls that write an entry
abbrev pub IsHalting : Option Arming → Type 0
IsHalting None = Unit {0}
IsHalting (Some arming) = (1 ≤ arming.call) × (arming.call ≤ 4)

-- While the guard is up, each image that a crash may leave is a file of its entries, no call of its disk is listed, no stop is
-- armed on it and no write is pending: a halt waits until an entry is written.
pub record KeepsUp (kept : GuardState) : Type 0 where
  pub images : (image : List ℕ) → MayLeave kept.disk image → IsFileOf kept.room kept.entries image
  pub quiet : IsQuiet kept.disk
  pub arming : IsHalting kept.halt

-- while the guard is down, the bytes that its restart gives are a file of its entries, no halt is armed and no call is listed
pub record KeepsDown (kept : GuardState) : Type 0 where
  pub left : IsFileOf kept.room kept.entries (restarted kept.disk).base
  pub quiet : IsQuiet (restarted kept.disk)
  pub unarmed : kept.halt ≡ None

-- the entries are kept on the disk as it fits a guard that is down, or one that is up
abbrev pub KeepsWhile : Bool → GuardState → Type 0
KeepsWhile false kept = KeepsUp kept
KeepsWhile true kept = KeepsDown kept

-- the entries are kept on the disk of the guard, which has room for a whole filter file
pub record Keeps (kept : GuardState) : Type 0 where
  pub holds : file_size kept.room ≤ kept.disk.room
  pub standing : KeepsWhile kept.is_down kept

-- whether an entry of the key identifier lasts at least until then: it is in force at the last tick before
abbrev pub is_told : GuardState → KeyId → ℕ → Bool
is_told kept to until = is_withheld (until - 1) to kept.entries

-- how an order ends that is to be written: it is obeyed, or the halt that is armed falls
abbrev pub written_with : Option Arming → Obeying
written_with None = Obeyed
written_with (Some arming) = Halted arming.call arming.byte

-- the entries once an order was written: it is one more, unless a halt fell that leaves none
abbrev pub entries_with : Option Arming → ShutOffEntry → List ShutOffEntry → List ShutOffEntry
entries_with None entry entries = entry ∷ entries
entries_with (Some arming) entry entries = if left_entry arming.call arming.byte then entry ∷ entries else entries

-- how an order to withhold a key identifier until a time ends: where an entry lasts as long it is obeyed, and else it is
-- written
abbrev pub obeying_of : GuardState → KeyId → ℕ → Obeying
obeying_of kept to until = if is_told kept to until then Obeyed else written_with kept.halt

-- the halt that is armed after an order: one that is not to be written leaves it, and else none is left
abbrev pub halt_after : GuardState → KeyId → ℕ → Option Arming
halt_after kept to until = if is_told kept to until then kept.halt else None

-- whether the guard is down after an order: it was to be written, and a halt was armed
abbrev pub down_after_order : GuardState → KeyId → ℕ → Bool
down_after_order kept to until = if is_told kept to until then false else is_some kept.halt

-- the entries after an order
abbrev pub entries_after : GuardState → KeyId → ℕ → List ShutOffEntry
entries_after kept to until =
    if is_told kept to until then kept.entries else entries_with kept.halt (record { to = to; until = until }) kept.entries

-- the guard with this halt armed in place of any other: while it is down nothing changes
abbrev pub with_halt : GuardState → Arming → GuardState
with_halt kept arming = if kept.is_down then kept else record kept { halt = Some arming }
