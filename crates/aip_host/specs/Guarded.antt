-- How a guard is kept: a filter that is open, or the disk and the slots of one that fell.
use Rattle.std.specs.Prelude.{◌≡◌, ℕ, ◌+◌, ◌≤◌, true, false, List, [], length, Option, Some, None, Result, Ok, Err, IsSome}
use Rattle.aip_addr.specs.declared.ids.KeyId.{KeyId}
use Rattle.lease_disk.specs.Past.{content_of, kept_bytes}
use Rattle.lease_disk.specs.MemDisk.{DiskState, new_disk, restarted}
use Rattle.shutoff_filter.specs.declared.entries.ShutOffEntry.{ShutOffEntry}
use Rattle.shutoff_filter.specs.Entries.{SameInForce, entries_of}
use Rattle.shutoff_filter.specs.FilterFile.{file_size}
use Rattle.shutoff_filter.specs.Keeping.{entries_in}
use Rattle.shutoff_filter.specs.Stops.{IsQuiet, IsReadyToKeep}
use Rattle.shutoff_filter.specs.Store.{disk_of, room_of, slots_of}
use Rattle.aip_host.specs.declared.guard.Obeying.{Obeying}
use Rattle.aip_host.specs.declared.guard.State.{State}
use Rattle.aip_host.specs.declared.guard.State.TheVariants.{Ready, Fallen}
use Rattle.aip_host.specs.Guarding.{GuardState, Keeps, IsFileOf, obeying_of, halt_after, down_after_order, entries_after}

-- what callers see of a guard that is up or that fell
abbrev pub guard_in : State → GuardState
guard_in (Ready store halt) = record { room = room_of store; entries = entries_of (slots_of store); halt = halt; is_down = false; disk = disk_of store }
guard_in (Fallen disk slots) = record { room = slots.room; entries = entries_in slots.room (restarted disk).base; halt = None; is_down = true; disk = disk }

-- what callers see of a guard, which is taken out only while a call lasts: no caller sees it then
abbrev pub guard_of : Option State → GuardState
guard_of (Some state) = guard_in state
guard_of None = record { room = 0; entries = []; halt = None; is_down = true; disk = new_disk 0 [] }

-- there is a guard, and it keeps its entries on its disk
abbrev pub HoldsEntries : Option State → Type 0
HoldsEntries (Some state) = Keeps (guard_in state)
HoldsEntries None = ⊥

-- the disk serves, nothing on it is pending, and it holds a file of these entries
pub record IsFilterAtRest (room : ℕ) (entries : List ShutOffEntry) (disk : DiskState) : Type 0 where
  pub holds : file_size room ≤ disk.room
  pub quiet : IsQuiet disk
  pub file : IsFileOf room entries (content_of disk.base disk.past)

-- the guard is up again, with no halt armed, and its entries are as they were
pub record IsGuardWoken (kept after : GuardState) : Type 0 where
  pub up : after.is_down ≡ false
  pub unarmed : after.halt ≡ None
  pub same_room : after.room ≡ kept.room
  pub same_entries : after.entries ≡ kept.entries
  pub keeps : Keeps after

-- the record of the disk has place for closing a slot and writing an entry: six entries, with 29 bytes in all
pub record HasPlaceForEntry (disk : DiskState) : Type 0 where
  pub entries : length disk.past + 6 ≤ disk.entry_place
  pub bytes : kept_bytes disk.past + 29 ≤ disk.byte_place

-- A filter can take an entry: a slot is spare, and the disk is ready for it. It withholds the same keys as before from now on.
pub record IsReadied (now : ℕ) (kept : GuardState) (spare : Option ℕ) (after : GuardState) : Type 0 where
  pub spared : IsSome spare
  pub ready : IsReadyToKeep after.room after.disk
  pub long : length (content_of after.disk.base after.disk.past) ≡ file_size after.room
  pub same : SameInForce now kept.entries after.entries
  pub same_room : after.room ≡ kept.room

-- an entry was written, or its writing was cut off: the guard keeps what withholds as these entries do from now on
pub record IsWritten (now : ℕ) (kept : GuardState) (entries : List ShutOffEntry) (after : GuardState) : Type 0 where
  pub same : SameInForce now entries after.entries
  pub same_room : after.room ≡ kept.room
  pub keeps : Keeps after

-- how a guard stands after an order that ended so
pub record IsOrderDone (now : ℕ) (kept : GuardState) (to : KeyId) (until : ℕ) (obeying : Obeying) (after : GuardState) : Type 0 where
  pub answer : obeying ≡ obeying_of kept to until
  pub halt : after.halt ≡ halt_after kept to until
  pub down : after.is_down ≡ down_after_order kept to until
  pub entries : SameInForce now (entries_after kept to until) after.entries
  pub same_room : after.room ≡ kept.room
  pub keeps : Keeps after

-- how a guard stands after an order: where memory was wanting, as before
abbrev pub IsObeying : {E : Type 0} → ℕ → GuardState → KeyId → ℕ → Result Obeying E → GuardState → Type 0
IsObeying now kept to until (Ok obeying) after = IsOrderDone now kept to until obeying after
IsObeying now kept to until (Err end) after = after ≡ kept
