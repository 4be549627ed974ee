-- What callers see of a disk in memory, and what each of its calls does.
use Rattle.std.specs.Prelude.{◌≡◌, ℕ, ◌+◌, ◌-◌, max, Bool, not, ◌&&◌, ◌||◌, nat_lt, nat_le, ◌==◌, List, [], ◌∷◌, length, if◌then◌else◌, Option, Some}
use Rattle.std.specs.List.{list_any}
use Rattle.lease_disk.specs.declared.stop.Stop.{Stop}
use Rattle.lease_disk.specs.declared.stop.Stop.TheVariants.{Unarmed, Armed, Met}
use Rattle.fault_counts.specs.Causes.{counted}
use Rattle.lease_disk.specs.Call.{Call, Len, Read, Write, Sync}
use Rattle.lease_disk.specs.Past.{Act, Wrote, Synced, content_of, is_pending, kept_bytes, IsImage, WasImage, filled}
use Rattle.lease_disk.specs.Stop.{is_met, is_stopping, stop_after, armed}

-- a disk in memory
pub record DiskState : Type 0 where
  -- the bytes that it was made with, or that its last restart left
  pub base : List ℕ
  -- what was written since, the newest first
  pub past : List Act
  -- how many calls it has had
  pub calls : ℕ
  -- the numbers of the calls that fail
  pub failing : List ℕ
  -- how it stands to a stop
  pub stop : Stop
  -- how many bytes the file may have
  pub room : ℕ
  -- how many entries the record has place for, those in it among them, and how many bytes
  pub entry_place : ℕ
  pub byte_place : ℕ
  -- how often it has failed
  pub faults : ℕ

-- the record of a disk in memory has place for this many entries at first
abbrev pub first_place : ℕ
first_place = 8

-- an empty disk that has had no call
abbrev pub new_disk : ℕ → List ℕ → DiskState
new_disk room failing = record { base = []; past = []; calls = 0; failing = failing; stop = Unarmed; room = room; entry_place = first_place; byte_place = room + first_place; faults = 0 }

-- whether the next call is one of those that fail
abbrev pub is_listed : DiskState → Bool
is_listed disk = list_any (λ number. number == counted disk.calls) disk.failing

-- whether the next call fails where it only looks: it is listed, or the disk has stopped
abbrev pub refuses_looks : DiskState → Bool
refuses_looks disk = is_listed disk || is_met disk.stop

-- whether the next call fails where it is a write or a sync: it is listed, or the disk stops
abbrev pub refuses_changes : DiskState → Bool
refuses_changes disk = is_listed disk || is_stopping disk.stop

-- whether the record has place for one entry more, with so many bytes
abbrev pub has_place : DiskState → ℕ → Bool
has_place disk count = nat_lt (length disk.past) disk.entry_place && nat_le (kept_bytes disk.past + count) disk.byte_place

-- whether a write within the room makes an entry
abbrev pub is_entered : DiskState → ℕ → List ℕ → Bool
is_entered disk at bytes = nat_le (at + length bytes) disk.room && has_place disk (length bytes)

-- whether the next call fails: it is listed or the disk stops, it is a write past the room, or it needs an entry and finds no place
abbrev pub fails : DiskState → Call → Bool
fails disk Len = refuses_looks disk
fails disk (Read at count) = refuses_looks disk
fails disk (Write at bytes) = refuses_changes disk || not (is_entered disk at bytes)
fails disk Sync = refuses_changes disk || (is_pending disk.past && not (has_place disk 0))

-- the record after the next call: an entry for each write within the room, and for a sync that succeeds while a write waits
abbrev pub past_after : DiskState → Call → List Act
past_after disk Len = disk.past
past_after disk (Read at count) = disk.past
past_after disk (Write at bytes) = if is_entered disk at bytes then Wrote at bytes (not (refuses_changes disk)) ∷ disk.past else disk.past
past_after disk Sync = if is_pending disk.past && not (fails disk Sync) then Synced ∷ disk.past else disk.past

-- the stop after the next call: writes and syncs count
abbrev pub stop_after_call : Stop → Call → Stop
stop_after_call stop Len = stop
stop_after_call stop (Read at count) = stop
stop_after_call stop (Write at bytes) = stop_after stop
stop_after_call stop Sync = stop_after stop

-- the disk after its next call
abbrev pub after_call : DiskState → Call → DiskState
after_call disk call = record disk { past = past_after disk call; calls = counted disk.calls; stop = stop_after_call disk.stop call; faults = if fails disk call then counted disk.faults else disk.faults }

-- the call is served exactly where it does not fail, and leads to this disk
pub record Leads (old : DiskState) (call : Call) (served : Bool) (new : DiskState) : Type 0 where
  pub answer : served ≡ not (fails old call)
  pub disk : new ≡ after_call old call

-- the bytes as they read: a disk in memory always tells them
abbrev pub told_of : DiskState → Option (List ℕ)
told_of disk = Some (content_of disk.base disk.past)

-- what a crash may leave follows from the record
abbrev pub MayLeave : DiskState → List ℕ → Type 0
MayLeave disk image = IsImage disk.base disk.past image

-- its clock counts the entries
abbrev pub clock_of : DiskState → ℕ
clock_of disk = length disk.past

-- what a crash since that moment may have left
abbrev pub MayHaveLeft : DiskState → ℕ → List ℕ → Type 0
MayHaveLeft disk since image = WasImage disk.base since disk.past image

-- the record has place for at least so many further entries, with so many bytes, and everything else stays
abbrev pub reserved : DiskState → ℕ → ℕ → DiskState
reserved disk calls bytes = record disk { entry_place = max disk.entry_place (length disk.past + calls); byte_place = max disk.byte_place (kept_bytes disk.past + bytes) }

-- a stop is armed at the write or sync of that number, unless the disk has stopped, and everything else stays
abbrev pub stopped_at : DiskState → ℕ → ℕ → DiskState
stopped_at disk call fill = record disk { stop = armed call fill disk.stop }

-- the bytes that a restart leaves: those that were read, but once the disk has stopped its byte wherever a write was pending
abbrev pub left_by : Stop → List ℕ → List Act → List ℕ
left_by Unarmed base past = content_of base past
left_by (Armed call fill) base past = content_of base past
left_by (Met fill) base past = filled base past fill

-- the disk after a restart: no stop is armed, the record is empty, and everything else stays
abbrev pub restarted : DiskState → DiskState
restarted disk = record disk { base = left_by disk.stop disk.base disk.past; past = []; stop = Unarmed }
