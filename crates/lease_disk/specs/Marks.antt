-- How a disk in memory keeps its record: marks, and the bytes of all writes in one list.
use Rattle.std.specs.Prelude.{◌≡◌, ℕ, ◌+◌, ◌-◌, ◌≤◌, Bool, false, ◌&&◌, nat_lt, nat_le, List, [], ◌∷◌, length, take, drop, reverse, vec_capacity}
use Rattle.std.specs.List.{list_any}
use Rattle.lease_disk.specs.declared.mem_disk.Mark.{Mark}
use Rattle.lease_disk.specs.declared.mem_disk.Mark.TheVariants as mark
use Rattle.lease_disk.specs.declared.mem_disk.MemDisk.TheInside.{Inside}
use Rattle.lease_disk.specs.Past.{Act, Wrote, Synced, content_of, synced_of, is_written_at, kept_bytes}

-- the entries of these marks, the newest first, where the newest write has the last of the bytes
abbrev pub unpacked : List Mark → List ℕ → List Act
unpacked [] bytes = []
unpacked (mark.Write at count done ∷ marks) bytes = Wrote at (drop (length bytes - count) bytes) done ∷ unpacked marks (take (length bytes - count) bytes)
unpacked (mark.Sync ∷ marks) bytes = Synced ∷ unpacked marks bytes

-- whether the mark is of a write over that byte
abbrev pub covers : ℕ → Mark → Bool
covers k (mark.Write at count done) = nat_le at k && nat_lt k (at + count)
covers k mark.Sync = false

-- the record of the marks of a disk
abbrev pub past_of : Inside → List Act
past_of disk = unpacked (reverse disk.marks.items) disk.written.items

-- the content is what the record gives, the last sync is known, and everything has the place that it is promised
pub record IsKept (disk : Inside) : Type 0 where
  pub content : disk.content.items ≡ content_of disk.base.items (past_of disk)
  pub bytes : length disk.written.items ≡ kept_bytes (past_of disk)
  pub within : length disk.content.items ≤ disk.room
  pub content_room : disk.room ≤ vec_capacity disk.content
  pub base_room : disk.room ≤ vec_capacity disk.base
  pub firm_marks : disk.firm_marks ≤ length disk.marks.items
  pub firm_length : disk.firm_length ≡ length (synced_of disk.base.items (past_of disk))
  pub written : (k : ℕ) → is_written_at (past_of disk) k ≡ list_any (covers k) (drop disk.firm_marks disk.marks.items)
  pub entries_fit : length disk.marks.items ≤ disk.entry_place
  pub entry_room : disk.entry_place ≤ vec_capacity disk.marks
  pub bytes_fit : length disk.written.items ≤ disk.byte_place
  pub byte_room : disk.byte_place ≤ vec_capacity disk.written
