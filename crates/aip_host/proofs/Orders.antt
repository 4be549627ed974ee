-- How a guard stands after an order.
use Rattle.std.proofs.Common.{◌≡◌, ℕ, suc, ◌+◌, ◌^◌, ◌<◌, ◌≤◌, ◌==◌, ◌&&◌, ◌||◌, max, nat_le, Bool, true, false, if◌then◌else◌, List, [], ◌∷◌, length, refl, sym, ◌∙◌, ap, subst, arith}
use Rattle.std.specs.Prelude.{Option, Some, None, IsSome, IfSome, is_some, Result, Ok, Err, OnOk}
use Rattle.std.specs.List.{filter}
use Rattle.std.specs.Option.{ForSome}
use Rattle.std.proofs.lemmas.Bool.Decides.{nat_tests}
use Rattle.aip_addr.specs.declared.ids.KeyId.{KeyId}
use Rattle.lease_disk.specs.Calls.{Ran}
use Rattle.lease_disk.specs.Images.{AtEachMoment}
use Rattle.lease_disk.specs.Past.{content_of, kept_bytes}
use Rattle.lease_disk.specs.PastLaws.{content_is_image, now_counts}
use Rattle.lease_disk.specs.MemDisk.{DiskState, Leads, MayLeave, MayHaveLeft, clock_of, told_of, reserved, restarted, stopped_at}
use Rattle.shutoff_filter.specs.declared.entries.ShutOffEntry.{ShutOffEntry}
use Rattle.shutoff_filter.specs.declared.slots.Slot.{Slot}
use Rattle.shutoff_filter.specs.Entries.{SameInForce, entries_of}
use Rattle.shutoff_filter.specs.FilterFile.{IsFilterOf, file_size, slot_in}
use Rattle.shutoff_filter.specs.ImageLaws.{entries_same}
use Rattle.shutoff_filter.specs.InForce.{same_with_entry}
use Rattle.shutoff_filter.specs.Keeping.{IsImageOf, entries_in, keep_calls}
use Rattle.shutoff_filter.specs.Spare.{closing_calls, spare_in}
use Rattle.shutoff_filter.specs.Stops.{IsQuiet, IsReadyToKeep, HasInForce, is_added, served_ready, served_keep, halted_keep}
use Rattle.aip_rules.specs.declared.Arming.{Arming}
use Rattle.aip_rules.specs.Standing.{left_entry}
use Rattle.aip_host.specs.declared.guard.Obeying.{Obeying}
use Rattle.aip_host.specs.declared.guard.Obeying.TheVariants.{Obeyed}
use Rattle.aip_host.specs.Guarding.{GuardState, IsHalting, Keeps, is_told, written_with, entries_with, entries_after}
use Rattle.aip_host.specs.Guarded.{HasPlaceForEntry, IsOrderDone, IsObeying, IsWritten}
use Rattle.aip_host.proofs.Filed.{rest_up, told_is}

-- ---- a slot for the next entry

-- a disk that has the place has it once it was made
placed : (disk : DiskState) → HasPlaceForEntry disk → reserved disk 6 29 ≡ disk
placed disk place =
    let entries : max disk.entry_place (length disk.past + 6) ≡ disk.entry_place = omega (arith, place.entries) in
    let bytes : max disk.byte_place (kept_bytes disk.past + 29) ≡ disk.byte_place = omega (arith, place.bytes) in
    ap (λ n. record disk { entry_place = n; byte_place = max disk.byte_place (kept_bytes disk.past + 29) }) entries ∙ ap (λ n. record disk { byte_place = n }) bytes

-- closing a slot is served on a quiet disk that has the place, and then an entry can be written
pub ready_serves : (now room : ℕ) (slots : List Slot) (disk new : DiskState) (served : Bool) → IsQuiet disk → file_size room ≤ disk.room → HasPlaceForEntry disk → length slots ≡ room + 1
    → Ran Leads disk (closing_calls slots (spare_in now slots)) served new
    → (served ≡ true) × IsReadyToKeep room new × (new.room ≡ disk.room)
ready_serves now room slots disk new served quiet holds place whole ran =
    served_ready disk new room now slots served quiet holds whole
    (subst (λ (d : DiskState). Ran Leads d (closing_calls slots (spare_in now slots)) served new) (sym (placed disk place)) ran)

-- a file stays as long as it was
pub same_length : (room size : ℕ) (Such : List ShutOffEntry → Type 0) (disk new : DiskState) → ((image : List ℕ) → MayLeave disk image → length image ≡ size)
    → AtEachMoment clock_of MayHaveLeft disk new (IsImageOf room (MayLeave disk) Such) → length (content_of new.base new.past) ≡ size
same_length room size Such disk new all moments =
    let now = content_of new.base new.past in
    let was = moments.each now (now_counts new.base new.past (clock_of disk) now (content_is_image new.base new.past)) in
    was.size ∙ all was.before was.was

-- of a disk that is firm every image is as long as what it reads
pub firm_length : (size : ℕ) (disk : DiskState) → ((image : List ℕ) → MayLeave disk image → told_of disk ≡ Some image) → length (content_of disk.base disk.past) ≡ size
    → (image : List ℕ) → MayLeave disk image → length image ≡ size
firm_length size disk firm long image left = ap length (sym (told_is _ _ (firm image left))) ∙ long

-- ---- an entry

-- an entry is written where no stop is armed
pub keep_serves : (room until : ℕ) (to : KeyId) (spare : Option ℕ) (slots : List Slot) (disk new : DiskState) (served : Bool) → IsReadyToKeep room disk → length to.bytes ≡ 19 → IsSome spare
    → IfSome spare (λ s. (s ≤ room) × ((slot_in slots s).is_open ≡ false)) → IfSome spare (λ number. Ran Leads disk (keep_calls number to until) served new)
    → (served ≡ true) × IsQuiet new × (new.room ≡ disk.room)
keep_serves room until to None slots disk new served ready nineteen some closed ran = absurd (cc)
keep_serves room until to (Some number) slots disk new served ready nineteen some closed ran = served_keep disk new room number to until served ready closed.0 nineteen ran

-- then the guard keeps its entries on the disk
pub written_up : (room : ℕ) (slots : List Slot) (disk : DiskState) → IsQuiet disk → file_size room ≤ disk.room → length slots ≡ room + 1
    → ForSome (told_of disk) (IsFilterOf room slots) → length (content_of disk.base disk.past) ≡ file_size room
    → Keeps (record { room = room; entries = entries_of slots; halt = None; is_down = false; disk = disk })
written_up room slots disk quiet holds whole same long =
    let file = content_of disk.base disk.past in
    let is = same file refl in
    rest_up room (entries_of slots) None disk (record { holds = holds; quiet = quiet; file = record { filter = is.filter; long = long; same = entries_same room slots file whole is } }) tt

-- a stop leaves the entry at the same calls and bytes as by the rules
same_left : (call byte : ℕ) → call ≤ 4 → is_added call byte ≡ left_entry call byte
same_left call byte last =
    let test : nat_le 3 call ≡ ((call == 3) || (call == 4)) = grind (arith, nat_tests) in
    ap (λ b. b && (byte == 165)) test

-- an entry isn't written where a halt falls, and the restart leaves it exactly where the halt's call and byte do
pub keep_falls : (now room until : ℕ) (to : KeyId) (spare : Option ℕ) (slots : List Slot) (disk new : DiskState) (arming : Arming) (served : Bool)
    → IsReadyToKeep room disk → length slots ≡ room + 1 → length to.bytes ≡ 19 → until < 2 ^ 64 → IsHalting (Some arming) → IsSome spare
    → ForSome (told_of disk) (IsFilterOf room slots) → IfSome spare (λ s. (s ≤ room) × ((slot_in slots s).is_open ≡ false))
    → IfSome spare (λ number. Ran Leads (stopped_at disk arming.call arming.byte) (keep_calls number to until) served new)
    → (served ≡ false) × HasInForce room (length (content_of disk.base disk.past)) now (entries_with (Some arming) (record { to = to; until = until }) (entries_of slots)) (restarted new).base
    × IsQuiet (restarted new) × ((restarted new).room ≡ disk.room)
keep_falls now room until to None slots disk new arming served ready whole nineteen fits halting some same closed ran = absurd (cc)
keep_falls now room until to (Some number) slots disk new arming served ready whole nineteen fits halting some same closed ran =
    let entry : ShutOffEntry = record { to = to; until = until } in
    let file = content_of disk.base disk.past in
    let ends = halted_keep disk new room now number to until slots arming.call arming.byte served ready whole closed.0 nineteen fits (same file refl) closed.1 halting.0 halting.1 ran in
    let left = subst (λ b. HasInForce room (length file) now (if b then entry ∷ entries_of slots else entries_of slots) (restarted new).base) (same_left arming.call arming.byte halting.1) ends.1 in
    (ends.0, left, ends.2, ends.3)

-- then the guard is down, and keeps what the restart leaves
pub fallen_down : (now room size : ℕ) (entries : List ShutOffEntry) (disk : DiskState) → IsQuiet (restarted disk) → file_size room ≤ disk.room → size ≡ file_size room
    → HasInForce room size now entries (restarted disk).base
    → Keeps (record { room = room; entries = entries_in room (restarted disk).base; halt = None; is_down = true; disk = disk })
fallen_down now room size entries disk quiet holds long left = record {
  holds = holds;
  standing = record { left = record { filter = left.filter; long = left.long ∙ long; same = refl }; quiet = quiet; unarmed = refl };
}

-- ---- the whole

-- what withholds the same still does with one entry more in both, or in neither
same_with : (now : ℕ) (halt : Option Arming) (entry : ShutOffEntry) (old new : List ShutOffEntry) → SameInForce now old new → SameInForce now (entries_with halt entry old) (entries_with halt entry new)
same_with now None entry old new alike = same_with_entry now entry old new alike
same_with now (Some arming) entry old new alike = by_case (left_entry arming.call arming.byte)
  where
    by_case : (b : Bool) → SameInForce now (if b then entry ∷ old else old) (if b then entry ∷ new else new)
    by_case true = same_with_entry now entry old new alike
    by_case false = alike

-- how a guard stands after an order that was to be written
pub done_written : (now : ℕ) (kept readied after : GuardState) (halt : Option Arming) (to : KeyId) (until : ℕ) → kept.halt ≡ halt → is_told kept to until ≡ false
    → SameInForce now kept.entries readied.entries → readied.room ≡ kept.room → IsWritten now readied (entries_with halt (record { to = to; until = until }) readied.entries) after
    → after.halt ≡ None → after.is_down ≡ is_some halt
    → IsOrderDone now kept to until (written_with halt) after
done_written now kept readied after halt to until is untold alike same_room wrote none down =
    let entry : ShutOffEntry = record { to = to; until = until } in
    let old : entries_after kept to until ≡ entries_with halt entry kept.entries
    = ap (λ b. if b then kept.entries else entries_with kept.halt entry kept.entries) untold ∙ ap (λ h. entries_with h entry kept.entries) is in
    let both = same_with now halt entry kept.entries readied.entries alike in
    record {
      answer = sym (ap (λ b. if b then Obeyed else written_with kept.halt) untold ∙ ap written_with is);
      halt = none ∙ sym (ap (λ b. if b then kept.halt else None) untold);
      down = down ∙ sym (ap (λ b. if b then false else is_some kept.halt) untold ∙ ap is_some is);
      entries = subst (λ (es : List ShutOffEntry). SameInForce now es after.entries) (sym old) (λ key time later. both key time later ∙ wrote.same key time later);
      same_room = wrote.same_room ∙ same_room;
      keeps = wrote.keeps;
    }

-- what an order that was obeyed or halted leaves
pub entries_left : {E : Type 0} (now : ℕ) (kept : GuardState) (to : KeyId) (until : ℕ) (result : Result Obeying E) (after : GuardState) → IsObeying now kept to until result after
    → OnOk result (SameInForce now (entries_after kept to until) after.entries)
entries_left now kept to until (Ok obeying) after done = done.entries
entries_left now kept to until (Err end) after same = tt
