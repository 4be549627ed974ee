-- The file of a guard on its disk: fresh, opened, and after a restart.
use Rattle.std.proofs.Common.{◌≡◌, ℕ, ◌+◌, ◌^◌, ◌<◌, Bool, true, false, not, List, [], ◌∷◌, length, refl, sym, ◌∙◌, ap, subst, arith}
use Rattle.std.specs.Prelude.{Option, Some, None, Err, option_map, unwrap_or}
use Rattle.std.specs.Option.{ForSome}
use Rattle.fault_counts.specs.Causes.{counted}
use Rattle.lease_disk.specs.Call.{Len, Read, Sync}
use Rattle.lease_disk.specs.Calls.{Ran}
use Rattle.lease_disk.specs.Past.{content_of}
use Rattle.lease_disk.specs.PastLaws.{content_is_image, still_content}
use Rattle.lease_disk.specs.MemDisk.{DiskState, Leads, told_of, new_disk, left_by, restarted}
use Rattle.shutoff_filter.specs.declared.entries.ShutOffEntry.{ShutOffEntry}
use Rattle.shutoff_filter.specs.declared.formatting.StoreFormatEnd.{StoreFormatEnd}
use Rattle.shutoff_filter.specs.declared.formatting.StoreFormatEnd.TheVariants.{Already, Failed}
use Rattle.shutoff_filter.specs.declared.slots.Slot.{Slot}
use Rattle.shutoff_filter.specs.Entries.{entries_of}
use Rattle.shutoff_filter.specs.FilterFile.{IsFilterOf, IsOpen, file_size}
use Rattle.shutoff_filter.specs.Format.{FormatSays, format_calls, format_failed, formatted, formatted_disk}
use Rattle.shutoff_filter.specs.ImageLaws.{entries_same}
use Rattle.shutoff_filter.specs.Opened.{fresh_is_filter, fresh_has_none, length-formatted}
use Rattle.shutoff_filter.specs.Stops.{served_format, served_opening, restarted_is_quiet}
use Rattle.aip_rules.specs.declared.Arming.{Arming}
use Rattle.aip_host.specs.Guarding.{GuardState, IsFileOf, IsHalting, Keeps, KeepsWhile}
use Rattle.aip_host.specs.Guarded.{IsFilterAtRest}

-- what is told of a disk has these bytes
pub told_is : (file other : List ℕ) → ◌≡◌ {A = Option (List ℕ)} (Some file) (Some other) → file ≡ other
told_is file other same = ap (λ o. unwrap_or o []) same

-- a format of a new disk with room for the file does not fail
pub format_serves : (room : ℕ) (old : DiskState) (end : StoreFormatEnd DiskState) → old ≡ new_disk (file_size room) []
    → ForSome (told_of old) (λ file. FormatSays {D = DiskState} file (Err end))
    → ForSome (told_of old) (λ file. Ran Leads old (format_calls room file) (not (format_failed {D = DiskState} (Err end))) (formatted_disk (Err end)))
    → ⊥
format_serves room old (Already disk other) is says ran =
    let opened : IsOpen (content_of old.base old.past) = (says (content_of old.base old.past) refl).0 in
    let none : content_of old.base old.past ≡ [] = ap (λ (d : DiskState). content_of d.base d.past) is in
    omega (arith, opened.there, ap length none)
format_serves room old (Failed disk) is says ran =
    let ends = served_format room disk false (subst (λ (d : DiskState). Ran Leads d (format_calls room (content_of d.base d.past)) false disk) is (ran (content_of old.base old.past) refl)) in
    absurd (cc)

-- and leaves it at rest, with no entry
pub format_rests : (room : ℕ) (old new : DiskState) → room < 2 ^ 16 → old ≡ new_disk (file_size room) []
    → ForSome (told_of old) (λ file. Ran Leads old (format_calls room file) true new)
    → told_of new ≡ option_map (formatted room) (told_of old)
    → IsFilterAtRest room [] new
format_rests room old new small is ran told =
    let ends = served_format room new true (subst (λ (d : DiskState). Ran Leads d (format_calls room (content_of d.base d.past)) true new) is (ran (content_of old.base old.past) refl)) in
    let file : content_of new.base new.past ≡ formatted room [] = told_is _ _ (told ∙ ap (λ (d : DiskState). option_map (formatted room) (told_of d)) is) in
    record {
      holds = omega (arith, ends.2);
      quiet = ends.1;
      file = subst (IsFileOf room []) (sym file) (record { filter = fresh_is_filter room [] small; long = length-formatted room; same = fresh_has_none room [] });
    }

-- a guard that is up, on a disk that is at rest
pub rest_up : (room : ℕ) (entries : List ShutOffEntry) (halt : Option Arming) (disk : DiskState) → IsFilterAtRest room entries disk → IsHalting halt
    → Keeps (record { room = room; entries = entries; halt = halt; is_down = false; disk = disk })
rest_up room entries halt disk rest halting = record {
  holds = rest.holds;
  standing = record {
    images = λ image left. subst (IsFileOf room entries) (still_content disk.base disk.past rest.quiet.still image left) rest.file;
    quiet = rest.quiet;
    arming = halting;
  };
}

-- the entries of a filter that was opened are those of its file
pub opened_entries : (room : ℕ) (entries : List ShutOffEntry) (slots : List Slot) (disk : DiskState) → IsFilterAtRest room entries disk → length slots ≡ room + 1
    → IsFilterOf room slots (content_of disk.base disk.past) → entries_of slots ≡ entries
opened_entries room entries slots disk rest whole is = sym (entries_same room slots (content_of disk.base disk.past) whole is) ∙ rest.file.same

-- a guard that was opened on a disk at rest keeps its entries there
pub is_opened : (room same : ℕ) (entries others : List ShutOffEntry) (disk new : DiskState) (count : ℕ) → IsFilterAtRest room entries disk → same ≡ room → others ≡ entries
    → Ran Leads disk (Sync ∷ Len ∷ Read 0 count ∷ []) true new
    → Keeps (record { room = same; entries = others; halt = None; is_down = false; disk = new })
is_opened room same entries others disk new count rest same_room same_entries ran =
    let Up : ℕ → List ShutOffEntry → DiskState → Type 0 = λ r es d. Keeps (record { room = r; entries = es; halt = None; is_down = false; disk = d }) in
    let ends = served_opening disk new count true rest.quiet ran in
    let again : IsFilterAtRest room entries (record disk { calls = counted (counted (counted disk.calls)) })
    = record { holds = rest.holds; quiet = record { unlisted = rest.quiet.unlisted; unarmed = rest.quiet.unarmed; still = rest.quiet.still }; file = rest.file } in
    let up : Up room entries (record disk { calls = counted (counted (counted disk.calls)) }) = rest_up room entries None _ again tt in
    subst (λ r. Up r others new) (sym same_room) (subst (λ es. Up room es new) (sym same_entries) (subst (Up room entries) (sym ends.1) up))

-- whatever stood before, the disk is at rest after a restart
pub rest_after : (kept : GuardState) → Keeps kept → IsFilterAtRest kept.room kept.entries (restarted kept.disk)
rest_after kept keeps = by_case kept.is_down keeps.standing
  where
    by_case : (down : Bool) → KeepsWhile down kept → IsFilterAtRest kept.room kept.entries (restarted kept.disk)
    by_case false up =
        let base : (restarted kept.disk).base ≡ content_of kept.disk.base kept.disk.past = ap (λ s. left_by s kept.disk.base kept.disk.past) up.quiet.unarmed in
        record {
          holds = keeps.holds;
          quiet = restarted_is_quiet kept.disk up.quiet.unlisted;
          file = subst (IsFileOf kept.room kept.entries) (sym base) (up.images _ (content_is_image kept.disk.base kept.disk.past));
        }
    by_case true down = record { holds = keeps.holds; quiet = down.quiet; file = down.left }

-- the same in the words of the calls that are made
pub rest_woken : (kept : GuardState) (room : ℕ) (disk new : DiskState) → Keeps kept → room ≡ kept.room → disk ≡ kept.disk → new ≡ restarted disk → IsFilterAtRest room kept.entries new
rest_woken kept room disk new keeps same_room same_disk is =
    subst (λ r. IsFilterAtRest r kept.entries new) (sym same_room) (subst (IsFilterAtRest kept.room kept.entries) (sym (is ∙ ap restarted same_disk)) (rest_after kept keeps))
