-- A filter on a disk in memory that a host makes, and that may stop while the filter is written.
use Rattle.std.proofs.Common.{◌≡◌, inl, inr, ℕ, zero, suc, ◌+◌, ◌*◌, ◌^◌, ◌<◌, ◌≤◌, ◌==◌, Bool, true, false, not, ◌&&◌, nat_le, List, [], ◌∷◌, length, replicate, refl, sym, ◌∙◌, ap, subst, arith}
use Rattle.std.specs.Prelude.{if◌then◌else◌, Option, Some, None}
use Rattle.std.proofs.lemmas.Bool.{cases_lt}
use Rattle.std.proofs.lemmas.List.{length-replicate}
use Rattle.aip_addr.specs.declared.ids.KeyId.{KeyId}
use Rattle.fault_counts.specs.Causes.{counted}
use Rattle.lease_disk.specs.declared.stop.Stop.{Stop}
use Rattle.lease_disk.specs.declared.stop.Stop.TheVariants.{Unarmed, Armed, Met}
use Rattle.lease_disk.specs.Call.{Call, Len, Read, Sync}
use Rattle.lease_disk.specs.Calls.{Ran, firm_calls}
use Rattle.lease_disk.specs.Images.{overwritten}
use Rattle.lease_disk.specs.Kept.{gated}
use Rattle.lease_disk.specs.Past.{Wrote, Synced, content_of, is_pending, filled, kept_bytes}
use Rattle.lease_disk.specs.PastLaws.{filled_last, length-overwritten}
use Rattle.lease_disk.specs.Stop.{armed, is_met, stops_within}
use Rattle.lease_disk.specs.MemDisk.{DiskState, Leads, left_by, new_disk, reserved, restarted, stopped_at}
use Rattle.lease_disk.specs.Runs.{IsReadyFor, after_run, changes_in, falls_at_stop, opening_is_served, ran_is, run_past, run_stop}
use Rattle.shutoff_filter.specs.Entries.{SameInForce, entries_of}
use Rattle.shutoff_filter.specs.FilterFile.{IsFilter, IsFilterOf, file_size, open_gate, slot_in, slot_start}
use Rattle.shutoff_filter.specs.Format.{format_calls}
use Rattle.shutoff_filter.specs.ImageLaws.{body_filled, gate_filled, gate_written, length-entry_bytes}
use Rattle.shutoff_filter.specs.Keeping.{entries_in, entry_bytes, keep_calls}
use Rattle.shutoff_filter.specs.SlotLaws.{spare_within}
use Rattle.shutoff_filter.specs.Spare.{closing_calls, spare_in}
use Rattle.shutoff_filter.specs.declared.entries.ShutOffEntry.{ShutOffEntry}
use Rattle.shutoff_filter.specs.declared.slots.Slot.{Slot}

-- a disk on which no call is listed to fail, no stop is armed, and no write waits for a sync
pub record IsQuiet (disk : DiskState) : Type 0 where
  pub unlisted : disk.failing ≡ []
  pub unarmed : disk.stop ≡ Unarmed
  pub still : is_pending disk.past ≡ false

-- a new disk with room for a filter file is quiet, and ready for a format
pub new_disk_is_quiet : (room : ℕ) → IsQuiet (new_disk room [])
new_disk_is_quiet room = record { unlisted = refl; unarmed = refl; still = refl }

pub new_disk_is_ready : (room : ℕ) → IsReadyFor (format_calls room []) (new_disk (file_size room) [])
new_disk_is_ready room =
    let zeros = length-replicate {A = ℕ} (28 * (room + 1)) 0 in
    record { unlisted = refl; unmet = refl; within = (omega arith, (omega arith, (omega arith, tt))); entries = omega arith; bytes = omega arith }

-- no stop falls where none is armed
never : (n : ℕ) → stops_within n Unarmed ≡ false
never zero = refl
never (suc n) = never n

-- how calls end on a disk that is ready for them and on which no stop is armed: all are served, and all else stays
pub record Serves (old new : DiskState) (calls : List Call) (served : Bool) : Type 0 where
  pub answer : served ≡ true
  pub past : new.past ≡ run_past Unarmed calls old.past
  pub stop : new.stop ≡ run_stop Unarmed calls
  pub base : new.base ≡ old.base
  pub failing : new.failing ≡ old.failing
  pub room : new.room ≡ old.room
  pub entry_place : new.entry_place ≡ old.entry_place
  pub byte_place : new.byte_place ≡ old.byte_place

-- calls end so
pub unarmed_is_served : (old new : DiskState) (calls : List Call) (served : Bool) → IsReadyFor calls old → old.stop ≡ Unarmed → Ran Leads old calls served new → Serves old new calls served
unarmed_is_served old new calls served ready unarmed ran =
    let falls = falls_at_stop old calls ready in
    let is = ran_is old calls served new ran in
    record {
      answer = is.0 ∙ falls.answer ∙ ap (λ s. not (stops_within (changes_in calls) s)) unarmed ∙ ap not (never (changes_in calls));
      past = ap (λ (d : DiskState). d.past) is.1 ∙ falls.past ∙ ap (λ s. run_past s calls old.past) unarmed;
      stop = ap (λ (d : DiskState). d.stop) is.1 ∙ falls.stop ∙ ap (λ s. run_stop s calls) unarmed;
      base = ap (λ (d : DiskState). d.base) is.1 ∙ falls.base;
      failing = ap (λ (d : DiskState). d.failing) is.1 ∙ falls.failing;
      room = ap (λ (d : DiskState). d.room) is.1 ∙ falls.room;
      entry_place = ap (λ (d : DiskState). d.entry_place) is.1 ∙ falls.entry_place;
      byte_place = ap (λ (d : DiskState). d.byte_place) is.1 ∙ falls.byte_place;
    }

-- A format of a new disk is served, and leaves it quiet.
pub served_format : (room : ℕ) (new : DiskState) (served : Bool) → Ran Leads (new_disk (file_size room) []) (format_calls room []) served new
    → (served ≡ true) × IsQuiet new × (new.room ≡ file_size room)
served_format room new served ran =
    let is = unarmed_is_served (new_disk (file_size room) []) new (format_calls room []) served (new_disk_is_ready room) refl ran in
    (is.answer, record { unlisted = is.failing; unarmed = is.stop; still = ap is_pending is.past }, is.room)

-- An opening of a quiet disk is served, and makes no entry.
pub served_opening : (disk new : DiskState) (count : ℕ) (served : Bool) → IsQuiet disk → Ran Leads disk (Sync ∷ Len ∷ Read 0 count ∷ []) served new
    → (served ≡ true) × (new ≡ record disk { calls = counted (counted (counted disk.calls)) })
served_opening disk new count served quiet ran =
    let is = ran_is disk (Sync ∷ Len ∷ Read 0 count ∷ []) served new ran in
    let ends = opening_is_served disk 0 count quiet.unlisted quiet.unarmed quiet.still in
    (is.0 ∙ ends.0, is.1 ∙ ends.1)

-- a disk that was restarted is quiet
pub restarted_is_quiet : (disk : DiskState) → disk.failing ≡ [] → IsQuiet (restarted disk)
restarted_is_quiet disk none = record { unlisted = none; unarmed = refl; still = refl }

-- a quiet disk on which an entry can be written to any slot
pub record IsReadyToKeep (room : ℕ) (disk : DiskState) : Type 0 where
  pub quiet : IsQuiet disk
  pub holds : file_size room ≤ disk.room
  pub entries : length disk.past + 4 ≤ disk.entry_place
  pub bytes : kept_bytes disk.past + 28 ≤ disk.byte_place

-- Closing a slot for the next entry is served on a quiet disk with place for 6 entries and 29 bytes more. Then an entry
-- can be written.
pub served_ready : (disk new : DiskState) (room now : ℕ) (slots : List Slot) (served : Bool) → IsQuiet disk → file_size room ≤ disk.room → length slots ≡ room + 1
    → Ran Leads (reserved disk 6 29) (closing_calls slots (spare_in now slots)) served new
    → (served ≡ true) × IsReadyToKeep room new × (new.room ≡ disk.room)
served_ready disk new room now slots served quiet holds whole ran = by (spare_in now slots) (λ number is. spare_within now slots number is) ran
  where
    shut : (number : ℕ) (b : Bool) → number ≤ room → Ran Leads (reserved disk 6 29) (if b then firm_calls (slot_start number) (0 ∷ []) else []) served new
        → (served ≡ true) × IsReadyToKeep room new × (new.room ≡ disk.room)
    shut number false within ran =
        let is = unarmed_is_served (reserved disk 6 29) new [] served (record { unlisted = quiet.unlisted; unmet = ap is_met quiet.unarmed; within = tt; entries = omega arith; bytes = omega arith }) quiet.unarmed ran in
        let past = ap length is.past in
        let kept = ap kept_bytes is.past in (
          is.answer,
          record { quiet = record { unlisted = is.failing ∙ quiet.unlisted; unarmed = is.stop; still = ap is_pending is.past ∙ quiet.still }; holds = omega (arith, is.room); entries = omega (arith, is.entry_place); bytes = omega (arith, is.byte_place) },
          is.room,
        )
    shut number true within ran =
        let is = unarmed_is_served (reserved disk 6 29) new (firm_calls (slot_start number) (0 ∷ [])) served (record { unlisted = quiet.unlisted; unmet = ap is_met quiet.unarmed; within = (omega arith, tt); entries = omega arith; bytes = omega arith }) quiet.unarmed ran in
        let past = ap length is.past in
        let kept = ap kept_bytes is.past in (
          is.answer,
          record { quiet = record { unlisted = is.failing ∙ quiet.unlisted; unarmed = is.stop; still = ap is_pending is.past }; holds = omega (arith, is.room); entries = omega (arith, is.entry_place); bytes = omega (arith, is.byte_place) },
          is.room,
        )

    by : (o : Option ℕ) → ((number : ℕ) → o ≡ Some number → number < length slots) → Ran Leads (reserved disk 6 29) (closing_calls slots o) served new
        → (served ≡ true) × IsReadyToKeep room new × (new.room ≡ disk.room)
    by None within ran = shut 0 false (omega arith) ran
    by (Some number) within ran = shut number (slot_in slots number).is_open (omega (arith, within number refl)) ran

-- a stop that is armed or not, but hasn't fallen, leaves the disk ready for the calls of an entry
pub keeps_ready : (disk : DiskState) (room number : ℕ) (to : KeyId) (until : ℕ) (stop : Stop) → IsReadyToKeep room disk → number ≤ room → length to.bytes ≡ 19 → is_met stop ≡ false
    → IsReadyFor (keep_calls number to until) (record disk { stop = stop })
keeps_ready disk room number to until stop ready within nineteen unmet =
    let size = length-entry_bytes to until nineteen in
    let holds = ready.holds in
    record {
      unlisted = ready.quiet.unlisted;
      unmet = unmet;
      within = (omega arith, (omega arith, tt));
      entries = omega (arith, ready.entries);
      bytes = omega (arith, ready.bytes);
    }

-- An entry is written where no stop is armed, and leaves the disk quiet.
pub served_keep : (disk new : DiskState) (room number : ℕ) (to : KeyId) (until : ℕ) (served : Bool) → IsReadyToKeep room disk → number ≤ room → length to.bytes ≡ 19
    → Ran Leads disk (keep_calls number to until) served new
    → (served ≡ true) × IsQuiet new × (new.room ≡ disk.room)
served_keep disk new room number to until served ready within nineteen ran =
    let unmet : is_met disk.stop ≡ false = ap is_met ready.quiet.unarmed in
    let is = unarmed_is_served disk new (keep_calls number to until) served (keeps_ready disk room number to until disk.stop ready within nineteen unmet) ready.quiet.unarmed ran in
    (is.answer, record { unlisted = is.failing ∙ ready.quiet.unlisted; unarmed = is.stop; still = ap is_pending is.past }, is.room)

-- whether a stop at that call of four, which leaves that byte where a write waits, leaves the entry
abbrev pub is_added : ℕ → ℕ → Bool
is_added call fill = nat_le 3 call && (fill == open_gate)

-- a filter file of this room and length, with such entries at now and later
pub record HasInForce (room size now : ℕ) (entries : List ShutOffEntry) (file : List ℕ) : Type 0 where
  pub filter : IsFilter room file
  pub long : length file ≡ size
  pub same : SameInForce now entries (entries_in room file)

-- what stops leave, of a filter of which one slot is closed
module _ (disk : DiskState) (room now number : ℕ) (to : KeyId) (until : ℕ) (slots : List Slot) (whole : length slots ≡ room + 1) (within : number ≤ room) (nineteen : length to.bytes ≡ 19) (fits : until < 2 ^ 64)
    (still : is_pending disk.past ≡ false) (is : IsFilterOf room slots (content_of disk.base disk.past)) (shut : (slot_in slots number).is_open ≡ false) where
  -- the file as it reads
  abbrev before : List ℕ
  before = content_of disk.base disk.past

  -- the entry
  abbrev entry : ShutOffEntry
  entry = record { to = to; until = until }

  -- where a stop falls at the first or second call, its byte stands over what stands past the gate
  early_stop : (done : Bool) (fill : ℕ) → HasInForce room (length before) now (entries_of slots) (filled disk.base (Wrote (slot_start number + 1) (entry_bytes to until) done ∷ disk.past) fill)
  early_stop done fill =
      let long = is.filter.whole in
      let size = length-entry_bytes to until nineteen in
      let left = body_filled room now number to until slots before whole within nineteen fits is shut fill in
      let same : filled disk.base (Wrote (slot_start number + 1) (entry_bytes to until) done ∷ disk.past) fill ≡ overwritten before (slot_start number + 1) (replicate 27 fill) =
      filled_last disk.base disk.past (slot_start number + 1) (entry_bytes to until) done fill still (omega arith) ∙ ap (λ n. overwritten before (slot_start number + 1) (replicate n fill)) size in
      let fills = length-replicate {A = ℕ} 27 fill in
      let stays = length-overwritten before (slot_start number + 1) (replicate 27 fill) in
      subst (HasInForce room (length before) now (entries_of slots)) (sym same) (record { filter = left.0; long = omega arith; same = left.1 })

  -- and where it falls at the third or fourth, over the gate
  late_stop : (done : Bool) (fill : ℕ) → HasInForce room (length before) now (if fill == open_gate then entry ∷ entries_of slots else entries_of slots) (filled disk.base (Wrote (slot_start number) (open_gate ∷ []) done ∷ Synced ∷ Wrote (slot_start number + 1) (entry_bytes to until) true ∷ disk.past) fill)
  late_stop done fill =
      let long = is.filter.whole in
      let size = length-entry_bytes to until nineteen in
      let mid = overwritten before (slot_start number + 1) (entry_bytes to until) in
      let grown = length-overwritten before (slot_start number + 1) (entry_bytes to until) in
      let same : filled disk.base (Wrote (slot_start number) (open_gate ∷ []) done ∷ Synced ∷ Wrote (slot_start number + 1) (entry_bytes to until) true ∷ disk.past) fill ≡ gated (slot_start number) fill (entry_bytes to until) before =
      filled_last disk.base (Synced ∷ Wrote (slot_start number + 1) (entry_bytes to until) true ∷ disk.past) (slot_start number) (open_gate ∷ []) done fill refl (omega arith) in
      subst (HasInForce room (length before) now (if fill == open_gate then entry ∷ entries_of slots else entries_of slots)) (sym same) (record {
        long = omega (arith, length-overwritten mid (slot_start number) (fill ∷ []));
        filter = (gate_written room now number to until slots before whole within nineteen fits is shut fill).filter;
        same = gate_filled room now number to until slots before whole within nineteen fits is shut fill;
      })

  -- what a stop at that call leaves
  abbrev left_over : ℕ → ℕ → Type 0
  left_over call fill = (run_stop (Armed call fill) (keep_calls number to until) ≡ Met fill)
      × HasInForce room (length before) now (if is_added call fill then entry ∷ entries_of slots else entries_of slots) (filled disk.base (run_past (Armed call fill) (keep_calls number to until) disk.past) fill)

  each_stop : (call fill : ℕ) → 1 ≤ call → call ≤ 4 → left_over call fill
  each_stop call fill first last = elim (cases_lt call 2) [
    | inl one ↦ let e : call ≡ 1 = omega arith in subst (λ n. left_over n fill) (sym e) (refl, early_stop false fill)
    | inr from ↦ elim (cases_lt call 3) [
      | inl two ↦ let e : call ≡ 2 = omega arith in subst (λ n. left_over n fill) (sym e) (refl, early_stop true fill)
      | inr from ↦ elim (cases_lt call 4) [
        | inl three ↦ let e : call ≡ 3 = omega arith in subst (λ n. left_over n fill) (sym e) (refl, late_stop false fill)
        | inr four ↦ let e : call ≡ 4 = omega arith in subst (λ n. left_over n fill) (sym e) (refl, late_stop true fill)
      ]
    ]
  ]

  -- An entry isn't written where a stop is armed at one of its four calls. The restart leaves a filter file with the entries
  -- that were there, and with this one exactly where the stop falls at the gate and its byte opens it.
  pub stopped_keep : (new : DiskState) (call fill : ℕ) (served : Bool) → IsReadyFor (keep_calls number to until) disk → disk.stop ≡ Armed call fill → 1 ≤ call → call ≤ 4
      → Ran Leads disk (keep_calls number to until) served new
      → (served ≡ false) × HasInForce room (length before) now (if is_added call fill then entry ∷ entries_of slots else entries_of slots) (restarted new).base × (new.failing ≡ []) × (new.room ≡ disk.room)
  stopped_keep new call fill served ready armed first last ran =
      let falls = falls_at_stop disk (keep_calls number to until) ready in
      let ends = ran_is disk (keep_calls number to until) served new ran in
      let left = each_stop call fill first last in
      let after = after_run disk (keep_calls number to until) in
      let stop : after.stop ≡ Met fill = falls.stop ∙ ap (λ s. run_stop s (keep_calls number to until)) armed ∙ left.0 in
      let past : after.past ≡ run_past (Armed call fill) (keep_calls number to until) disk.past = falls.past ∙ ap (λ s. run_past s (keep_calls number to until) disk.past) armed in
      let base : (restarted new).base ≡ filled disk.base (run_past (Armed call fill) (keep_calls number to until) disk.past) fill =
      ap (λ (d : DiskState). (restarted d).base) ends.1 ∙ ap (λ s. left_by s after.base after.past) stop ∙ ap (λ b. filled b after.past fill) falls.base ∙ ap (λ p. filled disk.base p fill) past in (
        ends.0 ∙ falls.answer ∙ ap (λ s. not (stops_within 4 s)) armed ∙ ap not (met_within call fill first last),
        subst (HasInForce room (length before) now (if is_added call fill then entry ∷ entries_of slots else entries_of slots)) (sym base) left.1,
        ap (λ (d : DiskState). d.failing) ends.1 ∙ falls.failing ∙ ready.unlisted,
        ap (λ (d : DiskState). d.room) ends.1 ∙ falls.room,
      )
    where
      met_within : (call fill : ℕ) → 1 ≤ call → call ≤ 4 → stops_within 4 (Armed call fill) ≡ true
      met_within call fill first last = elim (cases_lt call 2) [
        | inl one ↦ let e : call ≡ 1 = omega arith in subst (λ n. stops_within 4 (Armed n fill) ≡ true) (sym e) refl
        | inr from ↦ elim (cases_lt call 3) [
          | inl two ↦ let e : call ≡ 2 = omega arith in subst (λ n. stops_within 4 (Armed n fill) ≡ true) (sym e) refl
          | inr from ↦ elim (cases_lt call 4) [
            | inl three ↦ let e : call ≡ 3 = omega arith in subst (λ n. stops_within 4 (Armed n fill) ≡ true) (sym e) refl
            | inr four ↦ let e : call ≡ 4 = omega arith in subst (λ n. stops_within 4 (Armed n fill) ≡ true) (sym e) refl
          ]
        ]
      ]

-- The same where a stop is armed on a disk that is ready for the entry. The restarted disk is quiet.
pub halted_keep : (disk new : DiskState) (room now number : ℕ) (to : KeyId) (until : ℕ) (slots : List Slot) (call fill : ℕ) (served : Bool) → IsReadyToKeep room disk → length slots ≡ room + 1 → number ≤ room → length to.bytes ≡ 19 → until < 2 ^ 64
    → IsFilterOf room slots (content_of disk.base disk.past) → (slot_in slots number).is_open ≡ false → 1 ≤ call → call ≤ 4
    → Ran Leads (stopped_at disk call fill) (keep_calls number to until) served new
    → (served ≡ false) × HasInForce room (length (content_of disk.base disk.past)) now (if is_added call fill then record { to = to; until = until } ∷ entries_of slots else entries_of slots) (restarted new).base × IsQuiet (restarted new) × ((restarted new).room ≡ disk.room)
halted_keep disk new room now number to until slots call fill served ready whole within nineteen fits is shut first last ran =
    let stop : armed call fill disk.stop ≡ Armed call fill = ap (armed call fill) ready.quiet.unarmed in
    let calls = keeps_ready disk room number to until (armed call fill disk.stop) ready within nineteen (ap is_met stop) in
    let ends = stopped_keep (stopped_at disk call fill) room now number to until slots whole within nineteen fits ready.quiet.still is shut new call fill served calls stop first last ran in
    (ends.0, ends.1, restarted_is_quiet new ends.2, ends.3)
