-- How the marks and the bytes of a disk in memory give its record.
use Rattle.std.proofs.Common.{◌≡◌, max, ℕ, suc, ◌+◌, ◌-◌, ◌<◌, ◌≤◌, Bool, true, false, ◌&&◌, nat_lt, nat_le, ◌||◌, if◌then◌else◌, get_or, IsTrue, List, [], ◌∷◌, ◌++◌, length, take, drop, reverse, refl, sym, ◌∙◌, ap, arith, length-append}
use Rattle.std.specs.List.{list_any}
use Rattle.std.proofs.lemmas.List.{take_at, drop_at, reverse-append, length-reverse, drop-append-le, drop_all, ext_get_or}
use Rattle.std.proofs.lemmas.List.Folds.{list_any-append}
use Rattle.std.proofs.lemmas.Bool.Decides.{nat_tests}
use Rattle.lease_disk.specs.declared.mem_disk.Mark.{Mark}
use Rattle.lease_disk.specs.declared.mem_disk.Mark.TheVariants as mark
use Rattle.lease_disk.specs.declared.mem_disk.MemDisk.TheInside.{Inside}
use Rattle.lease_disk.specs.contracts.mem_disk.MemDisk.{the_view}
use Rattle.lease_disk.specs.Past.{Wrote, Synced, content_of, synced_of, is_written_at, is_pending_at, kept_bytes, filled}
use Rattle.lease_disk.specs.PastLaws.{synced_shorter, length-filled, filled_at}
use Rattle.lease_disk.specs.Marks.{unpacked, covers, past_of, IsKept}
use Rattle.lease_disk.specs.declared.stop.Stop.TheVariants.{Unarmed, Met}
use Rattle.lease_disk.specs.Stop.{is_met}
use Rattle.lease_disk.specs.MemDisk.{DiskState, has_place, reserved, left_by, restarted}
use Rattle.lease_disk.proofs.Restart.{left_cases}

pub length-unpacked : (marks : List Mark) (bytes : List ℕ) → length (unpacked marks bytes) ≡ length marks
length-unpacked [] bytes = refl
length-unpacked (mark.Write at count done ∷ marks) bytes = ap suc (length-unpacked marks (take (length bytes - count) bytes))
length-unpacked (mark.Sync ∷ marks) bytes = ap suc (length-unpacked marks bytes)

-- one entry for each mark
pub length-past : (disk : Inside) → length (unpacked (reverse disk.marks.items) disk.written.items) ≡ length disk.marks.items
length-past disk = length-unpacked (reverse disk.marks.items) disk.written.items ∙ length-reverse disk.marks.items

-- a write that joins the record
pub unpacked-write : (marks later : List Mark) (bytes new joined : List ℕ) (at : ℕ) (done : Bool) → later ≡ marks ++ mark.Write at (length new) done ∷ [] → joined ≡ bytes ++ new → unpacked (reverse later) joined ≡ Wrote at new done ∷ unpacked (reverse marks) bytes
unpacked-write marks later bytes new joined at done last all =
    let newest : reverse later ≡ mark.Write at (length new) done ∷ reverse marks = ap reverse last ∙ reverse-append marks (mark.Write at (length new) done ∷ []) in
    let count : length bytes ≡ length (bytes ++ new) - length new = omega (arith, length-append bytes new) in
    ap (λ l. unpacked l joined) newest
    ∙ ap (λ l. unpacked (mark.Write at (length new) done ∷ reverse marks) l) all
    ∙ ap (λ l. Wrote at l done ∷ unpacked (reverse marks) (take (length (bytes ++ new) - length new) (bytes ++ new))) (drop_at bytes new (length (bytes ++ new) - length new) count)
    ∙ ap (λ l. Wrote at new done ∷ unpacked (reverse marks) l) (take_at bytes new (length (bytes ++ new) - length new) count)

-- a sync that joins the record
pub unpacked-sync : (marks later : List Mark) (bytes : List ℕ) → later ≡ marks ++ mark.Sync ∷ [] → unpacked (reverse later) bytes ≡ Synced ∷ unpacked (reverse marks) bytes
unpacked-sync marks later bytes last = ap (λ l. unpacked l bytes) (ap reverse last ∙ reverse-append marks (mark.Sync ∷ []))

-- the place in the record, by what is kept
pub place_of : (disk : Inside) → IsKept disk → (count : ℕ) → has_place (the_view disk) count ≡ (nat_lt (length disk.marks.items) disk.entry_place && nat_le (length disk.written.items + count) disk.byte_place)
place_of disk kept count =
    ap (λ n. nat_lt n disk.entry_place && nat_le (kept_bytes (unpacked (reverse disk.marks.items) disk.written.items) + count) disk.byte_place) (length-past disk)
    ∙ ap (λ n. nat_lt (length disk.marks.items) disk.entry_place && nat_le (n + count) disk.byte_place) (sym kept.bytes)

-- where the record has place, there is place for a mark and for the bytes
pub fits_of : (disk : Inside) (state : DiskState) → IsKept disk → the_view disk ≡ state → (count : ℕ) → IsTrue (has_place state count) → (length disk.marks.items < disk.entry_place) × (length disk.written.items + count ≤ disk.byte_place)
fits_of disk state kept is count place =
    let here : (nat_lt (length disk.marks.items) disk.entry_place && nat_le (length disk.written.items + count) disk.byte_place) ≡ true =
    sym (place_of disk kept count) ∙ ap (λ d. has_place d count) is ∙ place in
    (grind (arith, nat_tests), grind (arith, nat_tests))

-- more place, and the same record
pub reserved_view : (disk later : Inside) (state : DiskState) (calls bytes : ℕ) → IsKept disk → the_view disk ≡ state
    → later.marks.items ≡ disk.marks.items → later.written.items ≡ disk.written.items → later.calls ≡ disk.calls → later.failing.items ≡ disk.failing.items → later.room ≡ disk.room → later.faults ≡ disk.faults → later.base.items ≡ disk.base.items → later.stop ≡ disk.stop
    → later.entry_place ≡ max disk.entry_place (length disk.marks.items + calls) → later.byte_place ≡ max disk.byte_place (length disk.written.items + bytes)
    → the_view later ≡ reserved state calls bytes
reserved_view disk later state calls bytes kept is marks written same_calls same_failing same_room same_faults same_base same_stop entries place =
    let past : unpacked (reverse later.marks.items) later.written.items ≡ unpacked (reverse disk.marks.items) disk.written.items =
    ap (λ l. unpacked (reverse l) later.written.items) marks ∙ ap (λ l. unpacked (reverse disk.marks.items) l) written in
    let count = length-past disk in
    let entry_place : later.entry_place ≡ max disk.entry_place (length (unpacked (reverse disk.marks.items) disk.written.items) + calls) = omega (arith, count, entries) in
    let byte_place : later.byte_place ≡ max disk.byte_place (kept_bytes (unpacked (reverse disk.marks.items) disk.written.items) + bytes) = omega (arith, kept.bytes, place) in
    rw (past, same_calls, same_failing, same_room, same_faults, same_base, same_stop, entry_place, byte_place, ← is) refl

-- no mark past the last covers a byte
pub covered-none : (k : ℕ) (marks : List Mark) (n : ℕ) → length marks ≤ n → list_any (covers k) (drop n marks) ≡ false
covered-none k marks n all = ap (list_any (covers k)) (drop_all n marks all)

-- what a write covers joins what was written since the last sync
pub covered-write : (disk : Inside) → IsKept disk → (later : List Mark) (at : ℕ) (new : List ℕ) (done : Bool) (k : ℕ) → later ≡ disk.marks.items ++ mark.Write at (length new) done ∷ []
    → ((nat_le at k && nat_lt k (at + length new)) || is_written_at (past_of disk) k) ≡ list_any (covers k) (drop disk.firm_marks later)
covered-write disk kept later at new done k last =
    let cut = drop-append-le disk.firm_marks disk.marks.items (mark.Write at (length new) done ∷ []) kept.firm_marks in
    let here = nat_le at k && nat_lt k (at + length new) in
    ap (λ b. here || b) (kept.written k)
    ∙ swapped here (list_any (covers k) (drop disk.firm_marks disk.marks.items))
    ∙ sym (list_any-append (covers k) (drop disk.firm_marks disk.marks.items) (mark.Write at (length new) done ∷ []))
    ∙ sym (ap (list_any (covers k)) cut)
    ∙ sym (ap (λ l. list_any (covers k) (drop disk.firm_marks l)) last)
  where
    swapped : (a b : Bool) → (a || b) ≡ (b || (a || false))
    swapped true true = refl
    swapped true false = refl
    swapped false true = refl
    swapped false false = refl

-- the bytes of a restart, by what is kept
pub filled_kept : (disk : Inside) → IsKept disk → (fill : ℕ) (left : List ℕ) → length left ≡ length disk.content.items
    → ((k : ℕ) → k < length disk.content.items → get_or left k 0 ≡ (if list_any (covers k) (drop disk.firm_marks disk.marks.items) || nat_le disk.firm_length k then fill else get_or disk.content.items k 0))
    → left ≡ filled disk.base.items (past_of disk) fill
filled_kept disk kept fill left size each =
    let base = disk.base.items in
    let past = past_of disk in
    let long = length-filled base past fill in
    let content = ap length kept.content in
    ext_get_or 0 left (filled base past fill) (omega arith) (λ k there.
    each k (omega arith)
    ∙ ap (λ b. if b || nat_le disk.firm_length k then fill else get_or disk.content.items k 0) (sym (kept.written k))
    ∙ ap (λ n. if is_written_at past k || nat_le n k then fill else get_or disk.content.items k 0) kept.firm_length
    ∙ ap (λ (l : List ℕ). if is_pending_at base past k then fill else get_or l k 0) kept.content
    ∙ sym (filled_at base past fill k (omega arith)))

-- the same by what was written over the content, after a stop or without one
pub left_kept : (disk : Inside) → IsKept disk → (old left : List ℕ) (marks : List Mark) → old ≡ disk.content.items → marks ≡ drop disk.firm_marks disk.marks.items → length left ≡ length old
    → ((fill : ℕ) → disk.stop ≡ Met fill → (k : ℕ) → k < length old → get_or left k 0 ≡ (if list_any (covers k) marks || nat_le disk.firm_length k then fill else get_or old k 0))
    → (is_met disk.stop ≡ false → left ≡ old)
    → left ≡ left_by disk.stop disk.base.items (past_of disk)
left_kept disk kept old left marks content_is marks_is size met unmet =
    left_cases disk.stop disk.base.items (past_of disk) left
    (λ fill is. filled_kept disk kept fill left (size ∙ ap length content_is) (λ k there.
    met fill is k (omega (arith, ap length content_is))
    ∙ ap (λ l. if list_any (covers k) l || nat_le disk.firm_length k then fill else get_or old k 0) marks_is
    ∙ ap (λ (l : List ℕ). if list_any (covers k) (drop disk.firm_marks disk.marks.items) || nat_le disk.firm_length k then fill else get_or l k 0) content_is))
    (λ none. unmet none ∙ content_is ∙ kept.content)

-- the disk after a restart, by its fields
pub restarted_view : (disk later : Inside) (state : DiskState) → the_view disk ≡ state
    → later.base.items ≡ left_by disk.stop disk.base.items (past_of disk) → later.marks.items ≡ [] → later.written.items ≡ []
    → later.calls ≡ disk.calls → later.failing.items ≡ disk.failing.items → later.stop ≡ Unarmed → later.room ≡ disk.room → later.entry_place ≡ disk.entry_place → later.byte_place ≡ disk.byte_place → later.faults ≡ disk.faults
    → the_view later ≡ restarted state
restarted_view disk later state is base marks written same_calls same_failing none same_room same_entries same_bytes same_faults =
    let past : past_of later ≡ [] = ap (λ l. unpacked (reverse l) later.written.items) marks in
    rw (past, base, same_calls, same_failing, none, same_room, same_entries, same_bytes, same_faults, ← is) refl
