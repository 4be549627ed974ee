-- Leases on a disk in memory that stops.
use Rattle.std.proofs.Common.{◌≡◌, ℕ, ◌+◌, ◌^◌, ◌<◌, ◌≤◌, Bool, true, false, not, ◌||◌, if◌then◌else◌, List, [], ◌∷◌, length, replicate, refl, sym, ◌∙◌, ap, subst, arith, length-append}
use Rattle.std.proofs.lemmas.List.{length-replicate}
use Rattle.fault_counts.specs.Causes.{counted}
use Rattle.lease_disk.specs.declared.stop.Stop.{Stop}
use Rattle.lease_disk.specs.declared.stop.Stop.TheVariants.{Unarmed, Armed, Met}
use Rattle.lease_disk.specs.Call.{Len, Read, Sync}
use Rattle.lease_disk.specs.Calls.{Ran}
use Rattle.lease_disk.specs.Images.{overwritten}
use Rattle.lease_disk.specs.Past.{Wrote, Synced, content_of, is_pending}
use Rattle.lease_disk.specs.Stop.{is_met, is_stopping, stop_after, stops_within}
use Rattle.lease_disk.specs.MemDisk.{DiskState, Leads, new_disk, restarted}
use Rattle.lease_disk.specs.Runs.{IsReadyFor, is_run_served, after_run, ran_is, run_past, run_stop, falls_at_stop, opening_is_served, firm_write_stops}
use Rattle.leaf_lease.specs.LeaseFile.{file_size, head_size, fresh_rest}
use Rattle.leaf_lease.specs.Format.{format_calls}
use Rattle.leaf_lease.specs.Leases.{lease_calls}

-- a new disk with room for a lease file is ready for a format
pub new_disk_is_ready : (id : List ℕ) (height : ℕ) → length id ≡ 16 → IsReadyFor (format_calls id height []) (new_disk (file_size height) [])
new_disk_is_ready id height size =
    let zeros = length-replicate {A = ℕ} (2 ^ height) 0 in
    let rest = length-append id (height ∷ replicate (2 ^ height) 0) in
    record { unlisted = refl; unmet = refl; within = (omega arith, (omega arith, (omega arith, tt))); entries = omega arith; bytes = omega arith }

-- A format of a new disk with room for the lease file is served. It leaves nothing pending, no stop armed and no call listed.
pub formatted_new_disk : (id : List ℕ) (height : ℕ) (served : Bool) (new : DiskState) → length id ≡ 16 → Ran Leads (new_disk (file_size height) []) (format_calls id height []) served new
    → (served ≡ true) × (is_pending new.past ≡ false) × (new.stop ≡ Unarmed) × (new.failing ≡ []) × (new.room ≡ file_size height)
formatted_new_disk id height served new size ran =
    let disk = new_disk (file_size height) [] in
    let falls = falls_at_stop disk (format_calls id height []) (new_disk_is_ready id height size) in
    let is = ran_is disk (format_calls id height []) served new ran in (
      is.0 ∙ falls.answer,
      ap (λ (d : DiskState). is_pending d.past) is.1 ∙ ap is_pending falls.past,
      ap (λ (d : DiskState). d.stop) is.1 ∙ falls.stop,
      ap (λ (d : DiskState). d.failing) is.1 ∙ falls.failing,
      ap (λ (d : DiskState). d.room) is.1 ∙ falls.room,
    )

-- A lease on a disk that is ready for it, has nothing pending and stops at its first or second call is not served, and
-- the restart leaves the byte of the stop in the place of the leaf's and all else as it was.
pub stopped_lease : (disk new : DiskState) (leaf call fill : ℕ) (served : Bool) → IsReadyFor (lease_calls leaf) disk → is_pending disk.past ≡ false → head_size + leaf < length (content_of disk.base disk.past)
    → disk.stop ≡ Armed call fill → 1 ≤ call → call ≤ 2 → Ran Leads disk (lease_calls leaf) served new
    → (served ≡ false) × ((restarted new).base ≡ overwritten (content_of disk.base disk.past) (head_size + leaf) (fill ∷ [])) × (new.failing ≡ []) × (new.room ≡ disk.room)
stopped_lease disk new leaf call fill served ready still there armed first last ran =
    let ends = firm_write_stops disk (head_size + leaf) (1 ∷ []) call fill ready still (omega arith) armed first last in
    let falls = falls_at_stop disk (lease_calls leaf) ready in
    let is = ran_is disk (lease_calls leaf) served new ran in (
      is.0 ∙ ends.0,
      ap (λ d. (restarted d).base) is.1 ∙ ends.1,
      ap (λ (d : DiskState). d.failing) is.1 ∙ falls.failing ∙ ready.unlisted,
      ap (λ (d : DiskState). d.room) is.1 ∙ falls.room,
    )

-- A lease on a disk that is ready for it and stops at neither of its calls is served, and leaves nothing pending.
pub served_lease : (disk new : DiskState) (leaf : ℕ) (served : Bool) → IsReadyFor (lease_calls leaf) disk → stops_within 2 disk.stop ≡ false → Ran Leads disk (lease_calls leaf) served new
    → (served ≡ true) × (is_pending new.past ≡ false) × (new.stop ≡ run_stop disk.stop (lease_calls leaf)) × (new.failing ≡ []) × (new.room ≡ disk.room)
served_lease disk new leaf served ready goes_on ran =
    let falls = falls_at_stop disk (lease_calls leaf) ready in
    let is = ran_is disk (lease_calls leaf) served new ran in (
      is.0 ∙ falls.answer ∙ ap not goes_on,
      ap (λ (d : DiskState). is_pending d.past) is.1 ∙ ap is_pending falls.past ∙ nothing_pending disk.stop goes_on,
      ap (λ (d : DiskState). d.stop) is.1 ∙ falls.stop,
      ap (λ (d : DiskState). d.failing) is.1 ∙ falls.failing ∙ ready.unlisted,
      ap (λ (d : DiskState). d.room) is.1 ∙ falls.room,
    )
  where
    neither : (a b : Bool) → (a || (b || false)) ≡ false → (a ≡ false) × (b ≡ false)
    neither true b is = absurd (cc)
    neither false true is = absurd (cc)
    neither false false is = (refl, refl)

    nothing_pending : (stop : Stop) → stops_within 2 stop ≡ false → is_pending (run_past stop (lease_calls leaf) disk.past) ≡ false
    nothing_pending stop goes_on =
        let none = neither (is_stopping stop) (is_stopping (stop_after stop)) goes_on in
        let written = Wrote (head_size + leaf) (1 ∷ []) true ∷ disk.past in
        ap (λ b. is_pending (if b then Wrote (head_size + leaf) (1 ∷ []) false ∷ disk.past else (if is_stopping (stop_after stop) then written else Synced ∷ written))) none.0
        ∙ ap (λ b. is_pending (if b then written else Synced ∷ written)) none.1

-- An opening after a restart is served, and makes no entry, since nothing is pending then.
pub opened_once_restarted : (disk new : DiskState) (count : ℕ) (served : Bool) → disk.failing ≡ [] → Ran Leads (restarted disk) (Sync ∷ Len ∷ Read 0 count ∷ []) served new
    → (served ≡ true) × (new ≡ record (restarted disk) { calls = counted (counted (counted disk.calls)) })
opened_once_restarted disk new count served none ran =
    let is = ran_is (restarted disk) (Sync ∷ Len ∷ Read 0 count ∷ []) served new ran in
    let ends = opening_is_served (restarted disk) 0 count none refl refl in
    (is.0 ∙ ends.0, is.1 ∙ ends.1)
