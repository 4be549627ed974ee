-- Runs of calls of a disk in memory: what they answer, and where they fall at a stop.
use Rattle.std.proofs.Common.{◌≡◌, ◌⊎◌, inl, inr, ℕ, suc, ◌+◌, ◌-◌, ◌<◌, ◌≤◌, Bool, true, false, not, ◌&&◌, ◌||◌, ◌==◌, nat_lt, nat_le, if◌then◌else◌, List, [], ◌∷◌, length, max, replicate, refl, sym, ◌∙◌, ap, subst, arith}
use Rattle.std.specs.List.{list_any}
use Rattle.std.proofs.lemmas.Bool.{cases_lt}
use Rattle.std.proofs.lemmas.Bool.Decides.{nat_tests}
use Rattle.fault_counts.specs.Causes.{counted}
use Rattle.lease_disk.specs.declared.stop.Stop.{Stop}
use Rattle.lease_disk.specs.declared.stop.Stop.TheVariants.{Unarmed, Armed, Met}
use Rattle.lease_disk.specs.Call.{Call, Len, Read, Write, Sync}
use Rattle.lease_disk.specs.Calls.{Ran, firm_calls}
use Rattle.lease_disk.specs.Images.{overwritten}
use Rattle.lease_disk.specs.Past.{Act, Wrote, Synced, content_of, is_pending, kept_bytes, filled}
use Rattle.lease_disk.specs.PastLaws.{filled_last}
use Rattle.lease_disk.specs.Stop.{is_met, is_stopping, stop_after, stops_within}
use Rattle.lease_disk.specs.MemDisk.{DiskState, is_listed, refuses_looks, refuses_changes, has_place, is_entered, fails, past_after, stop_after_call, after_call, Leads, reserved, left_by, restarted}

-- whether every call of a run is served
abbrev pub is_run_served : DiskState → List Call → Bool
is_run_served disk [] = true
is_run_served disk (call ∷ calls) = not (fails disk call) && is_run_served (after_call disk call) calls

-- the disk after a run, of which the first call that fails is the last
abbrev pub after_run : DiskState → List Call → DiskState
after_run disk [] = disk
after_run disk (call ∷ calls) = if fails disk call then after_call disk call else after_run (after_call disk call) calls

not_true : (b : Bool) → true ≡ not b → b ≡ false
not_true true is = is
not_true false is = refl

not_false : (b : Bool) → false ≡ not b → b ≡ true
not_false true is = refl
not_false false is = is

-- how a run ends follows from the disk and the calls
pub ran_is : (old : DiskState) (calls : List Call) (served : Bool) (new : DiskState) → Ran Leads old calls served new → (served ≡ is_run_served old calls) × (new ≡ after_run old calls)
ran_is old [] served new ran = (ran.0, sym ran.1)
ran_is old (call ∷ calls) served new (inl ran) =
    let failed = not_false (fails old call) ran.1.answer in (
      ran.0 ∙ sym (ap (λ b. not b && is_run_served (after_call old call) calls) failed),
      ran.1.disk ∙ sym (ap (λ b. if b then after_call old call else after_run (after_call old call) calls) failed),
    )
ran_is old (call ∷ calls) served new (inr ran) =
    let worked = not_true (fails old call) ran.1.answer in
    let rest = ran_is ran.0 calls served new ran.2 in (
      rest.0 ∙ ap (λ d. is_run_served d calls) ran.1.disk ∙ sym (ap (λ b. not b && is_run_served (after_call old call) calls) worked),
      rest.1 ∙ ap (λ d. after_run d calls) ran.1.disk ∙ sym (ap (λ b. if b then after_call old call else after_run (after_call old call) calls) worked),
    )

-- how many writes and syncs are among these calls
abbrev pub changes_in : List Call → ℕ
changes_in [] = 0
changes_in (Len ∷ calls) = changes_in calls
changes_in (Read at count ∷ calls) = changes_in calls
changes_in (Write at bytes ∷ calls) = suc (changes_in calls)
changes_in (Sync ∷ calls) = suc (changes_in calls)

-- how many bytes these calls write
abbrev pub bytes_in : List Call → ℕ
bytes_in [] = 0
bytes_in (Len ∷ calls) = bytes_in calls
bytes_in (Read at count ∷ calls) = bytes_in calls
bytes_in (Write at bytes ∷ calls) = length bytes + bytes_in calls
bytes_in (Sync ∷ calls) = bytes_in calls

-- no write of these calls ends past the room
abbrev pub IsWithin : ℕ → List Call → Type 0
IsWithin room [] = Unit {0}
IsWithin room (Len ∷ calls) = IsWithin room calls
IsWithin room (Read at count ∷ calls) = IsWithin room calls
IsWithin room (Write at bytes ∷ calls) = (at + length bytes ≤ room) × IsWithin room calls
IsWithin room (Sync ∷ calls) = IsWithin room calls

-- No call fails but at a stop: none is listed, the disk has not stopped, and it has room for what these calls write and
-- place in its record for an entry of each.
pub record IsReadyFor (calls : List Call) (disk : DiskState) : Type 0 where
  pub unlisted : disk.failing ≡ []
  pub unmet : is_met disk.stop ≡ false
  pub within : IsWithin disk.room calls
  pub entries : length disk.past + changes_in calls ≤ disk.entry_place
  pub bytes : kept_bytes disk.past + bytes_in calls ≤ disk.byte_place

-- the record after these calls, where none fails but at a stop: the write at which the disk stops is not done
abbrev pub run_past : Stop → List Call → List Act → List Act
run_past stop [] past = past
run_past stop (Len ∷ calls) past = run_past stop calls past
run_past stop (Read at count ∷ calls) past = run_past stop calls past
run_past stop (Write at bytes ∷ calls) past = if is_stopping stop then Wrote at bytes false ∷ past else run_past (stop_after stop) calls (Wrote at bytes true ∷ past)
run_past stop (Sync ∷ calls) past = if is_stopping stop then past else run_past (stop_after stop) calls (if is_pending past then Synced ∷ past else past)

-- the stop after these calls
abbrev pub run_stop : Stop → List Call → Stop
run_stop stop [] = stop
run_stop stop (Len ∷ calls) = run_stop stop calls
run_stop stop (Read at count ∷ calls) = run_stop stop calls
run_stop stop (Write at bytes ∷ calls) = if is_stopping stop then stop_after stop else run_stop (stop_after stop) calls
run_stop stop (Sync ∷ calls) = if is_stopping stop then stop_after stop else run_stop (stop_after stop) calls

-- what a run does where none of its calls fails but at a stop: it is served where the stop falls at none of its writes
-- and syncs, and all but the record, the stop and the counts stays
pub record FallsAtStop (disk : DiskState) (calls : List Call) : Type 0 where
  pub answer : is_run_served disk calls ≡ not (stops_within (changes_in calls) disk.stop)
  pub past : (after_run disk calls).past ≡ run_past disk.stop calls disk.past
  pub stop : (after_run disk calls).stop ≡ run_stop disk.stop calls
  pub base : (after_run disk calls).base ≡ disk.base
  pub failing : (after_run disk calls).failing ≡ disk.failing
  pub room : (after_run disk calls).room ≡ disk.room
  pub entry_place : (after_run disk calls).entry_place ≡ disk.entry_place
  pub byte_place : (after_run disk calls).byte_place ≡ disk.byte_place

unlisted_call : (disk : DiskState) → disk.failing ≡ [] → is_listed disk ≡ false
unlisted_call disk none = ap (list_any (λ number. number == counted disk.calls)) none

-- a stop that does not fall at the next write or sync is not met by it
unmet_after : (stop : Stop) → is_stopping stop ≡ false → is_met (stop_after stop) ≡ false
unmet_after Unarmed no_stop = refl
unmet_after (Armed call fill) no_stop = ap (λ b. is_met (if b then Met fill else Armed (call - 1) fill)) no_stop
unmet_after (Met fill) no_stop = absurd (cc)

or_false : (b : Bool) → (b || false) ≡ b
or_false true = refl
or_false false = refl

and_true : (b : Bool) → (b && true) ≡ b
and_true true = refl
and_true false = refl

and_false : (b : Bool) → (b && false) ≡ false
and_false true = refl
and_false false = refl

-- one call of a run
module _ (disk : DiskState) (call : Call) (calls : List Call) where
  -- it is served, and the run goes on
  step_on : fails disk call ≡ false → FallsAtStop (after_call disk call) calls
      → not (stops_within (changes_in calls) (after_call disk call).stop) ≡ not (stops_within (changes_in (call ∷ calls)) disk.stop)
      → run_past (after_call disk call).stop calls (after_call disk call).past ≡ run_past disk.stop (call ∷ calls) disk.past
      → run_stop (after_call disk call).stop calls ≡ run_stop disk.stop (call ∷ calls)
      → FallsAtStop disk (call ∷ calls)
  step_on works rest answer past stop =
      let on : after_run disk (call ∷ calls) ≡ after_run (after_call disk call) calls = ap (λ b. if b then after_call disk call else after_run (after_call disk call) calls) works in
      record {
        answer = ap (λ b. not b && is_run_served (after_call disk call) calls) works ∙ rest.answer ∙ answer;
        past = ap (λ (d : DiskState). d.past) on ∙ rest.past ∙ past;
        stop = ap (λ (d : DiskState). d.stop) on ∙ rest.stop ∙ stop;
        base = ap (λ (d : DiskState). d.base) on ∙ rest.base;
        failing = ap (λ (d : DiskState). d.failing) on ∙ rest.failing;
        room = ap (λ (d : DiskState). d.room) on ∙ rest.room;
        entry_place = ap (λ (d : DiskState). d.entry_place) on ∙ rest.entry_place;
        byte_place = ap (λ (d : DiskState). d.byte_place) on ∙ rest.byte_place;
      }

  -- the disk stops at it, and the run ends
  step_end : fails disk call ≡ true
      → false ≡ not (stops_within (changes_in (call ∷ calls)) disk.stop)
      → (after_call disk call).past ≡ run_past disk.stop (call ∷ calls) disk.past
      → (after_call disk call).stop ≡ run_stop disk.stop (call ∷ calls)
      → FallsAtStop disk (call ∷ calls)
  step_end failed answer past stop =
      let last : after_run disk (call ∷ calls) ≡ after_call disk call = ap (λ b. if b then after_call disk call else after_run (after_call disk call) calls) failed in
      record {
        answer = ap (λ b. not b && is_run_served (after_call disk call) calls) failed ∙ answer;
        past = ap (λ (d : DiskState). d.past) last ∙ past;
        stop = ap (λ (d : DiskState). d.stop) last ∙ stop;
        base = ap (λ (d : DiskState). d.base) last;
        failing = ap (λ (d : DiskState). d.failing) last;
        room = ap (λ (d : DiskState). d.room) last;
        entry_place = ap (λ (d : DiskState). d.entry_place) last;
        byte_place = ap (λ (d : DiskState). d.byte_place) last;
      }

look_works : (disk : DiskState) → disk.failing ≡ [] → is_met disk.stop ≡ false → refuses_looks disk ≡ false
look_works disk none unmet = ap (λ b. b || is_met disk.stop) (unlisted_call disk none) ∙ unmet

refuses_at_stop : (disk : DiskState) → disk.failing ≡ [] → refuses_changes disk ≡ is_stopping disk.stop
refuses_at_stop disk none = ap (λ b. b || is_stopping disk.stop) (unlisted_call disk none)

-- a write with room and place
module _ (disk : DiskState) (at : ℕ) (bytes : List ℕ) (calls : List Call) (ready : IsReadyFor (Write at bytes ∷ calls) disk) where
  write_entered : is_entered disk at bytes ≡ true
  write_entered =
      let room = ready.within.0 in
      let entries : length disk.past < disk.entry_place = omega (arith, ready.entries) in
      let place : kept_bytes disk.past + length bytes ≤ disk.byte_place = omega (arith, ready.bytes) in
      grind (arith, nat_tests)

  write_fails : fails disk (Write at bytes) ≡ is_stopping disk.stop
  write_fails =
      ap (λ b. b || not (is_entered disk at bytes)) (refuses_at_stop disk ready.unlisted)
      ∙ ap (λ b. is_stopping disk.stop || not b) write_entered
      ∙ or_false (is_stopping disk.stop)

  write_past : past_after disk (Write at bytes) ≡ Wrote at bytes (not (is_stopping disk.stop)) ∷ disk.past
  write_past =
      ap (λ b. if b then Wrote at bytes (not (refuses_changes disk)) ∷ disk.past else disk.past) write_entered
      ∙ ap (λ b. Wrote at bytes (not b) ∷ disk.past) (refuses_at_stop disk ready.unlisted)

  write_ready : is_stopping disk.stop ≡ false → IsReadyFor calls (after_call disk (Write at bytes))
  write_ready no_stop =
      let count = ap length write_past in
      let size = ap kept_bytes write_past in
      record {
        unlisted = ready.unlisted;
        unmet = unmet_after disk.stop no_stop;
        within = ready.within.1;
        entries = omega (arith, ready.entries, count);
        bytes = omega (arith, ready.bytes, size);
      }

-- a sync with place
module _ (disk : DiskState) (calls : List Call) (ready : IsReadyFor (Sync ∷ calls) disk) where
  sync_place : has_place disk 0 ≡ true
  sync_place =
      let entries : length disk.past < disk.entry_place = omega (arith, ready.entries) in
      let place : kept_bytes disk.past + 0 ≤ disk.byte_place = omega (arith, ready.bytes) in
      grind (arith, nat_tests)

  sync_fails : fails disk Sync ≡ is_stopping disk.stop
  sync_fails =
      ap (λ b. b || (is_pending disk.past && not (has_place disk 0))) (refuses_at_stop disk ready.unlisted)
      ∙ ap (λ b. is_stopping disk.stop || (is_pending disk.past && not b)) sync_place
      ∙ ap (λ b. is_stopping disk.stop || b) (and_false (is_pending disk.past))
      ∙ or_false (is_stopping disk.stop)

  sync_past : past_after disk Sync ≡ (if is_pending disk.past && not (is_stopping disk.stop) then Synced ∷ disk.past else disk.past)
  sync_past = ap (λ b. if is_pending disk.past && not b then Synced ∷ disk.past else disk.past) sync_fails

  sync_done : is_stopping disk.stop ≡ false → past_after disk Sync ≡ (if is_pending disk.past then Synced ∷ disk.past else disk.past)
  sync_done no_stop =
      sync_past
      ∙ ap (λ b. if is_pending disk.past && not b then Synced ∷ disk.past else disk.past) no_stop
      ∙ ap (λ b. if b then Synced ∷ disk.past else disk.past) (and_true (is_pending disk.past))

  sync_not : is_stopping disk.stop ≡ true → past_after disk Sync ≡ disk.past
  sync_not stops =
      sync_past
      ∙ ap (λ b. if is_pending disk.past && not b then Synced ∷ disk.past else disk.past) stops
      ∙ ap (λ b. if b then Synced ∷ disk.past else disk.past) (and_false (is_pending disk.past))

  sync_ready : is_stopping disk.stop ≡ false → IsReadyFor calls (after_call disk Sync)
  sync_ready no_stop =
      let count = ap length (sync_done no_stop) in
      let size = ap kept_bytes (sync_done no_stop) in
      record {
        unlisted = ready.unlisted;
        unmet = unmet_after disk.stop no_stop;
        within = ready.within;
        entries = omega (arith, ready.entries, count, longer (is_pending disk.past));
        bytes = omega (arith, ready.bytes, size, same_bytes (is_pending disk.past));
      }
    where
      longer : (b : Bool) → length (if b then Synced ∷ disk.past else disk.past) ≤ length disk.past + 1
      longer true = omega arith
      longer false = omega arith

      same_bytes : (b : Bool) → kept_bytes (if b then Synced ∷ disk.past else disk.past) ≡ kept_bytes disk.past
      same_bytes true = refl
      same_bytes false = refl

-- a run falls at a stop exactly where that is armed, and what it leaves is known
pub falls_at_stop : (disk : DiskState) (calls : List Call) → IsReadyFor calls disk → FallsAtStop disk calls
falls_at_stop disk [] ready = record { answer = refl; past = refl; stop = refl; base = refl; failing = refl; room = refl; entry_place = refl; byte_place = refl }
falls_at_stop disk (Len ∷ calls) ready =
    step_on disk Len calls (look_works disk ready.unlisted ready.unmet)
    (falls_at_stop (after_call disk Len) calls (record { unlisted = ready.unlisted; unmet = ready.unmet; within = ready.within; entries = ready.entries; bytes = ready.bytes }))
    refl refl refl
falls_at_stop disk (Read at count ∷ calls) ready =
    step_on disk (Read at count) calls (look_works disk ready.unlisted ready.unmet)
    (falls_at_stop (after_call disk (Read at count)) calls (record { unlisted = ready.unlisted; unmet = ready.unmet; within = ready.within; entries = ready.entries; bytes = ready.bytes }))
    refl refl refl
falls_at_stop disk (Write at bytes ∷ calls) ready = elim (is_stopping disk.stop) as (λ b. is_stopping disk.stop ≡ b → FallsAtStop disk (Write at bytes ∷ calls)) [
  | true ↦ λ stops.
      step_end disk (Write at bytes) calls (write_fails disk at bytes calls ready ∙ stops)
      (sym (ap (λ b. not (b || stops_within (changes_in calls) (stop_after disk.stop))) stops))
      (write_past disk at bytes calls ready
      ∙ ap (λ b. Wrote at bytes (not b) ∷ disk.past) stops
      ∙ sym (ap (λ b. if b then Wrote at bytes false ∷ disk.past else run_past (stop_after disk.stop) calls (Wrote at bytes true ∷ disk.past)) stops))
      (sym (ap (λ b. if b then stop_after disk.stop else run_stop (stop_after disk.stop) calls) stops))
  | false ↦ λ no_stop.
      step_on disk (Write at bytes) calls (write_fails disk at bytes calls ready ∙ no_stop)
      (falls_at_stop (after_call disk (Write at bytes)) calls (write_ready disk at bytes calls ready no_stop))
      (sym (ap (λ b. not (b || stops_within (changes_in calls) (stop_after disk.stop))) no_stop))
      (ap (run_past (stop_after disk.stop) calls) (write_past disk at bytes calls ready ∙ ap (λ b. Wrote at bytes (not b) ∷ disk.past) no_stop)
      ∙ sym (ap (λ b. if b then Wrote at bytes false ∷ disk.past else run_past (stop_after disk.stop) calls (Wrote at bytes true ∷ disk.past)) no_stop))
      (sym (ap (λ b. if b then stop_after disk.stop else run_stop (stop_after disk.stop) calls) no_stop))
] refl
falls_at_stop disk (Sync ∷ calls) ready = elim (is_stopping disk.stop) as (λ b. is_stopping disk.stop ≡ b → FallsAtStop disk (Sync ∷ calls)) [
  | true ↦ λ stops.
      step_end disk Sync calls (sync_fails disk calls ready ∙ stops)
      (sym (ap (λ b. not (b || stops_within (changes_in calls) (stop_after disk.stop))) stops))
      (sync_not disk calls ready stops
      ∙ sym (ap (λ b. if b then disk.past else run_past (stop_after disk.stop) calls (if is_pending disk.past then Synced ∷ disk.past else disk.past)) stops))
      (sym (ap (λ b. if b then stop_after disk.stop else run_stop (stop_after disk.stop) calls) stops))
  | false ↦ λ no_stop.
      step_on disk Sync calls (sync_fails disk calls ready ∙ no_stop)
      (falls_at_stop (after_call disk Sync) calls (sync_ready disk calls ready no_stop))
      (sym (ap (λ b. not (b || stops_within (changes_in calls) (stop_after disk.stop))) no_stop))
      (ap (run_past (stop_after disk.stop) calls) (sync_done disk calls ready no_stop)
      ∙ sym (ap (λ b. if b then disk.past else run_past (stop_after disk.stop) calls (if is_pending disk.past then Synced ∷ disk.past else disk.past)) no_stop))
      (sym (ap (λ b. if b then stop_after disk.stop else run_stop (stop_after disk.stop) calls) no_stop))
] refl

-- with place made for them, and nothing else in the way, a disk is ready for these calls
pub ready_once_reserved : (disk : DiskState) (calls : List Call) (entries bytes : ℕ) → disk.failing ≡ [] → is_met disk.stop ≡ false → IsWithin disk.room calls → changes_in calls ≤ entries → bytes_in calls ≤ bytes → IsReadyFor calls (reserved disk entries bytes)
ready_once_reserved disk calls entries bytes none unmet within few short = record { unlisted = none; unmet = unmet; within = within; entries = omega arith; bytes = omega arith }

-- A disk on which no call is listed, no stop armed and no write pending serves an opening, which makes no entry: it
-- syncs, asks for the length and reads.
pub opening_is_served : (disk : DiskState) (at count : ℕ) → disk.failing ≡ [] → disk.stop ≡ Unarmed → is_pending disk.past ≡ false
    → (is_run_served disk (Sync ∷ Len ∷ Read at count ∷ []) ≡ true) × (after_run disk (Sync ∷ Len ∷ Read at count ∷ []) ≡ record disk { calls = counted (counted (counted disk.calls)) })
opening_is_served disk at count none unarmed still =
    let first = quiet_sync disk none unarmed still in
    let unmet : is_met disk.stop ≡ false = ap is_met unarmed in
    let once : DiskState = record disk { calls = counted disk.calls } in
    let twice : DiskState = record disk { calls = counted (counted disk.calls) } in
    let second = one_more disk once Sync (Len ∷ Read at count ∷ []) first.0 first.1 in
    let third = one_more once twice Len (Read at count ∷ []) (look_works once none unmet) (looked once Len (look_works once none unmet) refl refl) in
    let fourth = one_more twice (record disk { calls = counted (counted (counted disk.calls)) }) (Read at count) [] (look_works twice none unmet) (looked twice (Read at count) (look_works twice none unmet) refl refl) in
    (second.0 ∙ third.0 ∙ fourth.0, second.1 ∙ third.1 ∙ fourth.1)
  where
    -- one call that is served
    one_more : (disk next : DiskState) (call : Call) (calls : List Call) → fails disk call ≡ false → after_call disk call ≡ next → (is_run_served disk (call ∷ calls) ≡ is_run_served next calls) × (after_run disk (call ∷ calls) ≡ after_run next calls)
    one_more disk next call calls works is = (
      ap (λ b. not b && is_run_served (after_call disk call) calls) works ∙ ap (λ d. is_run_served d calls) is,
      ap (λ b. if b then after_call disk call else after_run (after_call disk call) calls) works ∙ ap (λ d. after_run d calls) is,
    )

    -- a look that is served counts, and changes nothing else
    looked : (disk : DiskState) (call : Call) → fails disk call ≡ false → past_after disk call ≡ disk.past → stop_after_call disk.stop call ≡ disk.stop → after_call disk call ≡ record disk { calls = counted disk.calls }
    looked disk call works past stop =
        ap (λ p. record disk { past = p; calls = counted disk.calls; stop = stop_after_call disk.stop call; faults = if fails disk call then counted disk.faults else disk.faults }) past
        ∙ ap (λ s. record disk { calls = counted disk.calls; stop = s; faults = if fails disk call then counted disk.faults else disk.faults }) stop
        ∙ ap (λ b. record disk { calls = counted disk.calls; faults = if b then counted disk.faults else disk.faults }) works

    -- so does a sync where nothing is pending
    quiet_sync : (disk : DiskState) → disk.failing ≡ [] → disk.stop ≡ Unarmed → is_pending disk.past ≡ false → (fails disk Sync ≡ false) × (after_call disk Sync ≡ record disk { calls = counted disk.calls })
    quiet_sync disk none unarmed still =
        let works : fails disk Sync ≡ false =
        ap (λ b. b || (is_pending disk.past && not (has_place disk 0))) (refuses_at_stop disk none)
        ∙ ap (λ s. is_stopping s || (is_pending disk.past && not (has_place disk 0))) unarmed
        ∙ ap (λ b. b && not (has_place disk 0)) still in
        (works, looked disk Sync works (ap (λ b. if b && not (fails disk Sync) then Synced ∷ disk.past else disk.past) still) (ap stop_after unarmed ∙ sym unarmed))

-- what stands for a firm write at which the disk stops: before the bytes are done, or before they are synced
stopped_past : (at : ℕ) (bytes : List ℕ) (past : List Act) (call fill : ℕ) → 1 ≤ call → call ≤ 2
    → (done : Bool) × (run_past (Armed call fill) (firm_calls at bytes) past ≡ Wrote at bytes done ∷ past) × (run_stop (Armed call fill) (firm_calls at bytes) ≡ Met fill)
stopped_past at bytes past call fill first last =
    elim (one_or_two call first last) [
      | inl one ↦ subst (λ n. (done : Bool) × (run_past (Armed n fill) (firm_calls at bytes) past ≡ Wrote at bytes done ∷ past) × (run_stop (Armed n fill) (firm_calls at bytes) ≡ Met fill)) (sym one) (false, refl, refl)
      | inr two ↦ subst (λ n. (done : Bool) × (run_past (Armed n fill) (firm_calls at bytes) past ≡ Wrote at bytes done ∷ past) × (run_stop (Armed n fill) (firm_calls at bytes) ≡ Met fill)) (sym two) (true, refl, refl)
    ]
  where
    one_or_two : (n : ℕ) → 1 ≤ n → n ≤ 2 → (n ≡ 1) ⊎ (n ≡ 2)
    one_or_two n low high = elim (cases_lt n 2) [ inl one ↦ inl (omega arith) | inr two ↦ inr (omega arith) ]

-- A firm write within the file, on a disk that is ready for it and has nothing pending, fails where a stop is armed at its
-- first or second call, and the restart leaves the byte of the stop over its range and all else as it was.
pub firm_write_stops : (disk : DiskState) (at : ℕ) (bytes : List ℕ) (call fill : ℕ) → IsReadyFor (firm_calls at bytes) disk → is_pending disk.past ≡ false → at + length bytes ≤ length (content_of disk.base disk.past)
    → disk.stop ≡ Armed call fill → 1 ≤ call → call ≤ 2
    → (is_run_served disk (firm_calls at bytes) ≡ false) × ((restarted (after_run disk (firm_calls at bytes))).base ≡ overwritten (content_of disk.base disk.past) at (replicate (length bytes) fill))
firm_write_stops disk at bytes call fill ready still fits armed first last =
    let falls = falls_at_stop disk (firm_calls at bytes) ready in
    let after = after_run disk (firm_calls at bytes) in
    let ends = stopped_past at bytes disk.past call fill first last in
    let stop : after.stop ≡ Met fill = falls.stop ∙ ap (λ s. run_stop s (firm_calls at bytes)) armed ∙ ends.2 in
    let past : after.past ≡ Wrote at bytes ends.0 ∷ disk.past = falls.past ∙ ap (λ s. run_past s (firm_calls at bytes) disk.past) armed ∙ ends.1 in (
      falls.answer ∙ ap (λ s. not (stops_within 2 s)) armed ∙ ap not (met_within call fill last),
      ap (λ s. left_by s after.base after.past) stop
          ∙ ap (λ b. filled b after.past fill) falls.base
          ∙ ap (λ p. filled disk.base p fill) past
          ∙ filled_last disk.base disk.past at bytes ends.0 fill still fits,
    )
  where
    met_within : (call fill : ℕ) → call ≤ 2 → stops_within 2 (Armed call fill) ≡ true
    met_within call fill last = elim (cases_lt call 2) [
      | inl one ↦ let low : nat_le call 1 ≡ true = grind (arith, nat_tests) in ap (λ b. b || (is_stopping (stop_after (Armed call fill)) || false)) low
      | inr two ↦ let is : call ≡ 2 = omega arith in ap (λ n. stops_within 2 (Armed n fill)) is
    ]
