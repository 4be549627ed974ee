-- How a key stands after each of its calls.
use Rattle.std.proofs.Common.{◌≡◌, ◌≢◌, ℕ, ◌+◌, ◌<◌, ◌≤◌, ◌==◌, if◌then◌else◌, Bool, true, false, List, [], ◌∷◌, length, refl, sym, ◌∙◌, ap, subst, arith}
use Rattle.std.specs.Prelude.{Option, Some, None, is_some, option_map, unwrap_or}
use Rattle.std.proofs.lemmas.Bool.Decides.{nat_tests}
use Rattle.fault_counts.specs.Causes.{counted}
use Rattle.lease_disk.specs.declared.stop.Stop.TheVariants.{Unarmed}
use Rattle.lease_disk.specs.Call.{Len, Read, Sync}
use Rattle.lease_disk.specs.Calls.{Ran}
use Rattle.lease_disk.specs.Images.{overwritten}
use Rattle.lease_disk.specs.Past.{content_of, is_pending}
use Rattle.lease_disk.specs.PastLaws.{content_is_image, still_content}
use Rattle.lease_disk.specs.Stop.{is_met, stops_within}
use Rattle.lease_disk.specs.MemDisk.{DiskState, Leads, told_of, left_by, restarted}
use Rattle.lease_disk.specs.Runs.{IsReadyFor, ran_is, run_stop, opening_is_served}
use Rattle.leaf_lease.specs.LeaseFile.{head_size, file_size}
use Rattle.leaf_lease.specs.Leases.{lease_calls}
use Rattle.leaf_lease.specs.Stops.{stopped_lease, served_lease}
use Rattle.lms_core.specs.Parameters.{levels_of, leaves_of}
use Rattle.lms_core.specs.Tree.{Key, signature_of}
use Rattle.aip_rules.specs.declared.Arming.{Arming}
use Rattle.aip_host.specs.declared.signing.Signing.TheVariants.{Signed, Dry, Stopped}
use Rattle.aip_host.specs.Signing.{KeyState, IsSpentBelow, IsArming, Spends, SpendsUp, SpendsWhile, stop_as, is_dry, spent_on, signing_of, next_once_stopped, next_after, stop_after, down_after, disk_after, placed_as}
use Rattle.aip_host.specs.Holding.{IsAtRest, HasPlace, IsDone, first_free}
use Rattle.aip_host.proofs.Bytes.{spent_by, first_free_is}

-- a stop that is armed has not fallen
unmet : (stop : Option Arming) → is_met (stop_as stop) ≡ false
unmet None = refl
unmet (Some arming) = refl

-- then a restart leaves what is read
left_unmet : (stop : Option Arming) (disk : DiskState) → disk.stop ≡ stop_as stop → (restarted disk).base ≡ content_of disk.base disk.past
left_unmet None disk is = ap (λ s. left_by s disk.base disk.past) is
left_unmet (Some arming) disk is = ap (λ s. left_by s disk.base disk.past) is

-- what is told has these bytes
content_is : (file other : List ℕ) → ◌≡◌ {A = Option (List ℕ)} (Some file) (Some other) → file ≡ other
content_is file other same = ap (λ o. unwrap_or o []) same

-- a key that is up, from what its disk reads
pub is_up : (key : Key) (next : ℕ) (stop : Option Arming) (disk : DiskState) → next ≤ leaves_of key.height → disk.failing ≡ [] → file_size (levels_of key.height) ≤ disk.room
    → is_pending disk.past ≡ false → disk.stop ≡ stop_as stop → IsArming stop → IsSpentBelow key next (content_of disk.base disk.past)
    → Spends (record { key = key; next = next; stop = stop; is_down = false; disk = disk })
is_up key next stop disk within unlisted room still stops arming spent = record {
  within = within;
  unlisted = unlisted;
  room = room;
  standing = record {
    images = λ image left. subst (IsSpentBelow key next) (still_content disk.base disk.past still image left) spent;
    still = still;
    stops = stops;
    arming = arming;
  };
}

-- a key that was opened on a disk at rest is up
pub is_opened : (key same : Key) (next leaf calls : ℕ) (disk new : DiskState) → IsAtRest key next disk → same ≡ key → leaf ≡ next → new ≡ record disk { calls = calls }
    → Spends (record { key = same; next = leaf; stop = None; is_down = false; disk = new })
is_opened key same next leaf calls disk new rest same_key same_leaf is =
    let Up : Key → ℕ → DiskState → Type 0 = λ k n d. Spends (record { key = k; next = n; stop = None; is_down = false; disk = d }) in
    let up : Up key next (record disk { calls = calls }) = is_up key next None (record disk { calls = calls }) rest.within rest.unlisted rest.room rest.still rest.unarmed tt rest.spent in
    subst (λ k. Up k leaf new) (sym same_key) (subst (λ n. Up key n new) (sym same_leaf) (subst (Up key next) (sym is) up))

-- an opening of a disk that is at rest is served
pub opening_served : (disk new : DiskState) (count : ℕ) (served : Bool) → disk.failing ≡ [] → disk.stop ≡ Unarmed → is_pending disk.past ≡ false
    → Ran Leads disk (Sync ∷ Len ∷ Read 0 count ∷ []) served new
    → (served ≡ true) × (new ≡ record disk { calls = counted (counted (counted disk.calls)) })
opening_served disk new count served none unarmed still ran =
    let is = ran_is disk (Sync ∷ Len ∷ Read 0 count ∷ []) served new ran in
    let ends = opening_is_served disk 0 count none unarmed still in
    (is.0 ∙ ends.0, is.1 ∙ ends.1)

-- whatever stood before, the disk is at rest after a restart
pub rest_after : (kept : KeyState) → Spends kept → IsAtRest kept.key kept.next (restarted kept.disk)
rest_after kept spends = record {
  within = spends.within;
  unlisted = spends.unlisted;
  room = spends.room;
  unarmed = refl;
  still = refl;
  spent = left kept.is_down spends.standing;
}
  where
    left : (down : Bool) → SpendsWhile down kept → IsSpentBelow kept.key kept.next (restarted kept.disk).base
    left false up =
        subst (IsSpentBelow kept.key kept.next) (sym (left_unmet kept.stop kept.disk up.stops)) (up.images _ (content_is_image kept.disk.base kept.disk.past))
    left true down = down.left

-- the same in the words of the calls that are made
pub rest_woken : (kept : KeyState) (key : Key) (disk new : DiskState) → Spends kept → key ≡ kept.key → disk ≡ kept.disk → new ≡ restarted disk → IsAtRest key kept.next new
rest_woken kept key disk new spends same_key same_disk is =
    subst (λ k. IsAtRest k kept.next new) (sym same_key) (subst (IsAtRest kept.key kept.next) (sym (is ∙ ap restarted same_disk)) (rest_after kept spends))

-- A key that is up and has a leaf left, on a disk with place for a signing.
module _ (kept : KeyState) (up : SpendsUp kept) (spends : Spends kept) (place : HasPlace kept.disk) (left : kept.next ≢ leaves_of kept.key.height) where
  below : kept.next < leaves_of kept.key.height
  below = omega (arith, spends.within, left)

  spent : IsSpentBelow kept.key kept.next (content_of kept.disk.base kept.disk.past)
  spent = up.images _ (content_is_image kept.disk.base kept.disk.past)

  ready : IsReadyFor (lease_calls kept.next) kept.disk
  ready = record {
    unlisted = spends.unlisted;
    unmet = ap is_met up.stops ∙ unmet kept.stop;
    within = (omega (arith, below, spends.room), tt);
    entries = omega (arith, place.entries);
    bytes = omega (arith, place.bytes);
  }

  there : head_size + kept.next < length (content_of kept.disk.base kept.disk.past)
  there = omega (arith, below, spent.whole)

  -- a lease is served exactly where no stop is armed
  none_armed : (stop : Option Arming) (new : DiskState) → kept.stop ≡ stop → Ran Leads kept.disk (lease_calls kept.next) true new
      → (stop ≡ None) × (is_pending new.past ≡ false) × (new.stop ≡ Unarmed) × (new.failing ≡ []) × (new.room ≡ kept.disk.room)
  none_armed None new is ran =
      let stops : kept.disk.stop ≡ Unarmed = up.stops ∙ ap stop_as is in
      let ends = served_lease kept.disk new kept.next true ready (ap (stops_within 2) stops) ran in
      (refl, ends.1, ends.2 ∙ ap (λ s. run_stop s (lease_calls kept.next)) stops, ends.3, ends.4)
  none_armed (Some arming) new is ran =
      let within = subst IsArming is up.arming in
      let ends = stopped_lease kept.disk new kept.next arming.call arming.byte true ready up.still there (up.stops ∙ ap stop_as is) within.0 within.1 ran in
      absurd (cc)

  -- and then the leaf is spent
  pub served_leaves : (new : DiskState) → Ran Leads kept.disk (lease_calls kept.next) true new
      → told_of new ≡ option_map (λ file. overwritten file (head_size + kept.next) (1 ∷ [])) (told_of kept.disk)
      → (kept.stop ≡ None) × Spends (record { key = kept.key; next = kept.next + 1; stop = kept.stop; is_down = false; disk = new })
  served_leaves new ran told =
      let ends = none_armed kept.stop new refl ran in
      let stops : new.stop ≡ stop_as kept.stop = ends.2 ∙ sym (ap stop_as ends.0) in
      let is = content_is _ _ told in (
        ends.0,
        is_up kept.key (kept.next + 1) kept.stop new (omega (arith, below)) ends.3 (subst (λ r. file_size (levels_of kept.key.height) ≤ r) (sym ends.4) spends.room) ends.1 stops up.arming
            (subst (IsSpentBelow kept.key (kept.next + 1)) (sym is) (spent_by kept.key kept.next 1 _ spent below)),
      )

  -- a lease that is not served fell at the stop that is armed
  fell : (stop : Option Arming) (new : DiskState) → kept.stop ≡ stop → Ran Leads kept.disk (lease_calls kept.next) false new
      → (arming : Arming) × (stop ≡ Some arming) × ((restarted new).base ≡ overwritten (content_of kept.disk.base kept.disk.past) (head_size + kept.next) (arming.byte ∷ [])) × (new.failing ≡ []) × (new.room ≡ kept.disk.room)
  fell None new is ran =
      let stops : kept.disk.stop ≡ Unarmed = up.stops ∙ ap stop_as is in
      let ends = served_lease kept.disk new kept.next false ready (ap (stops_within 2) stops) ran in
      absurd (cc)
  fell (Some arming) new is ran =
      let within = subst IsArming is up.arming in
      let ends = stopped_lease kept.disk new kept.next arming.call arming.byte false ready up.still there (up.stops ∙ ap stop_as is) within.0 within.1 ran in
      (arming, refl, ends.1, ends.2, ends.3)

  -- and then the key is down, and the leaf is spent where the stop leaves another byte than 0
  pub stopped_leaves : (new : DiskState) → Ran Leads kept.disk (lease_calls kept.next) false new
      → (arming : Arming) × (kept.stop ≡ Some arming)
      × (first_free (leaves_of kept.key.height) (restarted new).base ≡ next_once_stopped kept.next (Some arming))
      × Spends (record { key = kept.key; next = first_free (leaves_of kept.key.height) (restarted new).base; stop = None; is_down = true; disk = new })
  stopped_leaves new ran =
      let ends = fell kept.stop new refl ran in
      let arming = ends.0 in
      let next = next_once_stopped kept.next (Some arming) in
      let after : IsSpentBelow kept.key next (restarted new).base
      = subst (IsSpentBelow kept.key next) (sym ends.2) (spent_by kept.key kept.next arming.byte _ spent below) in
      let within : next ≤ leaves_of kept.key.height = at_most (arming.byte == 0) in
      let is = first_free_is (leaves_of kept.key.height) next (restarted new).base within after.gone after.free in (
        arming,
        ends.1,
        is,
        record {
          within = subst (λ n. n ≤ leaves_of kept.key.height) (sym is) within;
          unlisted = ends.3;
          room = subst (λ r. file_size (levels_of kept.key.height) ≤ r) (sym ends.4) spends.room;
          standing = record { left = subst (λ n. IsSpentBelow kept.key n (restarted new).base) (sym is) after; unarmed = refl };
        },
      )
    where
      at_most : (b : Bool) → (if b then kept.next else kept.next + 1) ≤ leaves_of kept.key.height
      at_most true = spends.within
      at_most false = omega (arith, below)

  not_dry : is_dry kept ≡ false
  not_dry = grind (arith, nat_tests, left)

  -- how a signing ends where a leaf is left
  pub ends_signed : (message : List ℕ) → kept.stop ≡ None → Signed kept.next (signature_of kept.key kept.next message) ≡ signing_of kept message
  ends_signed message none = sym (ap (λ b. if b then Dry else spent_on kept message kept.stop) not_dry ∙ ap (spent_on kept message) none)

  pub ends_stopped : (message : List ℕ) (arming : Arming) → kept.stop ≡ Some arming → Stopped kept.next arming.call arming.byte ≡ signing_of kept message
  ends_stopped message arming is = sym (ap (λ b. if b then Dry else spent_on kept message kept.stop) not_dry ∙ ap (spent_on kept message) is)

  -- how the key stands then
  pub next_once : (stop : Option Arming) → kept.stop ≡ stop → next_once_stopped kept.next stop ≡ next_after kept
  next_once stop is = sym (ap (λ b. if b then kept.next else next_once_stopped kept.next kept.stop) not_dry ∙ ap (next_once_stopped kept.next) is)

  pub stop_once : None ≡ stop_after kept
  stop_once = sym (ap (λ b. if b then kept.stop else None) not_dry)

  pub down_once : (stop : Option Arming) → kept.stop ≡ stop → is_some stop ≡ down_after kept
  down_once stop is = sym (ap (λ b. if b then false else is_some kept.stop) not_dry ∙ ap is_some is)

  disk_once : (new : DiskState) → new ≡ disk_after kept new
  disk_once new = sym (ap (λ b. if b then placed_as kept.disk new else new) not_dry)

  pub done_signed : (message signature : List ℕ) (leaf next : ℕ) (key : Key) (new : DiskState) → leaf ≡ kept.next → signature ≡ signature_of kept.key kept.next message → next ≡ kept.next + 1 → key ≡ kept.key
      → Ran Leads kept.disk (lease_calls kept.next) true new
      → told_of new ≡ option_map (λ file. overwritten file (head_size + kept.next) (1 ∷ [])) (told_of kept.disk)
      → IsDone kept message (Signed leaf signature) (record { key = key; next = next; stop = kept.stop; is_down = false; disk = new })
  done_signed message signature leaf next key new same_leaf signs one_more same_key ran told =
      let after = served_leaves new ran told in
      let Up : Key → ℕ → Type 0 = λ k n. Spends (record { key = k; next = n; stop = kept.stop; is_down = false; disk = new }) in
      record {
        answer = ap (λ n. Signed n signature) same_leaf ∙ ap (Signed kept.next) signs ∙ ends_signed message after.0;
        next = one_more ∙ next_once None after.0;
        stop = after.0 ∙ stop_once;
        down = down_once None after.0;
        same_key = same_key;
        disk = disk_once new;
        spends = subst (λ k. Up k next) (sym same_key) (subst (Up kept.key) (sym one_more) after.1);
      }

  pub done_stopped : (message : List ℕ) (leaf : ℕ) (key : Key) (new : DiskState) (arming : Arming) → leaf ≡ kept.next → key ≡ kept.key → kept.stop ≡ Some arming
      → Ran Leads kept.disk (lease_calls kept.next) false new
      → IsDone kept message (Stopped leaf arming.call arming.byte) (record { key = key; next = first_free (leaves_of key.height) (restarted new).base; stop = None; is_down = true; disk = new })
  done_stopped message leaf key new arming same_leaf same_key is ran =
      let after = stopped_leaves new ran in
      let Down : Key → Type 0 = λ k. Spends (record { key = k; next = first_free (leaves_of k.height) (restarted new).base; stop = None; is_down = true; disk = new }) in
      record {
        answer = ap (λ n. Stopped n arming.call arming.byte) same_leaf ∙ ends_stopped message arming is;
        next = ap (λ (k : Key). first_free (leaves_of k.height) (restarted new).base) same_key ∙ after.2 ∙ next_once (Some after.0) after.1;
        stop = stop_once;
        down = down_once (Some arming) is;
        same_key = same_key;
        disk = disk_once new;
        spends = subst Down (sym same_key) after.3;
      }
