-- No leaf is spent in a lease file that is freshly formatted.
use Rattle.std.proofs.Common.{◌≡◌, ℕ, suc, ◌+◌, ◌-◌, ◌^◌, ◌<◌, ◌≤◌, true, false, not, List, [], ◌∷◌, length, take, replicate, get_or, refl, sym, ◌∙◌, ap, subst, arith, length-append}
use Rattle.std.specs.Prelude.{Err}
use Rattle.std.specs.Option.{ForSome}
use Rattle.std.proofs.lemmas.List.{length-take, length-replicate, get_or-take, get_or-append_right, get_or-replicate, take_at}
use Rattle.lease_disk.specs.Calls.{Ran}
use Rattle.lease_disk.specs.Past.{content_of}
use Rattle.lease_disk.specs.PastLaws.{content_is_image}
use Rattle.lease_disk.specs.MemDisk.{DiskState, Leads, MayLeave, told_of, new_disk}
use Rattle.leaf_lease.specs.declared.formatting.FormatEnd.{FormatEnd}
use Rattle.leaf_lease.specs.declared.formatting.FormatEnd.TheVariants.{Already, Failed}
use Rattle.leaf_lease.specs.Format.{FormatSays, format_calls, format_failed, formatted_disk}
use Rattle.leaf_lease.specs.LeaseFile.{IsOpen, file_size, head_size, kept_id, fresh_file}
use Rattle.leaf_lease.specs.Stops.{formatted_new_disk}
use Rattle.lms_core.specs.Parameters.{levels_of, leaves_of}
use Rattle.lms_core.specs.Tree.{Key, identifier_of}
use Rattle.aip_host.specs.Signing.{IsSpentBelow}
use Rattle.aip_host.specs.Holding.{IsAtRest}
use Rattle.aip_host.proofs.Bytes.{same_kept_id}

module _ (id : List ℕ) (height : ℕ) (size : length id ≡ 16) where
  abbrev fresh : List ℕ
  fresh = fresh_file id height

  length-fresh : length fresh ≡ file_size height
  length-fresh =
      omega (arith, length-append id (height ∷ replicate (2 ^ height) 0), length-replicate {A = ℕ} (2 ^ height) 0)

  fresh_id : kept_id fresh ≡ id
  fresh_id = take_at id (height ∷ replicate (2 ^ height) 0) 16 (omega arith)

  fresh_height : get_or fresh 17 0 ≡ height
  fresh_height = get_or-append_right id (height ∷ replicate (2 ^ height) 0) 16 16 0 (omega arith) (omega arith)

  fresh_leaf : (leaf : ℕ) → leaf < 2 ^ height → get_or fresh (18 + leaf) 0 ≡ 0
  fresh_leaf leaf there =
      let past_gate : 18 + leaf ≡ suc (17 + leaf) = omega arith in
      let past_id : 17 + leaf - 16 ≡ suc leaf = omega arith in
      ap (λ k. get_or fresh k 0) past_gate
      ∙ get_or-append_right id (height ∷ replicate (2 ^ height) 0) 16 (17 + leaf) 0 (omega arith) (omega arith)
      ∙ ap (λ k. get_or (height ∷ replicate (2 ^ height) 0) k 0) past_id
      ∙ get_or-replicate (2 ^ height) leaf 0 0 there

-- a file that begins with a fresh one for the key
pub fresh_spent : (key : Key) (id : List ℕ) (height : ℕ) (image : List ℕ) → id ≡ identifier_of key.seed → height ≡ levels_of key.height → length id ≡ 16
    → take (file_size height) image ≡ fresh_file id height
    → IsSpentBelow key 0 image
fresh_spent key id height image same_id same_height size is =
    let long = length-fresh id height size in
    let cut = length-take (file_size height) image in
    let leaves : 2 ^ height ≡ leaves_of key.height = ap (λ h. 2 ^ h) same_height in
    let whole : file_size height ≤ length image = omega (arith, ap length is) in
    let at : (k : ℕ) → k < file_size height → get_or image k 0 ≡ get_or (fresh_file id height) k 0
    = λ k below. sym (get_or-take (file_size height) image k 0 below) ∙ ap (λ (l : List ℕ). get_or l k 0) is in
    record {
      is_open = record { there = omega arith; gate = at 0 (omega arith) };
      has_key = record {
        same_id = same_kept_id image (fresh_file id height) (omega arith) (omega arith) (λ k low. at k (omega arith)) ∙ fresh_id id height size ∙ same_id;
        same_height = at 17 (omega arith) ∙ fresh_height id height size ∙ same_height;
      };
      whole = omega arith;
      gone = λ leaf there below. absurd (omega arith);
      free = λ leaf there above. at (head_size + leaf) (omega arith) ∙ fresh_leaf id height size leaf (omega arith);
    }

-- a format of a new disk with room for the lease file does not fail
pub format_serves : (id : List ℕ) (height : ℕ) (old : DiskState) (end : FormatEnd DiskState) → length id ≡ 16 → old ≡ new_disk (file_size height) []
    → ForSome (told_of old) (λ file. FormatSays {D = DiskState} file (Err end))
    → ForSome (told_of old) (λ file. Ran Leads old (format_calls id height file) (not (format_failed {D = DiskState} (Err end))) (formatted_disk (Err end)))
    → ⊥
format_serves id height old (Already disk other tall) size is says ran =
    let opened : IsOpen (content_of old.base old.past) = (says (content_of old.base old.past) refl).0 in
    let none : content_of old.base old.past ≡ [] = ap (λ (d : DiskState). content_of d.base d.past) is in
    omega (arith, opened.there, ap length none)
format_serves id height old (Failed disk) size is says ran =
    let ends = formatted_new_disk id height false disk size (subst (λ (d : DiskState). Ran Leads d (format_calls id height (content_of d.base d.past)) false disk) is (ran (content_of old.base old.past) refl)) in
    absurd (cc)

-- and leaves it at rest, with no leaf spent
pub format_rests : (key : Key) (id : List ℕ) (height : ℕ) (old new : DiskState) → id ≡ identifier_of key.seed → height ≡ levels_of key.height → length id ≡ 16
    → old ≡ new_disk (file_size height) []
    → ForSome (told_of old) (λ file. Ran Leads old (format_calls id height file) true new)
    → ((image : List ℕ) → MayLeave new image → take (file_size height) image ≡ fresh_file id height)
    → IsAtRest key 0 new
format_rests key id height old new same_id same_height size is ran fresh =
    let ends = formatted_new_disk id height true new size (subst (λ (d : DiskState). Ran Leads d (format_calls id height (content_of d.base d.past)) true new) is (ran (content_of old.base old.past) refl)) in
    let leaves : 2 ^ height ≡ leaves_of key.height = ap (λ h. 2 ^ h) same_height in
    record {
      within = omega arith;
      unlisted = ends.3;
      room = omega (arith, ends.4);
      unarmed = ends.2;
      still = ends.1;
      spent = fresh_spent key id height _ same_id same_height size (fresh _ (content_is_image new.base new.past));
    }
