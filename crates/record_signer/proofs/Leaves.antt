-- What comes of signing a record, by the lease file and over a disk.
use Rattle.std.proofs.Common.{◌≡◌, ◌≢◌, ◌≤◌, ◌<◌, ◌⊎◌, inl, inr, ⊎_elim, ℕ, zero, suc, ◌+◌, ◌^◌, Bool, true, false, not, cond, List, [], ◌∷◌, ◌++◌, length, slice_index, arith, Option, Some, None, Ok, Err, refl, ap, sym, subst, ◌∙◌}
use Rattle.std.specs.Prelude.{◌==◌, ◌&&◌, nat_lt, Result, max, IfOk, IfErr, OnOk}
use Rattle.std.proofs.lemmas.Bool.{cond-true, cond-false}
use Rattle.std.proofs.lemmas.Bool.Decides.{Decides-eqb, Decides-ltb, Decides-and, nat_tests}
use Rattle.std.proofs.lemmas.Slice.Eq.{bytes_eq-Decides}
use Rattle.lms_core.specs.Parameters.{leaves_of, levels_of}
use Rattle.lms_core.specs.Tree.{Key, identifier_of}
use Rattle.lease_disk.specs.Images.{AtEachMoment, Torn}
use Rattle.lease_disk.specs.Kept.{AfterWrite, KeepsByte, NoLongerThan, Stands, torn_same}
use Rattle.lease_disk.specs.Moments.{joined, weakened}
use Rattle.leaf_lease.specs.Kept.{KeepsGone}
use Rattle.leaf_lease.specs.LeaseFile.{HasKey, IsFirstFree, IsGone, IsLeaseFile, IsOpen, is_open, file_size, head_size, kept_id, kept_height}
use Rattle.aip_registry.specs.declared.records.Record.{Record}
use Rattle.record_signer.specs.declared.faults.SigningFault.{SigningFault}
use Rattle.record_signer.specs.declared.faults.SigningFault.TheVariants as fault
use Rattle.record_signer.specs.Signed.{IsOrCut, IsSigningFault, Signs, is_refusal, leaf_of, SparesBut, has_key, next_below, next_leaf, signed_at, signed_by, signed_line, spent}

-- ## The next leaf of a file

-- where all leaves from one on are free, and the one below it is gone, the search from above comes to it
not_zero : (b : ℕ) → b ≢ 0 → (b == 0) ≡ false
not_zero b other = grind (arith, nat_tests)

below_or_at : (a b : ℕ) → a ≤ suc b → (a ≤ b) ⊎ (a ≡ suc b)
below_or_at a b low = grind arith

found_at : (file : List ℕ) (leaf n : ℕ) → (leaf ≤ n) ⊎ (leaf ≡ suc n) → ((later : ℕ) → leaf ≤ later → later < suc n → slice_index file (head_size + later) ≡ 0) → (leaf ≤ n → next_below file n ≡ leaf)
    → ((last : ℕ) → leaf ≡ last + 1 → slice_index file (head_size + last) ≢ 0) → cond (slice_index file (head_size + n) == 0) (next_below file n) (suc n) ≡ leaf
found_at file leaf n (inl below) free before gone = cond-true _ _ _ ((Decides-eqb (slice_index file (head_size + n)) 0).1 (free n below (omega arith))) ∙ before below
found_at file leaf n (inr is) free before gone = cond-false _ _ _ (not_zero (slice_index file (head_size + n)) (gone n (omega arith))) ∙ sym is

found_below : (file : List ℕ) (leaf : ℕ) → (n : ℕ) → leaf ≤ n → ((later : ℕ) → leaf ≤ later → later < n → slice_index file (head_size + later) ≡ 0)
    → ((last : ℕ) → leaf ≡ last + 1 → slice_index file (head_size + last) ≢ 0) → next_below file n ≡ leaf
unfolding next_below
found_below file leaf zero low free gone = omega arith
found_below file leaf (suc n) low free gone =
    found_at file leaf n (below_or_at leaf n low) free (λ below. found_below file leaf n below (λ later from under. free later from (omega arith)) gone) gone

next_is : (key : Key) (file : List ℕ) (leaf : ℕ) → IsFirstFree (levels_of key.height) file leaf → next_leaf key file ≡ leaf
next_is key file leaf first = found_below file leaf (leaves_of key.height) first.within first.free first.last_gone

-- ## What a file gives

either : (b : Bool) → (b ≡ true) ⊎ (b ≡ false)
either true = inl refl
either false = inr refl

open_is : (file : List ℕ) → IsOpen file → is_open file ≡ true
open_is file opened =
    let there = opened.there in
    let gate = opened.gate in
    grind (arith, nat_tests)

closed_is : (file : List ℕ) → ¬ IsOpen file → is_open file ≡ false
closed_is file closed = elim (either (is_open file)) [
  | inl opened ↦ absurd (closed (record { there = grind (arith, nat_tests); gate = grind (arith, nat_tests) }))
  | inr is ↦ is
]

key_is : (key : Key) (file : List ℕ) → HasKey (identifier_of key.seed) (levels_of key.height) file → has_key key file ≡ true
key_is key file has =
    (Decides-and _ _ (bytes_eq-Decides (kept_id file) (identifier_of key.seed)) (Decides-eqb (kept_height file) (levels_of key.height))).1 (has.same_id, has.same_height)

other_is : (key : Key) (file : List ℕ) → ¬ HasKey (identifier_of key.seed) (levels_of key.height) file → has_key key file ≡ false
other_is key file other = elim (either (has_key key file)) [
  | inl has ↦ absurd (other (let both = (Decides-and _ _ (bytes_eq-Decides (kept_id file) (identifier_of key.seed)) (Decides-eqb (kept_height file) (levels_of key.height))).0 has in record { same_id = both.0; same_height = both.1 }))
  | inr is ↦ is
]

not_true : (b : Bool) → b ≡ true → not b ≡ false
not_true b is = ap not is

not_false : (b : Bool) → b ≡ false → not b ≡ true
not_false b is = ap not is

by_closed : (key : Key) (r : Record) (file : List ℕ) → is_open file ≡ false → signed_by key r file ≡ Err (fault.Unformatted (length file) (slice_index file 0))
unfolding signed_by
by_closed key r file closed = cond-true _ _ _ (not_false (is_open file) closed)

by_other : (key : Key) (r : Record) (file : List ℕ) → is_open file ≡ true → has_key key file ≡ false → signed_by key r file ≡ Err (fault.OtherKey (kept_id file) (kept_height file))
unfolding signed_by
by_other key r file opened other = cond-false _ _ _ (not_true (is_open file) opened) ∙ cond-true _ _ _ (not_false (has_key key file) other)

by_short : (key : Key) (r : Record) (file : List ℕ) → is_open file ≡ true → has_key key file ≡ true → length file < file_size (levels_of key.height)
    → signed_by key r file ≡ Err (fault.Unformatted (length file) (slice_index file 0))
unfolding signed_by
by_short key r file opened has short =
    cond-false _ _ _ (not_true (is_open file) opened) ∙ cond-false _ _ _ (not_true (has_key key file) has)
    ∙ cond-true _ _ _ ((Decides-ltb (length file) (file_size (levels_of key.height))).1 short)

by_whole : (key : Key) (r : Record) (file : List ℕ) → is_open file ≡ true → has_key key file ≡ true → nat_lt (length file) (file_size (levels_of key.height)) ≡ false
    → signed_by key r file ≡ signed_at key r (next_leaf key file)
unfolding signed_by
by_whole key r file opened has whole =
    cond-false _ _ _ (not_true (is_open file) opened) ∙ cond-false _ _ _ (not_true (has_key key file) has) ∙ cond-false _ _ _ whole

-- a file that was opened gives what its first free leaf gives
by_leaf : (key : Key) (r : Record) (file : List ℕ) (leaf : ℕ) → IsLeaseFile (identifier_of key.seed) (levels_of key.height) leaf file → signed_by key r file ≡ signed_at key r leaf
by_leaf key r file leaf is =
    by_whole key r file (open_is file is.is_open) (key_is key file is.has_key) (not_less (length file) (file_size (levels_of key.height)) is.whole)
    ∙ ap (signed_at key r) (next_is key file leaf is.first_free)
  where
    not_less : (a b : ℕ) → b ≤ a → nat_lt a b ≡ false
    not_less a b le = grind (arith, nat_tests)

-- an unformatted file
pub unformatted : (key : Key) (r : Record) (file : List ℕ) (size gate : ℕ) → (size ≡ length file) × (gate ≡ slice_index file 0) × ((¬ IsOpen file) ⊎ (HasKey (identifier_of key.seed) (levels_of key.height) file × (length file < file_size (levels_of key.height))))
    → Err (fault.Unformatted size gate) ≡ signed_by key r file
unformatted key r file size gate says = ap (λ s. Err (fault.Unformatted s gate)) says.0 ∙ ap (λ g. Err (fault.Unformatted (length file) g)) says.1 ∙ sym (both says.2)
  where
    both : (¬ IsOpen file) ⊎ (HasKey (identifier_of key.seed) (levels_of key.height) file × (length file < file_size (levels_of key.height)))
        → signed_by key r file ≡ Err (fault.Unformatted (length file) (slice_index file 0))
    both (inl closed) = by_closed key r file (closed_is file closed)
    both (inr short) = elim (either (is_open file)) [
      | inl opened ↦ by_short key r file opened (key_is key file short.0) short.1
      | inr closed ↦ by_closed key r file closed
    ]

-- the file of another key
pub of_another : (key : Key) (r : Record) (file id : List ℕ) (height : ℕ) → IsOpen file × (id ≡ kept_id file) × (height ≡ kept_height file) × (¬ HasKey (identifier_of key.seed) (levels_of key.height) file)
    → Err (fault.OtherKey id height) ≡ signed_by key r file
of_another key r file id height says =
    ap (λ i. Err (fault.OtherKey i height)) says.1 ∙ ap (λ h. Err (fault.OtherKey (kept_id file) h)) says.2
    ∙ sym (by_other key r file (open_is file says.0) (other_is key file says.3))

not_same : (a b : ℕ) → a ≢ b → (a == b) ≡ false
not_same a b differ = grind (arith, nat_tests)

-- what a signer that was opened gives
by_signing : (key : Key) (r : Record) (file : List ℕ) (leaf : ℕ) (result : Result (List ℕ) SigningFault) → IsLeaseFile (identifier_of key.seed) (levels_of key.height) leaf file
    → IfOk result (λ line. line ≡ signed_line key leaf r) → OnOk result (leaf ≢ leaves_of key.height) → IfErr result (IsSigningFault key leaf) → IsOrCut (signed_by key r file) result
by_signing key r file leaf (Ok line) is signed left why = inl (ap Ok signed ∙ sym (cond-false _ _ _ (not_same leaf (leaves_of key.height) left)) ∙ sym (by_leaf key r file leaf is))
by_signing key r file leaf (Err (fault.Dry height)) is signed left why =
    inl (ap (λ h. Err (fault.Dry h)) why.1 ∙ sym (cond-true _ _ _ ((Decides-eqb leaf (leaves_of key.height)).1 why.0)) ∙ sym (by_leaf key r file leaf is))
by_signing key r file leaf (Err fault.Disk) is signed left why = inr (inr refl)
by_signing key r file leaf (Err fault.Memory) is signed left why = inr (inl refl)
by_signing key r file leaf (Err (fault.Unformatted size gate)) is signed left why = absurd why
by_signing key r file leaf (Err (fault.OtherKey id height)) is signed left why = absurd why

-- the same, where the signer's key is the one that it was opened for
pub by_signer : (key opened : Key) (r : Record) (file : List ℕ) (leaf : ℕ) (result : Result (List ℕ) SigningFault) → opened ≡ key → IsLeaseFile (identifier_of key.seed) (levels_of key.height) leaf file
    → IfOk result (λ line. line ≡ signed_line opened leaf r) → OnOk result (leaf ≢ leaves_of opened.height) → IfErr result (IsSigningFault opened leaf) → IsOrCut (signed_by key r file) result
by_signer key opened r file leaf result same is signed left why =
    by_signing key r file leaf result is (subst (λ (k : Key). IfOk result (λ line. line ≡ signed_line k leaf r)) same signed)
    (subst (λ (k : Key). OnOk result (leaf ≢ leaves_of k.height)) same left) (subst (λ (k : Key). IfErr result (IsSigningFault k leaf)) same why)

-- a signer that was opened refuses a record only where no leaf is left
refused_at_end : (key : Key) (leaf : ℕ) (result : Result (List ℕ) SigningFault) → IfErr result (IsSigningFault key leaf) → is_refusal result ≡ true → leaf ≡ leaves_of key.height
refused_at_end key leaf (Ok line) why is = absurd (cc)
refused_at_end key leaf (Err (fault.Dry height)) why is = why.0
refused_at_end key leaf (Err fault.Disk) why is = absurd (cc)
refused_at_end key leaf (Err fault.Memory) why is = absurd (cc)
refused_at_end key leaf (Err (fault.Unformatted size gate)) why is = absurd why
refused_at_end key leaf (Err (fault.OtherKey id height)) why is = absurd why

-- and so does a file that was opened
refused_at : (b : Bool) (height : ℕ) (line : List ℕ) → is_refusal (cond b (Err (fault.Dry height)) (Ok line)) ≡ true → b ≡ true
refused_at true height line is = refl
refused_at false height line is = absurd (cc)

none_left : (key : Key) (r : Record) (file : List ℕ) (leaf : ℕ) → IsLeaseFile (identifier_of key.seed) (levels_of key.height) leaf file → is_refusal (signed_by key r file) ≡ true → leaf ≡ leaves_of key.height
none_left key r file leaf is refused =
    (Decides-eqb leaf (leaves_of key.height)).0
    (refused_at (leaf == leaves_of key.height) (levels_of key.height) (signed_line key leaf r) (ap is_refusal (sym (by_leaf key r file leaf is)) ∙ refused))

-- ## What a crash may leave

away : (a b : ℕ) → a ≢ b → (a < b) ⊎ (b + 1 ≤ a)
away a b other = grind arith

-- a byte beside the one that was written stands as it did
stands_after : (at leaf byte : ℕ) (before image : List ℕ) → at ≢ head_size + leaf → Stands at byte before → Torn (head_size + leaf) 1 before image → Stands at byte image
stands_after at leaf byte before image other stands torn =
    let there = stands.0 in
    let kept = torn.no_shorter in
    (omega arith, torn.outside at there (away at (head_size + leaf) other) ∙ stands.1)

-- a leaf that was gone is gone after the first free leaf is taken
gone_after : (leaf l height : ℕ) (before image : List ℕ) → leaf < 2 ^ height → IsFirstFree height before leaf → IsGone l before → Torn (head_size + leaf) 1 before image → IsGone l image
gone_after leaf l height before image low first gone torn =
    let there = gone.there in
    let kept = torn.no_shorter in
    let other : l ≢ leaf = λ is. gone.nonzero (ap (λ k. slice_index before (head_size + k)) is ∙ first.free leaf (omega arith) low) in
    record {
      there = omega arith;
      nonzero = λ zero. gone.nonzero (sym (torn.outside (head_size + l) there (away (head_size + l) (head_size + leaf) (λ is. other (omega arith)))) ∙ zero);
    }

no_longer_after : (leaf height longest : ℕ) (before image : List ℕ) → leaf < 2 ^ height → file_size height ≤ length before → length before ≤ longest → Torn (head_size + leaf) 1 before image → length image ≤ max longest 0
no_longer_after leaf height longest before image low whole short torn =
    let kept = torn.no_longer in
    omega arith

module _ {D : Type 0} (may_leave : D → List ℕ → Type 0) (clock : D → ℕ) (during : D → ℕ → List ℕ → Type 0) where
  -- a disk that was opened and no more
  pub opened_spares : (leaf : ℕ) (old new : D) → AtEachMoment clock during old new (may_leave old) → KeepsGone (may_leave old) (during new (clock old))
      → ((at : ℕ) → KeepsByte at (may_leave old) (during new (clock old))) → NoLongerThan 0 (may_leave old) (during new (clock old)) → clock new ≤ clock old + 1
      → SparesBut may_leave clock during leaf old new
  opened_spares leaf old new moments gone bytes lengths ticks = record {
    moments = weakened may_leave clock during old new (may_leave old) (AfterWrite (may_leave old) (head_size + leaf) 1) moments (λ image left. (image, left, torn_same (head_size + leaf) 1 image));
    gone = gone;
    bytes = λ at other. bytes at;
    lengths = lengths;
    ticks = omega arith;
  }

  -- a leaf of the key that was written after the opening
  wrote_spares : (height leaf : ℕ) (old mid new : D) → leaf < 2 ^ height
      → ((image : List ℕ) → may_leave mid image → may_leave old image × IsFirstFree height image leaf × (file_size height ≤ length image))
      → SparesBut may_leave clock during leaf old mid → ((at : ℕ) → KeepsByte at (may_leave old) (during mid (clock old))) → clock mid ≤ clock old + 1
      → AtEachMoment clock during mid new (AfterWrite (may_leave mid) (head_size + leaf) 1) → clock new ≤ clock mid + 2
      → SparesBut may_leave clock during leaf old new
  wrote_spares height leaf old mid new low from opened bytes first wrote second =
      let split : (image : List ℕ) → during new (clock old) image → during mid (clock old) image ⊎ AfterWrite (may_leave mid) (head_size + leaf) 1 image =
      λ image left. wrote.earlier (clock old) image opened.moments.later left in
      record {
        moments = joined may_leave clock during old mid new (AfterWrite (may_leave old) (head_size + leaf) 1) opened.moments
            (weakened may_leave clock during mid new (AfterWrite (may_leave mid) (head_size + leaf) 1) (AfterWrite (may_leave old) (head_size + leaf) 1) wrote
            (λ image w. (w.0, (from w.0 w.1).0, w.2)));
        gone = λ l all image left. ⊎_elim (opened.gone l all image)
            (λ w. gone_after leaf l height w.0 image low (from w.0 w.1).1 (all w.0 (from w.0 w.1).0) w.2) (split image left);
        bytes = λ at other byte all image left. ⊎_elim (bytes at byte all image)
            (λ w. stands_after at leaf byte w.0 image other (all w.0 (from w.0 w.1).0) w.2) (split image left);
        lengths = λ longest all image left. ⊎_elim (opened.lengths longest all image)
            (λ w. no_longer_after leaf height longest w.0 image low (from w.0 w.1).2 (all w.0 (from w.0 w.1).0) w.2) (split image left);
        ticks = omega arith;
      }

  -- a signing after the opening: where no leaf was left the disk wasn't touched
  pub signed_spares : (height leaf : ℕ) (old mid new : D) → (leaf ≡ 2 ^ height → new ≡ mid)
      → ((image : List ℕ) → may_leave mid image → may_leave old image × IsFirstFree height image leaf × (file_size height ≤ length image))
      → AtEachMoment clock during old mid (may_leave old) → KeepsGone (may_leave old) (during mid (clock old))
      → ((at : ℕ) → KeepsByte at (may_leave old) (during mid (clock old))) → NoLongerThan 0 (may_leave old) (during mid (clock old)) → clock mid ≤ clock old + 1
      → AtEachMoment clock during mid new (AfterWrite (may_leave mid) (head_size + leaf) 1) → clock new ≤ clock mid + 2 → leaf ≤ 2 ^ height
      → SparesBut may_leave clock during leaf old new
  signed_spares height leaf old mid new dry from moments gone bytes lengths first wrote second within =
      let opened = opened_spares leaf old mid moments gone bytes lengths first in
      elim (last leaf (2 ^ height) within) as (λ x. SparesBut may_leave clock during leaf old new) [
        | inl low ↦ wrote_spares height leaf old mid new low from opened bytes first wrote second
        | inr is ↦ subst (SparesBut may_leave clock during leaf old) (sym (dry is)) opened
      ]
    where
      last : (a b : ℕ) → a ≤ b → (a < b) ⊎ (a ≡ b)
      last a b le = grind arith

-- ## A signing over a disk

module _ {D : Type 0} (content : D → Option (List ℕ)) (may_leave : D → List ℕ → Type 0) (clock : D → ℕ) (during : D → ℕ → List ℕ → Type 0) where
  -- no signer was opened
  pub refused_signs : (key : Key) (r : Record) (old new : D) (f : SigningFault) → SparesBut may_leave clock during (leaf_of key (content old)) old new → AtEachMoment clock during old new (may_leave old)
      → Signs content may_leave clock during key r old new (Err f)
  refused_signs key r old new f spares moments = record {
    leaf = leaf_of key (content old);
    next = λ file told. ap (leaf_of key) told;
    line = tt;
    gone = tt;
    reads = tt;
    looks = λ is. moments;
    spared = λ file told is. moments;
    spares = spares;
  }

  -- an image of the disk that was opened is the file that was opened
  from_file : ((disk : D) (image : List ℕ) → content disk ≡ Some image → may_leave disk image) → (key : Key) (old mid : D) (leaf : ℕ)
      → ((file : List ℕ) → content old ≡ Some file → IsLeaseFile (identifier_of key.seed) (levels_of key.height) leaf file) → content mid ≡ content old
      → ((image : List ℕ) → may_leave mid image → content mid ≡ Some image)
      → (image : List ℕ) → may_leave mid image → may_leave old image × IsFirstFree (levels_of key.height) image leaf × (file_size (levels_of key.height) ≤ length image)
  from_file is_image key old mid leaf says same firm image left =
      let told : content old ≡ Some image = sym same ∙ firm image left in
      let file = says image told in
      (is_image old image told, file.first_free, file.whole)

  -- a signer was opened, and signed or not
  pub signed_signs : ((disk : D) (image : List ℕ) → content disk ≡ Some image → may_leave disk image) → (key opened : Key) (r : Record) (old mid new : D) (leaf : ℕ) (result : Result (List ℕ) SigningFault) → opened ≡ key
      → ((file : List ℕ) → content old ≡ Some file → IsLeaseFile (identifier_of key.seed) (levels_of key.height) leaf file) → content mid ≡ content old
      → ((image : List ℕ) → may_leave mid image → content mid ≡ Some image)
      → AtEachMoment clock during old mid (may_leave old) → KeepsGone (may_leave old) (during mid (clock old))
      → ((at : ℕ) → KeepsByte at (may_leave old) (during mid (clock old))) → NoLongerThan 0 (may_leave old) (during mid (clock old)) → clock mid ≤ clock old + 1
      → leaf ≤ leaves_of opened.height
      → IfOk result (λ line. line ≡ signed_line opened leaf r) → OnOk result ((image : List ℕ) → may_leave new image → IsGone leaf image) → OnOk result (content new ≡ spent leaf (content mid)) → (leaf ≡ leaves_of opened.height → new ≡ mid)
      → IfErr result (IsSigningFault opened leaf)
      → AtEachMoment clock during mid new (AfterWrite (may_leave mid) (head_size + leaf) 1) → clock new ≤ clock mid + 2
      → Signs content may_leave clock during key r old new result
  signed_signs is_image key opened r old mid new leaf result same says still firm moments gone bytes lengths first within line taken reads dry why wrote second = record {
    leaf = leaf;
    next = λ file told. sym (next_is key file leaf (says file told).first_free);
    line = subst (λ (k : Key). IfOk result (λ line. line ≡ signed_line k leaf r)) same line;
    gone = taken;
    reads = subst (λ file. OnOk result (content new ≡ spent leaf file)) still reads;
    looks = λ is. unmet (refused_at_end opened leaf result why is);
    spared = λ file told is. unmet (none_left key r file leaf (says file told) is ∙ ap (λ (k : Key). leaves_of k.height) (sym same));
    spares = signed_spares may_leave clock during (levels_of key.height) leaf old mid new (subst (λ (k : Key). leaf ≡ leaves_of k.height → new ≡ mid) same dry)
        (from_file is_image key old mid leaf says still firm) moments gone bytes lengths first wrote second (subst (λ (k : Key). leaf ≤ leaves_of k.height) same within);
  }
    where
      unmet : leaf ≡ leaves_of opened.height → AtEachMoment clock during old new (may_leave old)
      unmet is = subst (λ d. AtEachMoment clock during old d (may_leave old)) (sym (dry is)) moments
