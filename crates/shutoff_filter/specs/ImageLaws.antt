-- What the writes of a filter do to the entries of its file.
use Rattle.std.proofs.Common.{◌≡◌, inl, inr, ℕ, suc, ◌+◌, ◌^◌, ◌<◌, ◌≤◌, ◌==◌, Bool, true, false, if◌then◌else◌, List, [], ◌∷◌, length, take, drop, replicate, set, get_or, refl, sym, ◌∙◌, ap, subst, arith, length-append}
use Rattle.std.proofs.lemmas.Bool.{cases_eq}
use Rattle.std.proofs.lemmas.Bool.Decides.{nat_tests}
use Rattle.std.proofs.lemmas.List.{append-nil, drop_at, length-replicate, ext_get_or, get_or-set_other, get_or-set_same, length-set, set-get_or, take_at}
use Rattle.std.proofs.lemmas.List.FromFn.{length-map-range_with_len, get_or-map-range_with_len}
use Rattle.byteorder.specs.Endian.{big_bytes, big_number}
use Rattle.byteorder.specs.Numbers.{big_number-reads_back, length-bytes_high_first}
use Rattle.aip_addr.specs.declared.ids.KeyId.{KeyId}
use Rattle.lease_disk.specs.Images.{overwritten, Torn}
use Rattle.lease_disk.specs.Kept.{gated}
use Rattle.lease_disk.specs.PastLaws.{length-overwritten, overwritten_after, overwritten_before, overwritten_inside}
use Rattle.shutoff_filter.specs.Entries.{SameInForce, entries_of, entry_of}
use Rattle.shutoff_filter.specs.FilterFile.{IsFilter, IsFilterOf, body_at, open_gate, slot_at, slot_in, slot_of, slot_start}
use Rattle.shutoff_filter.specs.Keeping.{SameOrAdded, entries_in, entry_bytes, open_slot, shut_slot, slots_at}
use Rattle.shutoff_filter.specs.Places.{ChangesSlot, body_same, body_torn, body_written, changed_twice, gate_torn, open_by, slot_by, torn_slot, written_slot}
use Rattle.shutoff_filter.specs.SlotLaws.{closed_in_force, opened_in_force, shut_in_force}
use Rattle.shutoff_filter.specs.Slots.{closed_slot}
use Rattle.shutoff_filter.specs.Spare.{holds_entry}
use Rattle.shutoff_filter.specs.declared.entries.ShutOffEntry.{ShutOffEntry}
use Rattle.shutoff_filter.specs.declared.slots.Slot.{Slot}

-- the number of slots of a file
pub length-slots_at : (room : ℕ) (file : List ℕ) → length (slots_at room file) ≡ room + 1
length-slots_at room file = length-map-range_with_len (slot_at file) 0 (room + 1)

-- and each of them
pub slots_at_is : (room : ℕ) (file : List ℕ) (i : ℕ) → i ≤ room → slot_in (slots_at room file) i ≡ slot_at file i
slots_at_is room file i within = get_or-map-range_with_len (slot_at file) 0 (room + 1) i i closed_slot (omega arith) (omega arith)

-- the slots of a file are those in memory
pub slots_same : (room : ℕ) (slots : List Slot) (file : List ℕ) → length slots ≡ room + 1 → IsFilterOf room slots file → slots_at room file ≡ slots
slots_same room slots file whole is =
    let size = length-slots_at room file in
    ext_get_or closed_slot (slots_at room file) slots (omega arith) (λ i below. slots_at_is room file i (omega arith) ∙ is.same i (omega arith))

-- and so are its entries
pub entries_same : (room : ℕ) (slots : List Slot) (file : List ℕ) → length slots ≡ room + 1 → IsFilterOf room slots file → entries_in room file ≡ entries_of slots
entries_same room slots file whole is = ap entries_of (slots_same room slots file whole is)

-- a file of which one slot changed
module _ (room number : ℕ) (slots : List Slot) (before image : List ℕ) (whole : length slots ≡ room + 1) (within : number ≤ room) (is : IsFilterOf room slots before) (change : ChangesSlot room number before image) where
  slot_changed : (i : ℕ) → i ≤ room → slot_in (set slots number (slot_at image number)) i ≡ slot_at image i
  slot_changed i le = elim (cases_eq i number) [
    | inl here ↦ subst (λ n. slot_in (set slots number (slot_at image number)) n ≡ slot_at image n) (sym here) (get_or-set_same slots number (slot_at image number) closed_slot (omega arith))
    | inr apart ↦ get_or-set_other slots number i (slot_at image number) closed_slot apart ∙ sym (is.same i le) ∙ sym (change.others i le apart)
  ]

  -- its slots are those in memory, but for that one
  pub changed_slots : (slot : Slot) → slot_at image number ≡ slot → IsFilterOf room (set slots number slot) image
  changed_slots slot here = subst (λ (x : Slot). IsFilterOf room (set slots number x) image) here (record { filter = change.filter; same = λ i le. sym (slot_changed i le) })

  pub changed_entries : entries_in room image ≡ entries_of (set slots number (slot_at image number))
  changed_entries =
      let size = length-set slots number (slot_at image number) in
      entries_same room (set slots number (slot_at image number)) image (omega arith) (changed_slots (slot_at image number) refl)

-- a slot that is open is that of an open gate
opened_is : (file : List ℕ) (i : ℕ) → (slot_at file i).is_open ≡ true → slot_of open_gate (body_at file i) ≡ slot_at file i
unfolding slot_at
opened_is file i opened = ap (λ gate. slot_of gate (body_at file i)) (gate_is (get_or file (slot_start i) 0) opened)
  where
    gate_is : (gate : ℕ) → (gate == open_gate) ≡ true → open_gate ≡ gate
    gate_is gate test = let same : gate ≡ open_gate = grind (arith, nat_tests) in sym same

-- while a slot that holds no entry of a key in force is closed, what is withheld stays
pub closing_torn : (room now number : ℕ) (slots : List Slot) (before image : List ℕ) → length slots ≡ room + 1 → number ≤ room → IsFilterOf room slots before
    → (slot_in slots number).is_open ≡ true → holds_entry now (take number slots) (slot_in slots number) (drop (number + 1) slots) ≡ false
    → Torn (slot_start number) 1 before image
    → IsFilter room image × (length image ≡ length before) × SameInForce now (entries_of slots) (entries_in room image)
closing_torn room now number slots before image whole within is opened free torn =
    let change = torn_slot room number (slot_start number) 1 before image within is.filter (omega arith) (omega arith) torn in
    let entries = changed_entries room number slots before image whole within is change in
    let open_before : (slot_at before number).is_open ≡ true = ap (λ (slot : Slot). slot.is_open) (is.same number within) ∙ opened in
    let later : number + 1 ≡ suc number = omega arith in
    let free' : holds_entry now (take number slots) (get_or slots number closed_slot) (drop (suc number) slots) ≡ false = ap (λ n. holds_entry now (take number slots) (slot_in slots number) (drop n slots)) (sym later) ∙ free in
    let there : number < length slots = omega arith in (
      change.filter,
      change.size,
      subst (SameInForce now (entries_of slots)) (sym entries) (elim (gate_torn room number before image within is.filter torn) [
        | inl shut ↦ closed_in_force now slots number closed_slot (slot_at image number) there free' shut
        | inr same ↦
            let back : set slots number (slot_at image number) ≡ slots = ap (set slots number) (same ∙ opened_is before number open_before ∙ is.same number within) ∙ set-get_or slots number closed_slot in
            subst (λ (l : List Slot). SameInForce now (entries_of slots) (entries_of l)) (sym back) (λ to time later. refl)
      ]),
    )

-- a slot with its gate closed
shut_is : (file : List ℕ) (i : ℕ) → slot_of 0 (body_at file i) ≡ shut_slot (slot_at file i)
unfolding slot_at
shut_is file i = refl

-- the file once a slot is closed
pub closing_written : (room number : ℕ) (slots : List Slot) (before : List ℕ) → length slots ≡ room + 1 → number ≤ room → IsFilterOf room slots before
    → IsFilterOf room (set slots number (shut_slot (slot_in slots number))) (overwritten before (slot_start number) (0 ∷ []))
closing_written room number slots before whole within is =
    let long = is.filter.whole in
    let size = length-overwritten before (slot_start number) (0 ∷ []) in
    let image = overwritten before (slot_start number) (0 ∷ []) in
    let change = written_slot room number (slot_start number) before (0 ∷ []) within is.filter (omega arith) (omega arith) in
    let here : slot_start number + 0 ≡ slot_start number = omega arith in
    let gate : get_or image (slot_start number) 0 ≡ 0 = ap (λ k. get_or image k 0) (sym here) ∙ overwritten_inside before (slot_start number) (0 ∷ []) 0 (omega arith) in
    let body : body_at image number ≡ body_at before number = body_same number image before (omega arith) (omega arith) (λ k from below. overwritten_after before (slot_start number) (0 ∷ []) k (omega arith) (omega arith)) in
    changed_slots room number slots before image whole within is change (shut_slot (slot_in slots number))
    (slot_by image number 0 (body_at before number) gate body ∙ shut_is before number ∙ ap shut_slot (is.same number within))

-- the bytes of an entry
pub length-entry_bytes : (to : KeyId) (until : ℕ) → length to.bytes ≡ 19 → length (entry_bytes to until) ≡ 27
length-entry_bytes to until nineteen = omega (arith, length-append to.bytes (big_bytes 8 until), length-bytes_high_first 8 until)

-- and the slot that they and an open gate are
pub entry_slot : (to : KeyId) (until : ℕ) → length to.bytes ≡ 19 → until < 2 ^ 64 → slot_of open_gate (entry_bytes to until) ≡ open_slot to until
entry_slot to until nineteen fits =
    ap (λ (bytes : List ℕ). let slot : Slot = record { is_open = true; to = record { bytes = bytes }; until = big_number 8 (drop 19 (entry_bytes to until)) } in slot) (take_at to.bytes (big_bytes 8 until) 19 nineteen)
    ∙ ap (λ (n : ℕ). let slot : Slot = record { is_open = true; to = to; until = n } in slot) (ap (big_number 8) (drop_at to.bytes (big_bytes 8 until) 19 nineteen) ∙ ap (big_number 8) (sym (append-nil (big_bytes 8 until))) ∙ big_number-reads_back 8 until [] fits)

-- a file to whose closed slot an entry is written
module _ (room now number : ℕ) (to : KeyId) (until : ℕ) (slots : List Slot) (before : List ℕ) (whole : length slots ≡ room + 1) (within : number ≤ room) (nineteen : length to.bytes ≡ 19) (fits : until < 2 ^ 64) (is : IsFilterOf room slots before) (shut : (slot_in slots number).is_open ≡ false) where
  -- what stands past the gate of the entry's slot
  abbrev body : List ℕ
  body = entry_bytes to until

  -- the entry
  abbrev entry : ShutOffEntry
  entry = record { to = to; until = until }

  -- the file before the gate is written
  abbrev mid : List ℕ
  mid = overwritten before (slot_start number + 1) body

  there : number < length slots
  there = omega arith

  shut_before : (slot_at before number).is_open ≡ false
  shut_before = ap (λ (slot : Slot). slot.is_open) (is.same number within) ∙ shut

  mid_change : ChangesSlot room number before mid
  mid_change =
      let long = is.filter.whole in
      let size = length-entry_bytes to until nineteen in
      written_slot room number (slot_start number + 1) before body within is.filter (omega arith) (omega arith)

  -- while what stands past the gate is written, what is withheld stays
  pub body_kept : (image : List ℕ) → Torn (slot_start number + 1) (length body) before image → IsFilter room image × (length image ≡ length before) × SameInForce now (entries_of slots) (entries_in room image)
  body_kept image torn =
      let size = length-entry_bytes to until nineteen in
      let change = torn_slot room number (slot_start number + 1) (length body) before image within is.filter (omega arith) (omega arith) torn in
      let closed = body_torn room number before image within is.filter (subst (λ n. Torn (slot_start number + 1) n before image) size torn) shut_before in (
        change.filter,
        change.size,
        subst (SameInForce now (entries_of slots)) (sym (changed_entries room number slots before image whole within is change)) (shut_in_force now slots number closed_slot (slot_at image number) there shut closed),
      )

  body_stands : body_at mid number ≡ body
  body_stands =
      let long = is.filter.whole in
      body_written number before body (length-entry_bytes to until nineteen) (omega arith)

  -- while its gate is opened, the entry is added or not
  pub gate_kept : (image : List ℕ) → Torn (slot_start number) 1 mid image → IsFilter room image × (length image ≡ length before) × SameOrAdded now entry (entries_of slots) (entries_in room image)
  gate_kept image torn =
      let change = changed_twice room number before mid image mid_change (torn_slot room number (slot_start number) 1 mid image within mid_change.filter (omega arith) (omega arith) torn) in
      let entries = changed_entries room number slots before image whole within is change in (
        change.filter,
        change.size,
        subst (SameOrAdded now entry (entries_of slots)) (sym entries) (elim (gate_torn room number mid image within mid_change.filter torn) [
          | inl closed ↦ inl (shut_in_force now slots number closed_slot (slot_at image number) there shut closed)
          | inr opened ↦
              let slot : slot_at image number ≡ open_slot to until = opened ∙ ap (slot_of open_gate) body_stands ∙ entry_slot to until nineteen fits in
              inr (subst (λ (x : Slot). SameInForce now (entry ∷ entries_of slots) (entries_of (set slots number x))) (sym slot) (opened_in_force now slots number closed_slot (open_slot to until) there shut refl))
        ]),
      )

  -- the file once what stands past the gate is written, and the gate with any byte
  pub gate_written : (gate : ℕ) → IsFilterOf room (set slots number (slot_of gate body)) (gated (slot_start number) gate body before)
  gate_written gate =
      let image = overwritten mid (slot_start number) (gate ∷ []) in
      let long = mid_change.filter.whole in
      let size = length-overwritten mid (slot_start number) (gate ∷ []) in
      let second = written_slot room number (slot_start number) mid (gate ∷ []) within mid_change.filter (omega arith) (omega arith) in
      let change = changed_twice room number before mid image mid_change second in
      let here : slot_start number + 0 ≡ slot_start number = omega arith in
      let byte : get_or image (slot_start number) 0 ≡ gate = ap (λ k. get_or image k 0) (sym here) ∙ overwritten_inside mid (slot_start number) (gate ∷ []) 0 (omega arith) in
      let same : body_at image number ≡ body_at mid number = body_same number image mid (omega arith) (omega arith) (λ k from below. overwritten_after mid (slot_start number) (gate ∷ []) k (omega arith) (omega arith)) in
      changed_slots room number slots before image whole within is change (slot_of gate body) (slot_by image number gate body byte (same ∙ body_stands))

  -- the file once the entry is written
  pub entry_written : IsFilterOf room (set slots number (open_slot to until)) (gated (slot_start number) open_gate body before)
  entry_written = subst (λ (slot : Slot). IsFilterOf room (set slots number slot) (gated (slot_start number) open_gate body before)) (entry_slot to until nineteen fits) (gate_written open_gate)

  -- where a stop leaves its byte over the gate, the entry is added if the byte opens it
  pub gate_filled : (fill : ℕ) → SameInForce now (if fill == open_gate then entry ∷ entries_of slots else entries_of slots) (entries_in room (gated (slot_start number) fill body before))
  gate_filled fill =
      let image = gated (slot_start number) fill body before in
      let size = length-set slots number (slot_of fill body) in
      let entries : entries_in room image ≡ entries_of (set slots number (slot_of fill body)) = entries_same room (set slots number (slot_of fill body)) image (omega arith) (gate_written fill) in
      subst (SameInForce now (if fill == open_gate then entry ∷ entries_of slots else entries_of slots)) (sym entries) (by (fill == open_gate) refl)
    where
      entry_is : entry_of (slot_of open_gate body) ≡ entry
      entry_is = ap entry_of (entry_slot to until nineteen fits)

      by : (b : Bool) → (fill == open_gate) ≡ b → SameInForce now (if b then entry ∷ entries_of slots else entries_of slots) (entries_of (set slots number (slot_of fill body)))
      by false shut' = shut_in_force now slots number closed_slot (slot_of fill body) there shut shut'
      by true opened = subst (λ (e : ShutOffEntry). SameInForce now (e ∷ entries_of slots) (entries_of (set slots number (slot_of fill body)))) entry_is (opened_in_force now slots number closed_slot (slot_of fill body) there shut opened)

  -- where it leaves its byte over what stands past the gate, all entries stay
  pub body_filled : (fill : ℕ) → IsFilter room (overwritten before (slot_start number + 1) (replicate 27 fill)) × SameInForce now (entries_of slots) (entries_in room (overwritten before (slot_start number + 1) (replicate 27 fill)))
  body_filled fill =
      let image = overwritten before (slot_start number + 1) (replicate 27 fill) in
      let zeros = length-replicate {A = ℕ} 27 fill in
      let long = is.filter.whole in
      let size = length-overwritten before (slot_start number + 1) (replicate 27 fill) in
      let change = written_slot room number (slot_start number + 1) before (replicate 27 fill) within is.filter (omega arith) (omega arith) in
      let gate : get_or image (slot_start number) 0 ≡ get_or before (slot_start number) 0 = overwritten_before before (slot_start number + 1) (replicate 27 fill) (slot_start number) (omega arith) (omega arith) in
      let closed : (slot_at image number).is_open ≡ false = open_by image number ∙ ap (λ g. g == open_gate) gate ∙ sym (open_by before number) ∙ shut_before in (
        change.filter,
        subst (SameInForce now (entries_of slots)) (sym (changed_entries room number slots before image whole within is change)) (shut_in_force now slots number closed_slot (slot_at image number) there shut closed),
      )
