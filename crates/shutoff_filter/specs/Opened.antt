-- What opening gives of a filter file, and of one that was just formatted.
use Rattle.std.proofs.Common.{◌≡◌, inl, inr, ℕ, suc, ◌+◌, ◌-◌, ◌*◌, ◌^◌, ◌<◌, ◌==◌, false, if◌then◌else◌, List, [], ◌∷◌, ◌++◌, length, drop, replicate, get_or, refl, sym, ◌∙◌, ap, arith, append_assoc, length-append}
use Rattle.std.specs.Prelude.{Result, Ok, Err, None}
use Rattle.std.proofs.lemmas.List.{length-drop, get_or_append_left, get_or-append_right, get_or-replicate, length-replicate}
use Rattle.byteorder.specs.Endian.{big_bytes}
use Rattle.byteorder.specs.Numbers.{big_number-reads_back, length-bytes_high_first}
use Rattle.lease_disk.specs.declared.disk.Disk.{Ghosts}
use Rattle.shutoff_filter.specs.Entries.{entries_of, entry_of}
use Rattle.shutoff_filter.specs.FilterFile.{IsFilter, IsFilterOf, file_size, kept_room, open_gate, slot_at, slot_in, slot_start}
use Rattle.shutoff_filter.specs.Format.{formatted, fresh_rest}
use Rattle.shutoff_filter.specs.ImageLaws.{length-slots_at, slots_at_is}
use Rattle.shutoff_filter.specs.Keeping.{entries_in, slots_at}
use Rattle.shutoff_filter.specs.Places.{open_by}
use Rattle.shutoff_filter.specs.Store.{OpenSays, open_failed}
use Rattle.shutoff_filter.specs.declared.opening.StoreEnd.{StoreEnd}
use Rattle.shutoff_filter.specs.declared.opening.StoreEnd.TheVariants as opening
use Rattle.shutoff_filter.specs.declared.slots.Slot.{Slot}
use Rattle.shutoff_filter.specs.declared.slots.Slots.{Slots}
use Rattle.shutoff_filter.specs.declared.store.FilterStore.{FilterStore}

module _ {D : Type 0} {G : Ghosts D} where
  -- a filter was opened: no slot is spare, and its slots are those of the file
  pub record IsOpened (slots : Slots) (file : List ℕ) (result : Result (FilterStore D G) (StoreEnd D)) : Type 0 where
    pub store : FilterStore D G
    pub is : result ≡ Ok store
    pub unspared : store.spare ≡ None
    pub room : store.slots.room ≡ slots.room
    pub same : IsFilterOf slots.room store.slots.slots.items file

  -- A filter file of the room of the slots is opened, unless the disk fails.
  pub is_opened : (slots : Slots) (file : List ℕ) (result : Result (FilterStore D G) (StoreEnd D)) → IsFilter slots.room file → OpenSays slots file result → open_failed result ≡ false → IsOpened slots file result
  is_opened slots file (Ok store) is says served = record { store = store; is = refl; unspared = says.0; room = says.1; same = says.2 }
  is_opened slots file (Err (opening.Failed disk given)) is says served = absurd (cc)
  is_opened slots file (Err (opening.Unformatted disk given size gate)) is says served = elim says.2 [
    | inl closed ↦ absurd (closed (record { there = omega (arith, is.whole); gate = is.gate }))
    | inr short ↦ absurd (omega (arith, short.1, is.whole))
  ]
  is_opened slots file (Err (opening.OtherRoom disk given room)) is says served = absurd (says.2 is.same_room)

-- a freshly formatted file is a filter of its room
pub fresh_is_filter : (room : ℕ) (file : List ℕ) → room < 2 ^ 16 → IsFilter room (formatted room file)
fresh_is_filter room file fits =
    let zeros = length-replicate {A = ℕ} (28 * (room + 1)) 0 in
    let two = length-bytes_high_first 2 room in
    let rest = length-append (fresh_rest room) (drop (file_size room) file) in
    let front = length-append (big_bytes 2 room) (replicate (28 * (room + 1)) 0) in
    record {
      gate = refl;
      same_room =
          ap (λ (l : List ℕ). kept_room (open_gate ∷ l)) (append_assoc (big_bytes 2 room) (replicate (28 * (room + 1)) 0) (drop (file_size room) file))
          ∙ big_number-reads_back 2 room (replicate (28 * (room + 1)) 0 ++ drop (file_size room) file) fits;
      whole = omega arith;
    }

-- and on an empty disk it has no byte more
pub length-formatted : (room : ℕ) → length (formatted room []) ≡ file_size room
length-formatted room =
    let zeros = length-replicate {A = ℕ} (28 * (room + 1)) 0 in
    let two = length-bytes_high_first 2 room in
    let rest = length-append (fresh_rest room) (drop (file_size room) []) in
    let none = length-drop {A = ℕ} (file_size room) [] in
    let front = length-append (big_bytes 2 room) (replicate (28 * (room + 1)) 0) in
    omega arith

-- no slot that is closed has an entry
no_entries : (slots : List Slot) (n : ℕ) → length slots ≡ n → ((i : ℕ) → i < n → (slot_in slots i).is_open ≡ false) → entries_of slots ≡ []
no_entries [] n size shut = refl
no_entries (slot ∷ slots) n size shut =
    ap (λ b. if b then entry_of slot ∷ entries_of slots else entries_of slots) (shut 0 (omega arith))
    ∙ no_entries slots (length slots) refl (λ i below. let next : i + 1 ≡ suc i = omega arith in ap (λ k. (slot_in (slot ∷ slots) k).is_open) (sym next) ∙ shut (i + 1) (omega arith))

-- a freshly formatted file has no entries
pub fresh_has_none : (room : ℕ) (file : List ℕ) → entries_in room (formatted room file) ≡ []
fresh_has_none room file =
    let size = length-slots_at room (formatted room file) in
    no_entries (slots_at room (formatted room file)) (room + 1) size (λ i below.
    ap (λ (s : Slot). s.is_open) (slots_at_is room (formatted room file) i (omega arith)) ∙ shut i (omega arith))
  where
    zero_at : (i : ℕ) → i < room + 1 → get_or (formatted room file) (slot_start i) 0 ≡ 0
    zero_at i below =
        let zeros = length-replicate {A = ℕ} (28 * (room + 1)) 0 in
        let two = length-bytes_high_first 2 room in
        let front = length-append (big_bytes 2 room) (replicate (28 * (room + 1)) 0) in
        let place : 3 + 28 * i ≡ suc (2 + 28 * i) = omega arith in
        ap (λ k. get_or (formatted room file) k 0) place
        ∙ get_or_append_left (fresh_rest room) (drop (file_size room) file) 0 (2 + 28 * i) (omega arith)
        ∙ get_or-append_right (big_bytes 2 room) (replicate (28 * (room + 1)) 0) 2 (2 + 28 * i) 0 two (omega arith)
        ∙ get_or-replicate (28 * (room + 1)) (2 + 28 * i - 2) 0 0 (omega arith)

    shut : (i : ℕ) → i < room + 1 → (slot_at (formatted room file) i).is_open ≡ false
    shut i below = open_by (formatted room file) i ∙ ap (λ gate. gate == open_gate) (zero_at i below)
