-- What the front of a filter file shows.
use Rattle.std.proofs.Common.{◌≡◌, ℕ, ◌+◌, ◌<◌, ◌≤◌, List, length, get_or, sym, ◌∙◌, arith}
use Rattle.lease_disk.specs.Shows.{Shows}
use Rattle.shutoff_filter.specs.FilterFile.{IsFilter, IsFilterOf, IsOpen, file_size, kept_room, slot_at, slot_in}
use Rattle.shutoff_filter.specs.declared.slots.Slot.{Slot}
use Rattle.shutoff_filter.specs.Places.{room_same, slot_same}

module _ (file bytes : List ℕ) (count : ℕ) (shows : Shows file bytes count) where
  pub front_open : 3 ≤ count → get_or bytes 0 0 ≡ 165 → IsOpen file
  front_open head gate = record { there = omega (arith, shows.read); gate = sym (shows.same 0 (omega arith)) ∙ gate }

  pub front_room : 3 ≤ count → kept_room bytes ≡ kept_room file
  front_room head = room_same bytes file (shows.same 1 (omega arith)) (shows.same 2 (omega arith))

  pub front_filter : (room : ℕ) → 3 ≤ count → get_or bytes 0 0 ≡ 165 → kept_room bytes ≡ room → length bytes ≡ file_size room → length bytes ≤ count → IsFilter room file
  front_filter room head gate same size all = record {
    gate = sym (shows.same 0 (omega arith)) ∙ gate;
    same_room = sym (front_room head) ∙ same;
    whole = omega (arith, shows.read);
  }

  -- the slots that were read are those of the file
  pub loaded : (room : ℕ) (slots : List Slot) → length bytes ≡ file_size room → IsFilter room file → ((i : ℕ) → i < room + 1 → slot_in slots i ≡ slot_at bytes i) → IsFilterOf room slots file
  loaded room slots size is each =
      let whole = is.whole in
      let read = shows.read in
      record {
        filter = is;
        same = λ i le. sym (each i (omega arith) ∙ slot_same i bytes file (omega arith) (omega arith) (λ k from below. shows.same k (omega arith)));
      }
