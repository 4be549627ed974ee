-- What a write does to a lease file.
use Rattle.std.proofs.Common.{◌≡◌, ◌≢◌, inl, inr, ℕ, ◌+◌, ◌-◌, ◌^◌, ◌<◌, ◌≤◌, min, List, [], ◌∷◌, ◌++◌, length, take, drop, replicate, get_or, refl, sym, ◌∙◌, ap, subst, arith, length-append}
use Rattle.std.specs.Prelude.{Option, Some, None, option_map, unwrap_or}
use Rattle.std.proofs.lemmas.Bool.{cases_lt}
use Rattle.std.proofs.lemmas.List.{ext_get_or, length-take, length-drop, length-replicate, get_or-take, get_or-drop, get_or_append_left, get_or-append_right, get_or-replicate, get_or_past}
use Rattle.std.proofs.Math.Pow.{pow_mono}
use Rattle.lease_disk.specs.Images.{overwritten, Torn}
use Rattle.lease_disk.specs.Shows.{Shows}
use Rattle.lease_disk.specs.PastLaws.{length-overwritten, overwritten_before, overwritten_after, overwritten_inside}
use Rattle.leaf_lease.specs.LeaseFile.{IsGone, IsOpen, IsFirstFree, IsLeaseFile, kept_id}

-- a height of at most 10 has at most 1024 leaves
pub pow_ten : (height : ℕ) → height ≤ 10 → 2 ^ height ≤ 1024
pow_ten height low = pow_mono {i = height} {j = 10} low

-- files with the same head keep the same identifier
pub kept_id_same : (file other : List ℕ) → 18 ≤ length file → 18 ≤ length other → ((k : ℕ) → k < 18 → get_or file k 0 ≡ get_or other k 0) → kept_id file ≡ kept_id other
kept_id_same file other long long' same =
    let size = length-take 16 (drop 1 file) in
    let size' = length-take 16 (drop 1 other) in
    let rest = length-drop 1 file in
    let rest' = length-drop 1 other in
    ext_get_or 0 (kept_id file) (kept_id other) (omega arith) (λ k there.
    get_or-take 16 (drop 1 file) k 0 (omega arith)
    ∙ get_or-drop 1 file k 0
    ∙ same (1 + k) (omega arith)
    ∙ sym (get_or-drop 1 other k 0)
    ∙ sym (get_or-take 16 (drop 1 other) k 0 (omega arith)))

-- the file once the next leaf is gone
pub next_gone : (id : List ℕ) (height next : ℕ) (file : List ℕ) → IsLeaseFile id height next file → next ≢ 2 ^ height → IsLeaseFile id height (next + 1) (overwritten file (18 + next) (1 ∷ []))
next_gone id height next file is left =
    let size = length-overwritten file (18 + next) (1 ∷ []) in
    let whole = is.whole in
    let within = is.first_free.within in
    let front : (k : ℕ) → k < 18 → get_or (overwritten file (18 + next) (1 ∷ [])) k 0 ≡ get_or file k 0 = λ k low. overwritten_before file (18 + next) (1 ∷ []) k (omega arith) (omega arith) in
    record {
      is_open = record { there = omega arith; gate = front 0 (omega arith) ∙ is.is_open.gate };
      has_key = record {
        same_id = kept_id_same (overwritten file (18 + next) (1 ∷ [])) file (omega arith) (omega arith) front ∙ is.has_key.same_id;
        same_height = front 17 (omega arith) ∙ is.has_key.same_height;
      };
      whole = omega arith;
      first_free = record {
        within = omega arith;
        free = λ later from below. overwritten_after file (18 + next) (1 ∷ []) (18 + later) (omega arith) (omega arith) ∙ is.first_free.free later (omega arith) below;
        last_gone = λ last one zero.
            let here : 18 + last ≡ 18 + next + 0 = omega arith in
            one_nonzero (sym (overwritten_inside file (18 + next) (1 ∷ []) 0 (omega arith)) ∙ ap (λ k. get_or (overwritten file (18 + next) (1 ∷ [])) k 0) (sym here) ∙ zero);
      };
    }
  where
    one_nonzero : ◌≡◌ {A = ℕ} 1 0 → ⊥
    one_nonzero e = omega arith

-- the same of what a disk tells
pub next_ready : (old new : Option (List ℕ)) (id : List ℕ) (height next : ℕ) → new ≡ option_map (λ file. overwritten file (18 + next) (1 ∷ [])) old → ((file : List ℕ) → old ≡ Some file → IsLeaseFile id height next file) → next ≢ 2 ^ height → (file : List ℕ) → new ≡ Some file → IsLeaseFile id height (next + 1) file
next_ready None new id height next is ready left file told = absurd (none_some (sym is ∙ told))
  where
    none_some : {file : List ℕ} → ◌≡◌ {A = Option (List ℕ)} None (Some file) → ⊥
    none_some e = cc
next_ready (Some before) new id height next is ready left file told =
    subst (IsLeaseFile id height (next + 1)) (ap (λ o. unwrap_or o []) (sym is ∙ told)) (next_gone id height next before (ready before refl) left)

-- its byte once the leaf is gone
pub leaf_gone : (old new : Option (List ℕ)) (next : ℕ) → new ≡ option_map (λ file. overwritten file (18 + next) (1 ∷ [])) old → (image : List ℕ) → new ≡ Some image → IsGone next image
leaf_gone None new next is image told = absurd (none_some (sym is ∙ told))
  where
    none_some : {file : List ℕ} → ◌≡◌ {A = Option (List ℕ)} None (Some file) → ⊥
    none_some e = cc
leaf_gone (Some before) new next is image told =
    let same : overwritten before (18 + next) (1 ∷ []) ≡ image = ap (λ o. unwrap_or o []) (sym is ∙ told) in
    subst (IsGone next) same (record {
      there = omega (arith, length-overwritten before (18 + next) (1 ∷ []));
      nonzero = λ zero.
          let here : 18 + next ≡ 18 + next + 0 = omega arith in
          one_nonzero (sym (overwritten_inside before (18 + next) (1 ∷ []) 0 (omega arith)) ∙ ap (λ k. get_or (overwritten before (18 + next) (1 ∷ [])) k 0) (sym here) ∙ zero);
    })
  where
    one_nonzero : ◌≡◌ {A = ℕ} 1 0 → ⊥
    one_nonzero e = omega arith

-- what the front of a file shows of its head
module _ (file bytes : List ℕ) (count : ℕ) (shows : Shows file bytes count) (head : 18 ≤ count) where
  pub front_open : get_or bytes 0 0 ≡ 165 → IsOpen file
  front_open gate = record { there = omega (arith, shows.read); gate = sym (shows.same 0 (omega arith)) ∙ gate }

  pub front_id : kept_id bytes ≡ kept_id file
  front_id = kept_id_same bytes file (omega (arith, shows.read)) (omega (arith, shows.read)) (λ k low. shows.same k (omega arith))

  -- and of its leaves, where all of them were read
  pub front_free : (height first : ℕ) (leaves : List ℕ) → leaves ≡ drop 18 bytes → length bytes ≡ 18 + 2 ^ height → length bytes ≤ count
      → first ≤ length leaves
      → ((later : ℕ) → first ≤ later → later < length leaves → get_or leaves later 0 ≡ 0)
      → ((last : ℕ) → first ≡ last + 1 → get_or leaves last 0 ≢ 0)
      → IsFirstFree height file first
  front_free height first leaves are size all within free last_gone =
      let many = ap length are ∙ length-drop 18 bytes in
      let at : (k : ℕ) → get_or leaves k 0 ≡ get_or bytes (18 + k) 0 = λ k. ap (λ (l : List ℕ). get_or l k 0) are ∙ get_or-drop 18 bytes k 0 in
      record {
        within = omega arith;
        free = λ later from below. sym (shows.same (18 + later) (omega arith)) ∙ sym (at later) ∙ free later from (omega arith);
        last_gone = λ last one zero. last_gone last one (at last ∙ shows.same (18 + last) (omega arith) ∙ zero);
      }

-- a leaf that is gone lies below the first that is free
pub gone_below : (id : List ℕ) (height next : ℕ) (file : List ℕ) → IsLeaseFile id height next file → (leaf : ℕ) → leaf < 2 ^ height → IsGone leaf file → leaf < next
gone_below id height next file is leaf below gone = elim (cases_lt leaf next) [
  | inl low ↦ low
  | inr free ↦ absurd (gone.nonzero (is.first_free.free leaf free below))
]
