-- Where an entry stands among others that ascend by key.
use Rattle.std.proofs.Common.{◌≡◌, inl, inr, ℕ, suc, ◌+◌, ◌<◌, ◌≤◌, Bool, true, false, ◌&&◌, nat_lt, List, [], ◌∷◌, ◌++◌, length, set, take, drop, refl, sym, ◌∙◌, ap, append_assoc, arith}
use Rattle.std.specs.List.{insert}
use Rattle.std.proofs.lemmas.Bool.{cases_lt}
use Rattle.std.proofs.lemmas.Bool.Decides.{nat_tests}
use Rattle.std.proofs.lemmas.List.{drop_all, drop_more, set_split, take_more}
use Rattle.shutoff_filter.specs.Entries.{greatest, is_before, is_key, with_greatest}
use Rattle.shutoff_filter.specs.InForce.{IsPast, entry_in, goes_before, goes_past, meets_key}
use Rattle.shutoff_filter.specs.declared.entries.ShutOffEntry.{ShutOffEntry}

module _ (entry : ShutOffEntry) (kept : List ShutOffEntry) (place : ℕ) where
  at_place : place < length kept → drop place kept ≡ entry_in kept place ∷ drop (place + 1) kept
  at_place there = drop_more kept place (record { to = record { bytes = [] }; until = 0 }) there

  -- it is put past one whose key comes before
  pub past_next : place < length kept → is_before (entry_in kept place).to entry.to ≡ true → IsPast entry kept place → IsPast entry kept (place + 1)
  past_next there before past =
      let rest : List ShutOffEntry = with_greatest entry (drop (place + 1) kept) in
      past
      ∙ ap (λ (l : List ShutOffEntry). take place kept ++ with_greatest entry l) (at_place there)
      ∙ ap (λ (l : List ShutOffEntry). take place kept ++ l) (goes_past entry (entry_in kept place) (drop (place + 1) kept) before)
      ∙ sym (append_assoc (take place kept) (entry_in kept place ∷ []) rest)
      ∙ ap (λ (l : List ShutOffEntry). l ++ rest) (sym (take_more kept place (record { to = record { bytes = [] }; until = 0 }) there))

  -- where its key stands, the greater until stays
  pub put_at : (nat_lt place (length kept) && is_key entry.to (entry_in kept place).to) ≡ true → IsPast entry kept place → with_greatest entry kept ≡ set kept place (greatest entry (entry_in kept place))
  put_at found past =
      let two = both (nat_lt place (length kept)) (is_key entry.to (entry_in kept place).to) found in
      let test = two.0 in
      let there : place < length kept = grind (arith, nat_tests) in
      let next : place + 1 ≡ suc place = omega arith in
      past
      ∙ ap (λ (l : List ShutOffEntry). take place kept ++ with_greatest entry l) (at_place there)
      ∙ ap (λ (l : List ShutOffEntry). take place kept ++ l) (meets_key entry (entry_in kept place) (drop (place + 1) kept) two.1)
      ∙ ap (λ n. take place kept ++ (greatest entry (entry_in kept place) ∷ drop n kept)) next
      ∙ sym (set_split kept place (greatest entry (entry_in kept place)) there)
    where
      both : (a b : Bool) → (a && b) ≡ true → (a ≡ true) × (b ≡ true)
      both true true is = (refl, refl)
      both true false is = absurd (cc)
      both false b is = absurd (cc)

  -- else it is put before the first greater key
  pub put_before : place ≤ length kept → (place < length kept → is_before (entry_in kept place).to entry.to ≡ false)
      → (nat_lt place (length kept) && is_key entry.to (entry_in kept place).to) ≡ false → IsPast entry kept place → with_greatest entry kept ≡ insert kept place entry
  put_before within stops absent past = elim (cases_lt place (length kept)) [
    | inl there ↦
        let test : nat_lt place (length kept) ≡ true = grind (arith, nat_tests) in
        let apart : is_key entry.to (entry_in kept place).to ≡ false = sym (ap (λ b. b && is_key entry.to (entry_in kept place).to) test) ∙ absent in
        past
        ∙ ap (λ (l : List ShutOffEntry). take place kept ++ with_greatest entry l) (at_place there)
        ∙ ap (λ (l : List ShutOffEntry). take place kept ++ l) (goes_before entry (entry_in kept place) (drop (place + 1) kept) (stops there) apart)
        ∙ ap (λ (l : List ShutOffEntry). take place kept ++ (entry ∷ l)) (sym (at_place there))
    | inr end ↦
        let none = drop_all place kept end in
        past
        ∙ ap (λ (l : List ShutOffEntry). take place kept ++ with_greatest entry l) none
        ∙ ap (λ (l : List ShutOffEntry). take place kept ++ (entry ∷ l)) (sym none)
  ]
