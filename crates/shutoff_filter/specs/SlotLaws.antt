-- What closing and opening a slot does to the entries of all, and which slot is spare.
use Rattle.std.proofs.Common.{◌≡◌, ◌⊎◌, inl, inr, ℕ, zero, suc, ◌+◌, ◌<◌, ◌≤◌, Bool, true, false, not, ◌&&◌, ◌||◌, nat_lt, nat_le, if◌then◌else◌, List, [], ◌∷◌, ◌++◌, length, set, take, drop, get_or, refl, sym, ◌∙◌, ap, arith, length-append}
use Rattle.std.specs.Prelude.{Option, Some, None, IsSome}
use Rattle.std.specs.List.{list_any}
use Rattle.std.proofs.lemmas.Bool.{or_from, or_left, or_right, or_cases}
use Rattle.std.proofs.lemmas.Bool.Decides.{nat_tests}
use Rattle.std.proofs.lemmas.List.Folds.{list_any-append}
use Rattle.aip_addr.specs.declared.ids.KeyId.{KeyId}
use Rattle.shutoff_filter.specs.Entries.{SameInForce, entries_of, entry_of, in_force, is_key, is_withheld, lasts, withholds}
use Rattle.shutoff_filter.specs.InForce.{count-cons, key_laws}
use Rattle.shutoff_filter.specs.Slots.{holds}
use Rattle.shutoff_filter.specs.Spare.{holds_entry, is_matched_by, is_outlasted_by, spare_in, spare_past}
use Rattle.shutoff_filter.specs.declared.slots.Slot.{Slot}

-- some slot holds the key where some entry withholds it
pub any_holds : (now : ℕ) (to : KeyId) (slots : List Slot) → list_any (holds now to) slots ≡ is_withheld now to (entries_of slots)
any_holds now to [] = refl
any_holds now to (slot ∷ slots) = by slot.is_open (any_holds now to slots)
  where
    by : (b : Bool) → list_any (holds now to) slots ≡ is_withheld now to (entries_of slots)
        → ((b && withholds now to (entry_of slot)) || list_any (holds now to) slots) ≡ is_withheld now to (if b then entry_of slot ∷ entries_of slots else entries_of slots)
    by true h = ap (λ b. withholds now to (entry_of slot) || b) h
    by false h = h

-- a list by the part before an element, the element and the part past it
any_split : (p : Slot → Bool) (slots : List Slot) (number : ℕ) (other : Slot) → number < length slots
    → list_any p slots ≡ (list_any p (take number slots) || (p (get_or slots number other) || list_any p (drop (suc number) slots)))
any_split p [] number other there = absurd (omega arith)
any_split p (slot ∷ slots) zero other there = refl
any_split p (slot ∷ slots) (suc number) other there = ap (λ b. p slot || b) (any_split p slots number other (omega arith)) ∙ or_inner (p slot) (list_any p (take number slots)) (p (get_or slots number other) || list_any p (drop (suc number) slots))
  where
    or_inner : (a b c : Bool) → (a || (b || c)) ≡ ((a || b) || c)
    or_inner true b c = refl
    or_inner false b c = refl

any_set : (p : Slot → Bool) (slots : List Slot) (number : ℕ) (slot : Slot) → number < length slots
    → list_any p (set slots number slot) ≡ (list_any p (take number slots) || (p slot || list_any p (drop (suc number) slots)))
any_set p [] number new there = absurd (omega arith)
any_set p (slot ∷ slots) zero new there = refl
any_set p (slot ∷ slots) (suc number) new there = ap (λ b. p slot || b) (any_set p slots number new (omega arith)) ∙ or_inner (p slot) (list_any p (take number slots)) (p new || list_any p (drop (suc number) slots))
  where
    or_inner : (a b c : Bool) → (a || (b || c)) ≡ ((a || b) || c)
    or_inner true b c = refl
    or_inner false b c = refl

any_follows : (p q : Slot → Bool) → ((slot : Slot) → p slot ≡ true → q slot ≡ true) → (slots : List Slot) → list_any p slots ≡ true → list_any q slots ≡ true
any_follows p q follows [] some = some
any_follows p q follows (slot ∷ slots) some = elim (or_cases (p slot) (list_any p slots) some) [
  | inl here ↦ or_left (q slot) (list_any q slots) (follows slot here)
  | inr later ↦ or_right (q slot) (list_any q slots) (any_follows p q follows slots later)
]

both : (a b : Bool) → (a && b) ≡ true → (a ≡ true) × (b ≡ true)
both true true is = (refl, refl)
both true false is = absurd (cc)
both false b is = absurd (cc)

all_true : (a b : Bool) → a ≡ true → b ≡ true → (a && b) ≡ true
all_true a b x y = ap (λ c. c && b) x ∙ y

bool_cases : (b : Bool) → (b ≡ true) ⊎ (b ≡ false)
bool_cases true = inl refl
bool_cases false = inr refl

-- a key that is held by a slot is held by one that matches it
held_too : (now time : ℕ) (to : KeyId) (slot other : Slot) → holds time to slot ≡ true → is_matched_by slot other ≡ true → holds time to other ≡ true
held_too now time to slot other held match =
    let own = both slot.is_open (withholds time to (entry_of slot)) held in
    let it = both (is_key slot.to to) (lasts time (entry_of slot)) own.1 in
    let its = both other.is_open (is_key other.to slot.to && nat_le slot.until other.until) match in
    let last = both (is_key other.to slot.to) (nat_le slot.until other.until) its.1 in
    let mine = it.1 in
    let longer = last.1 in
    let lasting : nat_lt time other.until ≡ true = grind (arith, nat_tests) in
    all_true other.is_open (withholds time to (entry_of other)) its.0
    (all_true (is_key other.to to) (lasts time (entry_of other)) (key_laws.congr other.to slot.to to last.0 ∙ it.0) lasting)

outlasted_matched : (slot other : Slot) → is_outlasted_by slot other ≡ true → is_matched_by slot other ≡ true
outlasted_matched slot other out =
    let its = both other.is_open (is_key other.to slot.to && nat_lt slot.until other.until) out in
    let last = both (is_key other.to slot.to) (nat_lt slot.until other.until) its.1 in
    let longer = last.1 in
    let upto : nat_le slot.until other.until ≡ true = grind (arith, nat_tests) in
    all_true other.is_open (is_key other.to slot.to && nat_le slot.until other.until) its.0 (all_true (is_key other.to slot.to) (nat_le slot.until other.until) last.0 upto)

-- where a slot that holds no entry in force withholds a key, another does
held_elsewhere : (now time : ℕ) (to : KeyId) (lower higher : List Slot) (slot : Slot) → now ≤ time → holds_entry now lower slot higher ≡ false → holds time to slot ≡ true
    → (list_any (holds time to) lower ≡ true) ⊎ (list_any (holds time to) higher ≡ true)
held_elsewhere now time to lower higher slot later free held =
    let own = both slot.is_open (withholds time to (entry_of slot)) held in
    let mine = (both (is_key slot.to to) (lasts time (entry_of slot)) own.1).1 in
    let lasting : lasts now (entry_of slot) ≡ true = grind (arith, nat_tests) in
    let open_now : (slot.is_open && lasts now (entry_of slot)) ≡ true = all_true slot.is_open (lasts now (entry_of slot)) own.0 lasting in
    elim (bool_cases (list_any (is_matched_by slot) lower)) [
      | inl matched ↦ inl (any_follows (is_matched_by slot) (holds time to) (λ other match. held_too now time to slot other held match) lower matched)
      | inr unmatched ↦ elim (bool_cases (list_any (is_outlasted_by slot) higher)) [
        | inl out ↦ inr (any_follows (is_outlasted_by slot) (holds time to) (λ other longer. held_too now time to slot other held (outlasted_matched slot other longer)) higher out)
        | inr kept ↦ absurd (true_false (sym (ap (λ b. b && (not (list_any (is_matched_by slot) lower) && not (list_any (is_outlasted_by slot) higher))) open_now
            ∙ ap (λ b. not b && not (list_any (is_outlasted_by slot) higher)) unmatched ∙ ap not kept) ∙ free))
      ]
    ]
  where
    true_false : true ≡ false → ⊥
    true_false e = cc

-- A slot that holds no entry of a key in force may be closed: what is withheld stays.
pub closed_in_force : (now : ℕ) (slots : List Slot) (number : ℕ) (other slot : Slot) → number < length slots
    → holds_entry now (take number slots) (get_or slots number other) (drop (suc number) slots) ≡ false → slot.is_open ≡ false
    → SameInForce now (entries_of slots) (entries_of (set slots number slot))
closed_in_force now slots number other slot there free shut = λ to time later.
    let old = get_or slots number other in
    let lower = take number slots in
    let higher = drop (suc number) slots in
    sym (any_holds time to slots)
    ∙ any_split (holds time to) slots number other there
    ∙ by time to (holds time to old) (list_any (holds time to) lower) (list_any (holds time to) higher) (λ held. held_elsewhere now time to lower higher old later free held)
    ∙ sym (ap (λ b. list_any (holds time to) lower || ((b && withholds time to (entry_of slot)) || list_any (holds time to) higher)) shut)
    ∙ sym (any_set (holds time to) slots number slot there)
    ∙ any_holds time to (set slots number slot)
  where
    by : (time : ℕ) (to : KeyId) (held low high : Bool) → (held ≡ true → (low ≡ true) ⊎ (high ≡ true)) → (low || (held || high)) ≡ (low || high)
    by time to false low high elsewhere = refl
    by time to true true high elsewhere = refl
    by time to true false true elsewhere = refl
    by time to true false false elsewhere = elim (elsewhere refl) [ inl e ↦ cc | inr e ↦ cc ]

-- A closed slot that is opened adds its entry.
pub opened_in_force : (now : ℕ) (slots : List Slot) (number : ℕ) (other slot : Slot) → number < length slots
    → (get_or slots number other).is_open ≡ false → slot.is_open ≡ true
    → SameInForce now (entry_of slot ∷ entries_of slots) (entries_of (set slots number slot))
opened_in_force now slots number other slot there shut opened = λ to time later.
    let old = get_or slots number other in
    let low = list_any (holds time to) (take number slots) in
    let high = list_any (holds time to) (drop (suc number) slots) in
    ap (λ b. withholds time to (entry_of slot) || b) (sym (any_holds time to slots) ∙ any_split (holds time to) slots number other there ∙ ap (λ b. low || ((b && withholds time to (entry_of old)) || high)) shut)
    ∙ swapped (withholds time to (entry_of slot)) low high
    ∙ sym (ap (λ b. low || ((b && withholds time to (entry_of slot)) || high)) opened)
    ∙ sym (any_set (holds time to) slots number slot there)
    ∙ any_holds time to (set slots number slot)
  where
    swapped : (c d w : Bool) → (c || (d || w)) ≡ (d || (c || w))
    swapped true true w = refl
    swapped true false w = refl
    swapped false d w = refl

-- Where a closed slot gives way to another closed one, what is withheld stays.
pub shut_in_force : (now : ℕ) (slots : List Slot) (number : ℕ) (other slot : Slot) → number < length slots
    → (get_or slots number other).is_open ≡ false → slot.is_open ≡ false
    → SameInForce now (entries_of slots) (entries_of (set slots number slot))
shut_in_force now slots number other slot there shut still = λ to time later.
    let old = get_or slots number other in
    let low = list_any (holds time to) (take number slots) in
    let high = list_any (holds time to) (drop (suc number) slots) in
    sym (any_holds time to slots)
    ∙ any_split (holds time to) slots number other there
    ∙ ap (λ b. low || ((b && withholds time to (entry_of old)) || high)) shut
    ∙ sym (ap (λ b. low || ((b && withholds time to (entry_of slot)) || high)) still)
    ∙ sym (any_set (holds time to) slots number slot there)
    ∙ any_holds time to (set slots number slot)

-- what is known of a slot that holds an entry in force
pub record HoldsEntry (now : ℕ) (lower : List Slot) (slot : Slot) (higher : List Slot) : Type 0 where
  pub opened : slot.is_open ≡ true
  pub lasting : lasts now (entry_of slot) ≡ true
  pub unmatched : list_any (is_matched_by slot) lower ≡ false
  pub outlasts : list_any (is_outlasted_by slot) higher ≡ false

holding : (now : ℕ) (lower : List Slot) (slot : Slot) (higher : List Slot) → holds_entry now lower slot higher ≡ true → HoldsEntry now lower slot higher
holding now lower slot higher is =
    let parts = both (slot.is_open && lasts now (entry_of slot)) (not (list_any (is_matched_by slot) lower) && not (list_any (is_outlasted_by slot) higher)) is in
    let own = both slot.is_open (lasts now (entry_of slot)) parts.0 in
    let others = both (not (list_any (is_matched_by slot) lower)) (not (list_any (is_outlasted_by slot) higher)) parts.1 in
    record { opened = own.0; lasting = own.1; unmatched = not_true (list_any (is_matched_by slot) lower) others.0; outlasts = not_true (list_any (is_outlasted_by slot) higher) others.1 }
  where
    not_true : (b : Bool) → not b ≡ true → b ≡ false
    not_true true e = absurd (cc)
    not_true false e = refl

-- where no slot past the lower ones is spare, the first holds an entry, and none of the rest is spare
none_spare : (now : ℕ) (lower : List Slot) (slot : Slot) (higher : List Slot) → spare_past now lower (slot ∷ higher) ≡ None
    → (holds_entry now lower slot higher ≡ true) × (spare_past now (lower ++ slot ∷ []) higher ≡ None)
none_spare now lower slot higher none = by (holds_entry now lower slot higher) none
  where
    by : (b : Bool) → (if b then spare_past now (lower ++ slot ∷ []) higher else Some (length lower)) ≡ None → (b ≡ true) × (spare_past now (lower ++ slot ∷ []) higher ≡ None)
    by true none = (refl, none)
    by false none = absurd (cc)

-- no later slot withholds the key of a lower one, where each holds an entry of its own
apart : (now : ℕ) (slot : Slot) (lower higher : List Slot) → slot.is_open ≡ true → ((test : Slot → Bool) → test slot ≡ true → list_any test lower ≡ true)
    → list_any (is_outlasted_by slot) higher ≡ false → spare_past now lower higher ≡ None → list_any (holds now slot.to) higher ≡ false
apart now slot lower [] opened among outlasts none = refl
apart now slot lower (r ∷ rs) opened among outlasts none =
    let two = none_spare now lower r rs none in
    let held = holding now lower r rs two.0 in
    or_from (holds now slot.to r) (list_any (holds now slot.to) rs)
    (by (is_key r.to slot.to) refl held.unmatched (neither (is_outlasted_by slot r) (list_any (is_outlasted_by slot) rs) outlasts).0 held.opened)
    (apart now slot (lower ++ r ∷ []) rs opened
    (λ test is. list_any-append test lower (r ∷ []) ∙ or_left (list_any test lower) (list_any test (r ∷ [])) (among test is))
    (neither (is_outlasted_by slot r) (list_any (is_outlasted_by slot) rs) outlasts).1 two.1)
  where
    neither : (a b : Bool) → (a || b) ≡ false → (a ≡ false) × (b ≡ false)
    neither true b is = absurd (cc)
    neither false b is = (refl, is)

    and_false : (a : Bool) → (a && false) ≡ false
    and_false true = refl
    and_false false = refl

    true_false : {A : Type 0} → true ≡ false → A
    true_false e = absurd (cc)

    by : (b : Bool) → is_key r.to slot.to ≡ b → list_any (is_matched_by r) lower ≡ false → is_outlasted_by slot r ≡ false → r.is_open ≡ true → holds now slot.to r ≡ false
    by false is unmatched short open_r = ap (λ b. r.is_open && (b && lasts now (entry_of r))) is ∙ and_false r.is_open
    by true is unmatched short open_r =
        let not_longer : nat_lt slot.until r.until ≡ false = sym (ap (λ b. b && (is_key r.to slot.to && nat_lt slot.until r.until)) open_r ∙ ap (λ b. b && nat_lt slot.until r.until) is) ∙ short in
        let upto : nat_le r.until slot.until ≡ true = grind (arith, nat_tests) in
        let matched : is_matched_by r slot ≡ true = all_true slot.is_open (is_key slot.to r.to && nat_le r.until slot.until) opened (all_true (is_key slot.to r.to) (nat_le r.until slot.until) (key_laws.symm slot.to r.to ∙ is) upto) in
        true_false (sym (among (is_matched_by r) matched) ∙ unmatched)

-- where no slot is spare, as many keys are in force as there are slots
all_in_force : (now : ℕ) (lower slots : List Slot) → spare_past now lower slots ≡ None → length (in_force now (entries_of slots)) ≡ length slots
all_in_force now lower [] none = refl
all_in_force now lower (slot ∷ higher) none =
    let two = none_spare now lower slot higher none in
    let held = holding now lower slot higher two.0 in
    let absent = apart now slot (lower ++ slot ∷ []) higher held.opened
    (λ test is. list_any-append test lower (slot ∷ []) ∙ or_right (list_any test lower) (list_any test (slot ∷ [])) (or_left (test slot) false is)) held.outlasts two.1 in
    ap (λ b. length (in_force now (if b then entry_of slot ∷ entries_of higher else entries_of higher))) held.opened
    ∙ count-cons now (entry_of slot) (entries_of higher) held.lasting (sym (any_holds now slot.to higher) ∙ absent)
    ∙ ap suc (all_in_force now (lower ++ slot ∷ []) higher two.1)

-- where fewer keys are in force than there are slots, one is spare
pub spare_there : (now : ℕ) (slots : List Slot) → length (in_force now (entries_of slots)) < length slots → IsSome (spare_in now slots)
spare_there now slots few = by (spare_in now slots) (λ none. omega (arith, all_in_force now [] slots none))
  where
    by : (o : Option ℕ) → (o ≡ None → ⊥) → IsSome o
    by (Some number) some = refl
    by None some = absurd (some refl)

-- a slot that is spare is one of the slots
spare_below : (now : ℕ) (lower slots : List Slot) (number : ℕ) → spare_past now lower slots ≡ Some number → number < length lower + length slots
spare_below now lower [] number is = absurd (cc)
spare_below now lower (slot ∷ higher) number is = by (holds_entry now lower slot higher) is (λ later. spare_below now (lower ++ slot ∷ []) higher number later)
  where
    by : (b : Bool) → (if b then spare_past now (lower ++ slot ∷ []) higher else Some (length lower)) ≡ Some number
        → (spare_past now (lower ++ slot ∷ []) higher ≡ Some number → number < length (lower ++ slot ∷ []) + length higher) → number < length lower + suc (length higher)
    by true is rest = omega (arith, rest is, length-append lower (slot ∷ []))
    by false is rest = let here : length lower ≡ number = cc in omega arith

pub spare_within : (now : ℕ) (slots : List Slot) (number : ℕ) → spare_in now slots ≡ Some number → number < length slots
spare_within now slots number is = omega (arith, spare_below now [] slots number is)
