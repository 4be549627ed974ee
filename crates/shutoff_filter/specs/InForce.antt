-- What holds of the keys in force by any entries.
use Rattle.std.proofs.Common.{◌≡◌, inl, inr, ℕ, suc, ◌+◌, ◌-◌, ◌≤◌, max, Bool, true, false, not, ◌&&◌, ◌||◌, nat_lt, nat_le, if◌then◌else◌, List, [], ◌∷◌, ◌++◌, length, filter, get_or, take, drop, Ordering, Less, Equal, Greater, refl, sym, ◌∙◌, ap, subst, arith}
use Rattle.std.proofs.lemmas.Bool.{cases_lt, or_from}
use Rattle.std.proofs.lemmas.Bool.Decides.{nat_tests}
use Rattle.std.proofs.lemmas.Cmp.{nat_list_cmp_total, nat_list_eq_equiv, on_equiv, on_total}
use Rattle.std.proofs.lemmas.Map.Text.{is_eq-slice_cmp}
use Rattle.std.proofs.lemmas.Slice.Eq.{bytes_eq-Decides}
use Rattle.std.specs.Cmp.{IsEquivalence, IsTotalOrder}
use Rattle.std.specs.Ordering.{is_eq, is_lt, ordering_reverse}
use Rattle.aip_addr.specs.declared.ids.KeyId.{KeyId}
use Rattle.shutoff_filter.specs.declared.entries.ShutOffEntry.{ShutOffEntry}
use Rattle.shutoff_filter.specs.Listed.{AllAfter, IsInOrder, IsListOf}
use Rattle.shutoff_filter.specs.Entries.{SameInForce, greatest, in_force, is_before, is_covered, is_key, is_withheld, key_cmp, lasts, others_in_force, with_greatest, withholds}

-- the entry at a place of a list
abbrev pub entry_in : List ShutOffEntry → ℕ → ShutOffEntry
entry_in entries place = get_or entries place (record { to = record { bytes = [] }; until = 0 })

-- keys are told apart by their bytes
pub key_laws : IsEquivalence is_key
key_laws = on_equiv (λ (k : KeyId). k.bytes) nat_list_eq_equiv

key_order : IsTotalOrder key_cmp
key_order = on_total (λ (k : KeyId). k.bytes) nat_list_cmp_total

is_less : (o : Ordering) → is_lt o ≡ true → o ≡ Less
is_less Less h = refl
is_less Equal h = absurd (cc)
is_less Greater h = absurd (cc)

is_equal : (o : Ordering) → is_eq o ≡ true → o ≡ Equal
is_equal Less h = absurd (cc)
is_equal Equal h = refl
is_equal Greater h = absurd (cc)

-- a key is not one that it comes before
before_apart : (a b : KeyId) → is_before a b ≡ true → is_key a b ≡ false
before_apart a b before = sym (is_eq-slice_cmp a.bytes b.bytes) ∙ by (key_cmp a b) before
  where
    by : (o : Ordering) → is_lt o ≡ true → is_eq o ≡ false
    by Less h = refl
    by Equal h = absurd (cc)
    by Greater h = refl

-- of two keys that differ one comes before the other
comes_after : (a b : KeyId) → is_before a b ≡ false → is_key a b ≡ false → is_before b a ≡ true
comes_after a b before apart = ap is_lt (key_order.antisymm b a) ∙ by (key_cmp a b) before (is_eq-slice_cmp a.bytes b.bytes ∙ apart)
  where
    by : (o : Ordering) → is_lt o ≡ false → is_eq o ≡ false → is_lt (ordering_reverse o) ≡ true
    by Less h k = absurd (cc)
    by Equal h k = absurd (cc)
    by Greater h k = refl

before_all : (a b c : KeyId) → is_before a b ≡ true → is_before b c ≡ true → is_before a c ≡ true
before_all a b c first second = ap is_lt (key_order.trans a b c (is_less (key_cmp a b) first) (is_less (key_cmp b c) second))

after_less : (a b : KeyId) (es : List ShutOffEntry) → is_before a b ≡ true → AllAfter b es → AllAfter a es
after_less a b [] before after = tt
after_less a b (e ∷ es) before after = (before_all a b e.to before after.0, after_less a b es before after.1)

not_there : (time : ℕ) (key : KeyId) (es : List ShutOffEntry) → AllAfter key es → is_withheld time key es ≡ false
not_there time key [] after = refl
not_there time key (e ∷ es) after =
    let apart : is_key e.to key ≡ false = key_laws.symm e.to key ∙ before_apart key e.to after.0 in
    or_from (withholds time key e) (is_withheld time key es) (ap (λ b. b && lasts time e) apart) (not_there time key es after.1)

-- one more where a key passes that was not there
abbrev added : Bool → Bool → ℕ → ℕ
added passes there count = if passes && not there then suc count else count

module _ (entry : ShutOffEntry) where
  all_after-with : (key : KeyId) (es : List ShutOffEntry) → is_before key entry.to ≡ true → AllAfter key es → AllAfter key (with_greatest entry es)
  all_after-with key [] before after = (before, tt)
  all_after-with key (e ∷ es) before after = by (is_before entry.to e.to) (is_key entry.to e.to) (all_after-with key es before after.1)
    where
      by : (b k : Bool) → AllAfter key (with_greatest entry es) → AllAfter key (if b then entry ∷ (e ∷ es) else (if k then greatest entry e ∷ es else e ∷ with_greatest entry es))
      by true k rest = (before, after)
      by false true rest = (after.0, after.1)
      by false false rest = (after.0, rest)

  in_order-with : (now : ℕ) (es : List ShutOffEntry) → lasts now entry ≡ true → IsInOrder now es → IsInOrder now (with_greatest entry es)
  in_order-with now [] lasting order = (lasting, tt, tt)
  in_order-with now (e ∷ es) lasting order = by (is_before entry.to e.to) (is_key entry.to e.to) refl refl (in_order-with now es lasting order.2)
    where
      longer : nat_lt now (max entry.until e.until) ≡ true
      longer = let here = order.0 in grind (arith, nat_tests)

      by : (b k : Bool) → is_before entry.to e.to ≡ b → is_key entry.to e.to ≡ k → IsInOrder now (with_greatest entry es) → IsInOrder now (if b then entry ∷ (e ∷ es) else (if k then greatest entry e ∷ es else e ∷ with_greatest entry es))
      by true k before same rest = (lasting, (before, after_less entry.to e.to es before order.1), order)
      by false true before same rest = (longer, order.1, order.2)
      by false false before same rest = (order.0, all_after-with e.to es (comes_after entry.to e.to before same) order.1, rest)

  -- what is withheld is what it was, and the key of the entry
  withheld-with : (time : ℕ) (key : KeyId) (es : List ShutOffEntry) → is_withheld time key (with_greatest entry es) ≡ is_withheld time key (entry ∷ es)
  withheld-with time key [] = refl
  withheld-with time key (e ∷ es) = by (is_before entry.to e.to) (is_key entry.to e.to) refl (withheld-with time key es)
    where
      both : (x p q w : Bool) → ((x && (p || q)) || w) ≡ ((x && p) || ((x && q) || w))
      both true true q w = refl
      both true false q w = refl
      both false p q w = refl

      swapped : (c d w : Bool) → (c || (d || w)) ≡ (d || (c || w))
      swapped true true w = refl
      swapped true false w = refl
      swapped false d w = refl

      or_longer : nat_lt time (max entry.until e.until) ≡ (nat_lt time entry.until || nat_lt time e.until)
      or_longer = grind (arith, nat_tests)

      by : (b k : Bool) → is_key entry.to e.to ≡ k → is_withheld time key (with_greatest entry es) ≡ is_withheld time key (entry ∷ es) → is_withheld time key (if b then entry ∷ (e ∷ es) else (if k then greatest entry e ∷ es else e ∷ with_greatest entry es)) ≡ is_withheld time key (entry ∷ (e ∷ es))
      by true k same rest = refl
      by false true same rest =
          ap (λ b. (is_key e.to key && b) || is_withheld time key es) or_longer
          ∙ both (is_key e.to key) (nat_lt time entry.until) (nat_lt time e.until) (is_withheld time key es)
          ∙ ap (λ b. (b && nat_lt time entry.until) || (withholds time key e || is_withheld time key es)) (sym (key_laws.congr entry.to e.to key same))
      by false false same rest = ap (λ b. withholds time key e || b) rest ∙ swapped (withholds time key e) (withholds time key entry) (is_withheld time key es)

  -- how many entries of some keys there are: one more, unless the key is in force by the others
  counted : (p : KeyId → Bool) → ((a b : KeyId) → is_key a b ≡ true → p a ≡ p b) → (now : ℕ) (es : List ShutOffEntry) → IsInOrder now es
      → length (filter (λ e. p e.to) (with_greatest entry es)) ≡ (if p entry.to && not (is_withheld now entry.to es) then suc (length (filter (λ e. p e.to) es)) else length (filter (λ e. p e.to) es))
  counted p alike now [] order = by (p entry.to)
    where
      by : (b : Bool) → length (if b then entry ∷ [] else []) ≡ (if b && true then suc 0 else 0)
      by true = refl
      by false = refl
  counted p alike now (e ∷ es) order = by (is_before entry.to e.to) (is_key entry.to e.to) refl refl (counted p alike now es order.2)
    where
      first : (b : Bool) (l : List ShutOffEntry) → length (if b then entry ∷ l else l) ≡ added b false (length l)
      first true l = refl
      first false l = refl

      and_not : (b : Bool) (n : ℕ) → n ≡ added b true n
      and_not true n = refl
      and_not false n = refl

      behind : (b : Bool) (l m : List ShutOffEntry) (passes there : Bool) → length l ≡ added passes there (length m) → length (if b then e ∷ l else l) ≡ added passes there (length (if b then e ∷ m else m))
      behind false l m passes there is = is
      behind true l m true true is = ap suc is
      behind true l m true false is = ap suc is
      behind true l m false there is = ap suc is

      heads : (b : Bool) → length (if b then greatest entry e ∷ filter (λ e. p e.to) es else filter (λ e. p e.to) es) ≡ length (if b then e ∷ filter (λ e. p e.to) es else filter (λ e. p e.to) es)
      heads true = refl
      heads false = refl

      by : (b k : Bool) → is_before entry.to e.to ≡ b → is_key entry.to e.to ≡ k
          → length (filter (λ e. p e.to) (with_greatest entry es)) ≡ added (p entry.to) (is_withheld now entry.to es) (length (filter (λ e. p e.to) es))
          → length (filter (λ e. p e.to) (if b then entry ∷ (e ∷ es) else (if k then greatest entry e ∷ es else e ∷ with_greatest entry es)))
          ≡ added (p entry.to) (is_withheld now entry.to (e ∷ es)) (length (filter (λ e. p e.to) (e ∷ es)))
      by true k before same rest =
          first (p entry.to) (filter (λ e. p e.to) (e ∷ es))
          ∙ ap (λ b. added (p entry.to) b (length (filter (λ e. p e.to) (e ∷ es)))) (sym (not_there now entry.to (e ∷ es) (before, after_less entry.to e.to es before order.1)))
      by false true before same rest =
          let there : is_withheld now entry.to (e ∷ es) ≡ true =
          ap (λ b. (b && lasts now e) || is_withheld now entry.to es) (key_laws.symm e.to entry.to ∙ same) ∙ ap (λ b. b || is_withheld now entry.to es) order.0 in
          heads (p e.to)
          ∙ and_not (p entry.to) (length (filter (λ e. p e.to) (e ∷ es)))
          ∙ ap (λ b. added (p entry.to) b (length (filter (λ e. p e.to) (e ∷ es)))) (sym there)
      by false false before same rest =
          let there : is_withheld now entry.to (e ∷ es) ≡ is_withheld now entry.to es =
          ap (λ b. (b && lasts now e) || is_withheld now entry.to es) (key_laws.symm e.to entry.to ∙ same) in
          behind (p e.to) (filter (λ e. p e.to) (with_greatest entry es)) (filter (λ e. p e.to) es) (p entry.to) (is_withheld now entry.to es) rest
          ∙ ap (λ b. added (p entry.to) b (length (filter (λ e. p e.to) (e ∷ es)))) (sym there)

-- an entry that is past withholds nothing from then on
pub past_withholds : (now time : ℕ) (key : KeyId) (entry : ShutOffEntry) → now ≤ time → lasts now entry ≡ false → withholds time key entry ≡ false
past_withholds now time key entry later past =
    let over : nat_lt time entry.until ≡ false = grind (arith, nat_tests) in
    ap (λ b. is_key entry.to key && b) over ∙ by (is_key entry.to key)
  where
    by : (b : Bool) → (b && false) ≡ false
    by true = refl
    by false = refl

-- the keys in force withhold what the entries do
pub withheld_in_force : (now time : ℕ) (to : KeyId) (entries : List ShutOffEntry) → now ≤ time → is_withheld time to (in_force now entries) ≡ is_withheld time to entries
withheld_in_force now time to [] later = refl
withheld_in_force now time to (e ∷ es) later = by (lasts now e) refl (withheld_in_force now time to es later)
  where
    by : (b : Bool) → lasts now e ≡ b → is_withheld time to (in_force now es) ≡ is_withheld time to es → is_withheld time to (if b then with_greatest e (in_force now es) else in_force now es) ≡ (withholds time to e || is_withheld time to es)
    by true is rest = withheld-with e time to (in_force now es) ∙ ap (λ b. withholds time to e || b) rest
    by false is rest = rest ∙ ap (λ b. b || is_withheld time to es) (sym (past_withholds now time to e later is))

in_order : (now : ℕ) (entries : List ShutOffEntry) → IsInOrder now (in_force now entries)
in_order now [] = tt
in_order now (e ∷ es) = by (lasts now e) refl (in_order now es)
  where
    by : (b : Bool) → lasts now e ≡ b → IsInOrder now (in_force now es) → IsInOrder now (if b then with_greatest e (in_force now es) else in_force now es)
    by true is rest = in_order-with e now (in_force now es) is rest
    by false is rest = rest

-- the keys in force are listed
pub listed : (now : ℕ) (entries : List ShutOffEntry) → IsListOf now entries (in_force now entries)
listed now entries = record { order = in_order now entries; same = λ to time later. sym (withheld_in_force now time to entries later) }

-- the head of a list in order is in force
head_there : (now : ℕ) (e : ShutOffEntry) (es : List ShutOffEntry) → lasts now e ≡ true → is_withheld now e.to (e ∷ es) ≡ true
head_there now e es lasting =
    ap (λ b. (b && lasts now e) || is_withheld now e.to es) (key_laws.refl e.to) ∙ ap (λ b. b || is_withheld now e.to es) lasting

true_false : {A : Type 0} → true ≡ false → A
true_false e = absurd (cc)

-- the head's until is the greatest of its key
head_until : (now : ℕ) (e f : ShutOffEntry) (es fs : List ShutOffEntry) → is_key e.to f.to ≡ true → lasts now e ≡ true → AllAfter e.to es → SameInForce now (e ∷ es) (f ∷ fs) → f.until ≤ e.until
head_until now e f es fs same lasting after alike = elim (cases_lt e.until f.until) [
  | inl above ↦
      let later : now ≤ e.until = grind (arith, nat_tests) in
      let over : lasts e.until e ≡ false = grind (arith, nat_tests) in
      let there : lasts e.until f ≡ true = grind (arith, nat_tests) in
      true_false (sym (ap (λ b. (b && lasts e.until f) || is_withheld e.until e.to fs) (key_laws.symm f.to e.to ∙ same) ∙ ap (λ b. b || is_withheld e.until e.to fs) there)
      ∙ sym (alike e.to e.until later)
      ∙ or_from (withholds e.until e.to e) (is_withheld e.until e.to es) (past_withholds e.until e.until e.to e (omega arith) over) (not_there e.until e.to es after))
  | inr upto ↦ upto
]

-- keys with the same bytes are one
pub one_key : (a b : KeyId) → is_key a b ≡ true → a ≡ b
one_key a b same = ap (λ (bytes : List ℕ). let key : KeyId = record { bytes = bytes } in key) ((bytes_eq-Decides a.bytes b.bytes).0 same)

same_after : (a b : KeyId) (es : List ShutOffEntry) → is_key a b ≡ true → AllAfter b es → AllAfter a es
same_after a b es is after = subst (λ (k : KeyId). AllAfter k es) (sym (one_key a b is)) after

-- past heads of one key, what withholds the same goes on to
same_tails : (now : ℕ) (e f : ShutOffEntry) (es fs : List ShutOffEntry) → is_key e.to f.to ≡ true → AllAfter e.to es → AllAfter f.to fs → SameInForce now (e ∷ es) (f ∷ fs) → SameInForce now es fs
same_tails now e f es fs same left right alike = λ key time later. by key time later (is_key e.to key) refl
  where
    by : (key : KeyId) (time : ℕ) → now ≤ time → (b : Bool) → is_key e.to key ≡ b → is_withheld time key es ≡ is_withheld time key fs
    by key time later true here =
        let from : is_key key e.to ≡ true = key_laws.symm key e.to ∙ here in
        let from' : is_key key f.to ≡ true = key_laws.symm key f.to ∙ sym (key_laws.congr e.to f.to key same) ∙ here in
        not_there time key es (same_after key e.to es from left) ∙ sym (not_there time key fs (same_after key f.to fs from' right))
    by key time later false here =
        let there : is_key f.to key ≡ false = sym (key_laws.congr e.to f.to key same) ∙ here in
        sym (ap (λ b. (b && lasts time e) || is_withheld time key es) here) ∙ alike key time later ∙ ap (λ b. (b && lasts time f) || is_withheld time key fs) there

-- two lists in order that withhold the same are equal
one_order : (now : ℕ) (es fs : List ShutOffEntry) → IsInOrder now es → IsInOrder now fs → SameInForce now es fs → es ≡ fs
one_order now [] [] left right alike = refl
one_order now [] (f ∷ fs) left right alike = true_false (sym (head_there now f fs right.0) ∙ sym (alike f.to now (omega arith)))
one_order now (e ∷ es) [] left right alike = true_false (sym (head_there now e es left.0) ∙ alike e.to now (omega arith))
one_order now (e ∷ es) (f ∷ fs) left right alike = by (is_before e.to f.to) (is_key e.to f.to) refl refl (λ alike. one_order now es fs left.2 right.2 alike)
  where
    by : (b k : Bool) → is_before e.to f.to ≡ b → is_key e.to f.to ≡ k → (SameInForce now es fs → es ≡ fs) → e ∷ es ≡ f ∷ fs
    by true k before same rest = true_false (sym (head_there now e es left.0) ∙ alike e.to now (omega arith) ∙ not_there now e.to (f ∷ fs) (before, after_less e.to f.to fs before right.1))
    by false false before same rest =
        let after = comes_after e.to f.to before same in
        true_false (sym (head_there now f fs right.0) ∙ sym (alike f.to now (omega arith)) ∙ not_there now f.to (e ∷ es) (after, after_less f.to e.to es after left.1))
    by false true before same rest =
        let to : e.to ≡ f.to = one_key e.to f.to same in
        let back : is_key f.to e.to ≡ true = key_laws.symm f.to e.to ∙ same in
        let up = head_until now e f es fs same left.0 left.1 alike in
        let down = head_until now f e fs es back right.0 right.1 (λ key time later. sym (alike key time later)) in
        let until : e.until ≡ f.until = omega arith in
        let head : e ≡ f = ap (λ (key : KeyId). let entry : ShutOffEntry = record { to = key; until = e.until } in entry) to ∙ ap (λ (n : ℕ). let entry : ShutOffEntry = record { to = f.to; until = n } in entry) until in
        let tails : es ≡ fs = rest (same_tails now e f es fs same left.1 right.1 alike) in
        ap (λ (x : ShutOffEntry). x ∷ es) head ∙ ap (λ (l : List ShutOffEntry). f ∷ l) tails

-- what withholds the same keys at now and later has the same keys in force
pub same_in_force : (now : ℕ) (old new : List ShutOffEntry) → SameInForce now old new → in_force now old ≡ in_force now new
same_in_force now old new alike =
    one_order now (in_force now old) (in_force now new) (in_order now old) (in_order now new) (λ key time later.
    withheld_in_force now time key old later ∙ alike key time later ∙ sym (withheld_in_force now time key new later))

-- and so it is with one entry more in both
pub same_with_entry : (now : ℕ) (entry : ShutOffEntry) (old new : List ShutOffEntry) → SameInForce now old new → SameInForce now (entry ∷ old) (entry ∷ new)
same_with_entry now entry old new alike = λ key time later. ap (λ b. withholds time key entry || b) (alike key time later)

-- what is the same at now is the same later
pub same_later : (now later : ℕ) (old new : List ShutOffEntry) → now ≤ later → SameInForce now old new → SameInForce later old new
same_later now later old new le alike = λ key time from. alike key time (omega arith)

-- how many other keys are in force: one more where the entry is in force, of another key, which is not in force by the others
pub others-cons : (now : ℕ) (to : KeyId) (e : ShutOffEntry) (es : List ShutOffEntry)
    → others_in_force now to (e ∷ es) ≡ (if lasts now e && (not (is_key e.to to) && not (is_withheld now e.to es)) then others_in_force now to es + 1 else others_in_force now to es)
others-cons now to e es = by (lasts now e)
  where
    alike : (a b : KeyId) → is_key a b ≡ true → not (is_key a to) ≡ not (is_key b to)
    alike a b same = ap not (key_laws.congr a b to same)

    one_more : (b : Bool) (n : ℕ) → (if b then suc n else n) ≡ (if b then n + 1 else n)
    one_more true n = omega arith
    one_more false n = refl

    by : (b : Bool) → length (filter (λ e. not (is_key e.to to)) (if b then with_greatest e (in_force now es) else in_force now es)) ≡ (if b && (not (is_key e.to to) && not (is_withheld now e.to es)) then others_in_force now to es + 1 else others_in_force now to es)
    by true =
        counted e (λ k. not (is_key k to)) alike now (in_force now es) (in_order now es)
        ∙ ap (λ b. if not (is_key e.to to) && not b then suc (others_in_force now to es) else others_in_force now to es) (withheld_in_force now now e.to es (omega arith))
        ∙ one_more (not (is_key e.to to) && not (is_withheld now e.to es)) (others_in_force now to es)
    by false = refl

-- how many keys are in force
pub count-cons : (now : ℕ) (e : ShutOffEntry) (es : List ShutOffEntry) → lasts now e ≡ true → is_withheld now e.to es ≡ false → length (in_force now (e ∷ es)) ≡ suc (length (in_force now es))
count-cons now e es lasting absent =
    ap (λ b. length (if b then with_greatest e (in_force now es) else in_force now es)) lasting
    ∙ sym (whole (with_greatest e (in_force now es)))
    ∙ counted e (λ k. true) (λ a b same. refl) now (in_force now es) (in_order now es)
    ∙ ap (λ b. if not b then suc (length (filter (λ e. true) (in_force now es))) else length (filter (λ e. true) (in_force now es))) (withheld_in_force now now e.to es (omega arith) ∙ absent)
    ∙ ap suc (whole (in_force now es))
  where
    whole : (l : List ShutOffEntry) → length (filter (λ (e : ShutOffEntry). true) l) ≡ length l
    whole [] = refl
    whole (x ∷ xs) = ap suc (whole xs)

-- entries that come after a key are of other keys
others_after : (key to : KeyId) (es : List ShutOffEntry) → is_key key to ≡ true → AllAfter key es → filter (λ e. not (is_key e.to to)) es ≡ es
others_after key to [] same after = refl
others_after key to (e ∷ es) same after =
    let apart : is_key e.to to ≡ false = key_laws.symm e.to to ∙ sym (key_laws.congr key to e.to same) ∙ before_apart key e.to after.0 in
    ap (λ b. if not b then e ∷ filter (λ e. not (is_key e.to to)) es else filter (λ e. not (is_key e.to to)) es) apart
    ∙ ap (λ (l : List ShutOffEntry). e ∷ l) (others_after key to es same after.1)

one_of_key : (now : ℕ) (to : KeyId) (es : List ShutOffEntry) → IsInOrder now es → length es ≤ suc (length (filter (λ e. not (is_key e.to to)) es))
one_of_key now to [] order = omega arith
one_of_key now to (e ∷ es) order = by (is_key e.to to) refl (one_of_key now to es order.2)
  where
    by : (b : Bool) → is_key e.to to ≡ b → length es ≤ suc (length (filter (λ e. not (is_key e.to to)) es))
        → suc (length es) ≤ suc (length (if not b then e ∷ filter (λ e. not (is_key e.to to)) es else filter (λ e. not (is_key e.to to)) es))
    by false is rest = omega (arith, rest)
    by true is rest = let whole = ap length (others_after e.to to es is order.1) in omega (arith, whole)

-- all keys in force are the others and perhaps this
pub few_in_force : (now : ℕ) (to : KeyId) (entries : List ShutOffEntry) → length (in_force now entries) ≤ others_in_force now to entries + 1
few_in_force now to entries = omega (arith, one_of_key now to (in_force now entries) (in_order now entries))

-- an entry in force that is added is put among the keys in force
pub in_force_added : (now : ℕ) (entry : ShutOffEntry) (old new : List ShutOffEntry) → lasts now entry ≡ true → SameInForce now (entry ∷ old) new → in_force now new ≡ with_greatest entry (in_force now old)
in_force_added now entry old new lasting alike =
    sym (same_in_force now (entry ∷ old) new alike) ∙ ap (λ b. if b then with_greatest entry (in_force now old) else in_force now old) lasting

-- an entry goes past one whose key comes before its own
pub goes_past : (entry e : ShutOffEntry) (es : List ShutOffEntry) → is_before e.to entry.to ≡ true → with_greatest entry (e ∷ es) ≡ e ∷ with_greatest entry es
goes_past entry e es before =
    let apart : is_key entry.to e.to ≡ false = key_laws.symm entry.to e.to ∙ before_apart e.to entry.to before in
    ap (λ b. if b then entry ∷ (e ∷ es) else (if is_key entry.to e.to then greatest entry e ∷ es else e ∷ with_greatest entry es)) (not_before (is_before entry.to e.to) refl)
    ∙ ap (λ b. if b then greatest entry e ∷ es else e ∷ with_greatest entry es) apart
  where
    not_before : (b : Bool) → is_before entry.to e.to ≡ b → is_before entry.to e.to ≡ false
    not_before false is = is
    not_before true is = true_false (sym (key_laws.refl e.to) ∙ before_apart e.to e.to (before_all e.to entry.to e.to before is))

-- where its key is there, the greater until stays
pub meets_key : (entry e : ShutOffEntry) (es : List ShutOffEntry) → is_key entry.to e.to ≡ true → with_greatest entry (e ∷ es) ≡ greatest entry e ∷ es
meets_key entry e es same =
    ap (λ b. if b then entry ∷ (e ∷ es) else (if is_key entry.to e.to then greatest entry e ∷ es else e ∷ with_greatest entry es)) (not_before (is_before entry.to e.to) refl)
    ∙ ap (λ b. if b then greatest entry e ∷ es else e ∷ with_greatest entry es) same
  where
    not_before : (b : Bool) → is_before entry.to e.to ≡ b → is_before entry.to e.to ≡ false
    not_before false is = is
    not_before true is = true_false (sym same ∙ before_apart entry.to e.to is)

-- and it stands before the first greater key
pub goes_before : (entry e : ShutOffEntry) (es : List ShutOffEntry) → is_before e.to entry.to ≡ false → is_key entry.to e.to ≡ false → with_greatest entry (e ∷ es) ≡ entry ∷ (e ∷ es)
goes_before entry e es after apart =
    ap (λ b. if b then entry ∷ (e ∷ es) else (if is_key entry.to e.to then greatest entry e ∷ es else e ∷ with_greatest entry es)) (comes_after e.to entry.to after (key_laws.symm e.to entry.to ∙ apart))

-- the entry is put past those before this place
abbrev pub IsPast : ShutOffEntry → List ShutOffEntry → ℕ → Type 0
IsPast entry entries place = with_greatest entry entries ≡ take place entries ++ with_greatest entry (drop place entries)

-- an entry lasts at least until a time where it is in force one tick before
pub covered_before : (until : ℕ) (to : KeyId) (entries : List ShutOffEntry) → 1 ≤ until → is_covered until to entries ≡ is_withheld (until - 1) to entries
covered_before until to [] some = refl
covered_before until to (e ∷ es) some =
    let test : nat_le until e.until ≡ nat_lt (until - 1) e.until = grind (arith, nat_tests) in
    ap (λ b. (is_key e.to to && b) || is_covered until to es) test ∙ ap (λ b. withholds (until - 1) to e || b) (covered_before until to es some)
