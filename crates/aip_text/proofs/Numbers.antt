-- Numbers and their spelling.
use Rattle.std.proofs.Common.{◌≡◌, ℕ, zero, suc, ◌^◌, ◌<◌, Bool, true, false, ◌&&◌, nat_le, nat_lt, List, [], ◌∷◌, length, get_or, Option, Some, None, Result, Err, inl, inr, refl, sym, ap, ◌∙◌, arith, rules}
use Rattle.std.specs.Prelude.{IfSome, IsUtf8, IsAscii, decimal}
use Rattle.std.specs.List.{list_all}
use Rattle.std.specs.Str.Parse.{ParsesUnsigned, digits_value}
use Rattle.std.proofs.lemmas.Bool.{and_parts, cases_eq, leb-true, le-leb, lt-ltb, ltb-true}
use Rattle.std.proofs.lemmas.Fmt.{decimal-digits_value, decimal_digit, decimal_nonempty, digits_decimal, digits_value-decimal, first_decimal, length-decimal-le}
use Rattle.std.proofs.lemmas.Str.{IsUtf8-from_ascii}
use Rattle.std.proofs.lemmas.Option.{cond_some}
use Rattle.std.proofs.lemmas.Result.{OkIff-at_err}
use Rattle.std.proofs.lemmas.Str.Parse.{IsNumeralModel, digits_value_short, numerals_by_value, parse_digits}
use Rattle.aip_addr.specs.Naming.{is_digit}
use Rattle.aip_text.specs.Words.{has_first_digit, number_of, u64_of}
use Rattle.aip_text.proofs.HexWords.{chosen}

-- the test of digits is the one of parsing
own : IsNumeralModel (λ ds. list_all is_digit ds ≡ true) (digits_value 10)
own = numerals_by_value _ (search rules)

-- what the first digit shows
first_parts : (ds : List ℕ) → has_first_digit ds ≡ true → (0 < length ds) × (get_or ds 0 0 ≡ 48 → length ds ≡ 1)
first_parts [] h = cc h
first_parts (d ∷ []) h = (omega arith, λ _. refl)
first_parts (d ∷ e ∷ ds) h = (omega arith, λ zeroed. grind arith)

-- digits that begin above zero
first_above : (ds : List ℕ) → 0 < length ds → 48 < get_or ds 0 0 → has_first_digit ds ≡ true
first_above [] some above = absurd (omega arith)
first_above (d ∷ []) some above = refl
first_above (d ∷ e ∷ ds) some above = grind arith

-- a number's word begins well
first_of_decimal : (n : ℕ) → n < 2 ^ 64 → has_first_digit (decimal n) ≡ true
first_of_decimal n small =
    elim (cases_eq n 0) [
      | inl zeroed ↦ rw (zeroed, decimal_digit 0 (omega arith)) refl
      | inr other ↦ first_above (decimal n) (decimal_nonempty n small) (first_decimal n (omega arith) small)
    ]

-- what is read is spelled so
pub u64_found : (word : List ℕ) (n : ℕ) → u64_of word ≡ Some n → (n < 2 ^ 64) × (word ≡ decimal n)
u64_found word n e =
    let read = cond_some (has_first_digit word && (list_all is_digit word && nat_lt (digits_value 10 word) (2 ^ 64))) (digits_value 10 word) n e in
    let start = and_parts (has_first_digit word) (list_all is_digit word && nat_lt (digits_value 10 word) (2 ^ 64)) read.0 in
    let rest = and_parts (list_all is_digit word) (nat_lt (digits_value 10 word) (2 ^ 64)) start.1 in
    let first = first_parts word start.0 in
    let small = ltb-true (digits_value 10 word) (2 ^ 64) rest.1 in
    (rw (← read.1) small, sym (decimal-digits_value own word rest.0 first.0 first.1 small) ∙ ap decimal read.1)

pub number_found : (word : List ℕ) (n : ℕ) → number_of word ≡ Some n → (n < 10 ^ 15) × (word ≡ decimal n)
number_found word n e =
    let read = chosen (nat_le (length word) 15) (u64_of word) n e in
    let value = cond_some (has_first_digit word && (list_all is_digit word && nat_lt (digits_value 10 word) (2 ^ 64))) (digits_value 10 word) n read.1 in
    let start = and_parts (has_first_digit word) (list_all is_digit word && nat_lt (digits_value 10 word) (2 ^ 64)) value.0 in
    let rest = and_parts (list_all is_digit word) (nat_lt (digits_value 10 word) (2 ^ 64)) start.1 in
    let small = digits_value_short own word 15 rest.0 (leb-true (length word) 15 read.0) in
    (rw (← value.1) small, (u64_found word n read.1).1)

-- what is spelled so is read
pub u64_again : (n : ℕ) → n < 2 ^ 64 → u64_of (decimal n) ≡ Some n
u64_again n small = rw (first_of_decimal n small, digits_decimal own n small, digits_value-decimal own n small, lt-ltb n (2 ^ 64) small) refl

pub number_again : (n : ℕ) → n < 10 ^ 15 → number_of (decimal n) ≡ Some n
number_again n small =
    let fits : n < 2 ^ 64 = omega arith in
    let short = le-leb (length (decimal n)) 15 (length-decimal-le 15 n (omega arith) small fits) in
    rw short (u64_again n fits)

-- ## As the readers' clauses say it

pub u64_found_in : (word : List ℕ) (r : Option ℕ) → r ≡ u64_of word → IfSome r (λ n. (n < 2 ^ 64) × (word ≡ decimal n))
u64_found_in word (Some n) e = u64_found word n (sym e)
u64_found_in word None e = tt

pub u64_again_in : (word : List ℕ) (r : Option ℕ) → r ≡ u64_of word → (n : ℕ) → n < 2 ^ 64 → word ≡ decimal n → r ≡ Some n
u64_again_in word r e n small spelled = e ∙ ap u64_of spelled ∙ u64_again n small

pub number_found_in : (word : List ℕ) (r : Option ℕ) → r ≡ number_of word → IfSome r (λ n. (n < 10 ^ 15) × (word ≡ decimal n))
number_found_in word (Some n) e = number_found word n (sym e)
number_found_in word None e = tt

pub number_again_in : (word : List ℕ) (r : Option ℕ) → r ≡ number_of word → (n : ℕ) → n < 10 ^ 15 → word ≡ decimal n → r ≡ Some n
number_again_in word r e n small spelled = e ∙ ap number_of spelled ∙ number_again n small

-- ## Parsing

-- digits are ASCII
ascii_digits : (ds : List ℕ) → list_all is_digit ds ≡ true → IsUtf8 ds
ascii_digits ds all = IsUtf8-from_ascii ds (ascii ds all)
  where
    ascii : (ds : List ℕ) → list_all is_digit ds ≡ true → IsAscii ds
    ascii [] all i = omega arith
    ascii (d ∷ ds) all zero = let parts = and_parts (is_digit d) (list_all is_digit ds) all in grind arith
    ascii (d ∷ ds) all (suc i) = let parts = and_parts (is_digit d) (list_all is_digit ds) all in ascii ds parts.1 i

-- digits that aren't UTF-8 are none
pub not_utf8 : (word : List ℕ) → ¬ (IsUtf8 word) → list_all is_digit word ≡ true → None ≡ u64_of word
not_utf8 word bad all = absurd (bad (ascii_digits word all))

-- digits that aren't parsed are too large
pub not_parsed : {E : Type 0} (word : List ℕ) (r : Result ℕ E) (e : E) → ParsesUnsigned 64 10 word r → r ≡ Err e → has_first_digit word ≡ true → list_all is_digit word ≡ true → None ≡ u64_of word
not_parsed word r e parses is start all =
    let large : nat_lt (digits_value 10 word) (2 ^ 64) ≡ true → ⊥ =
    λ small. OkIff-at_err r _ _ e (parse_digits own 64 word r parses all) is ((first_parts word start).0, ltb-true (digits_value 10 word) (2 ^ 64) small) in
    rw (start, all, not_true (nat_lt (digits_value 10 word) (2 ^ 64)) large) refl
  where
    not_true : (b : Bool) → (b ≡ true → ⊥) → b ≡ false
    not_true true h = absurd (h refl)
    not_true false h = refl

-- a number's word is digits
pub list_all-u64 : (n : ℕ) → n < 2 ^ 64 → list_all is_digit (decimal n) ≡ true
list_all-u64 n small = digits_decimal own n small

pub list_all-decimal : (n : ℕ) → n < 10 ^ 15 → list_all is_digit (decimal n) ≡ true
list_all-decimal n small = list_all-u64 n (omega (arith, small))
