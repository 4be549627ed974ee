-- How long the words of lines are, and that no line feed is among them.
use Rattle.std.proofs.Common.{◌≡◌, ℕ, zero, suc, ◌+◌, ◌*◌, ◌^◌, ◌/◌, ◌%◌, ◌<◌, ◌≤◌, ◌==◌, ◌&&◌, true, not, List, [], ◌∷◌, ◌++◌, length, slice_index, refl, arith, lit≤, lit<}
use Rattle.std.specs.Prelude.{decimal, nat_le}
use Rattle.std.specs.List.{list_all}
use Rattle.std.proofs.lemmas.Bool.{and_parts, and_from, leb-true}
use Rattle.std.proofs.lemmas.Fmt.{length-decimal-le}
use Rattle.std.proofs.lemmas.List.{length-append}
use Rattle.hex.specs.Hex.{encode_lower, encode_with, lower_digits}
use Rattle.hex.proofs.HexLemmas.{length-encode_with}
use Rattle.aip_addr.specs.Naming.{IsName, begins_with_letter, is_name_byte}
use Rattle.aip_addr.specs.declared.ids.Id.{Id}
use Rattle.aip_addr.specs.declared.ids.Address.{Address}
use Rattle.aip_addr.specs.declared.ids.KeyId.{KeyId}
use Rattle.aip_text.specs.Lines.{has_no_line_feed}
use Rattle.aip_text.specs.Fields.{id_word}
use Rattle.aip_text.specs.Words.{bytes_word}
use Rattle.aip_text.proofs.Lacking.{lacks-append, lacks-name, lacks-u64}
use Rattle.aip_event.specs.Lines.{address_word, cause_word, key_id_word, reason_word}
use Rattle.aip_event.specs.declared.event.Cause.{Cause}
use Rattle.aip_event.specs.declared.event.Cause.TheVariants as cause
use Rattle.aip_event.specs.declared.event.Reason.{Reason}
use Rattle.aip_event.specs.declared.event.Reason.TheVariants as reason
use Rattle.aip_rules.proofs.Sizes.{IsSizedAddress, IsSizedId}

-- a word has at most so many bytes, and none of them is a line feed
pub record IsWord (most : ℕ) (word : List ℕ) : Type 0 where
  pub one : has_no_line_feed word ≡ true
  pub short : length word ≤ most

-- a word whose bytes are known
pub word : (most : ℕ) (text : List ℕ) → has_no_line_feed text ≡ true → length text ≤ most → IsWord most text
word most text one short = record { one = one; short = short }

-- what is short is no longer than more
pub within : {n m : ℕ} {text : List ℕ} → IsWord n text → n ≤ m → IsWord m text
within is le = let short = is.short in record { one = is.one; short = omega arith }

-- a word behind a text and a byte that isn't a line feed
pub behind : {n m : ℕ} {x y : List ℕ} (b : ℕ) → not (b == 10) ≡ true → IsWord n x → IsWord m y → IsWord (n + (1 + m)) (x ++ b ∷ y)
behind {x = x} {y = y} b other p q =
    let first = p.short in
    let second = q.short in
    record {
      one = lacks-append 10 x (b ∷ y) p.one (and_from (not (b == 10)) (has_no_line_feed y) other q.one);
      short = omega (arith, length-append x (b ∷ y));
    }

-- a word behind a text and a space
pub spaced : {n m : ℕ} {x y : List ℕ} → IsWord n x → IsWord m y → IsWord (n + (1 + m)) (x ++ 32 ∷ y)
spaced p q = behind 32 refl p q

-- ## Names and numbers

pub name_word : (name : List ℕ) → IsName name → IsWord 16 name
name_word name is =
    let short = and_parts (nat_le (length name) 16) (begins_with_letter name && list_all is_name_byte name) is in
    record { one = lacks-name 10 name refl is; short = leb-true (length name) 16 short.0 }

pub number_word : (n : ℕ) → n < 2 ^ 64 → IsWord 20 (decimal n)
number_word n small = record { one = lacks-u64 10 n refl small; short = length-decimal-le 20 n (lit< tt) (omega arith) small }

-- ## Hex

-- what stands in a table without a line feed, or past its end, is none
digit_one : (table : List ℕ) (d : ℕ) → has_no_line_feed table ≡ true → not (slice_index table d == 10) ≡ true
digit_one [] d one = refl
digit_one (x ∷ xs) zero one = (and_parts (not (x == 10)) (has_no_line_feed xs) one).0
digit_one (x ∷ xs) (suc d) one = digit_one xs d (and_parts (not (x == 10)) (has_no_line_feed xs) one).1

hex_one : (bytes : List ℕ) → has_no_line_feed (encode_lower bytes) ≡ true
unfolding encode_with
hex_one [] = refl
hex_one (b ∷ bytes) =
    and_from (not (slice_index lower_digits (b / 16) == 10)) (not (slice_index lower_digits (b % 16) == 10) && has_no_line_feed (encode_lower bytes)) (digit_one lower_digits (b / 16) refl)
    (and_from (not (slice_index lower_digits (b % 16) == 10)) (has_no_line_feed (encode_lower bytes)) (digit_one lower_digits (b % 16) refl) (hex_one bytes))

hex_word : (n : ℕ) (bytes : List ℕ) → length bytes ≤ n → IsWord (2 * n) (encode_lower bytes)
hex_word n bytes short = record { one = hex_one bytes; short = omega (arith, length-encode_with lower_digits bytes) }

pub id_short : (id : Id) → IsSizedId id → IsWord 40 (id_word id)
id_short id sized = hex_word 20 id.bytes (omega (arith, sized))

pub key_id_short : (id : KeyId) → length id.bytes ≤ 19 → IsWord 38 (key_id_word id)
key_id_short id short = hex_word 19 id.bytes short

pub address_short : (address : Address) → IsSizedAddress address → IsWord 81 (address_word address)
address_short address sized = behind 58 refl (id_short address.ad sized.ad) (id_short address.eid sized.eid)

pub bytes_short : (bytes : List ℕ) → length bytes ≤ 9216 → IsWord 18432 (bytes_word bytes)
bytes_short [] short = word 18432 _ refl (lit≤ tt)
bytes_short (b ∷ bytes) short = hex_word 9216 (b ∷ bytes) short

-- ## Tables

pub cause_short : (c : Cause) → IsWord 16 (cause_word c)
cause_short cause.Open = word 16 _ refl (lit≤ tt)
cause_short cause.Exempt = word 16 _ refl (lit≤ tt)
cause_short cause.Trusted = word 16 _ refl (lit≤ tt)
cause_short cause.Reverse = word 16 _ refl (lit≤ tt)
cause_short cause.Proved = word 16 _ refl (lit≤ tt)
cause_short cause.Wild = word 16 _ refl (lit≤ tt)

pub reason_short : (r : Reason) → IsWord 16 (reason_word r)
reason_short reason.Bad = word 16 _ refl (lit≤ tt)
reason_short reason.Mine = word 16 _ refl (lit≤ tt)
reason_short reason.Hops = word 16 _ refl (lit≤ tt)
reason_short reason.NoRoute = word 16 _ refl (lit≤ tt)
reason_short reason.Foreign = word 16 _ refl (lit≤ tt)
reason_short reason.NoBack = word 16 _ refl (lit≤ tt)
reason_short reason.Down = word 16 _ refl (lit≤ tt)
reason_short reason.Stray = word 16 _ refl (lit≤ tt)
reason_short reason.NotMine = word 16 _ refl (lit≤ tt)
reason_short reason.Unlogged = word 16 _ refl (lit≤ tt)
reason_short reason.Mute = word 16 _ refl (lit≤ tt)
reason_short reason.Dry = word 16 _ refl (lit≤ tt)
reason_short reason.Kind = word 16 _ refl (lit≤ tt)
reason_short reason.Unguarded = word 16 _ refl (lit≤ tt)
