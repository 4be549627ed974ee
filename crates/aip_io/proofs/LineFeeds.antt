-- Where line feeds stand, and the lines that they end.
use Rattle.std.proofs.Common.{◌≡◌, ◌≢◌, ℕ, zero, suc, ◌+◌, ◌-◌, ◌<◌, ◌≤◌, ◌==◌, Bool, true, false, not, ◌&&◌, List, [], ◌∷◌, ◌++◌, length, take, drop, get_or, slice_range, append_assoc, refl, sym, ap, ◌∙◌, arith}
use Rattle.std.specs.List.{onto_first}
use Rattle.std.proofs.lemmas.Bool.{and_parts, eqb-true}
use Rattle.std.proofs.lemmas.List.{take-append-drop, append-nil, drop_all, length-drop, length-take, take_all, take_at, take-take, drop-drop, drop-take, get_or-drop}
use Rattle.std.proofs.lemmas.Slice.{between_is}
use Rattle.std.proofs.lemmas.List.Folds.{list_all-append}
use Rattle.std.proofs.Math.Seq.{take-add}
use Rattle.memchr.specs.Find.{NoneBefore}
use Rattle.aip_text.specs.Lines.{has_no_line_feed, is_line_feed, lines_of}
use Rattle.aip_io.specs.Feeds.{IsFeed}
use Rattle.aip_io.specs.Shelf.{IsRead}
use Rattle.aip_io.specs.Lines.{IsLine, IsLast, IsLong}

isnt : (b : Bool) → b ≢ true → not b ≡ true
isnt true h = absurd (h refl)
isnt false h = refl

no_yes : (b : Bool) → not b ≡ true → b ≡ false
no_yes true h = cc h
no_yes false h = refl

both : (a b : Bool) → a ≡ true → b ≡ true → (a && b) ≡ true
both a b p q = rw (p, q) refl

-- no place is that of a line feed
pub none_at : (bytes : List ℕ) → ((k : ℕ) → k < length bytes → (get_or bytes k 0 == 10) ≢ true) → has_no_line_feed bytes ≡ true
none_at [] none = refl
none_at (b ∷ bs) none =
    both (not (is_line_feed b)) (has_no_line_feed bs) (isnt (is_line_feed b) (none 0 (omega arith))) (none_at bs (λ k lt. none (suc k) (omega arith)))

-- neither of two parts has a line feed
pub none_in_both : (xs ys : List ℕ) → has_no_line_feed xs ≡ true → has_no_line_feed ys ≡ true → has_no_line_feed (xs ++ ys) ≡ true
none_in_both xs ys p q = list_all-append (λ b. not (is_line_feed b)) xs ys ∙ both (has_no_line_feed xs) (has_no_line_feed ys) p q

-- the first k places have no line feed
none_before : (bytes : List ℕ) (n : ℕ) → n ≤ length bytes → ((k : ℕ) → k < n → (get_or bytes k 0 == 10) ≢ true) → has_no_line_feed (take n bytes) ≡ true
none_before bytes zero within none = refl
none_before [] (suc n) within none = refl
none_before (b ∷ bs) (suc n) within none =
    both (not (is_line_feed b)) (has_no_line_feed (take n bs)) (isnt (is_line_feed b) (none 0 (omega arith))) (none_before bs n (omega arith) (λ k lt. none (suc k) (omega arith)))

-- a text, parted at a line feed
parted : (bytes : List ℕ) (at : ℕ) → at < length bytes → (get_or bytes at 0 == 10) ≡ true → bytes ≡ take at bytes ++ (10 ∷ drop (at + 1) bytes)
parted [] at within here = absurd (omega arith)
parted (b ∷ bs) zero within here = let e : b ≡ 10 = eqb-true b 10 here in rw e refl
parted (b ∷ bs) (suc at) within here =
    let more = parted bs at (omega arith) here in
    let e : suc at + 1 ≡ suc (at + 1) = omega arith in
    rw e (ap (λ (xs : List ℕ). b ∷ xs) more)

-- no line feed stands among the first bytes, nor in the rest
pub none_found : (bytes behind : List ℕ) (searched : ℕ) → behind ≡ drop searched bytes → has_no_line_feed (take searched bytes) ≡ true
    → ((k : ℕ) → 0 ≤ k → k < length behind → (get_or behind k 0 == 10) ≢ true) → has_no_line_feed bytes ≡ true
none_found bytes behind searched is front none =
    let rest : has_no_line_feed behind ≡ true = none_at behind (λ k lt. none k (omega arith) lt) in
    ap has_no_line_feed (sym (take-append-drop searched bytes) ∙ ap (λ ys. take searched bytes ++ ys) (sym is)) ∙ none_in_both (take searched bytes) behind front rest

-- no line feed stands among the first bytes, and the first one of the rest stands here
pub found_at : (bytes behind : List ℕ) (searched at : ℕ) → behind ≡ drop searched bytes → has_no_line_feed (take searched bytes) ≡ true
    → NoneBefore (λ k. (get_or behind k 0 == 10) ≡ true) 0 (length behind) at → (get_or behind at 0 == 10) ≡ true → IsFeed bytes (searched + at)
found_at bytes behind searched at is front none here =
    let more : has_no_line_feed (take at behind) ≡ true = none_before behind at (omega (arith, none.high)) (λ k lt. none.before k (omega arith) lt) in
    let within : searched + at < length bytes = omega (arith, none.high, ap length is, length-drop searched bytes) in
    let same : get_or bytes (searched + at) 0 ≡ get_or behind at 0 = sym (get_or-drop searched bytes at 0) ∙ ap (λ xs. get_or xs at 0) (sym is) in
    let front_is : take (searched + at) bytes ≡ take searched bytes ++ take at behind =
    take-add searched at bytes ∙ ap (λ ys. take searched bytes ++ take at ys) (sym is) in
    record {
      within = within;
      before = ap has_no_line_feed front_is ∙ none_in_both (take searched bytes) (take at behind) front more;
      parts = parted bytes (searched + at) within (ap (λ b. b == 10) same ∙ here);
    }

-- ## The lines of a text

-- a line feed ends the first line
lines_after : (line rest : List ℕ) → has_no_line_feed line ≡ true → lines_of (line ++ (10 ∷ rest)) ≡ line ∷ lines_of rest
lines_after [] rest none = refl
lines_after (b ∷ bs) rest none =
    let parts = and_parts (not (is_line_feed b)) (has_no_line_feed bs) none in
    rw (no_yes (is_line_feed b) parts.0, lines_after bs rest parts.1) refl

-- bytes without a line feed are one line
one_line : (b : ℕ) (bs : List ℕ) → has_no_line_feed (b ∷ bs) ≡ true → lines_of (b ∷ bs) ≡ (b ∷ bs) ∷ []
one_line b [] none =
    let parts = and_parts (not (is_line_feed b)) true none in
    rw (no_yes (is_line_feed b) parts.0) refl
one_line b (d ∷ ds) none =
    let parts = and_parts (not (is_line_feed b)) (has_no_line_feed (d ∷ ds)) none in
    rw (no_yes (is_line_feed b) parts.0) (ap (onto_first b) (one_line d ds parts.1))

longer : (most b : ℕ) (bs : List ℕ) → is_line_feed b ≡ false → IsLong most bs → IsLong (suc most) (b ∷ bs)
longer most b bs isnt long = record {
  line = b ∷ long.line;
  rest = long.rest;
  lines = rw (isnt, long.lines) refl;
  long = omega (arith, long.long);
}

first_byte : (b : ℕ) (lines : List (List ℕ)) → (line : List ℕ) × (rest : List (List ℕ)) × (onto_first b lines ≡ line ∷ rest) × (0 < length line)
first_byte b [] = (b ∷ [], [], refl, omega arith)
first_byte b (l ∷ ls) = (b ∷ l, ls, refl, omega arith)

-- a text is long where no line feed stands among one byte more than a line may have
pub long_text : (most : ℕ) (bytes rest : List ℕ) → most < length bytes → has_no_line_feed (take (suc most) bytes) ≡ true → IsLong most (bytes ++ rest)
long_text most [] rest more none = absurd (omega arith)
long_text zero (b ∷ bs) rest more none =
    let isnt : is_line_feed b ≡ false = no_yes (is_line_feed b) (and_parts (not (is_line_feed b)) true none).0 in
    let first = first_byte b (lines_of (bs ++ rest)) in
    record { line = first.0; rest = first.1; lines = rw isnt first.2; long = first.3 }
long_text (suc most) (b ∷ bs) rest more none =
    let parts = and_parts (not (is_line_feed b)) (has_no_line_feed (take (suc most) bs)) none in
    longer most b (bs ++ rest) (no_yes (is_line_feed b) parts.0) (long_text most bs rest (omega arith) parts.1)

-- ## What is kept after a read

-- a range that a read left as it was
pub same_range : (old new : List ℕ) (start end : ℕ) → take end new ≡ take end old → slice_range new start end ≡ slice_range old start end
same_range old new start end same =
    between_is new start end ∙ ap (drop start) same ∙ sym (between_is old start end)

-- what a read put behind a range
pub longer_range : (bytes : List ℕ) (start end n : ℕ) → start ≤ end → slice_range bytes start (end + n) ≡ slice_range bytes start end ++ take n (drop end bytes)
longer_range bytes start end n order =
    let count : (end + n) - start ≡ (end - start) + n = omega arith in
    let there : start + (end - start) ≡ end = omega arith in
    ap (λ k. take k (drop start bytes)) count ∙ take-add (end - start) n (drop start bytes)
    ∙ ap (λ (xs : List ℕ). take (end - start) (drop start bytes) ++ take n xs) (drop-drop (end - start) start bytes ∙ ap (λ k. drop k bytes) there)

-- what a read put into a buffer, after what was kept
pub kept_grows : (old moved new : List ℕ) (start end front n : ℕ) → slice_range moved front (front + (end - start)) ≡ slice_range old start end
    → take (front + (end - start)) new ≡ take (front + (end - start)) moved
    → slice_range new front (front + (end - start) + n) ≡ slice_range old start end ++ take n (drop (front + (end - start)) new)
kept_grows old moved new start end front n range same =
    longer_range new front (front + (end - start)) n (omega arith)
    ∙ ap (λ (xs : List ℕ). xs ++ take n (drop (front + (end - start)) new)) (same_range moved new front (front + (end - start)) same ∙ range)

-- what is kept after a read begins with what was kept before
pub begins : (old new more : List ℕ) → new ≡ old ++ more → take (length old) new ≡ old
begins old new more is = ap (take (length old)) is ∙ take_at old more (length old) refl

-- a read takes from the text what it adds to what is kept
pub left_same : (told old new more : List ℕ) (at after n : ℕ) → new ≡ old ++ take n more → IsRead told at n more → after ≡ at + n
    → new ++ drop after told ≡ old ++ drop at told
left_same told old new more at after n is read behind =
    ap (λ xs. xs ++ drop after told) (is ∙ ap (λ xs. old ++ xs) read.bytes)
    ∙ append_assoc old (take n (drop at told)) (drop after told)
    ∙ ap (λ k. old ++ (take n (drop at told) ++ drop k told)) behind
    ∙ ap (λ xs. old ++ (take n (drop at told) ++ xs)) (sym (drop-drop n at told))
    ∙ ap (λ xs. old ++ xs) (take-append-drop n (drop at told))

-- a read that gave nothing leaves what was kept
pub kept_stays : (old moved new : List ℕ) (start end front : ℕ) → slice_range moved front (front + (end - start)) ≡ slice_range old start end
    → take (front + (end - start)) new ≡ take (front + (end - start)) moved
    → slice_range new front (front + (end - start)) ≡ slice_range old start end
kept_stays old moved new start end front range same = same_range moved new front (front + (end - start)) same ∙ range

pub begins_same : (old new : List ℕ) → new ≡ old → take (length old) new ≡ old
begins_same old new is = ap (take (length old)) is ∙ take_all (length old) old (omega arith)

pub left_stays : (told old new : List ℕ) (at after : ℕ) → new ≡ old → after ≡ at → new ++ drop after told ≡ old ++ drop at told
left_stays told old new at after is same = ap (λ xs. xs ++ drop after told) is ∙ ap (λ k. old ++ drop k told) same

-- ## What is given of what is kept

pub length-range : (bytes : List ℕ) (start end : ℕ) → length (slice_range bytes start end) ≤ end - start
length-range bytes start end = omega (arith, length-take (end - start) (drop start bytes))

-- what is left of a range behind its first bytes
pub rest_of_range : (bytes : List ℕ) (start end taken : ℕ) → taken ≤ end - start → slice_range bytes (start + taken) end ≡ drop taken (slice_range bytes start end)
rest_of_range bytes start end taken within =
    let left : end - (start + taken) ≡ (end - start) - taken = omega arith in
    let whole : taken + ((end - start) - taken) ≡ end - start = omega arith in
    ap (λ k. take k (drop (start + taken) bytes)) left
    ∙ ap (take ((end - start) - taken)) (sym (drop-drop taken start bytes))
    ∙ sym (drop-take taken ((end - start) - taken) (drop start bytes))
    ∙ ap (λ k. drop taken (take k (drop start bytes))) whole

-- the first bytes of a range
pub front_of_range : (bytes : List ℕ) (start end count : ℕ) → count ≤ end - start → slice_range bytes start (start + count) ≡ take count (slice_range bytes start end)
front_of_range bytes start end count within =
    let same : (start + count) - start ≡ count = omega arith in
    ap (λ k. take k (drop start bytes)) same ∙ sym (take-take count (end - start) (drop start bytes) within)

-- the first line, where the first line feed stands here
pub line_at : (kept rest : List ℕ) (at : ℕ) → IsFeed kept at → IsLine (kept ++ rest) (take at kept) (drop (at + 1) kept ++ rest)
line_at kept rest at feed =
    let whole : kept ++ rest ≡ take at kept ++ (10 ∷ (drop (at + 1) kept ++ rest)) =
    ap (λ xs. xs ++ rest) feed.parts ∙ append_assoc (take at kept) (10 ∷ drop (at + 1) kept) rest in
    record { lines = ap lines_of whole ∙ lines_after (take at kept) (drop (at + 1) kept ++ rest) feed.before; whole = whole }

-- first bytes have no line feed where all have none
front_has_none : (n : ℕ) (bytes : List ℕ) → has_no_line_feed bytes ≡ true → has_no_line_feed (take n bytes) ≡ true
front_has_none zero bytes none = refl
front_has_none (suc n) [] none = refl
front_has_none (suc n) (b ∷ bs) none =
    let parts = and_parts (not (is_line_feed b)) (has_no_line_feed bs) none in
    both (not (is_line_feed b)) (has_no_line_feed (take n bs)) parts.0 (front_has_none n bs parts.1)

-- a line feed that stands too far makes a long line
pub long_at : (most : ℕ) (kept rest : List ℕ) (at : ℕ) → IsFeed kept at → most < at → IsLong most (kept ++ rest)
long_at most kept rest at feed far =
    let front : take (suc most) (take at kept) ≡ take (suc most) kept = take-take (suc most) at kept (omega arith) in
    long_text most kept rest (omega (arith, feed.within)) (ap has_no_line_feed (sym front) ∙ front_has_none (suc most) (take at kept) feed.before)

-- too many bytes without a line feed make a long line
pub long_rest : (most : ℕ) (kept rest : List ℕ) → has_no_line_feed kept ≡ true → most < length kept → IsLong most (kept ++ rest)
long_rest most kept rest none more = long_text most kept rest more (front_has_none (suc most) kept none)

-- bytes at the end of a text, without a line feed, are its last line
pub last_of : (kept : List ℕ) → has_no_line_feed kept ≡ true → 0 < length kept → IsLast (kept ++ []) kept []
last_of [] none some = absurd (omega arith)
last_of (b ∷ bs) none some = record {
  lines = ap lines_of (append-nil (b ∷ bs)) ∙ one_line b bs none;
  whole = append-nil (b ∷ bs);
  some = λ h. cc h;
  nothing = refl;
}

-- all that is kept is given, and nothing is left behind it
pub last_rest : (kept rest : List ℕ) (count : ℕ) → count ≡ length kept → has_no_line_feed kept ≡ true → 0 < count → rest ≡ [] → IsLast (kept ++ rest) (take count kept) (drop count kept ++ rest)
last_rest kept rest count all none some empty =
    let line : take count kept ≡ kept = take_all count kept (omega arith) in
    let gone : drop count kept ≡ [] = drop_all count kept (omega arith) in
    rw (empty, line, gone) (last_of kept none (omega arith))
