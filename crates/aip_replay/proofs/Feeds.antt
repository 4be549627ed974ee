-- Lines without a line feed, and the text that they have with one behind each.
use Rattle.std.proofs.Common.{◌≡◌, ℕ, ◌==◌, Bool, true, false, cond, not, List, [], ◌∷◌, ◌++◌, refl, sym, ap, ◌∙◌, subst, append_assoc, ◌⊎◌, inl, inr, true≢false}
use Rattle.std.specs.List.{AllByRecursion, onto_first}
use Rattle.std.proofs.lemmas.Bool.{and_parts}
use Rattle.aip_text.specs.Lines.{has_no_line_feed, lines_of}
use Rattle.aip_replay.specs.Texts.{text_of_lines}

-- a line has no line feed
abbrev pub IsOne : List ℕ → Type 0
IsOne line = has_no_line_feed line ≡ true

-- ## Lists

pub all_append : {A : Type 0} (P : A → Type 0) (xs ys : List A) → AllByRecursion P xs → AllByRecursion P ys → AllByRecursion P (xs ++ ys)
all_append P [] ys p q = q
all_append P (x ∷ xs) ys p q = (p.0, all_append P xs ys p.1 q)

pub all_first : {A : Type 0} (P : A → Type 0) (xs ys : List A) → AllByRecursion P (xs ++ ys) → AllByRecursion P xs
all_first P [] ys p = tt
all_first P (x ∷ xs) ys p = (p.0, all_first P xs ys p.1)

pub all_rest : {A : Type 0} (P : A → Type 0) (xs ys : List A) → AllByRecursion P (xs ++ ys) → AllByRecursion P ys
all_rest P [] ys p = p
all_rest P (x ∷ xs) ys p = all_rest P xs ys p.1

pub all_weaker : {A : Type 0} (P Q : A → Type 0) (xs : List A) → ((x : A) → P x → Q x) → AllByRecursion P xs → AllByRecursion Q xs
all_weaker P Q [] weaker p = tt
all_weaker P Q (x ∷ xs) weaker p = (weaker x p.0, all_weaker P Q xs weaker p.1)

-- the one list is longer: it goes on with an element where the other ends
pub record IsLonger {A : Type 0} (longer shorter behind rest : List A) : Type 0 where
  pub next : A
  pub others : List A
  pub longer_is : longer ≡ shorter ++ next ∷ others
  pub behind_is : behind ≡ next ∷ (others ++ rest)

-- of two lists that begin one, either the second begins with the first, or the first is longer
pub one_begins : {A : Type 0} (xs ys ps qs : List A) → xs ++ ps ≡ ys ++ qs → ((r : List A) × (ys ≡ xs ++ r)) ⊎ IsLonger xs ys qs ps
one_begins [] ys ps qs e = inl (ys, refl)
one_begins (x ∷ xs) [] ps qs e = inr (record { next = x; others = xs; longer_is = refl; behind_is = sym e })
one_begins {A = A} (x ∷ xs) (y ∷ ys) ps qs e =
    let head : x ≡ y = cc in
    let tail : xs ++ ps ≡ ys ++ qs = cc in
    by head (one_begins xs ys ps qs tail)
  where
    by : x ≡ y → ((r : List A) × (ys ≡ xs ++ r)) ⊎ IsLonger xs ys qs ps → ((r : List A) × (y ∷ ys ≡ (x ∷ xs) ++ r)) ⊎ IsLonger (x ∷ xs) (y ∷ ys) qs ps
    by head (inl (r, is)) = inl (r, ap (λ (a : A). a ∷ ys) (sym head) ∙ ap (λ (l : List A). x ∷ l) is)
    by head (inr longer) = inr (record {
      next = longer.next;
      others = longer.others;
      longer_is = ap (λ (a : A). a ∷ xs) head ∙ ap (λ (l : List A). y ∷ l) longer.longer_is;
      behind_is = longer.behind_is;
    })

-- ## The first line feed

-- a byte that is the line feed isn't another
no_feed : (c : ℕ) → 10 ≡ c → not (c == 10) ≡ true → ⊥
no_feed c e h =
    let bad : not (10 == 10) ≡ true = subst (λ (n : ℕ). not (n == 10) ≡ true) (sym e) h in
    true≢false (sym bad)

-- a line feed ends just one line
pub same_first : (a b x y : List ℕ) → IsOne a → IsOne b → a ++ 10 ∷ x ≡ b ++ 10 ∷ y → (a ≡ b) × (x ≡ y)
same_first [] [] x y one other e = let tail : x ≡ y = cc in (refl, tail)
same_first [] (c ∷ b) x y one other e = let head : 10 ≡ c = cc in absurd (no_feed c head (and_parts (not (c == 10)) (has_no_line_feed b) other).0)
same_first (c ∷ a) [] x y one other e = let head : c ≡ 10 = cc in absurd (no_feed c (sym head) (and_parts (not (c == 10)) (has_no_line_feed a) one).0)
same_first (c ∷ a) (d ∷ b) x y one other e =
    let head : c ≡ d = cc in
    let tail : a ++ 10 ∷ x ≡ b ++ 10 ∷ y = cc in
    let rest = same_first a b x y (and_parts (not (c == 10)) (has_no_line_feed a) one).1 (and_parts (not (d == 10)) (has_no_line_feed b) other).1 tail in
    (ap (λ (h : ℕ). h ∷ a) head ∙ ap (λ (l : List ℕ). d ∷ l) rest.0, rest.1)

-- ## Texts of lines

-- the text of lines, the first of them apart
pub first_apart : (line : List ℕ) (lines : List (List ℕ)) (more : List ℕ) → text_of_lines (line ∷ lines) ++ more ≡ line ++ 10 ∷ (text_of_lines lines ++ more)
first_apart line lines more =
    append_assoc (line ++ 10 ∷ []) (text_of_lines lines) more ∙ append_assoc line (10 ∷ []) (text_of_lines lines ++ more)

-- lines whose text begins the text of others are the first of them
pub record AreFirst (first all : List (List ℕ)) (more : List ℕ) : Type 0 where
  pub rest : List (List ℕ)
  pub whole : all ≡ first ++ rest
  pub left : more ≡ text_of_lines rest

pub no_lines : (line more : List ℕ) → [] ≡ line ++ 10 ∷ more → ⊥
no_lines [] more e = absurd cc
no_lines (c ∷ line) more e = absurd cc

pub aligned : (first all : List (List ℕ)) (more : List ℕ) → AllByRecursion IsOne first → AllByRecursion IsOne all → text_of_lines all ≡ text_of_lines first ++ more
    → AreFirst first all more
aligned [] all more one others e = record { rest = all; whole = refl; left = sym e }
aligned (line ∷ first) [] more one others e = absurd (no_lines line (text_of_lines first ++ more) (e ∙ first_apart line first more))
aligned (line ∷ first) (other ∷ all) more one others e =
    let same = same_first other line (text_of_lines all) (text_of_lines first ++ more) others.0 one.0
    (sym (append_assoc other (10 ∷ []) (text_of_lines all)) ∙ (e ∙ first_apart line first more)) in
    let rest = aligned first all more one.1 others.1 same.1 in
    record {
      rest = rest.rest;
      whole = ap (λ (l : List ℕ). l ∷ all) same.0 ∙ ap (λ (ls : List (List ℕ)). line ∷ ls) rest.whole;
      left = rest.left;
    }

unlike : {A : Type 0} (b : Bool) (x y z : A) → not b ≡ true → y ≡ z → cond b x y ≡ z
unlike true x y z h e = absurd (true≢false (sym h))
unlike false x y z h e = e

-- the lines of a text, the first of them apart
pub lines_of_first : (line rest : List ℕ) → IsOne line → lines_of (line ++ 10 ∷ rest) ≡ line ∷ lines_of rest
lines_of_first [] rest one = refl
lines_of_first (c ∷ line) rest one =
    let parts = and_parts (not (c == 10)) (has_no_line_feed line) one in
    unlike (c == 10) ([] ∷ lines_of (line ++ 10 ∷ rest)) (onto_first c (lines_of (line ++ 10 ∷ rest))) ((c ∷ line) ∷ lines_of rest) parts.0
    (ap (λ (ls : List (List ℕ)). onto_first c ls) (lines_of_first line rest parts.1))

-- lines that stand first in a text are its first lines
pub lines_of_text : (lines : List (List ℕ)) (left : List ℕ) → AllByRecursion IsOne lines → lines_of (text_of_lines lines ++ left) ≡ lines ++ lines_of left
lines_of_text [] left one = refl
lines_of_text (line ∷ lines) left one =
    ap lines_of (first_apart line lines left) ∙ lines_of_first line (text_of_lines lines ++ left) one.0
    ∙ ap (λ (ls : List (List ℕ)). line ∷ ls) (lines_of_text lines left one.1)
