use Rattle.std.proofs.Common.{◌≡◌, ◌≢◌, map, string_bytes, String, Global, ℕ, length, List, [], ◌∷◌, None, arith, refl, sym, ◌∙◌}
use lib.ListN.{get_or}
use Rattle.std.proofs.lemmas.List.{length-map}
use Rattle.aip_top.specs.Words.{command_of_many, command_of_seven}
use Rattle.aip_top.proofs.command.command_of_many.Goals as goal

-- words of another number spell no such command
other_number : (words : List (List ℕ)) → length words ≢ 7 → None ≡ command_of_many words
other_number [] other = refl
other_number (a ∷ []) other = refl
other_number (a ∷ b ∷ []) other = refl
other_number (a ∷ b ∷ c ∷ []) other = refl
other_number (a ∷ b ∷ c ∷ d ∷ []) other = refl
other_number (a ∷ b ∷ c ∷ d ∷ e ∷ []) other = refl
other_number (a ∷ b ∷ c ∷ d ∷ e ∷ f ∷ []) other = refl
other_number (a ∷ b ∷ c ∷ d ∷ e ∷ f ∷ g ∷ []) other = absurd (other refl)
other_number (a ∷ b ∷ c ∷ d ∷ e ∷ f ∷ g ∷ h ∷ words) other = refl

-- the words that stand at the seven places are all of them
all_seven : (words : List (String Global)) (a b c d e f g : String Global) → length words ≡ 7
    → (a ≡ get_or words 0 a) → (b ≡ get_or words 1 b) → (c ≡ get_or words 2 c) → (d ≡ get_or words 3 d) → (e ≡ get_or words 4 e) → (f ≡ get_or words 5 f) → (g ≡ get_or words 6 g)
    → command_of_seven (string_bytes a) (string_bytes b) (string_bytes c) (string_bytes d) (string_bytes e) (string_bytes f) (string_bytes g) ≡ command_of_many (map string_bytes words)
all_seven [] a b c d e f g size is_a is_b is_c is_d is_e is_f is_g = absurd (omega (arith, size))
all_seven (w0 ∷ []) a b c d e f g size is_a is_b is_c is_d is_e is_f is_g = absurd (omega (arith, size))
all_seven (w0 ∷ w1 ∷ []) a b c d e f g size is_a is_b is_c is_d is_e is_f is_g = absurd (omega (arith, size))
all_seven (w0 ∷ w1 ∷ w2 ∷ []) a b c d e f g size is_a is_b is_c is_d is_e is_f is_g = absurd (omega (arith, size))
all_seven (w0 ∷ w1 ∷ w2 ∷ w3 ∷ []) a b c d e f g size is_a is_b is_c is_d is_e is_f is_g = absurd (omega (arith, size))
all_seven (w0 ∷ w1 ∷ w2 ∷ w3 ∷ w4 ∷ []) a b c d e f g size is_a is_b is_c is_d is_e is_f is_g = absurd (omega (arith, size))
all_seven (w0 ∷ w1 ∷ w2 ∷ w3 ∷ w4 ∷ w5 ∷ []) a b c d e f g size is_a is_b is_c is_d is_e is_f is_g = absurd (omega (arith, size))
all_seven (w0 ∷ w1 ∷ w2 ∷ w3 ∷ w4 ∷ w5 ∷ w6 ∷ []) a b c d e f g size is_a is_b is_c is_d is_e is_f is_g = rw (is_a, is_b, is_c, is_d, is_e, is_f, is_g) refl
all_seven (w0 ∷ w1 ∷ w2 ∷ w3 ∷ w4 ∷ w5 ∷ w6 ∷ w7 ∷ words) a b c d e f g size is_a is_b is_c is_d is_e is_f is_g = absurd (omega (arith, size))

pub returns-then-words-ne7 : goal.returns-then-words-ne7
returns-then-words-ne7 c =
    let same = length-map c.args.words.now string_bytes in
    other_number (map string_bytes c.args.words.now) (λ is. c.if-words-ne7.true (sym same ∙ is))

pub returns : goal.returns
returns c =
    c.command_of_seven.ensures
    ∙ all_seven c.args.words.now c.index-words-0.result c.index-words-1.result c.index-words-2.result c.index-words-3.result c.index-words-4.result c.index-words-5.result c.index-words-6.result c.if-words-ne7.false
    c.index-words-0.is c.index-words-1.is c.index-words-2.is c.index-words-3.is c.index-words-4.is c.index-words-5.is c.index-words-6.is
