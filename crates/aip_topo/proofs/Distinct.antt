-- Texts of which no two are the same, with one more.
use Rattle.std.proofs.Common.{◌≡◌, ℕ, Bool, false, List, [], ◌∷◌, ◌++◌, refl, sym, ◌∙◌}
use Rattle.std.specs.List.{list_any, AllByRecursion}
use Rattle.std.specs.Str.{bytes_eq}
use Rattle.std.proofs.lemmas.Bool.{false_from_ne_true, both_ways, or_from, or_parts}
use Rattle.std.proofs.lemmas.List.Folds.{list_any-append}
use Rattle.std.proofs.lemmas.Slice.Eq.{bytes_eq-Decides}
use Rattle.aip_topo.specs.Sound.{AreDistinct, has_text}

-- two texts are the same whichever comes first
pub other_way : (x y : List ℕ) → bytes_eq x y ≡ false → bytes_eq y x ≡ false
other_way x y h =
    let to = (bytes_eq-Decides y x).0 in
    let back = (bytes_eq-Decides x y).1 in
    false_from_ne_true (bytes_eq y x) (λ same. both_ways (bytes_eq x y) h (back (sym (to same))))

-- one more, anywhere
pub inserted : (xs ys : List (List ℕ)) (x : List ℕ) → AreDistinct (xs ++ ys) → has_text x (xs ++ ys) ≡ false → AreDistinct (xs ++ x ∷ ys)
inserted [] ys x differ new = (new, differ)
inserted (w ∷ ws) ys x differ new =
    let apart = or_parts (bytes_eq w x) (has_text x (ws ++ ys)) new in
    let test : List ℕ → Bool = λ other. bytes_eq other w in
    let before = or_parts (list_any test ws) (list_any test ys) (sym (list_any-append test ws ys) ∙ differ.0) in
    let lacks : has_text w (ws ++ x ∷ ys) ≡ false =
    list_any-append test ws (x ∷ ys) ∙ or_from (list_any test ws) (list_any test (x ∷ ys)) before.0 (or_from (bytes_eq x w) (list_any test ys) (other_way w x apart.0) before.1) in
    (lacks, inserted ws ys x differ.1 apart.1)

-- one more behind all others
pub added : (xs : List (List ℕ)) (x : List ℕ) → AreDistinct xs → has_text x xs ≡ false → AreDistinct (xs ++ x ∷ [])
added [] x differ new = (refl, tt)
added (w ∷ ws) x differ new =
    let apart = or_parts (bytes_eq w x) (has_text x ws) new in
    let test : List ℕ → Bool = λ other. bytes_eq other w in
    let lacks : has_text w (ws ++ x ∷ []) ≡ false =
    list_any-append test ws (x ∷ []) ∙ or_from (list_any test ws) (list_any test (x ∷ [])) differ.0 (or_from (bytes_eq x w) false (other_way w x apart.0) refl) in
    (lacks, added ws x differ.1 apart.1)

-- a fact of all, and of one more
pub all_more : {A : Type 0} (P : A → Type 0) (xs : List A) (x : A) → AllByRecursion P xs → P x → AllByRecursion P (xs ++ x ∷ [])
all_more P [] x all here = (here, tt)
all_more P (y ∷ ys) x all here = (all.0, all_more P ys x all.1 here)

-- a weaker fact of all
pub all_then : {A : Type 0} (P Q : A → Type 0) (each : (a : A) → P a → Q a) (xs : List A) → AllByRecursion P xs → AllByRecursion Q xs
all_then P Q each [] all = tt
all_then P Q each (x ∷ xs) all = (each x all.0, all_then P Q each xs all.1)
