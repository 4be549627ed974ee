-- Where the files of a name stand in a list.
use Rattle.std.proofs.Common.{◌≡◌, ◌⊎◌, inl, inr, ℕ, ◌+◌, ◌<◌, List, [], ◌∷◌, length, drop, get_or, Bool, true, false, suc, ◌≢◌, IsSome, IfSome, slice_get, option_map, Option, Some, None, refl, ap, sym, subst, ◌∙◌, add-one, arith, drop-cons}
use Rattle.std.proofs.Math.Seq.{drop-length}
use Rattle.std.proofs.lemmas.Option.{slice_get_read, slice_get_past}
use Rattle.std.proofs.lemmas.Slice.Eq.{bytes_eq-Decides}
use Rattle.std.specs.Str.{bytes_eq}
use Rattle.aip_io.specs.Memory.{NamedText, text_under, place_of}

-- no file before this place has the name
pub record NoneBefore (files : List NamedText) (name : List ℕ) (i : ℕ) : Type 0 where
  pub place : place_of files name ≡ i + place_of (drop i files) name
  pub text : text_under files name ≡ text_under (drop i files) name

-- a file of the name stands first
front_place : (file : NamedText) (files : List NamedText) (name : List ℕ) → bytes_eq file.name name ≡ true → place_of (file ∷ files) name ≡ 0
front_place file files name e = rw e refl

front_text : (file : NamedText) (files : List NamedText) (name : List ℕ) → bytes_eq file.name name ≡ true → text_under (file ∷ files) name ≡ Some file.bytes
front_text file files name e = rw e refl

-- the file that stands first has another name
other_place : (file : NamedText) (files : List NamedText) (name : List ℕ) → bytes_eq file.name name ≡ false → place_of (file ∷ files) name ≡ 1 + place_of files name
other_place file files name e = rw e refl

other_text : (file : NamedText) (files : List NamedText) (name : List ℕ) → bytes_eq file.name name ≡ false → text_under (file ∷ files) name ≡ text_under files name
other_text file files name e = rw e refl

-- what is left from a place on begins with the file there
from_here : (files : List NamedText) (i : ℕ) (file : NamedText) → i < length files → file ≡ get_or files i file → drop i files ≡ file ∷ drop (i + 1) files
from_here files i file within is = drop-cons files i file within ∙ subst (λ f. get_or files i file ∷ drop (suc i) files ≡ f ∷ drop (i + 1) files) (sym is) (rw add-one refl)

pub found_text : (files : List NamedText) (name : List ℕ) (i : ℕ) (file : NamedText) → i < length files → file ≡ get_or files i file → bytes_eq file.name name ≡ true → NoneBefore files name i → text_under files name ≡ option_map (λ f. f.bytes) (slice_get files i)
found_text files name i file within is same none =
    let here = from_here files i file within is in
    let there : slice_get files i ≡ Some file = slice_get_read files (length files) i file refl within is in
    none.text ∙ ap (λ l. text_under l name) here ∙ front_text file (drop (i + 1) files) name same ∙ sym (ap (λ o. option_map (λ f. f.bytes) o) there)

pub none_text : (files : List NamedText) (name : List ℕ) → NoneBefore files name (length files) → text_under files name ≡ option_map (λ f. f.bytes) (slice_get files (length files))
none_text files name none =
    none.text ∙ ap (λ l. text_under l name) (drop-length files) ∙ sym (ap (λ o. option_map (λ f. f.bytes) o) (slice_get_past files (length files) (omega arith)))

same_step : (file : NamedText) (files : List NamedText) (name other : List ℕ) (p q : Bool) → bytes_eq file.name name ≡ p → bytes_eq file.name other ≡ q → (place_of files name ≡ place_of files other → IsSome (text_under files other) → name ≡ other) → place_of (file ∷ files) name ≡ place_of (file ∷ files) other → IsSome (text_under (file ∷ files) other) → name ≡ other
same_step file files name other true true p q rest same some = sym ((bytes_eq-Decides file.name name).0 p) ∙ (bytes_eq-Decides file.name other).0 q
same_step file files name other true false p q rest same some = absurd (omega (arith, front_place file files name p, other_place file files other q))
same_step file files name other false true p q rest same some = absurd (omega (arith, other_place file files name p, front_place file files other q))
same_step file files name other false false p q rest same some =
    let some' : IsSome (text_under files other) = rw (← other_text file files other q) some in
    rest (omega (arith, other_place file files name p, other_place file files other q)) some'

-- two names at one place are one name, where there is a file
same_name : (files : List NamedText) (name other : List ℕ) → place_of files name ≡ place_of files other → IsSome (text_under files other) → name ≡ other
same_name [] name other same some = cc
same_name (file ∷ files) name other same some =
    same_step file files name other (bytes_eq file.name name) (bytes_eq file.name other) refl refl (same_name files name other) same some

-- no other name whose text is told stands at the place of a name
pub other_places : (files : List NamedText) (name other : List ℕ) (i : ℕ) → place_of files name ≡ i → other ≢ name → IsSome (text_under files other) → place_of files other ≢ i
other_places files name other i is differ some same = differ (sym (same_name files name other (is ∙ sym same) some))

-- one of two causes, by another name for the second
pub cause_by : {A B C : Type 0} → A ⊎ B → (B → C) → A ⊎ C
cause_by (inl a) f = inl a
cause_by (inr b) f = inr (f b)
