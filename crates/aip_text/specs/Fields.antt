-- The fields of a line: its words, with one space between them, and what is made of them.
use Rattle.std.specs.Prelude.{ℕ, ◌≡◌, length, List, Option, Some, None, if◌then◌else◌, find}
use Rattle.std.specs.Option.{option_map}
use Rattle.std.specs.Str.{bytes_eq}
use Rattle.hex.specs.Hex.{IsBytes, encode_lower}
use Rattle.aip_addr.specs.Naming.{is_name}
use Rattle.aip_addr.specs.declared.ids.Id.{Id}
use Rattle.aip_text.specs.Words.{cut, hex_sized}

-- the second step, where the first gave a value
infixl 10 ◌>>=◌
abbrev pub ◌>>=◌ : {A B : Type 0} → Option A → (A → Option B) → Option B
Some x >>= f = f x
None >>= f = None

-- ## Words

-- the name that a word is
abbrev pub name_of : List ℕ → Option (List ℕ)
name_of word = if is_name word then Some word else None

-- the id that 40 digits of hex spell
abbrev pub id_of : List ℕ → Option Id
id_of word = option_map (λ bytes. record { bytes = bytes }) (hex_sized 20 word)

-- the word of an id
abbrev pub id_word : Id → List ℕ
id_word id = encode_lower id.bytes

-- so many bytes
abbrev pub IsSized : ℕ → List ℕ → Type 0
IsSized n bytes = IsBytes bytes × (length bytes ≡ n)

-- an id of 20 bytes
abbrev pub IsId : Id → Type 0
IsId id = IsSized 20 id.bytes

-- the first value of a table that a word names
abbrev pub named : {A : Type 0} → (A → List ℕ) → List A → List ℕ → Option A
named word_of all word = find (λ x. bytes_eq (word_of x) word) all

-- ## Words with one space between them

-- three words
abbrev pub three_words : List ℕ → Option (List ℕ × List ℕ × List ℕ)
three_words rest = do
  first ← cut rest
  second ← cut first.1
  Some (first.0, second.0, second.1)

-- four words
abbrev pub four_words : List ℕ → Option (List ℕ × List ℕ × List ℕ × List ℕ)
four_words rest = do
  first ← cut rest
  second ← cut first.1
  third ← cut second.1
  Some (first.0, second.0, third.0, third.1)

-- five words
abbrev pub five_words : List ℕ → Option (List ℕ × List ℕ × List ℕ × List ℕ × List ℕ)
five_words rest = do
  first ← cut rest
  second ← cut first.1
  third ← cut second.1
  fourth ← cut third.1
  Some (first.0, second.0, third.0, fourth.0, fourth.1)

-- ## Fields

-- what is made of two values, where both are there
abbrev pub of_two : {A B X : Type 0} → (A → B → X) → Option A → Option B → Option X
of_two make first second = do
  x ← first
  y ← second
  Some (make x y)

-- what is made of three values
abbrev pub of_three : {A B C X : Type 0} → (A → B → C → X) → Option A → Option B → Option C → Option X
of_three make first second third = do
  x ← first
  y ← second
  z ← third
  Some (make x y z)

-- what is made of four values
abbrev pub of_four : {A B C D X : Type 0} → (A → B → C → D → X) → Option A → Option B → Option C → Option D → Option X
of_four make first second third fourth = do
  x ← first
  y ← second
  z ← third
  w ← fourth
  Some (make x y z w)

-- what is made of five values
abbrev pub of_five : {A B C D E X : Type 0} → (A → B → C → D → E → X) → Option A → Option B → Option C → Option D → Option E → Option X
of_five make first second third fourth fifth = do
  x ← first
  y ← second
  z ← third
  w ← fourth
  v ← fifth
  Some (make x y z w v)

-- one field
abbrev pub one_field : {A X : Type 0} → (List ℕ → Option A) → (A → X) → List ℕ → Option X
one_field read make rest = do
  x ← read rest
  Some (make x)

-- two fields
abbrev pub two_fields : {A B X : Type 0} → (List ℕ → Option A) → (List ℕ → Option B) → (A → B → X) → List ℕ → Option X
two_fields first second make rest = do
  words ← cut rest
  of_two make (first words.0) (second words.1)

-- three fields
abbrev pub three_fields : {A B C X : Type 0} → (List ℕ → Option A) → (List ℕ → Option B) → (List ℕ → Option C) → (A → B → C → X) → List ℕ → Option X
three_fields first second third make rest = do
  words ← three_words rest
  of_three make (first words.0) (second words.1) (third words.2)

-- four fields
abbrev pub four_fields : {A B C D X : Type 0} → (List ℕ → Option A) → (List ℕ → Option B) → (List ℕ → Option C) → (List ℕ → Option D) → (A → B → C → D → X) → List ℕ → Option X
four_fields first second third fourth make rest = do
  words ← four_words rest
  of_four make (first words.0) (second words.1) (third words.2) (fourth words.3)

-- five fields
abbrev pub five_fields : {A B C D E X : Type 0} → (List ℕ → Option A) → (List ℕ → Option B) → (List ℕ → Option C) → (List ℕ → Option D) → (List ℕ → Option E) → (A → B → C → D → E → X) → List ℕ → Option X
five_fields first second third fourth fifth make rest = do
  words ← five_words rest
  of_five make (first words.0) (second words.1) (third words.2) (fourth words.3) (fifth words.4)
