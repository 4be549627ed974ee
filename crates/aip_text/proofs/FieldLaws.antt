-- The fields of lines: what is read is spelled so, and what is spelled so is read.
use Rattle.std.proofs.Common.{◌≡◌, ℕ, ◌<◌, ◌^◌, cond, List, Option, Some, None, refl, ap, subst, sym, ◌∙◌}
use Rattle.std.specs.Prelude.{IfSome, decimal}
use Rattle.std.specs.Option.{option_map}
use Rattle.std.proofs.lemmas.Option.{cond_some, none-some, same_Some}
use Rattle.hex.specs.Hex.{IsBytes, encode_lower}
use Rattle.aip_addr.specs.Naming.{IsName, is_name}
use Rattle.aip_addr.specs.declared.ids.Id.{Id}
use Rattle.aip_text.specs.Fields.{IsId, IsSized, id_of, id_word, name_of}
use Rattle.aip_text.specs.Words.{bytes_of, bytes_word, hex_sized, number_of, u64_of}
use Rattle.aip_text.proofs.HexWords.{bytes_again, bytes_found, hex_sized_again, hex_sized_found}
use Rattle.aip_text.proofs.Lacking.{lacks-bytes_word, lacks-decimal, lacks-encode_lower, lacks-name, lacks-u64}
use Rattle.aip_text.proofs.LineForms.{Field}
use Rattle.aip_text.proofs.Numbers.{number_again, number_found, u64_again, u64_found}

name_found : (word name : List ℕ) → name_of word ≡ Some name → IsName name × (word ≡ name)
name_found word name h =
    let read = cond_some (is_name word) word name h in
    (subst IsName read.1 read.0, read.1)

name_again : (name : List ℕ) → IsName name → name_of name ≡ Some name
name_again name h = ap (λ b. cond b (Some name) None) h

pub name_field : Field name_of (λ name. name) IsName
name_field = record { found = name_found; again = name_again; plain = λ name h. lacks-name 32 name refl h }

pub number_field : Field number_of decimal (λ n. n < 10 ^ 15)
number_field = record { found = number_found; again = number_again; plain = λ n h. lacks-decimal 32 n refl h }

pub u64_field : Field u64_of decimal (λ n. n < 2 ^ 64)
u64_field = record { found = u64_found; again = u64_again; plain = λ n h. lacks-u64 32 n refl h }

pub bytes_field : Field bytes_of bytes_word IsBytes
bytes_field = record { found = bytes_found; again = bytes_again; plain = lacks-bytes_word }

-- so many bytes
pub sized_field : (n : ℕ) → Field (hex_sized n) encode_lower (IsSized n)
sized_field n = record { found = found_in; again = λ bytes h. hex_sized_again n bytes h.0 h.1; plain = λ bytes h. lacks-encode_lower 32 bytes refl h.0 }
  where
    found_in : (word bytes : List ℕ) → hex_sized n word ≡ Some bytes → IsSized n bytes × (word ≡ encode_lower bytes)
    found_in word bytes h = let read = hex_sized_found n word bytes h in ((read.0, read.1), read.2)

-- the id of these bytes
abbrev of_bytes : List ℕ → Id
of_bytes bytes = record { bytes = bytes }

id_found : (word : List ℕ) (id : Id) → id_of word ≡ Some id → IsId id × (word ≡ id_word id)
id_found word id h = read (hex_sized 20 word) (λ bytes e. let found = hex_sized_found 20 word bytes e in ((found.0, found.1), found.2)) h
  where
    read : (o : Option (List ℕ)) → ((bytes : List ℕ) → o ≡ Some bytes → IsId (of_bytes bytes) × (word ≡ id_word (of_bytes bytes))) → option_map of_bytes o ≡ Some id → IsId id × (word ≡ id_word id)
    read None each e = absurd (none-some id e)
    read (Some bytes) each e = subst (λ i. IsId i × (word ≡ id_word i)) (same_Some (of_bytes bytes) id e) (each bytes refl)

id_again : (id : Id) → IsId id → id_of (id_word id) ≡ Some id
id_again id h = ap (option_map of_bytes) (hex_sized_again 20 id.bytes h.0 h.1)

pub id_field : Field id_of id_word IsId
id_field = record { found = id_found; again = id_again; plain = λ id h. lacks-encode_lower 32 id.bytes refl h.0 }

-- ## As the readers' clauses say it

pub name_found_in : (word : List ℕ) (r : Option (List ℕ)) → r ≡ name_of word → IfSome r (λ name. IsName name × (word ≡ name))
name_found_in word (Some name) e = name_found word name (sym e)
name_found_in word None e = tt

pub name_again_in : (word : List ℕ) (r : Option (List ℕ)) → r ≡ name_of word → IsName word → r ≡ Some word
name_again_in word r e h = e ∙ name_again word h

pub id_found_in : (word : List ℕ) (r : Option Id) → r ≡ id_of word → IfSome r (λ id. IsId id × (word ≡ id_word id))
id_found_in word (Some id) e = id_found word id (sym e)
id_found_in word None e = tt

pub id_again_in : (word : List ℕ) (r : Option Id) → r ≡ id_of word → (id : Id) → IsId id → word ≡ id_word id → r ≡ Some id
id_again_in word r e id h spelled = e ∙ ap id_of spelled ∙ id_again id h
