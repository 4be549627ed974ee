-- The records that are kept, as text.
use Rattle.std.specs.Prelude.{ℕ, List, [], ◌∷◌, ◌++◌, codes, decimal, flat_map}
use Rattle.hex.specs.Hex.{encode_lower}
use Rattle.aip_registry.specs.declared.records.Record.{Record}
use Rattle.aip_registry.specs.Record.{record_word}

-- a record: the word of its kind, its signer's AD, the peer's AD or the host's EID, its number, and the tick until which it is in force
abbrev pub record_line : Record → List ℕ
record_line r =
    record_word r.kind ++ (32 ∷ (encode_lower r.ad.bytes ++ (32 ∷ (encode_lower r.other.bytes ++ (32 ∷ (decimal r.number ++ (32 ∷ (decimal r.until ++ 10 ∷ []))))))))

-- the lines of records, in their order
abbrev pub list_text : List Record → List ℕ
list_text records = flat_map record_line records
