-- Records: what they say, the text that they sign, and their bytes.
use Rattle.std.specs.Prelude.{◌≡◌, ◌<◌, ◌^◌, ℕ, zero, suc, Bool, ◌==◌, ◌&&◌, nat_le, true, List, [], ◌∷◌, ◌++◌, length, take, drop, slice_index, codes, Option, Some, None, if◌then◌else◌}
use Rattle.byteorder.specs.Endian.{big_bytes, big_number}
use Rattle.aip_addr.specs.declared.ids.Id.{Id}
use Rattle.aip_registry.specs.declared.records.RecordKind.{RecordKind}
use Rattle.aip_registry.specs.declared.records.RecordKind.TheVariants.{Peer, Bind}
use Rattle.aip_registry.specs.declared.records.Record.{Record}

-- ---- spelling

-- the kinds of records
abbrev pub all_kinds : List RecordKind
all_kinds = Peer ∷ Bind ∷ []

-- the word of a kind in a text
abbrev pub record_word : RecordKind → List ℕ
record_word Peer = codes "peer"
record_word Bind = codes "bind"

-- the byte of a kind
abbrev pub kind_byte : RecordKind → ℕ
kind_byte Peer = 0
kind_byte Bind = 1

-- what a record says: version 1, its kind, its signer's AD, the peer's AD or the host's EID, its number, and the tick until which it is in force, with numbers big-endian
unfoldable pub fields_bytes : Record → List ℕ
fields_bytes r =
    1 ∷ kind_byte r.kind ∷ ((r.ad.bytes ++ r.other.bytes) ++ (big_bytes 8 r.number ++ big_bytes 8 r.until))

-- the text that is signed: "AIP1 record" and what the record says
abbrev pub record_text_of : Record → List ℕ
record_text_of r = codes "AIP1 record" ++ fields_bytes r

-- the bytes of a record: what it says, its signer's public key, and the signature
abbrev pub record_of : Record → List ℕ → List ℕ → List ℕ
record_of r key signature = fields_bytes r ++ (key ++ signature)

-- the fields of a record have their sizes
pub record RecordFits (r : Record) : Type 0 where
  pub ad : length r.ad.bytes ≡ 20
  pub other : length r.other.bytes ≡ 20
  pub number : r.number < 2 ^ 64
  pub until : r.until < 2 ^ 64

-- the bytes are the spelling of a record with this key and this signature
pub record IsRecord (bytes : List ℕ) (r : Record) (key signature : List ℕ) : Type 0 where
  pub spelled : bytes ≡ record_of r key signature
  pub fits : RecordFits r
  pub whole_key : length key ≡ 56

-- ---- reading

-- whether bytes are a record: at least 114, of version 1, a peering or a binding
abbrev pub is_record : List ℕ → Bool
is_record bytes = nat_le 114 (length bytes) && ((slice_index bytes 0 == 1) && nat_le (slice_index bytes 1) 1)

-- the kind that a byte names
abbrev pub kind_at : ℕ → RecordKind
kind_at zero = Peer
kind_at (suc n) = Bind

-- what a record says, at the places of its fields
unfoldable pub fields_in : List ℕ → Record
fields_in bytes = record {
  kind = kind_at (slice_index bytes 1);
  ad = record { bytes = take 20 (drop 2 bytes) };
  other = record { bytes = take 20 (drop 22 bytes) };
  number = big_number 8 (take 8 (drop 42 bytes));
  until = big_number 8 (take 8 (drop 50 bytes));
}

-- the signer's public key, behind the first 58 bytes
abbrev pub key_in : List ℕ → List ℕ
key_in bytes = take 56 (drop 58 bytes)

-- the signature, behind the first 114 bytes to the end
abbrev pub signature_in : List ℕ → List ℕ
signature_in bytes = drop 114 bytes

-- the record that bytes spell, where they spell one
abbrev pub record_in : List ℕ → Option Record
record_in bytes = if is_record bytes then Some (fields_in bytes) else None

-- the AD of the signer that a record names, where bytes spell one
abbrev pub signer_in : List ℕ → Option Id
signer_in bytes = if is_record bytes then Some (fields_in bytes).ad else None

-- bytes are read as a record with this key and this signature
pub record ReadsBack (bytes : List ℕ) (r : Record) (key signature : List ℕ) : Type 0 where
  pub whole : is_record bytes ≡ true
  pub fields : fields_in bytes ≡ r
  pub its_key : key_in bytes ≡ key
  pub its_signature : signature_in bytes ≡ signature
