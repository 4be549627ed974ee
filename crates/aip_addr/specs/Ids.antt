-- Ids, key identifiers and addresses.
use Rattle.std.specs.Prelude.{◌≡◌, ◌==◌, ◌&&◌, ℕ, Bool, List, [], ◌∷◌, ◌++◌, take, drop, slice_index}
use Rattle.std.specs.Str.{bytes_eq}
use Rattle.sha2.specs.Sha256.{sha256}
use Rattle.aip_addr.specs.declared.ids.Id.{Id}
use Rattle.aip_addr.specs.declared.ids.KeyId.{KeyId}
use Rattle.aip_addr.specs.declared.ids.Address.{Address}
use Rattle.std.specs.Prelude.{codes}

-- an id: its version byte, the first 18 bytes of a hash (SHA-256, FIPS 180-4), and its interface byte
abbrev pub id_bytes : ℕ → List ℕ → ℕ → List ℕ
id_bytes version hash interface = version ∷ (take 18 hash ++ interface ∷ [])

-- the id of a domain or a host by its public key
abbrev pub id_of_key : List ℕ → ℕ → Id
id_of_key key interface = record { bytes = id_bytes 1 (sha256 key) interface }

-- the id of a router, by its name
abbrev pub id_of_router : List ℕ → Id
id_of_router name = record { bytes = id_bytes 0 (sha256 (codes "aip router" ++ name)) 0 }

-- the key identifier of an id: all but its interface byte
abbrev pub key_id_of : Id → KeyId
key_id_of id = record { bytes = take 19 id.bytes }

-- whether the key owns the id: the id's version is 1, and its hash begins the key's
abbrev pub is_owner : List ℕ → Id → Bool
is_owner key id = (slice_index id.bytes 0 == 1) && bytes_eq (take 18 (drop 1 id.bytes)) (take 18 (sha256 key))

-- the key owns the id: the id's version is 1, and its hash begins the key's
abbrev pub Owns : List ℕ → Id → Type 0
Owns key id = (slice_index id.bytes 0 ≡ 1) × (take 18 (drop 1 id.bytes) ≡ take 18 (sha256 key))

-- the 40 bytes of an address: the domain's id, then the host's or the router's
abbrev pub address_bytes : Address → List ℕ
address_bytes address = address.ad.bytes ++ address.eid.bytes

-- two ids are the same
abbrev pub is_same_id : Id → Id → Bool
is_same_id a b = bytes_eq a.bytes b.bytes

-- two addresses are the same
abbrev pub is_same_address : Address → Address → Bool
is_same_address a b = is_same_id a.ad b.ad && is_same_id a.eid b.eid

-- the address that 40 bytes spell
abbrev pub address_of : List ℕ → Address
address_of bytes = record { ad = record { bytes = take 20 bytes }; eid = record { bytes = drop 20 bytes } }
