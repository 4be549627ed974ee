-- Shut-offs: their bodies, and the text that they sign.
use Rattle.std.specs.Prelude.{ℕ, List, ◌++◌, take, drop, codes}
use Rattle.byteorder.specs.Endian.{big_bytes, big_number}
use Rattle.aip_addr.specs.Ids.{address_bytes}
use Rattle.aip_addr.specs.declared.ids.Address.{Address}
use Rattle.shutoff_filter.specs.declared.bodies.Order.{Order}

-- the packet hash, the tick of issue and the number of ticks that a shut-off lasts
abbrev pub text_tail : List ℕ → ℕ → ℕ → List ℕ
text_tail hash issue ttl = hash ++ (big_bytes 8 issue ++ big_bytes 4 ttl)

-- the text that is signed: "AIP1 shutoff", the source and the destination of the shut-off's frame, and the tail
abbrev pub shutoff_text_of : Address → Address → List ℕ → ℕ → ℕ → List ℕ
shutoff_text_of from to hash issue ttl =
    codes "AIP1 shutoff" ++ (address_bytes from ++ (address_bytes to ++ text_tail hash issue ttl))

-- the body of a shut-off: the tail of its text, the sender's public key, and the signature of the text
abbrev pub shutoff_of : List ℕ → ℕ → ℕ → List ℕ → List ℕ → List ℕ
shutoff_of hash issue ttl key signature = text_tail hash issue ttl ++ (key ++ signature)

-- what a body says before its signature
unfoldable pub order_in : List ℕ → Order
order_in body = record {
  hash = take 32 body;
  issue = big_number 8 (take 8 (drop 32 body));
  ttl = big_number 4 (take 4 (drop 40 body));
  key = take 56 (drop 44 body);
}

-- the signature, behind the first 100 bytes to the end
abbrev pub signature_in : List ℕ → List ℕ
signature_in body = drop 100 body
