-- Ids that are made of keys, and the identifiers of keys.
use Rattle.std.proofs.Common.{◌≡◌, ℕ, zero, suc, ◌/◌, ◌^◌, ◌<◌, ◌==◌, Bool, false, not, ◌||◌, nat_lt, List, [], ◌∷◌, ◌++◌, length, take, slice_index, refl, sym, ap, subst, ◌∙◌, arith, lit<, length-append, append_assoc, append-nil}
use Rattle.std.specs.Int.{byte_at, bytes_high_first, to_be_bytes, w32}
use Rattle.std.specs.List.{list_any}
use Rattle.std.specs.Prelude.{get_or}
use Rattle.std.specs.Str.{bytes_eq}
use Rattle.std.proofs.Math.Seq.{get_or-append_seam}
use Rattle.std.proofs.lemmas.Bool.{or_from, or_parts}
use Rattle.std.proofs.lemmas.Bool.Decides.{nat_tests}
use Rattle.std.proofs.lemmas.List.{length-take-le}
use Rattle.std.proofs.lemmas.List.Folds.{list_any-append}
use Rattle.std.proofs.lemmas.Nat.{mod_below}
use Rattle.hex.specs.Hex.{IsBytes}
use Rattle.sha2.specs.Sha256.{digest_bytes, sha256}
use Rattle.sha2.proofs.Facts256.{length-sha256}
use Rattle.aip_addr.specs.Ids.{id_bytes, id_of_key}
use Rattle.aip_addr.specs.declared.ids.Id.{Id}
use Rattle.lms_core.specs.Tree.{identifier_of, key_from, public_key_of}
use Rattle.lms_core.specs.Tree as lms
use Rattle.aip_topo.specs.Canonical.{ad_origin, eid_origin}
use Rattle.aip_topo.specs.Lines.{IsAdOrigin, IsEidOrigin}
use Rattle.aip_text.specs.Fields.{IsSized}
use Rattle.aip_topo.specs.Sound.{AreDistinct, IsIdOf, domain_identifiers, has_text, host_identifiers, identifiers_in, identifiers_of}
use Rattle.aip_topo.specs.Steps.{has_interface, has_version_0, id_from, is_domain_identified, is_host_identified, is_identified, is_key_taken, is_no_ad, is_no_eid, key_of}
use Rattle.aip_topo.specs.declared.lines.Origin.{Origin}
use Rattle.aip_topo.specs.declared.lines.Origin.TheVariants as origin
use Rattle.aip_topo.specs.declared.topology.Domain.{Domain}
use Rattle.aip_topo.specs.declared.topology.HostPart.{HostPart}
use Rattle.aip_topo.specs.declared.topology.LinkPart.{LinkPart}
use Rattle.aip_topo.specs.declared.topology.Key.{Key}
use Rattle.aip_topo.specs.declared.topology.Key.TheVariants as key
use Rattle.aip_topo.specs.declared.topology.Part.{Part}
use Rattle.aip_topo.specs.declared.topology.Part.TheVariants as part
use Rattle.aip_topo.specs.declared.topology.Topology.{Topology}
use Rattle.aip_topo.proofs.Distinct.{added, inserted}
use Rattle.aip_topo.proofs.Placing.{before_middle}

-- ## Bytes

nil_bytes : IsBytes []
nil_bytes i = lit< tt

cons_bytes : (x : ℕ) (xs : List ℕ) → x < 256 → IsBytes xs → IsBytes (x ∷ xs)
cons_bytes x xs here rest zero = here
cons_bytes x xs here rest (suc i) = rest i

rest_bytes : (x : ℕ) (xs : List ℕ) → IsBytes (x ∷ xs) → IsBytes xs
rest_bytes x xs h i = h (suc i)

append_bytes : (xs ys : List ℕ) → IsBytes xs → IsBytes ys → IsBytes (xs ++ ys)
append_bytes [] ys h k = k
append_bytes (x ∷ xs) ys h k = cons_bytes x (xs ++ ys) (h 0) (append_bytes xs ys (rest_bytes x xs h) k)

take_bytes : (n : ℕ) (xs : List ℕ) → IsBytes xs → IsBytes (take n xs)
take_bytes zero xs h = nil_bytes
take_bytes (suc n) [] h = nil_bytes
take_bytes (suc n) (x ∷ xs) h = cons_bytes x (take n xs) (h 0) (take_bytes n xs (rest_bytes x xs h))

byte_below : (i n : ℕ) → byte_at i n < 256
byte_below zero n = mod_below n 256 (lit< tt)
byte_below (suc i) n = mod_below (n / 256 ^ suc i) 256 (lit< tt)

number_bytes : (k n : ℕ) → IsBytes (bytes_high_first k n)
number_bytes zero n = nil_bytes
number_bytes (suc k) n = cons_bytes (byte_at k n) (bytes_high_first k n) (byte_below k n) (number_bytes k n)

words_bytes : (h : List ℕ) (n : ℕ) → IsBytes (digest_bytes h n)
unfolding digest_bytes
words_bytes h zero = nil_bytes
words_bytes h (suc n) = append_bytes (digest_bytes h n) (to_be_bytes w32 (slice_index h n)) (words_bytes h n) (number_bytes 4 (slice_index h n))

-- a hash is bytes
hash_bytes : (m : List ℕ) → IsBytes (sha256 m)
unfolding sha256
hash_bytes m = words_bytes _ 8

-- ## Ids

-- an id of a hash has 20 bytes
id_sized : (version : ℕ) (hash : List ℕ) (interface : ℕ) → version < 256 → length hash ≡ 32 → IsBytes hash → interface < 256 → IsSized 20 (id_bytes version hash interface)
id_sized version hash interface v long h i =
    let front : length (take 18 hash) ≡ 18 = length-take-le 18 hash (omega (arith, long)) in
    let last : IsBytes (interface ∷ []) = cons_bytes interface [] i nil_bytes in
    let rest : IsBytes (take 18 hash ++ interface ∷ []) = append_bytes (take 18 hash) (interface ∷ []) (take_bytes 18 hash h) last in
    (cons_bytes version (take 18 hash ++ interface ∷ []) v rest, omega (arith, length-append (take 18 hash) (interface ∷ []), front))

-- its last byte is the interface
id_interface : (version : ℕ) (hash : List ℕ) (interface : ℕ) → length hash ≡ 32 → slice_index (id_bytes version hash interface) 19 ≡ interface
id_interface version hash interface long =
    let front : length (take 18 hash) ≡ 18 = length-take-le 18 hash (omega (arith, long)) in
    let at : ℕ → ℕ = λ n. get_or (take 18 hash ++ interface ∷ []) n 0 in
    ap at (sym front) ∙ get_or-append_seam (take 18 hash) interface [] 0

-- an id or a seed that has its size
abbrev IsOrigin : Origin → Type 0
IsOrigin (origin.Given id) = IsSized 20 id.bytes
IsOrigin (origin.Seed _ _ _ seed) = IsSized 32 seed

pub ad_sized : (from : Origin) → IsAdOrigin from → IsOrigin from
ad_sized (origin.Given id) h = h
ad_sized (origin.Seed _ _ _ seed) h = h.1

pub eid_sized : (from : Origin) → IsEidOrigin from → IsOrigin from
eid_sized (origin.Given id) h = h
eid_sized (origin.Seed _ _ _ seed) h = h.1

byte_small : (n : ℕ) → nat_lt 255 n ≡ false → n < 256
byte_small n h = grind (arith, nat_tests)

-- the id that a line gives has 20 bytes
pub origin_sized : (from : Origin) → IsOrigin from → is_no_eid from ≡ false → IsSized 20 (id_from from).bytes
origin_sized (origin.Given id) size h = size
origin_sized (origin.Seed width height interface seed) size h =
    let hash = sha256 (public_key_of (key_from seed width height)) in
    id_sized 1 hash interface (lit< tt) (length-sha256 _) (hash_bytes _) (byte_small interface h)

-- its version isn't 0
pub origin_version : (from : Origin) → is_no_eid from ≡ false → has_version_0 (id_from from) ≡ false
origin_version (origin.Given id) h = h
origin_version (origin.Seed width height interface seed) h = refl

-- it is that of the key
pub origin_id : (from : Origin) → IsOrigin from → IsIdOf (key_of from) (id_from from)
origin_id (origin.Given id) size = tt
origin_id (origin.Seed width height interface seed) size =
    let public = public_key_of (key_from seed width height) in
    (size, ap (id_of_key public) (sym (id_interface 1 (sha256 public) interface (length-sha256 _))))

-- a domain's has no interface
pub origin_alone : (from : Origin) → is_no_ad from ≡ false → has_interface (id_from from) ≡ false
origin_alone (origin.Given id) h = (or_parts (has_version_0 id) (has_interface id) h).1
origin_alone (origin.Seed width height interface seed) h =
    let test : ℕ → Bool = λ n. not (n == 0) in
    ap test (id_interface 1 (sha256 (public_key_of (key_from seed width height))) interface (length-sha256 _)) ∙ h

no_interface_small : (n : ℕ) → not (n == 0) ≡ false → nat_lt 255 n ≡ false
no_interface_small n h = grind (arith, nat_tests)

-- what may be a domain's may be a host's
pub ad_may : (from : Origin) → is_no_ad from ≡ false → is_no_eid from ≡ false
ad_may (origin.Given id) h = (or_parts (has_version_0 id) (has_interface id) h).0
ad_may (origin.Seed width height interface seed) h = no_interface_small interface h

-- ## Ids and how lines give them

pub eid_key_again : (k : Key) (id : Id) → key_of (eid_origin k id) ≡ k
eid_key_again key.Given id = refl
eid_key_again (key.Made k) id = refl

pub eid_again : (k : Key) (id : Id) → IsIdOf k id → id_from (eid_origin k id) ≡ id
eid_again key.Given id h = refl
eid_again (key.Made k) id h = sym h.1

pub ad_key_again : (k : Key) (id : Id) → key_of (ad_origin k id) ≡ k
ad_key_again key.Given id = refl
ad_key_again (key.Made k) id = refl

no_interface : (n : ℕ) → not (n == 0) ≡ false → 0 ≡ n
no_interface n h = grind (arith, nat_tests)

pub ad_again : (k : Key) (id : Id) → IsIdOf k id → has_interface id ≡ false → id_from (ad_origin k id) ≡ id
ad_again key.Given id h alone = refl
ad_again (key.Made k) id h alone = ap (id_of_key (public_key_of k)) (no_interface (slice_index id.bytes 19) alone) ∙ sym h.1

byte_ranged : (n : ℕ) → n < 256 → nat_lt 255 n ≡ false
byte_ranged n h = grind (arith, nat_tests)

-- how a line gives the id of a domain or a host of a sound topology
pub ad_fits : (k : Key) (id : Id) → IsSized 20 id.bytes → IsIdOf k id → IsAdOrigin (ad_origin k id)
ad_fits key.Given id size is = size
ad_fits (key.Made k) id size is = (refl, is.0)

pub eid_fits : (k : Key) (id : Id) → IsSized 20 id.bytes → IsIdOf k id → IsEidOrigin (eid_origin k id)
eid_fits key.Given id size is = size
eid_fits (key.Made k) id size is =
    let wide : 256 < 10 ^ 15 = lit< tt in
    let byte = size.0 19 in
    (omega (arith, byte, wide), is.0)

pub eid_ranged : (k : Key) (id : Id) → IsSized 20 id.bytes → has_version_0 id ≡ false → is_no_eid (eid_origin k id) ≡ false
eid_ranged key.Given id size h = h
eid_ranged (key.Made k) id size h = byte_ranged (slice_index id.bytes 19) (size.0 19)

pub ad_ranged : (k : Key) (id : Id) → has_version_0 id ≡ false → has_interface id ≡ false → is_no_ad (ad_origin k id) ≡ false
ad_ranged key.Given id h alone = or_from (has_version_0 id) (has_interface id) h alone
ad_ranged (key.Made k) id h alone = refl

-- ## Identifiers

cons_identified : (id : List ℕ) (k : Key) (rest : Bool) (ids : List (List ℕ)) → rest ≡ has_text id ids → (is_identified id k || rest) ≡ has_text id (identifiers_in k ++ ids)
cons_identified id key.Given rest ids h = h
cons_identified id (key.Made k) rest ids h = ap (λ b. bytes_eq (identifier_of k.seed) id || b) h

any_domain_identifier : (id : List ℕ) (domains : List Domain) → list_any (is_domain_identified id) domains ≡ has_text id (domain_identifiers domains)
any_domain_identifier id [] = refl
any_domain_identifier id (d ∷ ds) = cons_identified id d.key _ (domain_identifiers ds) (any_domain_identifier id ds)

any_host_identifier : (id : List ℕ) (parts : List Part) → list_any (is_host_identified id) parts ≡ has_text id (host_identifiers parts)
any_host_identifier id [] = refl
any_host_identifier id (part.Host host ∷ ps) = cons_identified id host.key _ (host_identifiers ps) (any_host_identifier id ps)
any_host_identifier id (part.Link _ ∷ ps) = any_host_identifier id ps

-- the identifiers of lists that are joined
pub domain_identifiers_split : (ds : List Domain) (d : Domain) (rest : List Domain) → domain_identifiers (ds ++ d ∷ rest) ≡ domain_identifiers ds ++ (identifiers_in d.key ++ domain_identifiers rest)
domain_identifiers_split [] d rest = refl
domain_identifiers_split (x ∷ xs) d rest =
    ap (λ ids. identifiers_in x.key ++ ids) (domain_identifiers_split xs d rest)
    ∙ sym (append_assoc (identifiers_in x.key) (domain_identifiers xs) (identifiers_in d.key ++ domain_identifiers rest))

pub host_identifiers_split : (ps : List Part) (host : HostPart) (rest : List Part) → host_identifiers (ps ++ part.Host host ∷ rest) ≡ host_identifiers ps ++ (identifiers_in host.key ++ host_identifiers rest)
host_identifiers_split [] host rest = refl
host_identifiers_split (part.Host x ∷ ps) host rest =
    ap (λ ids. identifiers_in x.key ++ ids) (host_identifiers_split ps host rest)
    ∙ sym (append_assoc (identifiers_in x.key) (host_identifiers ps) (identifiers_in host.key ++ host_identifiers rest))
host_identifiers_split (part.Link _ ∷ ps) host rest = host_identifiers_split ps host rest

pub host_identifiers-link : (ps : List Part) (link : LinkPart) → host_identifiers (ps ++ part.Link link ∷ []) ≡ host_identifiers ps
host_identifiers-link [] link = refl
host_identifiers-link (part.Host x ∷ ps) link = ap (λ ids. identifiers_in x.key ++ ids) (host_identifiers-link ps link)
host_identifiers-link (part.Link _ ∷ ps) link = host_identifiers-link ps link

-- a key of none is none of the keys
new_identifier : (t : Topology) (k : lms.Key) → is_key_taken t (key.Made k) ≡ false → has_text (identifier_of k.seed) (identifiers_of t) ≡ false
new_identifier t k h =
    let id = identifier_of k.seed in
    let test : List ℕ → Bool = λ other. bytes_eq other id in
    let ds = domain_identifiers t.domains in
    let hs = host_identifiers t.parts in
    let parts = or_parts (list_any (is_domain_identified id) t.domains) (list_any (is_host_identified id) t.parts) h in
    let no_domain : list_any test ds ≡ false = sym (any_domain_identifier id t.domains) ∙ parts.0 in
    let no_host : list_any test hs ≡ false = sym (any_host_identifier id t.parts) ∙ parts.1 in
    list_any-append test ds hs ∙ or_from (list_any test ds) (list_any test hs) no_domain no_host

-- and a key that is none of the keys is that of none
pub key_alone : (t : Topology) (k : Key) (behind : List (List ℕ)) → AreDistinct (identifiers_of t ++ (identifiers_in k ++ behind)) → is_key_taken t k ≡ false
key_alone t key.Given behind h = refl
key_alone t (key.Made k) behind h =
    let id = identifier_of k.seed in
    let test : List ℕ → Bool = λ other. bytes_eq other id in
    let ds = domain_identifiers t.domains in
    let hs = host_identifiers t.parts in
    let none = before_middle (identifiers_of t) id behind h in
    let parts = or_parts (list_any test ds) (list_any test hs) (sym (list_any-append test ds hs) ∙ none) in
    or_from (list_any (is_domain_identified id) t.domains) (list_any (is_host_identified id) t.parts)
    (any_domain_identifier id t.domains ∙ parts.0) (any_host_identifier id t.parts ∙ parts.1)

-- the identifiers with that of one more domain's key
with_domain_key : (t : Topology) (k : Key) → AreDistinct (identifiers_of t) → is_key_taken t k ≡ false → AreDistinct (domain_identifiers t.domains ++ (identifiers_in k ++ host_identifiers t.parts))
with_domain_key t key.Given differ alone = differ
with_domain_key t (key.Made k) differ alone =
    inserted (domain_identifiers t.domains) (host_identifiers t.parts) (identifier_of k.seed) differ (new_identifier t k alone)

pub domain_more : (t : Topology) (d : Domain) → AreDistinct (identifiers_of t) → is_key_taken t d.key ≡ false → AreDistinct (domain_identifiers (t.domains ++ d ∷ []) ++ host_identifiers t.parts)
domain_more t d differ alone =
    let ds = domain_identifiers t.domains in
    let hs = host_identifiers t.parts in
    let ids = identifiers_in d.key in
    let joined : domain_identifiers (t.domains ++ d ∷ []) ++ hs ≡ ds ++ (ids ++ hs) =
    ap (λ l. l ++ hs) (domain_identifiers_split t.domains d [] ∙ ap (λ l. ds ++ l) (append-nil ids)) ∙ append_assoc ds ids hs in
    subst AreDistinct (sym joined) (with_domain_key t d.key differ alone)

-- the same of one more host's
with_host_key : (t : Topology) (k : Key) → AreDistinct (identifiers_of t) → is_key_taken t k ≡ false → AreDistinct (identifiers_of t ++ identifiers_in k)
with_host_key t key.Given differ alone = subst AreDistinct (sym (append-nil (identifiers_of t))) differ
with_host_key t (key.Made k) differ alone = added (identifiers_of t) (identifier_of k.seed) differ (new_identifier t k alone)

pub host_more : (t : Topology) (host : HostPart) → AreDistinct (identifiers_of t) → is_key_taken t host.key ≡ false → AreDistinct (domain_identifiers t.domains ++ host_identifiers (t.parts ++ part.Host host ∷ []))
host_more t host differ alone =
    let ds = domain_identifiers t.domains in
    let hs = host_identifiers t.parts in
    let ids = identifiers_in host.key in
    let joined : ds ++ host_identifiers (t.parts ++ part.Host host ∷ []) ≡ (ds ++ hs) ++ ids =
    ap (λ l. ds ++ l) (host_identifiers_split t.parts host [] ∙ ap (λ l. hs ++ l) (append-nil ids)) ∙ sym (append_assoc ds hs ids) in
    subst AreDistinct (sym joined) (with_host_key t host.key differ alone)
