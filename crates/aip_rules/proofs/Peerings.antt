-- Peering records of one domain for another: what the tests of a record say of bytes, and which of all that were published
-- is the newest.
use Rattle.std.proofs.Common.{◌≡◌, ℕ, zero, suc, ◌<◌, ◌≤◌, ◌==◌, ◌&&◌, Bool, true, false, cond, List, [], ◌∷◌, ◌++◌, length, take, drop, Option, Some, None, refl, sym, ap, subst, ◌∙◌, true≢false, arith}
use Rattle.std.proofs.lemmas.Bool.{and_parts, and_from, eqb-true, eq-eqb, leb-true, leb-false, le-leb, lt-leb}
use Rattle.std.proofs.lemmas.List.Elements.{All-nil, All-cons, All-head, All-tail, All-append, All-weaker}
use Rattle.std.specs.Cmp.Lexicographic.{bytes_decides}
use Rattle.std.specs.Prelude.{All, nat_le, slice_index}
use Rattle.std.specs.Str.{bytes_eq}
use Rattle.sha2.specs.Sha256.{sha256}
use Rattle.aip_addr.specs.Ids.{is_owner, Owns}
use Rattle.aip_addr.specs.declared.ids.Id.{Id}
use Rattle.lms_core.specs.Verify.{IsValidSignature}
use Rattle.aip_registry.specs.declared.records.Record.{Record}
use Rattle.aip_registry.specs.declared.records.RecordKind.{RecordKind}
use Rattle.aip_registry.specs.declared.records.RecordKind.TheVariants.{Peer}
use Rattle.aip_registry.specs.Record.{fields_in, is_record, key_in, kind_at, kind_byte, record_text_of, signature_in}
use Rattle.aip_registry.specs.Kept.{has_key, has_signature, is_about, is_genuine, newer_of, newest}
use Rattle.aip_rules.specs.Promises.{IsPeering}
use Rattle.aip_rules.proofs.SilentOrders.{owns}

-- ---- the tests

owns_so : (key : List ℕ) (id : Id) → Owns key id → is_owner key id ≡ true
owns_so key id h =
    and_from (slice_index id.bytes 0 == 1) (bytes_eq (take 18 (drop 1 id.bytes)) (take 18 (sha256 key)))
    (eq-eqb (slice_index id.bytes 0) 1 h.0) ((bytes_decides (take 18 (drop 1 id.bytes)) (take 18 (sha256 key))).1 h.1)

same_id_so : (a b : Id) → bytes_eq a.bytes b.bytes ≡ true → b ≡ a
same_id_so a b e =
    let bytes = sym ((bytes_decides a.bytes b.bytes).0 e) in
    λ i. record { bytes = bytes i }

id_so_same : (a b : Id) → b ≡ a → bytes_eq a.bytes b.bytes ≡ true
id_so_same a b e = (bytes_decides a.bytes b.bytes).1 (sym (ap (λ (id : Id). id.bytes) e))

-- the kind is a peering's exactly where its byte is 0
kind_so : (n : ℕ) → (0 == kind_byte (kind_at n)) ≡ true → n ≡ 0
kind_so zero e = refl
kind_so (suc n) e = absurd (true≢false (sym e))

kind_in : (bytes : List ℕ) → (fields_in bytes).kind ≡ kind_at (slice_index bytes 1)
unfolding fields_in
kind_in bytes = refl

key_so : (bytes : List ℕ) → has_key bytes ≡ true → Owns (key_in bytes) (fields_in bytes).ad
unfolding has_key
key_so bytes e = owns (key_in bytes) (fields_in bytes).ad e

so_key : (bytes : List ℕ) → Owns (key_in bytes) (fields_in bytes).ad → has_key bytes ≡ true
unfolding has_key
so_key bytes h = owns_so (key_in bytes) (fields_in bytes).ad h

signature_so : (bytes : List ℕ) → has_signature bytes ≡ true → IsValidSignature (key_in bytes) (record_text_of (fields_in bytes)) (signature_in bytes)
unfolding has_signature
signature_so bytes e = e

so_signature : (bytes : List ℕ) → IsValidSignature (key_in bytes) (record_text_of (fields_in bytes)) (signature_in bytes) → has_signature bytes ≡ true
unfolding has_signature
so_signature bytes h = h

-- what the test of a record's form finds
record IsFormed (bytes : List ℕ) : Type 0 where
  long : 114 ≤ length bytes
  version : slice_index bytes 0 ≡ 1

formed : (bytes : List ℕ) → is_record bytes ≡ true → IsFormed bytes
formed bytes e =
    let parts = and_parts (nat_le 114 (length bytes)) ((slice_index bytes 0 == 1) && nat_le (slice_index bytes 1) 1) e in
    let bits = and_parts (slice_index bytes 0 == 1) (nat_le (slice_index bytes 1) 1) parts.1 in
    record { long = leb-true 114 (length bytes) parts.0; version = eqb-true (slice_index bytes 0) 1 bits.0 }

so_formed : (bytes : List ℕ) → 114 ≤ length bytes → slice_index bytes 0 ≡ 1 → slice_index bytes 1 ≡ 0 → is_record bytes ≡ true
so_formed bytes long version kind =
    and_from (nat_le 114 (length bytes)) ((slice_index bytes 0 == 1) && nat_le (slice_index bytes 1) 1) (le-leb 114 (length bytes) long)
    (and_from (slice_index bytes 0 == 1) (nat_le (slice_index bytes 1) 1) (eq-eqb (slice_index bytes 0) 1 version) (ap (λ (n : ℕ). nat_le n 1) kind))

-- of a record and an earlier one, one is the newer
either_stays : (r k : Record) (b : Bool) → cond b (Some k) (Some r) ≡ None → ⊥
either_stays r k true e = cc
either_stays r k false e = cc

some_newer : (r : Record) (o : Option Record) → newer_of r o ≡ None → ⊥
some_newer r None e = cc
some_newer r (Some k) e = either_stays r k (nat_le r.number k.number) e

module _ (own other : Id) where
  -- bytes pass the tests of a peering record of one domain for the other
  abbrev pub is_peering : List ℕ → Bool
  is_peering bytes = is_genuine bytes && is_about Peer own other (fields_in bytes)

  -- then they are one
  pub peering_so : (bytes : List ℕ) → is_peering bytes ≡ true → IsPeering own other bytes
  peering_so bytes e =
      let r = fields_in bytes in
      let halves = and_parts (is_genuine bytes) (is_about Peer own other r) e in
      let genuine = and_parts (is_record bytes) (has_key bytes && has_signature bytes) halves.0 in
      let holder = and_parts (has_key bytes) (has_signature bytes) genuine.1 in
      let about = and_parts (kind_byte Peer == kind_byte r.kind) (bytes_eq own.bytes r.ad.bytes && bytes_eq other.bytes r.other.bytes) halves.1 in
      let ids = and_parts (bytes_eq own.bytes r.ad.bytes) (bytes_eq other.bytes r.other.bytes) about.1 in
      let form = formed bytes genuine.0 in
      let by : r.ad ≡ own = same_id_so own r.ad ids.0 in
      record {
        long = form.long;
        version = form.version;
        kind = kind_so (slice_index bytes 1) (sym (ap (λ (k : RecordKind). kind_byte Peer == kind_byte k) (kind_in bytes)) ∙ about.0);
        by = by;
        names = same_id_so other r.other ids.1;
        owner = subst (λ (id : Id). Owns (key_in bytes) id) by (key_so bytes holder.0);
        signed = signature_so bytes holder.1;
      }

  -- and no others are
  pub so_peering : (bytes : List ℕ) → IsPeering own other bytes → is_peering bytes ≡ true
  so_peering bytes is =
      let r = fields_in bytes in
      and_from (is_genuine bytes) (is_about Peer own other r)
      (and_from (is_record bytes) (has_key bytes && has_signature bytes) (so_formed bytes is.long is.version is.kind)
      (and_from (has_key bytes) (has_signature bytes)
      (so_key bytes (subst (λ (id : Id). Owns (key_in bytes) id) (sym is.by) is.owner)) (so_signature bytes is.signed)))
      (and_from (kind_byte Peer == kind_byte r.kind) (bytes_eq own.bytes r.ad.bytes && bytes_eq other.bytes r.other.bytes)
      (ap (λ (k : RecordKind). kind_byte Peer == kind_byte k) (kind_in bytes) ∙ ap (λ (n : ℕ). 0 == kind_byte (kind_at n)) is.kind)
      (and_from (bytes_eq own.bytes r.ad.bytes) (bytes_eq other.bytes r.other.bytes) (id_so_same own r.ad is.by) (id_so_same other r.other is.names)))

  no_peering : (bytes : List ℕ) → is_peering bytes ≡ false → IsPeering own other bytes → ⊥
  no_peering bytes e is = true≢false (sym (so_peering bytes is) ∙ e)

  -- ---- the newest

  -- the newest of these
  abbrev pub newest_peering : List (List ℕ) → Option Record
  newest_peering published = newest Peer own other published

  -- if bytes are a peering record, its number is at most this one, or below it
  abbrev pub IsAtMost : ℕ → List ℕ → Type 0
  IsAtMost n bytes = IsPeering own other bytes → (fields_in bytes).number ≤ n

  abbrev pub IsBelow : ℕ → List ℕ → Type 0
  IsBelow n bytes = IsPeering own other bytes → (fields_in bytes).number < n

  -- one of the byte strings is a peering record that none later outdoes, and that outdoes all earlier ones
  pub record IsNewest (published : List (List ℕ)) (r : Record) : Type 0 where
    pub later : List (List ℕ)
    pub bytes : List ℕ
    pub earlier : List (List ℕ)
    pub parts : published ≡ later ++ (bytes ∷ earlier)
    pub said : fields_in bytes ≡ r
    pub peering : IsPeering own other bytes
    pub stands : All (IsAtMost r.number) later
    pub replaces : All (IsBelow r.number) earlier

  -- all are at most the newest
  all_at_most : (published : List (List ℕ)) (r : Record) → IsNewest published r → All (IsAtMost r.number) published
  all_at_most published r is =
      subst (All (IsAtMost r.number)) (sym is.parts)
      (All-append (IsAtMost r.number) is.later (is.bytes ∷ is.earlier) is.stands
      (All-cons (IsAtMost r.number) is.bytes is.earlier (λ p. let same : (fields_in is.bytes).number ≡ r.number = ap (λ (k : Record). k.number) is.said in omega arith)
      (All-weaker (IsBelow r.number) (IsAtMost r.number) (λ bytes below p. let less = below p in omega arith) is.earlier is.replaces)))

  -- one more that doesn't outdo it
  one_more : (bytes : List ℕ) (published : List (List ℕ)) (r : Record) → IsAtMost r.number bytes → IsNewest published r → IsNewest (bytes ∷ published) r
  one_more bytes published r most is = record {
    later = bytes ∷ is.later;
    bytes = is.bytes;
    earlier = is.earlier;
    parts = ap (λ (t : List (List ℕ)). bytes ∷ t) is.parts;
    said = is.said;
    peering = is.peering;
    stands = All-cons (IsAtMost r.number) bytes is.later most is.stands;
    replaces = is.replaces;
  }

  -- one more that outdoes all
  outdoes : (bytes : List ℕ) (published : List (List ℕ)) → IsPeering own other bytes → All (IsBelow (fields_in bytes).number) published → IsNewest (bytes ∷ published) (fields_in bytes)
  outdoes bytes published peering below = record {
    later = [];
    bytes = bytes;
    earlier = published;
    parts = refl;
    said = refl;
    peering = peering;
    stands = All-nil (IsAtMost (fields_in bytes).number);
    replaces = below;
  }

  -- where there is no newest, there is none
  none_found : (n : ℕ) (published : List (List ℕ)) → newest_peering published ≡ None → All (IsBelow n) published
  none_found n [] e = All-nil (IsBelow n)
  none_found n (bytes ∷ earlier) e = by (is_peering bytes) refl (newest_peering earlier) e (none_found n earlier)
    where
      by : (t : Bool) → is_peering bytes ≡ t → (o : Option Record) → cond t (newer_of (fields_in bytes) o) o ≡ None → (o ≡ None → All (IsBelow n) earlier)
          → All (IsBelow n) (bytes ∷ earlier)
      by true is o e none = absurd (some_newer (fields_in bytes) o e)
      by false is o e none = All-cons (IsBelow n) bytes earlier (λ p. absurd (no_peering bytes is p)) (none e)

  -- the newest that is found is the newest
  pub found_newest : (published : List (List ℕ)) (r : Record) → newest_peering published ≡ Some r → IsNewest published r
  found_newest [] r e = absurd cc
  found_newest (bytes ∷ earlier) r e = by (is_peering bytes) refl (newest_peering earlier) refl e (found_newest earlier)
    where
      chosen : (k : Record) → IsPeering own other bytes → IsNewest earlier k → (le : Bool) → nat_le (fields_in bytes).number k.number ≡ le
          → cond le (Some k) (Some (fields_in bytes)) ≡ Some r → IsNewest (bytes ∷ earlier) r
      chosen k p is true t e =
          let same : k ≡ r = cc in
          subst (IsNewest (bytes ∷ earlier)) same (one_more bytes earlier k (λ p. leb-true (fields_in bytes).number k.number t) is)
      chosen k p is false t e =
          let same : fields_in bytes ≡ r = cc in
          let less = leb-false (fields_in bytes).number k.number t in
          subst (IsNewest (bytes ∷ earlier)) same
          (outdoes bytes earlier p (All-weaker (IsAtMost k.number) (IsBelow (fields_in bytes).number) (λ other most p. let most = most p in omega arith) earlier (all_at_most earlier k is)))

      by : (t : Bool) → is_peering bytes ≡ t → (o : Option Record) → newest_peering earlier ≡ o → cond t (newer_of (fields_in bytes) o) o ≡ Some r
          → ((k : Record) → newest_peering earlier ≡ Some k → IsNewest earlier k) → IsNewest (bytes ∷ earlier) r
      by true is None was e found =
          let same : fields_in bytes ≡ r = cc in
          subst (IsNewest (bytes ∷ earlier)) same (outdoes bytes earlier (peering_so bytes is) (none_found (fields_in bytes).number earlier was))
      by true is (Some k) was e found = chosen k (peering_so bytes is) (found k was) (nat_le (fields_in bytes).number k.number) refl e
      by false is o was e found = one_more bytes earlier r (λ p. absurd (no_peering bytes is p)) (found r (was ∙ e))

  -- the newest of records below a number is below it
  newest_below : (n : ℕ) (published : List (List ℕ)) (r : Record) → newest_peering published ≡ Some r → All (IsBelow n) published → r.number < n
  newest_below n published r e below =
      let is = found_newest published r e in
      let rest = All-tail-of is.later is.bytes is.earlier (subst (All (IsBelow n)) is.parts below) in
      subst (λ (k : Record). k.number < n) is.said (rest is.peering)
    where
      All-tail-of : (later : List (List ℕ)) (bytes : List ℕ) (earlier : List (List ℕ)) → All (IsBelow n) (later ++ (bytes ∷ earlier)) → IsBelow n bytes
      All-tail-of [] bytes earlier h = All-head (IsBelow n) bytes earlier h
      All-tail-of (first ∷ later) bytes earlier h = All-tail-of later bytes earlier (All-tail (IsBelow n) first (later ++ (bytes ∷ earlier)) h)

  -- and the newest is what is found
  pub newest_found : (later : List (List ℕ)) (bytes : List ℕ) (earlier : List (List ℕ)) → IsPeering own other bytes
      → All (IsAtMost (fields_in bytes).number) later → All (IsBelow (fields_in bytes).number) earlier
      → newest_peering (later ++ (bytes ∷ earlier)) ≡ Some (fields_in bytes)
  newest_found [] bytes earlier peering stands replaces = by (is_peering bytes) (so_peering bytes peering) (newest_peering earlier) refl
    where
      outdone : (k : Record) → k.number < (fields_in bytes).number → (le : Bool) → nat_le (fields_in bytes).number k.number ≡ le
          → cond le (Some k) (Some (fields_in bytes)) ≡ Some (fields_in bytes)
      outdone k less true t = absurd (true≢false (sym t ∙ lt-leb (fields_in bytes).number k.number less))
      outdone k less false t = refl

      by : (t : Bool) → t ≡ true → (o : Option Record) → newest_peering earlier ≡ o → cond t (newer_of (fields_in bytes) o) o ≡ Some (fields_in bytes)
      by true e None was = refl
      by true e (Some k) was = outdone k (newest_below (fields_in bytes).number earlier k was replaces) (nat_le (fields_in bytes).number k.number) refl
      by false e o was = absurd (true≢false (sym e))
  newest_found (first ∷ later) bytes earlier peering stands replaces =
      by (is_peering first) refl (newest_peering (later ++ (bytes ∷ earlier)))
      (newest_found later bytes earlier peering (All-tail (IsAtMost (fields_in bytes).number) first later stands) replaces)
    where
      kept : (le : Bool) → le ≡ true → cond le (Some (fields_in bytes)) (Some (fields_in first)) ≡ Some (fields_in bytes)
      kept true e = refl
      kept false e = absurd (true≢false (sym e))

      most : IsPeering own other first → nat_le (fields_in first).number (fields_in bytes).number ≡ true
      most p =
          le-leb (fields_in first).number (fields_in bytes).number (All-head (IsAtMost (fields_in bytes).number) first later stands p)

      by : (t : Bool) → is_peering first ≡ t → (o : Option Record) → o ≡ Some (fields_in bytes) → cond t (newer_of (fields_in first) o) o ≡ Some (fields_in bytes)
      by true is o was =
          ap (λ (o : Option Record). newer_of (fields_in first) o) was
          ∙ kept (nat_le (fields_in first).number (fields_in bytes).number) (most (peering_so first is))
      by false is o was = was
