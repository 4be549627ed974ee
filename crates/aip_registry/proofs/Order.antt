-- The order of records: records that it finds equal are about the same.
use Rattle.std.proofs.Common.{◌≡◌, ℕ, ◌&&◌, true, List, refl, sym, ◌∙◌, ap, eqb}
use Rattle.std.specs.Ordering.{nat_cmp, is_eq, ordering_then}
use Rattle.std.specs.Cmp.Lexicographic.{slice_cmp}
use Rattle.std.specs.Str.{bytes_eq}
use Rattle.std.specs.declared.cmp.Ordering.{Ordering}
use Rattle.std.specs.declared.cmp.Ordering.TheVariants.{Less, Equal, Greater}
use Rattle.std.proofs.lemmas.Cmp.{tied_itself, nat_list_cmp_total}
use Rattle.std.proofs.lemmas.Map.Lookups.{exact_bytes}
use Rattle.std.proofs.lemmas.Map.Text.{is_eq-slice_cmp}
use Rattle.aip_addr.specs.declared.ids.Id.{Id}
use Rattle.aip_registry.specs.declared.records.RecordKind.{RecordKind}
use Rattle.aip_registry.specs.declared.records.RecordKind.TheVariants.{Peer, Bind}
use Rattle.aip_registry.specs.declared.records.Record.{Record}
use Rattle.aip_registry.specs.Record.{kind_byte}
use Rattle.aip_registry.specs.Kept.{is_about, record_cmp}

both_equal : (x y : Ordering) → is_eq (ordering_then x y) ≡ is_eq x && is_eq y
both_equal Less y = refl
both_equal Equal y = refl
both_equal Greater y = refl

first_equal : (x y : Ordering) → ordering_then x y ≡ Equal → x ≡ Equal
first_equal Less y e = cc
first_equal Equal y e = refl
first_equal Greater y e = cc

second_equal : (x y : Ordering) → ordering_then x y ≡ Equal → y ≡ Equal
second_equal Less y e = cc
second_equal Equal y e = e
second_equal Greater y e = cc

pub equal_from : (o : Ordering) → is_eq o ≡ true → o ≡ Equal
equal_from Less e = cc
equal_from Equal e = refl
equal_from Greater e = cc

-- ---- kinds

same_kinds : (a b : RecordKind) → is_eq (nat_cmp (kind_byte a) (kind_byte b)) ≡ eqb (kind_byte a) (kind_byte b)
same_kinds Peer Peer = refl
same_kinds Peer Bind = refl
same_kinds Bind Peer = refl
same_kinds Bind Bind = refl

exact_kind : (a b : RecordKind) → nat_cmp (kind_byte a) (kind_byte b) ≡ Equal → a ≡ b
exact_kind Peer Peer e = refl
exact_kind Peer Bind e = let d : Less ≡ Equal = e in cc
exact_kind Bind Peer e = let d : Greater ≡ Equal = e in cc
exact_kind Bind Bind e = refl

kind_itself : (a : RecordKind) → nat_cmp (kind_byte a) (kind_byte a) ≡ Equal
kind_itself Peer = refl
kind_itself Bind = refl

-- ---- records

-- two records are about the same
pub record SameSubject (a b : Record) : Type 0 where
  pub kind : a.kind ≡ b.kind
  pub ad : a.ad ≡ b.ad
  pub other : a.other ≡ b.other

exact_id : (a b : Id) → slice_cmp nat_cmp a.bytes b.bytes ≡ Equal → a ≡ b
exact_id a b e = ap (λ (t : List ℕ). record { bytes = t }) (exact_bytes a.bytes b.bytes e)

-- the order finds equal what is about the same
pub equal_is_about : (a b : Record) → is_eq (record_cmp a b) ≡ is_about a.kind a.ad a.other b
equal_is_about a b =
    both_equal (nat_cmp (kind_byte a.kind) (kind_byte b.kind)) (ordering_then (slice_cmp nat_cmp a.ad.bytes b.ad.bytes) (slice_cmp nat_cmp a.other.bytes b.other.bytes))
    ∙ ap (λ t. t && is_eq (ordering_then (slice_cmp nat_cmp a.ad.bytes b.ad.bytes) (slice_cmp nat_cmp a.other.bytes b.other.bytes))) (same_kinds a.kind b.kind)
    ∙ ap (λ t. eqb (kind_byte a.kind) (kind_byte b.kind) && t)
    (both_equal (slice_cmp nat_cmp a.ad.bytes b.ad.bytes) (slice_cmp nat_cmp a.other.bytes b.other.bytes)
    ∙ ap (λ t. t && is_eq (slice_cmp nat_cmp a.other.bytes b.other.bytes)) (is_eq-slice_cmp a.ad.bytes b.ad.bytes)
    ∙ ap (λ t. bytes_eq a.ad.bytes b.ad.bytes && t) (is_eq-slice_cmp a.other.bytes b.other.bytes))

pub exact : (a b : Record) → record_cmp a b ≡ Equal → SameSubject a b
exact a b e =
    let kinds = nat_cmp (kind_byte a.kind) (kind_byte b.kind) in
    let ads = slice_cmp nat_cmp a.ad.bytes b.ad.bytes in
    let others = slice_cmp nat_cmp a.other.bytes b.other.bytes in
    let ids = second_equal kinds (ordering_then ads others) e in
    record {
      kind = exact_kind a.kind b.kind (first_equal kinds (ordering_then ads others) e);
      ad = exact_id a.ad b.ad (first_equal ads others ids);
      other = exact_id a.other b.other (second_equal ads others ids);
    }

itself : (a : Record) → record_cmp a a ≡ Equal
itself a =
    rw (kind_itself a.kind, tied_itself nat_list_cmp_total a.ad.bytes, tied_itself nat_list_cmp_total a.other.bytes) refl

pub equal_if_same : (a b : Record) → SameSubject a b → record_cmp a b ≡ Equal
equal_if_same a b same = ap (λ (r : Record). record_cmp a r) (sym (of_subject a b same)) ∙ itself_with a b.number b.until
  where
    of_subject : (a b : Record) → SameSubject a b → record { kind = a.kind; ad = a.ad; other = a.other; number = b.number; until = b.until } ≡ b
    of_subject a b same i = record { kind = same.kind i; ad = same.ad i; other = same.other i; number = b.number; until = b.until }

    itself_with : (a : Record) (n m : ℕ) → record_cmp a (record { kind = a.kind; ad = a.ad; other = a.other; number = n; until = m }) ≡ Equal
    itself_with a n m = itself a

-- a record that is about these is about nothing else
pub about_these : (kind : RecordKind) (ad other : Id) (r : Record) → is_about kind ad other r ≡ true
    → SameSubject (record { kind = kind; ad = ad; other = other; number = 0; until = 0 }) r
about_these kind ad other r e =
    let these : Record = record { kind = kind; ad = ad; other = other; number = 0; until = 0 } in
    exact these r (equal_from (record_cmp these r) (equal_is_about these r ∙ e))
