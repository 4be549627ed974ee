-- The records that are kept of those that were published: the newest of each kind, AD and other.
use Rattle.std.specs.Prelude.{◌≡◌, ℕ, Bool, true, false, not, ◌==◌, ◌&&◌, nat_le, if◌then◌else◌, List, [], ◌∷◌, find, Option, Some, None}
use Rattle.std.specs.Ordering.{match_ordering, nat_cmp, ordering_then}
use Rattle.std.specs.Cmp.Lexicographic.{slice_cmp}
use Rattle.std.specs.List.Sorted.{IsStrictlySortedBy}
use Rattle.std.specs.declared.cmp.Ordering.{Ordering}
use Rattle.aip_addr.specs.Ids.{is_owner, is_same_id}
use Rattle.aip_addr.specs.declared.ids.Id.{Id}
use Rattle.lms_core.specs.Verify.{is_valid_signature}
use Rattle.aip_registry.specs.Record.{kind_byte, is_record, fields_in, key_in, signature_in, record_text_of}
use Rattle.aip_registry.specs.declared.records.RecordKind.{RecordKind}
use Rattle.aip_registry.specs.declared.records.Record.{Record}
use Rattle.aip_registry.specs.declared.published.Published.{Published}
use Rattle.aip_registry.specs.declared.published.Published.TheVariants as published

-- ---- which records are kept

-- whether the key in a record owns the AD of its signer
unfoldable pub has_key : List ℕ → Bool
has_key bytes = is_owner (key_in bytes) (fields_in bytes).ad

-- whether the signature in a record is valid under its key
unfoldable pub has_signature : List ℕ → Bool
has_signature bytes = is_valid_signature (key_in bytes) (record_text_of (fields_in bytes)) (signature_in bytes)

-- whether bytes are a record that its signer signed
abbrev pub is_genuine : List ℕ → Bool
is_genuine bytes = is_record bytes && (has_key bytes && has_signature bytes)

-- whether a record is of this kind, by this AD, on this other
abbrev pub is_about : RecordKind → Id → Id → Record → Bool
is_about kind ad other r =
    (kind_byte kind == kind_byte r.kind) && (is_same_id ad r.ad && is_same_id other r.other)

-- of a record and an earlier one, the one with the greater number, and the earlier where they are equal
abbrev pub newer_of : Record → Option Record → Option Record
newer_of r None = Some r
newer_of r (Some earlier) = if nat_le r.number earlier.number then Some earlier else Some r

-- the newest of the genuine records among byte strings that pass a test, the last published first: the one with the greatest number, the first published where numbers are equal
abbrev pub newest_that : (Record → Bool) → List (List ℕ) → Option Record
newest_that test [] = None
newest_that test (bytes ∷ earlier) =
    if is_genuine bytes && test (fields_in bytes) then newer_of (fields_in bytes) (newest_that test earlier) else
    newest_that test earlier

-- the newest of this kind, by this AD, on this other
abbrev pub newest : RecordKind → Id → Id → List (List ℕ) → Option Record
newest kind ad other published = newest_that (is_about kind ad other) published

-- ---- publishing

-- the record of this kind, by this AD, on this other, among those that are kept
abbrev pub kept_on : RecordKind → Id → Id → List Record → Option Record
kept_on kind ad other kept = find (is_about kind ad other) kept

-- what is said of a number where a record is kept already: it is old where it isn't greater
abbrev pub against : Option Record → ℕ → Published
against None number = published.Ok
against (Some r) number = if nat_le number r.number then published.Old r.number else published.Ok

-- what is said of bytes that are published to those that are kept, by the first line that applies
abbrev pub publication : List Record → List ℕ → Published
publication kept bytes =
    let r = fields_in bytes in
    if not (is_record bytes) then published.Body else
    if not (has_key bytes) then published.Key else
    if not (has_signature bytes) then published.Signature else
    against (kept_on r.kind r.ad r.other kept) r.number

-- the order in which records are kept: peerings first, then by ADs, then by peers or hosts
abbrev pub record_cmp : Record → Record → Ordering
record_cmp a b =
    ordering_then (nat_cmp (kind_byte a.kind) (kind_byte b.kind))
    (ordering_then (slice_cmp nat_cmp a.ad.bytes b.ad.bytes) (slice_cmp nat_cmp a.other.bytes b.other.bytes))

-- the records in order, with one that takes the place of the record of its kind, AD and other, or comes to it
abbrev pub with_record : Record → List Record → List Record
with_record r [] = r ∷ []
with_record r (k ∷ ks) = match_ordering (record_cmp r k) (r ∷ k ∷ ks) (r ∷ ks) (k ∷ with_record r ks)

-- whether a record is taken
abbrev pub is_taken : Published → Bool
is_taken published.Ok = true
is_taken published.Body = false
is_taken published.Key = false
is_taken published.Signature = false
is_taken (published.Old number) = false

-- the records that are kept after bytes are published
abbrev pub after : List Record → List ℕ → List Record
after kept bytes = if is_taken (publication kept bytes) then with_record (fields_in bytes) kept else kept

-- the record in bytes comes to those that are kept, and takes no place of another
pub record IsAdded (kept : List Record) (bytes : List ℕ) : Type 0 where
  pub taken : publication kept bytes ≡ published.Ok
  pub other : kept_on (fields_in bytes).kind (fields_in bytes).ad (fields_in bytes).other kept ≡ None

-- the records that are kept of byte strings, the last published first
abbrev pub kept_records : List (List ℕ) → List Record
kept_records [] = []
kept_records (bytes ∷ earlier) = after (kept_records earlier) bytes

-- the records are in order, none twice
abbrev pub IsInOrder : List Record → Type 0
IsInOrder records = IsStrictlySortedBy record_cmp records

-- the number of a refusal, 1 to 4 in the order of the lines; 0 for a record that is taken
abbrev pub refusal_number : Published → ℕ
refusal_number published.Ok = 0
refusal_number published.Body = 1
refusal_number published.Key = 2
refusal_number published.Signature = 3
refusal_number (published.Old number) = 4
