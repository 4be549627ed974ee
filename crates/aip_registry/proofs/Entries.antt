-- The entries of a registry against the records that they stand for.
use Rattle.std.proofs.Common.{◌≡◌, Bool, true, false, cond, List, [], ◌∷◌, Option, Some, None, refl, sym, ◌∙◌, ap}
use Rattle.std.specs.Prelude.{option_map, OnErr, Result, Ok, Err}
use Rattle.std.specs.List.{AllByRecursion}
use Rattle.std.specs.List.Sorted.{IsStrictlySortedBy}
use Rattle.std.specs.Map.{lookup, keys_of}
use Rattle.std.specs.BTreeMap.{insert_entry, is_at}
use Rattle.std.specs.Ordering.{is_eq, match_ordering, nat_cmp, ordering_then}
use Rattle.std.specs.Cmp.Lexicographic.{slice_cmp}
use Rattle.std.specs.declared.cmp.Ordering.{Ordering}
use Rattle.std.specs.declared.cmp.Ordering.TheVariants.{Less, Equal, Greater}
use Rattle.aip_registry.specs.declared.records.RecordKind.{RecordKind}
use Rattle.aip_registry.specs.declared.records.RecordKind.TheVariants.{Peer, Bind}
use Rattle.aip_registry.specs.declared.records.Record.{Record}
use Rattle.aip_registry.specs.declared.registry.Subject.{Subject}
use Rattle.aip_registry.specs.declared.registry.Term.{Term}
use Rattle.aip_registry.specs.contracts.records.RecordKindOrd.TheImpl as kind_ord
use Rattle.aip_registry.specs.contracts.registry.SubjectOrd.TheImpl as subject_ord
use Rattle.aip_registry.specs.Entries.{record_at, records_in, subject_of, term_of}
use Rattle.aip_registry.specs.Record.{kind_byte}
use Rattle.aip_registry.specs.Kept.{is_about, kept_on, record_cmp, with_record, IsInOrder}
use Rattle.aip_registry.proofs.Order.{equal_is_about, exact, SameSubject}

abbrev kind_cmp : RecordKind → RecordKind → Ordering
kind_cmp = (kind_ord.ghosts).cmp

-- the order of subjects
abbrev pub subject_cmp : Subject → Subject → Ordering
subject_cmp = (subject_ord.ghosts).cmp

kind_order : (a b : RecordKind) → kind_cmp a b ≡ nat_cmp (kind_byte a) (kind_byte b)
kind_order Peer Peer = refl
kind_order Peer Bind = refl
kind_order Bind Peer = refl
kind_order Bind Bind = refl

-- the order of subjects is that of records on them
pub same_order : (a b : Subject) (t u : Term) → subject_cmp a b ≡ record_cmp (record_at (a, t)) (record_at (b, u))
same_order a b t u =
    ap (λ (o : Ordering). ordering_then o (ordering_then (slice_cmp nat_cmp a.ad.bytes b.ad.bytes) (slice_cmp nat_cmp a.other.bytes b.other.bytes))) (kind_order a.kind b.kind)

-- what is found at a subject is what is kept on it
pub found : (s : Subject) (es : List (Subject × Term)) → lookup (is_at (subject_cmp s)) es ≡ option_map term_of (kept_on s.kind s.ad s.other (records_in es))
found s [] = refl
found s (e ∷ es) =
    by (is_eq (subject_cmp s e.0)) (is_about s.kind s.ad s.other (record_at e)) (ap is_eq (same_order s e.0 e.1 e.1) ∙ equal_is_about (record_at (s, e.1)) (record_at e))
    (lookup (is_at (subject_cmp s)) es) (kept_on s.kind s.ad s.other (records_in es)) (found s es)
  where
    by : (b d : Bool) → b ≡ d → (f : Option Term) (g : Option Record) → f ≡ option_map term_of g → cond b (Some e.1) f ≡ option_map term_of (cond d (Some (record_at e)) g)
    by b true same f g rest = ap (λ (x : Bool). cond x (Some e.1) f) same
    by b false same f g rest = ap (λ (x : Bool). cond x (Some e.1) f) same ∙ rest

-- what is put at the subject of a record is put among the records
pub put : (r : Record) (es : List (Subject × Term)) → records_in (insert_entry subject_cmp es (subject_of r) (term_of r)) ≡ with_record r (records_in es)
put r [] = refl
put r (e ∷ es) = by (subject_cmp (subject_of r) e.0) (record_cmp r (record_at e)) (same_order (subject_of r) e.0 (term_of r) e.1) (exact r (record_at e))
    (insert_entry subject_cmp es (subject_of r) (term_of r)) (with_record r (records_in es)) (put r es)
  where
    in_place : SameSubject r (record_at e) → record_at (e.0, term_of r) ≡ r
    in_place same i = record { kind = sym same.kind i; ad = sym same.ad i; other = sym same.other i; number = r.number; until = r.until }

    by : (o p : Ordering) → o ≡ p → (p ≡ Equal → SameSubject r (record_at e)) → (fs : List (Subject × Term)) (ks : List Record) → records_in fs ≡ ks
        → records_in (match_ordering o ((subject_of r, term_of r) ∷ e ∷ es) ((e.0, term_of r) ∷ es) (e ∷ fs))
        ≡ match_ordering p (r ∷ record_at e ∷ records_in es) (r ∷ records_in es) (record_at e ∷ ks)
    by o Less same equal fs ks rest = ap (λ (x : Ordering). records_in (match_ordering x ((subject_of r, term_of r) ∷ e ∷ es) ((e.0, term_of r) ∷ es) (e ∷ fs))) same
    by o Equal same equal fs ks rest =
        ap (λ (x : Ordering). records_in (match_ordering x ((subject_of r, term_of r) ∷ e ∷ es) ((e.0, term_of r) ∷ es) (e ∷ fs))) same
        ∙ ap (λ (k : Record). k ∷ records_in es) (in_place (equal refl))
    by o Greater same equal fs ks rest =
        ap (λ (x : Ordering). records_in (match_ordering x ((subject_of r, term_of r) ∷ e ∷ es) ((e.0, term_of r) ∷ es) (e ∷ fs))) same
        ∙ ap (λ (t : List Record). record_at e ∷ t) rest

before_all : (s : Subject) (t : Term) (es : List (Subject × Term)) → AllByRecursion (λ k. subject_cmp s k ≡ Less) (keys_of es)
    → AllByRecursion (λ r. record_cmp (record_at (s, t)) r ≡ Less) (records_in es)
before_all s t [] h = tt
before_all s t (e ∷ es) h = (sym (same_order s e.0 t e.1) ∙ h.0, before_all s t es h.1)

-- records of entries in order are in order
pub in_order : (es : List (Subject × Term)) → IsStrictlySortedBy subject_cmp (keys_of es) → IsInOrder (records_in es)
unfolding IsStrictlySortedBy
in_order [] h = tt
in_order (e ∷ es) h = (before_all e.0 e.1 es h.0, in_order es h.1)

none_from : (o : Option Record) → option_map term_of o ≡ None → o ≡ None
none_from None e = refl
none_from (Some r) e = cc

-- where nothing is found at a subject, nothing is kept on it
pub none_kept : (r : Record) (es : List (Subject × Term)) → lookup (is_at (subject_cmp (subject_of r))) es ≡ None → kept_on r.kind r.ad r.other (records_in es) ≡ None
none_kept r es e = none_from (kept_on r.kind r.ad r.other (records_in es)) (sym (found (subject_of r) es) ∙ e)

-- the same of the records that are kept
pub none_at : (r : Record) (s : Subject) (es : List (Subject × Term)) (kept : List Record) → lookup (is_at (subject_cmp s)) es ≡ None → s ≡ subject_of r
    → records_in es ≡ kept → kept_on r.kind r.ad r.other kept ≡ None
none_at r s es kept e at is =
    ap (λ (ks : List Record). kept_on r.kind r.ad r.other ks) (sym is)
    ∙ none_kept r es (ap (λ (x : Subject). lookup (is_at (subject_cmp x)) es) (sym at) ∙ e)

-- a record is put among the records that are kept
pub put_at : (r : Record) (s : Subject) (old new : List (Subject × Term)) (kept : List Record) → new ≡ insert_entry subject_cmp old s (term_of r) → s ≡ subject_of r
    → records_in old ≡ kept → records_in new ≡ with_record r kept
put_at r s old new kept e at is =
    ap records_in (e ∙ ap (λ (x : Subject). insert_entry subject_cmp old x (term_of r)) at)
    ∙ put r old ∙ ap (λ (ks : List Record). with_record r ks) is

-- what is found at a subject is what is kept on it
pub found_at : (s : Subject) (es : List (Subject × Term)) (kept : List Record) (o : Option Term) → o ≡ lookup (is_at (subject_cmp s)) es → records_in es ≡ kept
    → o ≡ option_map term_of (kept_on s.kind s.ad s.other kept)
found_at s es kept o e is =
    e ∙ found s es ∙ ap (λ (ks : List Record). option_map term_of (kept_on s.kind s.ad s.other ks)) is

-- what holds anyway holds on an error
pub on_error : {T E P : Type 0} (r : Result T E) → P → OnErr r P
on_error (Ok x) p = tt
on_error (Err e) p = p
