-- The parts of the verdict on a record.
use Rattle.std.proofs.Common.{◌≡◌, ◌↔◌, ℕ, Bool, true, false, cond, List, drop, Option, Some, None, refl, sym, ◌∙◌, ap}
use Rattle.std.specs.Prelude.{nat_le, not}
use Rattle.lms_core.specs.Verify.{is_valid_signature}
use Rattle.aip_registry.specs.declared.records.Record.{Record}
use Rattle.aip_addr.specs.declared.ids.Id.{Id}
use Rattle.aip_registry.specs.declared.published.Published.TheVariants as published
use Rattle.aip_registry.specs.Record.{fields_in, is_record, key_in, record_text_of, signer_in}
use Rattle.aip_registry.specs.Kept.{against, has_key, has_signature, kept_on, publication}

-- the verdict on the signature, from its parts
pub signed : (bytes key text signature : List ℕ) (fields : Record) (b : Bool) → b ≡ is_valid_signature key text signature → key ≡ key_in bytes
    → text ≡ record_text_of fields → fields ≡ fields_in bytes → signature ≡ drop 114 bytes → b ≡ has_signature bytes
unfolding has_signature
signed bytes key text signature fields b v k t f s =
    v ∙ (ap (λ (x : List ℕ). is_valid_signature x text signature) k
    ∙ (ap (λ (x : List ℕ). is_valid_signature (key_in bytes) x signature) (t ∙ ap record_text_of f)
    ∙ ap (λ (x : List ℕ). is_valid_signature (key_in bytes) (record_text_of (fields_in bytes)) x) s))

module _ (kept : List Record) (bytes : List ℕ) where
  -- bytes that are no record are refused as such
  refused_as_body : (b : Bool) → is_record bytes ≡ b → b ≡ false → publication kept bytes ≡ published.Body
  refused_as_body b at e = rw (at, e) refl

  not_body : (o : Option Record) (n : ℕ) → against o n ≡ published.Body → ⊥
  not_body None n e = cc
  not_body (Some r) n e = by (nat_le n r.number) e
    where
      by : (b : Bool) → cond b (published.Old r.number) published.Ok ≡ published.Body → ⊥
      by true e = cc
      by false e = cc

  -- and no others are
  other_refusals : is_record bytes ≡ true → publication kept bytes ≡ published.Body → ⊥
  other_refusals at e = by (has_key bytes) (has_signature bytes) (rw at at e)
    where
      by : (b c : Bool)
          → cond (not b) published.Key (cond (not c) published.Signature (against (kept_on (fields_in bytes).kind (fields_in bytes).ad (fields_in bytes).other kept) (fields_in bytes).number)) ≡ published.Body → ⊥
      by true true e = not_body (kept_on (fields_in bytes).kind (fields_in bytes).ad (fields_in bytes).other kept) (fields_in bytes).number e
      by true false e = cc
      by false c e = cc

  -- no signer is named exactly where bytes are refused as no record
  pub no_signer : (result : Option Id) → result ≡ signer_in bytes → (result ≡ None) ↔ (publication kept bytes ≡ published.Body)
  no_signer result is = by (is_record bytes) refl
    where
      by : (b : Bool) → is_record bytes ≡ b → (result ≡ None) ↔ (publication kept bytes ≡ published.Body)
      by true at = (λ e. let some : Some (fields_in bytes).ad ≡ None = sym (rw at at is) ∙ e in cc, λ e. absurd (other_refusals at e))
      by false at = (λ _. refused_as_body false at refl, λ _. rw at at is)
