-- The fields of lines: what is read is spelled so, and what is spelled so is read.
use Rattle.std.proofs.Common.{◌≡◌, ℕ, true, List, ◌∷◌, ◌++◌, Option, Some, None, refl, ap, subst, ◌∙◌}
use Rattle.std.specs.Prelude.{decimal, ⊤}
use Rattle.std.proofs.lemmas.Option.{same_Some}
use Rattle.aip_addr.specs.declared.ids.KeyId.{KeyId}
use Rattle.aip_addr.specs.declared.ids.Address.{Address}
use Rattle.aip_text.specs.Fields.{IsId, id_of, id_word, name_of, ◌>>=◌}
use Rattle.aip_text.specs.Words.{cut_at, hex_sized, lacks, number_of}
use Rattle.aip_text.proofs.FieldLaws.{id_field, name_field}
use Rattle.aip_text.proofs.HexWords.{hex_sized_again, hex_sized_found}
use Rattle.aip_text.proofs.Lacking.{cut_at_none, lacks-append, lacks-decimal, lacks-encode_lower, lacks-name}
use Rattle.aip_text.proofs.LineForms.{Field, bind_at, bind_some, named_found}
use Rattle.aip_text.proofs.Numbers.{number_again, number_found}
use Rattle.aip_text.proofs.Texts.{cut_at_again, cut_at_found}
use Rattle.aip_event.specs.Lines.{IsKeyId, IsTarget, address_word, cause_word, key_id_word, reason_word, target_word}
use Rattle.aip_event.specs.Reading.{address_of, cause_of, causes, key_id_of, reason_of, reasons, target_from, target_of}
use Rattle.aip_event.specs.declared.input.Target.{Target}
use Rattle.aip_event.specs.declared.input.Target.TheVariants as target
use Rattle.aip_event.specs.declared.event.Cause.{Cause}
use Rattle.aip_event.specs.declared.event.Cause.TheVariants as cause
use Rattle.aip_event.specs.declared.event.Reason.{Reason}
use Rattle.aip_event.specs.declared.event.Reason.TheVariants as reason

-- ## Ids and addresses

key_id_found : (word : List ℕ) (id : KeyId) → key_id_of word ≡ Some id → IsKeyId id × (word ≡ key_id_word id)
key_id_found word id h =
    let p = bind_some (hex_sized 19 word) _ id h in
    let read = hex_sized_found 19 word p.0 p.1 in
    let made = same_Some (record { bytes = p.0 }) id p.2 in
    let P : KeyId → Type 0 = λ i. IsKeyId i × (word ≡ key_id_word i) in
    subst P made ((read.0, read.1), read.2)

key_id_again : (id : KeyId) → IsKeyId id → key_id_of (key_id_word id) ≡ Some id
key_id_again id h = bind_at (λ bytes. Some (record { bytes = bytes })) (hex_sized_again 19 id.bytes h.0 h.1)

pub key_id_field : Field key_id_of key_id_word IsKeyId
key_id_field = record { found = key_id_found; again = key_id_again; plain = λ id h. lacks-encode_lower 32 id.bytes refl h.0 }

-- an address of two ids
abbrev IsAddress : Address → Type 0
IsAddress address = IsId address.ad × IsId address.eid

address_found : (word : List ℕ) (address : Address) → address_of word ≡ Some address → IsAddress address × (word ≡ address_word address)
address_found word address h =
    let c = bind_some (cut_at 58 word) _ address h in
    let ad = bind_some (id_of c.0.0) _ address c.2 in
    let eid = bind_some (id_of c.0.1) _ address ad.2 in
    let wa = id_field.found c.0.0 ad.0 ad.1 in
    let we = id_field.found c.0.1 eid.0 eid.1 in
    let made = same_Some (record { ad = ad.0; eid = eid.0 }) address eid.2 in
    let whole = cut_at_found 58 word c.0 c.1 ∙ ap (λ (w : List ℕ). w ++ 58 ∷ c.0.1) wa.1 ∙ ap (λ (w : List ℕ). id_word ad.0 ++ 58 ∷ w) we.1 in
    let P : Address → Type 0 = λ a. IsAddress a × (word ≡ address_word a) in
    subst P made ((wa.0, we.0), whole)

address_again : (address : Address) → IsAddress address → address_of (address_word address) ≡ Some address
address_again address h =
    bind_at (λ parts. id_of parts.0 >>= λ ad. id_of parts.1 >>= λ eid. Some (record { ad = ad; eid = eid }))
    (cut_at_again 58 (id_word address.ad) (id_word address.eid) (lacks-encode_lower 58 address.ad.bytes refl h.0.0))
    ∙ bind_at (λ ad. id_of (id_word address.eid) >>= λ eid. Some (record { ad = ad; eid = eid })) (id_field.again address.ad h.0)
    ∙ bind_at (λ eid. Some (record { ad = address.ad; eid = eid })) (id_field.again address.eid h.1)

pub address_field : Field address_of address_word IsAddress
address_field = record {
  found = address_found;
  again = address_again;
  plain = λ a h. lacks-append 32 (id_word a.ad) (58 ∷ id_word a.eid) (lacks-encode_lower 32 a.ad.bytes refl h.0.0) (lacks-encode_lower 32 a.eid.bytes refl h.1.0);
}

-- ## Targets

target_from_found : (word : List ℕ) (parts : Option (List ℕ × List ℕ)) (t : Target) → ((p : List ℕ × List ℕ) → parts ≡ Some p → word ≡ p.0 ++ 47 ∷ p.1)
    → target_from word parts ≡ Some t → IsTarget t × (word ≡ target_word t)
target_from_found word None t whole h =
    let p = bind_some (name_of word) _ t h in
    let read = name_field.found word p.0 p.1 in
    let made = same_Some (target.Host p.0) t p.2 in
    let P : Target → Type 0 = λ x. IsTarget x × (word ≡ target_word x) in
    subst P made (read.0, read.1)
target_from_found word (Some parts) t whole h =
    let router = bind_some (name_of parts.0) _ t h in
    let port = bind_some (number_of parts.1) _ t router.2 in
    let wr = name_field.found parts.0 router.0 router.1 in
    let wp = number_found parts.1 port.0 port.1 in
    let made = same_Some (target.Port router.0 port.0) t port.2 in
    let spelled = whole parts refl ∙ ap (λ (w : List ℕ). w ++ 47 ∷ parts.1) wr.1 ∙ ap (λ (w : List ℕ). router.0 ++ 47 ∷ w) wp.1 in
    let P : Target → Type 0 = λ x. IsTarget x × (word ≡ target_word x) in
    subst P made ((wr.0, wp.0), spelled)

target_found : (word : List ℕ) (t : Target) → target_of word ≡ Some t → IsTarget t × (word ≡ target_word t)
target_found word t h = target_from_found word (cut_at 47 word) t (λ p e. cut_at_found 47 word p e) h

target_again : (t : Target) → IsTarget t → target_of (target_word t) ≡ Some t
target_again (target.Port router port) h =
    ap (target_from (router ++ 47 ∷ decimal port)) (cut_at_again 47 router (decimal port) (lacks-name 47 router refl h.0))
    ∙ bind_at (λ r. number_of (decimal port) >>= λ p. Some (target.Port r p)) (name_field.again router h.0)
    ∙ bind_at (λ p. Some (target.Port router p)) (number_again port h.1)
target_again (target.Host name) h =
    ap (target_from name) (cut_at_none 47 name (lacks-name 47 name refl h))
    ∙ bind_at (λ n. Some (target.Host n)) (name_field.again name h)

target_plain : (t : Target) → IsTarget t → lacks 32 (target_word t) ≡ true
target_plain (target.Port router port) h = lacks-append 32 router (47 ∷ decimal port) (lacks-name 32 router refl h.0) (lacks-decimal 32 port refl h.1)
target_plain (target.Host name) h = lacks-name 32 name refl h

pub target_field : Field target_of target_word IsTarget
target_field = record { found = target_found; again = target_again; plain = target_plain }

-- ## Causes and reasons

cause_again : (x : Cause) → ⊤ → cause_of (cause_word x) ≡ Some x
cause_again cause.Open h = refl
cause_again cause.Exempt h = refl
cause_again cause.Trusted h = refl
cause_again cause.Reverse h = refl
cause_again cause.Proved h = refl
cause_again cause.Wild h = refl

cause_plain : (x : Cause) → ⊤ → lacks 32 (cause_word x) ≡ true
cause_plain cause.Open h = refl
cause_plain cause.Exempt h = refl
cause_plain cause.Trusted h = refl
cause_plain cause.Reverse h = refl
cause_plain cause.Proved h = refl
cause_plain cause.Wild h = refl

pub cause_field : Field cause_of cause_word (λ x. ⊤)
cause_field = record { found = λ word x e. (tt, named_found cause_word causes word x e); again = cause_again; plain = cause_plain }

reason_again : (x : Reason) → ⊤ → reason_of (reason_word x) ≡ Some x
reason_again reason.Bad h = refl
reason_again reason.Mine h = refl
reason_again reason.Hops h = refl
reason_again reason.NoRoute h = refl
reason_again reason.Foreign h = refl
reason_again reason.NoBack h = refl
reason_again reason.Down h = refl
reason_again reason.Stray h = refl
reason_again reason.NotMine h = refl
reason_again reason.Unlogged h = refl
reason_again reason.Mute h = refl
reason_again reason.Dry h = refl
reason_again reason.Kind h = refl
reason_again reason.Unguarded h = refl

reason_plain : (x : Reason) → ⊤ → lacks 32 (reason_word x) ≡ true
reason_plain reason.Bad h = refl
reason_plain reason.Mine h = refl
reason_plain reason.Hops h = refl
reason_plain reason.NoRoute h = refl
reason_plain reason.Foreign h = refl
reason_plain reason.NoBack h = refl
reason_plain reason.Down h = refl
reason_plain reason.Stray h = refl
reason_plain reason.NotMine h = refl
reason_plain reason.Unlogged h = refl
reason_plain reason.Mute h = refl
reason_plain reason.Dry h = refl
reason_plain reason.Kind h = refl
reason_plain reason.Unguarded h = refl

pub reason_field : Field reason_of reason_word (λ x. ⊤)
reason_field = record { found = λ word x e. (tt, named_found reason_word reasons word x e); again = reason_again; plain = reason_plain }
