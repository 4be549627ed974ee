use Rattle.std.proofs.Common.{◌≡◌, ◌∙◌, ap, subst, append_assoc, List, ℕ, length, [], ◌++◌}
use Rattle.aip_registry.proofs.Spelled.{made_back}
use Rattle.aip_registry.proofs.records.record_bytes.Goals as goal

joined : (v a b d said key signature : List ℕ) → d ≡ b ++ signature → b ≡ a ++ key → a ≡ v ++ said → v ≡ [] → d ≡ said ++ (key ++ signature)
joined v a b d said key signature is-d is-b is-a is-v = rw (is-d, is-b, is-a, is-v) (append_assoc said key signature)

pub returns-clause-read_back : goal.returns-clause-read_back
returns-clause-read_back c =
    made_back c.from_vec.result c.write_fields.new.out c.args.key.now c.args.signature.now c.args.fields.now
    (c.from_vec.ensures
    ∙ joined _ _ _ _ _ _ _ c.in_ok-extend_from_slice-3.ensures.items (c.in_ok-extend_from_slice-2.ensures.items ∙ ap (λ (t : List ℕ). c.extend_from_slice.new.self.items ++ t) c.bytes.ensures.bytes) c.in_ok-extend_from_slice.ensures.items c.in_ok-bytes.ensures.items)
    c.write_fields.ensures c.fields_fit.ensures (subst (λ (t : List ℕ). length t ≡ 56) c.bytes.ensures.bytes c.bytes.ensures.key.whole)
