-- What a gated write does to what a disk tells.
use Rattle.std.proofs.Common.{◌≡◌, ℕ, ◌+◌, List, [], ◌∷◌, length, refl, sym, ◌∙◌, ap, subst}
use Rattle.std.specs.Prelude.{Option, Some, None, option_map, unwrap_or, Result, Ok, Err, OnOk}
use Rattle.lease_disk.specs.Images.{overwritten, Torn}
use Rattle.lease_disk.specs.Kept.{gated}

-- the body is written, and then the gate
pub gated_told : (old mid new : Option (List ℕ)) (at gate : ℕ) (body : List ℕ) → mid ≡ option_map (λ file. overwritten file (at + 1) body) old → new ≡ option_map (λ file. overwritten file at (gate ∷ [])) mid → new ≡ option_map (gated at gate body) old
gated_told None mid new at gate body first second = second ∙ ap (option_map (λ file. overwritten file at (gate ∷ []))) first
gated_told (Some file) mid new at gate body first second = second ∙ ap (option_map (λ file. overwritten file at (gate ∷ []))) first

-- while the gate is written the body stands whole
pub gate_torn : (old mid : Option (List ℕ)) (at : ℕ) (body before image : List ℕ) → mid ≡ option_map (λ file. overwritten file (at + 1) body) old → mid ≡ Some before → Torn at 1 before image
    → (file : List ℕ) × (old ≡ Some file) × Torn at 1 (overwritten file (at + 1) body) image
gate_torn None mid at body before image is told torn = absurd (none_some (sym is ∙ told))
  where
    none_some : {file : List ℕ} → ◌≡◌ {A = Option (List ℕ)} None (Some file) → ⊥
    none_some e = cc
gate_torn (Some file) mid at body before image is told torn =
    let same : before ≡ overwritten file (at + 1) body = sym (ap (λ o. unwrap_or o before) (sym is ∙ told)) in
    (file, refl, subst (λ (l : List ℕ). Torn at 1 l image) same torn)

-- what follows on Ok
pub on_ok_then : {T E : Type 0} (result : Result T E) (P Q : Type 0) → OnOk result P → (P → Q) → OnOk result Q
on_ok_then (Ok value) P Q holds follows = follows holds
on_ok_then (Err error) P Q holds follows = holds
