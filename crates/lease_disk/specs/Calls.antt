-- Runs of calls of a disk.
use Rattle.std.specs.Prelude.{◌≡◌, ◌⊎◌, ℕ, ◌+◌, Bool, true, false, List, [], ◌∷◌, ◌++◌}
use Rattle.std.proofs.Common.{inl, inr, sym, subst}
use Rattle.lease_disk.specs.Call.{Call, Write, Sync}

-- these calls were made in turn up to the first that failed, and all of them where the run was served
abbrev pub Ran : {D : Type 0} → (D → Call → Bool → D → Type 0) → D → List Call → Bool → D → Type 0
Ran led old [] served new = (served ≡ true) × (old ≡ new)
Ran {D} led old (call ∷ calls) served new = ((served ≡ false) × led old call false new) ⊎ ((mid : D) × led old call true mid × Ran led mid calls served new)

-- the calls of a firm write: bytes are written from an offset on, and synced
abbrev pub firm_calls : ℕ → List ℕ → List Call
firm_calls at bytes = Write at bytes ∷ Sync ∷ []

-- the calls of a gated write: the body past a gate is written and synced, and then the gate
abbrev pub gated_calls : ℕ → ℕ → List ℕ → List Call
gated_calls at gate body = Write (at + 1) body ∷ Sync ∷ Write at (gate ∷ []) ∷ Sync ∷ []

-- calls that follow calls that were all served
pub ran_then : {D : Type 0} (led : D → Call → Bool → D → Type 0) (old mid new : D) (calls more : List Call) (served : Bool) → Ran led old calls true mid → Ran led mid more served new → Ran led old (calls ++ more) served new
ran_then led old mid new [] more served first second = subst (λ d. Ran led d more served new) (sym first.1) second
ran_then led old mid new (call ∷ calls) more served (inl failed) second = absurd (true_false failed.0)
  where
    true_false : true ≡ false → ⊥
    true_false e = cc
ran_then led old mid new (call ∷ calls) more served (inr ran) second = inr (ran.0, ran.1, ran_then led ran.0 mid new calls more served ran.2 second)
