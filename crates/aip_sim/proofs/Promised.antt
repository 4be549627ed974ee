-- What is promised of every run, for two texts that are told or not.
use Rattle.std.specs.Prelude.{List, ℕ, Option, Some, None, IfSome}
use Rattle.aip_rules.specs.Promises.{ForwardsAreJustified, GuardsAreSilent, HoldsOfRun, NoLeafSignsTwice}
use Rattle.aip_rules.proofs.OfRuns.{of_run}
use Rattle.aip_rules.proofs.Justified.{justified as each_justified}
use Rattle.aip_rules.proofs.Silent.{all_silent}
use Rattle.aip_rules.proofs.Leaves.{none_twice}

-- what holds of all texts holds of those that are told
of_told : (P : List ℕ → List ℕ → Type 0) → ((topology schedule : List ℕ) → P topology schedule) → (topology schedule : Option (List ℕ))
    → IfSome topology (λ t. IfSome schedule (P t))
of_told P holds None schedule = tt
of_told P holds (Some t) None = tt
of_told P holds (Some t) (Some s) = holds t s

pub justified : (topology schedule : Option (List ℕ)) → IfSome topology (λ t. IfSome schedule (HoldsOfRun ForwardsAreJustified t))
justified = of_told (HoldsOfRun ForwardsAreJustified) (of_run ForwardsAreJustified each_justified)

pub silent : (topology schedule : Option (List ℕ)) → IfSome topology (λ t. IfSome schedule (HoldsOfRun GuardsAreSilent t))
silent = of_told (HoldsOfRun GuardsAreSilent) (of_run GuardsAreSilent all_silent)

pub leaf_once : (topology schedule : Option (List ℕ)) → IfSome topology (λ t. IfSome schedule (HoldsOfRun NoLeafSignsTwice t))
leaf_once = of_told (HoldsOfRun NoLeafSignsTwice) (of_run NoLeafSignsTwice none_twice)
