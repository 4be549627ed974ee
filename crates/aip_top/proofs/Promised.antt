-- What is promised of every run, for whatever words.
use Rattle.std.proofs.Common.{◌≡◌, List, ℕ, Option, Some, None, sym, subst}
use Rattle.std.specs.Prelude.{IfSome}
use Rattle.fault_counts.specs.Causes.{Rose}
use Rattle.aip_rules.specs.Promises.{ForwardsAreJustified, GuardsAreSilent, HoldsOfRun, NoLeafSignsTwice}
use Rattle.aip_sim.proofs.Promised as sim
use Rattle.aip_top.specs.Words.{Command, Files, OfRun, OfTexts, Run, Address, Lease, Registry, Record, Make, Replay, topology_in}
use Rattle.aip_top.specs.declared.status.Status.{Status}
use Rattle.aip_top.specs.Judged.{JudgesCommand, end_by}

-- what holds of two files whatever they are holds of those that a run names
of_words : (text : List ℕ → Option (List ℕ)) (P : List ℕ → List ℕ → Type 0) → ((files : Files) → OfTexts text files P)
    → (command : Option Command) → OfRun command (λ files. OfTexts text files P)
of_words text P holds None = tt
of_words text P holds (Some (Run files)) = holds files
of_words text P holds (Some (Address topology)) = tt
of_words text P holds (Some (Lease leased)) = tt
of_words text P holds (Some (Registry files)) = tt
of_words text P holds (Some (Record stated)) = tt
of_words text P holds (Some (Replay files)) = tt
of_words text P holds (Some (Make number)) = tt

pub justified : (text : List ℕ → Option (List ℕ)) (command : Option Command) → OfRun command (λ files. OfTexts text files (HoldsOfRun ForwardsAreJustified))
justified text = of_words text (HoldsOfRun ForwardsAreJustified) (λ files. sim.justified (text files.topology) (text files.schedule))

pub silent : (text : List ℕ → Option (List ℕ)) (command : Option Command) → OfRun command (λ files. OfTexts text files (HoldsOfRun GuardsAreSilent))
silent text = of_words text (HoldsOfRun GuardsAreSilent) (λ files. sim.silent (text files.topology) (text files.schedule))

pub leaf_once : (text : List ℕ → Option (List ℕ)) (command : Option Command) → OfRun command (λ files. OfTexts text files (HoldsOfRun NoLeafSignsTwice))
leaf_once text = of_words text (HoldsOfRun NoLeafSignsTwice) (λ files. sim.leaf_once (text files.topology) (text files.schedule))

-- ## A command that the topology text decides

-- what the topology says of a command that was obeyed it says of the words
pub judged : (command : Option Command) (obeyed : Command) (at name : List ℕ) (text : List ℕ → Option (List ℕ)) (old new : List ℕ → ℕ) (stays : Type 0) (end : Status)
    → at ≡ name → topology_in obeyed ≡ Some name → command ≡ Some obeyed
    → IfSome (text at) (λ told. JudgesCommand (end_by obeyed told) (Rose (old at) (new at)) stays end)
    → IfSome command (λ command. IfSome (topology_in command) (λ name. IfSome (text name) (λ told. JudgesCommand (end_by command told) (Rose (old name) (new name)) stays end)))
judged command obeyed at name text old new stays end same names is judges =
    subst (λ command. IfSome command (λ command. IfSome (topology_in command) (λ name. IfSome (text name) (λ told. JudgesCommand (end_by command told) (Rose (old name) (new name)) stays end)))) (sym is)
    (subst (λ o. IfSome o (λ name. IfSome (text name) (λ told. JudgesCommand (end_by obeyed told) (Rose (old name) (new name)) stays end))) (sym names)
    (subst (λ name. IfSome (text name) (λ told. JudgesCommand (end_by obeyed told) (Rose (old name) (new name)) stays end)) same judges))
