-- How a step ends that takes no input.
use Rattle.std.specs.Prelude.{◌≡◌, List, Result, Ok, Err, ⊤}
use Rattle.aip_event.specs.declared.input.Input.{Input}
use Rattle.aip_topo.specs.declared.topology.Topology.{Topology}
use Rattle.aip_rules.specs.declared.Entry.{Entry}
use Rattle.aip_rules.specs.declared.Reaction.{Reaction}
use Rattle.aip_rules.specs.declared.StepFault.{StepFault}
use Rattle.aip_rules.specs.Step.{step_of}
use Rattle.aip_core.specs.Kept.{Kept}
use Rattle.aip_core.specs.Machine.{kept_reaction}
use Rattle.aip_core.specs.StandsFor.{StandsFor}
use Rattle.aip_core.specs.declared.reactions.NoReaction.{NoReaction}
use Rattle.aip_core.specs.declared.reactions.NoReaction.TheVariants as no
use Rattle.aip_core.specs.declared.ends.StepEnd.{StepEnd}
use Rattle.aip_core.specs.declared.ends.StepEnd.TheVariants.{Refused, Memory}

-- the answer to an input is this outcome, or want of memory
abbrev pub IsOutcome : Result Reaction StepFault → Result Reaction NoReaction → Type 0
IsOutcome outcome (Ok reaction) = outcome ≡ Ok reaction
IsOutcome outcome (Err (no.Fault fault)) = outcome ≡ Err fault
IsOutcome outcome (Err no.Memory) = ⊤

-- a refusal gives the core back as it was, with the fault that the rules give for every trace that it stands for
abbrev pub IsRefusal : Kept → Input → StepEnd → Type 0
IsRefusal kept input (Refused core fault) =
    (core ≡ kept) × ((topo : Topology) (tr : List Entry) → StandsFor topo tr kept → step_of topo tr input ≡ Err fault)
IsRefusal kept input Memory = ⊤

-- a refusal gives the core back as it was, with the fault that comes of what is kept
abbrev pub IsKeptRefusal : Kept → Input → StepEnd → Type 0
IsKeptRefusal kept input (Refused core fault) = (core ≡ kept) × (kept_reaction kept input ≡ Err fault)
IsKeptRefusal kept input Memory = ⊤
