-- The reading of a record file on its way, and how it ends.
use Rattle.std.specs.Prelude.{◌≡◌, ℕ, ◌+◌, ⊤, List, Result, Ok, Err}
use Rattle.aip_topo.specs.declared.topology.Domain.{Domain}
use Rattle.aip_registry.specs.Kept.{kept_records}
use Rattle.aip_registry.specs.declared.records.Record.{Record}
use Rattle.aip_records.specs.Files.{RefusedRecord, read_from}
use Rattle.aip_records.specs.declared.faults.RecordsEnd.{RecordsEnd}
use Rattle.aip_records.specs.declared.faults.RecordsEnd.TheVariants as records_end
use Rattle.aip_records.specs.declared.reading.Turn.{Turn}
use Rattle.aip_records.specs.declared.reading.Turn.TheVariants as turn

-- The reading has come to these lines, the first of which has this number: what was published so far is kept, and what
-- the lines give behind it is what the whole gives.
pub record HasCome (domains : List Domain) (kept : List Record) (number : ℕ) (lines : List (List ℕ)) (whole : Result (List (List ℕ)) RefusedRecord) : Type 0 where
  pub published : List (List ℕ)
  pub keeps : kept ≡ kept_records published
  pub rest : read_from domains published number lines ≡ whole

-- the file is read: what is kept is the newest of its records
pub record HasRead (kept : List Record) (whole : Result (List (List ℕ)) RefusedRecord) : Type 0 where
  pub published : List (List ℕ)
  pub keeps : kept ≡ kept_records published
  pub all : whole ≡ Ok published

-- the file is refused so; the other ends say nothing of it
abbrev pub IsRefusedBy : Result (List (List ℕ)) RefusedRecord → RecordsEnd → Type 0
IsRefusedBy whole (records_end.Refused line f) = whole ≡ Err (record { line = line; why = f })
IsRefusedBy whole records_end.ReadFault = ⊤
IsRefusedBy whole records_end.Memory = ⊤

-- a turn of the reading: it has come to the next line, the file is read, or it is refused
abbrev pub IsTurn : List Domain → List Record → ℕ → List (List ℕ) → Result (List (List ℕ)) RefusedRecord → Turn → Type 0
IsTurn domains kept number lines whole turn.Goes = HasCome domains kept (number + 1) lines whole
IsTurn domains kept number lines whole turn.Done = HasRead kept whole
IsTurn domains kept number lines whole (turn.Ends end) = IsRefusedBy whole end

-- what is said of a file: the registry of its records, or why it is refused
abbrev pub IsReadOf : Result (List (List ℕ)) RefusedRecord → Result (List Record) RecordsEnd → Type 0
IsReadOf whole (Ok kept) = HasRead kept whole
IsReadOf whole (Err end) = IsRefusedBy whole end

-- the reading goes on
abbrev pub IsGoing : Turn → Type 0
IsGoing turn.Goes = ⊤
IsGoing turn.Done = ⊥
IsGoing (turn.Ends end) = ⊥

-- the reading ends so
abbrev pub EndsWith : RecordsEnd → Turn → Type 0
EndsWith end turn.Goes = ⊥
EndsWith end turn.Done = ⊥
EndsWith end (turn.Ends other) = other ≡ end
