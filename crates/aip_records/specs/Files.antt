-- Record files: the records that one gives, or the first line that is refused, with its first fault.
use Rattle.std.specs.Prelude.{ℕ, ◌+◌, nat_lt, Bool, not, if◌then◌else◌, List, [], ◌∷◌, length, Option, Some, None, Result, Ok, Err}
use Rattle.std.specs.List.{list_any}
use Rattle.aip_addr.specs.declared.ids.Id.{Id}
use Rattle.aip_addr.specs.Ids.{is_same_id}
use Rattle.aip_text.specs.Lines.{lines_of, is_skipped, has_carriage_return, most_line_bytes, most_lines}
use Rattle.aip_text.specs.Words.{hex_of}
use Rattle.aip_topo.specs.declared.topology.Domain.{Domain}
use Rattle.aip_registry.specs.Record.{is_record, fields_in}
use Rattle.aip_registry.specs.Kept.{kept_records, publication}
use Rattle.aip_registry.specs.declared.records.Record.{Record}
use Rattle.aip_registry.specs.declared.published.Published.{Published}
use Rattle.aip_registry.specs.declared.published.Published.TheVariants as published
use Rattle.aip_records.specs.declared.faults.RecordFault.{RecordFault}
use Rattle.aip_records.specs.declared.faults.RecordFault.TheVariants as fault

-- ## A line by itself

-- a line inside the limits that isn't skipped: it writes bytes, or is outside the grammar
abbrev pub bytes_or_form : Option (List ℕ) → Result (Option (List ℕ)) RecordFault
bytes_or_form None = Err fault.Form
bytes_or_form (Some bytes) = Ok (Some bytes)

-- a line by itself: the first fault of Many, Long and Form that applies, or the bytes that it writes, or a skipped line
abbrev pub written : ℕ → List ℕ → Result (Option (List ℕ)) RecordFault
written number line =
    if nat_lt most_lines number then Err fault.Many else
    if nat_lt most_line_bytes (length line) then Err fault.Long else
    if has_carriage_return line then Err fault.Form else
    if is_skipped line then Ok None else
    bytes_or_form (hex_of line)

-- ## A record

-- some domain has this AD
abbrev pub is_domain : List Domain → Id → Bool
is_domain domains ad = list_any (λ (domain : Domain). is_same_id domain.ad ad) domains

-- the fault that the answer of a registry stands for
abbrev pub fault_of : Published → Option RecordFault
fault_of published.Ok = None
fault_of published.Body = Some fault.Body
fault_of published.Key = Some fault.Key
fault_of published.Signature = Some fault.Signature
fault_of (published.Old kept) = Some (fault.Old kept)

-- the first fault of Body, Stranger, Key, Signature and Old that applies to bytes, by the records that are kept
abbrev pub record_fault : List Domain → List Record → List ℕ → Option RecordFault
record_fault domains kept bytes =
    if not (is_record bytes) then Some fault.Body else
    if not (is_domain domains (fields_in bytes).ad) then Some fault.Stranger else
    fault_of (publication kept bytes)

-- ## A file

-- why a file gives no records: the number of its first line that is refused, from 1, and that line's first fault
pub record RefusedRecord : Type 0 where
  pub line : ℕ
  pub why : RecordFault

-- the reading goes on with a record that has no fault, and ends at one that has
abbrev pub by_fault : ℕ → Result (List (List ℕ)) RefusedRecord → Option RecordFault → Result (List (List ℕ)) RefusedRecord
by_fault number rest None = rest
by_fault number rest (Some f) = Err (record { line = number; why = f })

-- the reading takes a line: it ends where the line is refused, and goes on behind a skipped line
abbrev pub by_line : List Domain → List (List ℕ) → ℕ → (List (List ℕ) → Result (List (List ℕ)) RefusedRecord) → Result (Option (List ℕ)) RecordFault → Result (List (List ℕ)) RefusedRecord
by_line domains published number go (Err f) = Err (record { line = number; why = f })
by_line domains published number go (Ok None) = go published
by_line domains published number go (Ok (Some bytes)) =
    by_fault number (go (bytes ∷ published)) (record_fault domains (kept_records published) bytes)

-- what these lines give, the first of which has this number, behind the records that were published before: all records, the last first, or the first line that is refused
abbrev pub read_from : List Domain → List (List ℕ) → ℕ → List (List ℕ) → Result (List (List ℕ)) RefusedRecord
read_from domains published number [] = Ok published
read_from domains published number (line ∷ lines) =
    by_line domains published number (λ after. read_from domains after (number + 1) lines) (written number line)

-- the records that a file gives, the last first, or its first line that is refused
abbrev pub records_of : List Domain → List ℕ → Result (List (List ℕ)) RefusedRecord
records_of domains text = read_from domains [] 1 (lines_of text)
