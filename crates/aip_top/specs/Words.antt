-- The words of a command line.
use Rattle.std.specs.Prelude.{◌≡◌, ℕ, ◌^◌, nat_lt, ◌⊎◌, ⊤, Bool, true, false, List, [], ◌∷◌, codes, map, string_bytes, option_map, Option, Some, None, IfSome, if◌then◌else◌}
use Rattle.std.proofs.Common.{String, Global}
use Rattle.std.specs.Str.{bytes_eq}
use Rattle.aip_addr.specs.Naming.{is_name}
use Rattle.aip_text.specs.Fields.{◌>>=◌, name_of, named}
use Rattle.aip_text.specs.Words.{number_of}
use Rattle.aip_registry.specs.Record.{all_kinds, record_word}
use Rattle.aip_top.specs.declared.command.Statement.{Statement}

-- the two files that a run names
pub record Files : Type 0 where
  pub topology : List ℕ
  pub schedule : List ℕ

-- the file and the domain that a lease names
pub record Leased : Type 0 where
  pub topology : List ℕ
  pub domain : List ℕ

-- the two files that a registry names
pub record RecordFiles : Type 0 where
  pub topology : List ℕ
  pub records : List ℕ

-- the two files that a replay names
pub record TraceFiles : Type 0 where
  pub topology : List ℕ
  pub trace : List ℕ

-- the file that a record names, and what it is to say
pub record Stated : Type 0 where
  pub topology : List ℕ
  pub said : Statement

-- a command: `run TOPO SCHED`, `address TOPO`, `lease TOPO DOMAIN`, `registry TOPO RECORDS`, `replay TOPO TRACE`,
-- `record TOPO DOMAIN` with what the record is to say, or `make N`
pub data Command : Type 0 where
  Run : Files → Command
  Address : (topology : List ℕ) → Command
  Lease : Leased → Command
  Registry : RecordFiles → Command
  Record : Stated → Command
  Replay : TraceFiles → Command
  Make : (number : ℕ) → Command

-- the number of a workload: it is below 2^32
unfoldable pub workload_number : List ℕ → Option ℕ
workload_number word = number_of word >>= λ n. if nat_lt n (2 ^ 32) then Some n else None

-- a made workload, where the word is the number of one
abbrev pub make_of : List ℕ → Option Command
make_of word = option_map (λ n. Make n) (workload_number word)

-- the command of two words
abbrev pub command_of_two : List ℕ → List ℕ → Option Command
command_of_two word second =
    if bytes_eq word (codes "address") then Some (Address second)
    else if bytes_eq word (codes "make") then make_of second
    else None

-- a lease of a domain, where the word is a name
abbrev pub lease_of : List ℕ → List ℕ → Option Command
lease_of topology domain = if is_name domain then Some (Lease (record { topology = topology; domain = domain })) else None

-- the command of three words
abbrev pub command_of_three : List ℕ → List ℕ → List ℕ → Option Command
command_of_three word topology third =
    if bytes_eq word (codes "run") then Some (Run (record { topology = topology; schedule = third }))
    else if bytes_eq word (codes "lease") then lease_of topology third
    else if bytes_eq word (codes "registry") then Some (Registry (record { topology = topology; records = third }))
    else if bytes_eq word (codes "replay") then Some (Replay (record { topology = topology; trace = third }))
    else None

-- a number below 2^48
abbrev pub time_of : List ℕ → Option ℕ
time_of word = number_of word >>= λ n. if nat_lt n (2 ^ 48) then Some n else None

-- what a record is to say: who signs it, its kind, what it is about, its number, and until when it is in force
abbrev pub statement_of : List ℕ → List ℕ → List ℕ → List ℕ → List ℕ → Option Statement
statement_of domain kind other number until = do
  d ← name_of domain
  k ← named record_word all_kinds kind
  o ← name_of other
  n ← time_of number
  u ← time_of until
  Some (record { domain = d; kind = k; other = o; number = n; until = u })

-- a record over a topology file
abbrev pub stated_over : List ℕ → Option Statement → Option Command
stated_over topology None = None
stated_over topology (Some said) = Some (Record (record { topology = topology; said = said }))

-- the command of seven words
abbrev pub command_of_seven : List ℕ → List ℕ → List ℕ → List ℕ → List ℕ → List ℕ → List ℕ → Option Command
command_of_seven word topology domain kind other number until =
    if bytes_eq word (codes "record") then stated_over topology (statement_of domain kind other number until) else None

-- the command of more than three words
abbrev pub command_of_many : List (List ℕ) → Option Command
command_of_many (word ∷ topology ∷ domain ∷ kind ∷ other ∷ number ∷ until ∷ []) = command_of_seven word topology domain kind other number until
command_of_many words = None

-- the command that the words spell, if they spell one
abbrev pub command_of : List (List ℕ) → Option Command
command_of (word ∷ topology ∷ []) = command_of_two word topology
command_of (word ∷ topology ∷ third ∷ []) = command_of_three word topology third
command_of words = command_of_many words

-- the command that the words of a command line spell
abbrev pub spelled : List (String Global) → Option Command
spelled words = command_of (map string_bytes words)

-- the topology file that a command names, if it names one
abbrev pub topology_in : Command → Option (List ℕ)
topology_in (Run files) = Some files.topology
topology_in (Address topology) = Some topology
topology_in (Lease leased) = Some leased.topology
topology_in (Registry files) = Some files.topology
topology_in (Record stated) = Some stated.topology
topology_in (Replay files) = Some files.topology
topology_in (Make number) = None

-- what holds of the two files, where the command is a run
abbrev pub OfRun : Option Command → (Files → Type 0) → Type 0
OfRun None holds = ⊤
OfRun (Some (Run files)) holds = holds files
OfRun (Some (Address topology)) holds = ⊤
OfRun (Some (Lease leased)) holds = ⊤
OfRun (Some (Registry files)) holds = ⊤
OfRun (Some (Record stated)) holds = ⊤
OfRun (Some (Replay files)) holds = ⊤
OfRun (Some (Make number)) holds = ⊤

-- what holds of the texts of the two files, where they are told
abbrev pub OfTexts : (List ℕ → Option (List ℕ)) → Files → (List ℕ → List ℕ → Type 0) → Type 0
OfTexts text files holds = IfSome (text files.topology) (λ topology. IfSome (text files.schedule) (holds topology))

-- what holds of the topology file, where the addresses are asked for
abbrev pub OfAddress : Option Command → (List ℕ → Type 0) → Type 0
OfAddress None holds = ⊤
OfAddress (Some (Run files)) holds = ⊤
OfAddress (Some (Address topology)) holds = holds topology
OfAddress (Some (Lease leased)) holds = ⊤
OfAddress (Some (Registry files)) holds = ⊤
OfAddress (Some (Record stated)) holds = ⊤
OfAddress (Some (Replay files)) holds = ⊤
OfAddress (Some (Make number)) holds = ⊤

-- what holds of the file and the domain, where the command is a lease
abbrev pub OfLease : Option Command → (Leased → Type 0) → Type 0
OfLease None holds = ⊤
OfLease (Some (Run files)) holds = ⊤
OfLease (Some (Address topology)) holds = ⊤
OfLease (Some (Lease leased)) holds = holds leased
OfLease (Some (Registry files)) holds = ⊤
OfLease (Some (Record stated)) holds = ⊤
OfLease (Some (Replay files)) holds = ⊤
OfLease (Some (Make number)) holds = ⊤

-- what holds of the two files, where the list of records is asked for
abbrev pub OfRegistry : Option Command → (RecordFiles → Type 0) → Type 0
OfRegistry None holds = ⊤
OfRegistry (Some (Run files)) holds = ⊤
OfRegistry (Some (Address topology)) holds = ⊤
OfRegistry (Some (Lease leased)) holds = ⊤
OfRegistry (Some (Registry files)) holds = holds files
OfRegistry (Some (Record stated)) holds = ⊤
OfRegistry (Some (Replay files)) holds = ⊤
OfRegistry (Some (Make number)) holds = ⊤

-- what holds of the file and of what a record is to say, where the command is a record
abbrev pub OfRecord : Option Command → (Stated → Type 0) → Type 0
OfRecord None holds = ⊤
OfRecord (Some (Run files)) holds = ⊤
OfRecord (Some (Address topology)) holds = ⊤
OfRecord (Some (Lease leased)) holds = ⊤
OfRecord (Some (Registry files)) holds = ⊤
OfRecord (Some (Record stated)) holds = holds stated
OfRecord (Some (Replay files)) holds = ⊤
OfRecord (Some (Make number)) holds = ⊤

-- what holds of the two files, where the command is a replay
abbrev pub OfReplay : Option Command → (TraceFiles → Type 0) → Type 0
OfReplay None holds = ⊤
OfReplay (Some (Run files)) holds = ⊤
OfReplay (Some (Address topology)) holds = ⊤
OfReplay (Some (Lease leased)) holds = ⊤
OfReplay (Some (Registry files)) holds = ⊤
OfReplay (Some (Record stated)) holds = ⊤
OfReplay (Some (Replay files)) holds = holds files
OfReplay (Some (Make number)) holds = ⊤

-- what holds of the number of a workload, where the command makes one
abbrev pub OfMake : Option Command → (ℕ → Type 0) → Type 0
OfMake None holds = ⊤
OfMake (Some (Run files)) holds = ⊤
OfMake (Some (Address topology)) holds = ⊤
OfMake (Some (Lease leased)) holds = ⊤
OfMake (Some (Registry files)) holds = ⊤
OfMake (Some (Record stated)) holds = ⊤
OfMake (Some (Replay files)) holds = ⊤
OfMake (Some (Make number)) holds = holds number

-- what holds of the texts of the topology and of the records, where they are told
abbrev pub OfRecords : (List ℕ → Option (List ℕ)) → RecordFiles → (List ℕ → List ℕ → Type 0) → Type 0
OfRecords text files holds = IfSome (text files.topology) (λ topology. IfSome (text files.records) (holds topology))

-- what holds of the texts of the topology and of the trace, where they are told
abbrev pub OfTraces : (List ℕ → Option (List ℕ)) → TraceFiles → (List ℕ → List ℕ → Type 0) → Type 0
OfTraces text files holds = IfSome (text files.topology) (λ topology. IfSome (text files.trace) (holds topology))

-- the words spell a run
abbrev pub is_run : Option Command → Bool
is_run None = false
is_run (Some (Run files)) = true
is_run (Some (Address topology)) = false
is_run (Some (Lease leased)) = false
is_run (Some (Registry files)) = false
is_run (Some (Record stated)) = false
is_run (Some (Replay files)) = false
is_run (Some (Make number)) = false

-- the words spell a lease
abbrev pub is_lease : Option Command → Bool
is_lease None = false
is_lease (Some (Run files)) = false
is_lease (Some (Address topology)) = false
is_lease (Some (Lease leased)) = true
is_lease (Some (Registry files)) = false
is_lease (Some (Record stated)) = false
is_lease (Some (Replay files)) = false
is_lease (Some (Make number)) = false

-- the words ask for a signed record
abbrev pub is_record : Option Command → Bool
is_record None = false
is_record (Some (Run files)) = false
is_record (Some (Address topology)) = false
is_record (Some (Lease leased)) = false
is_record (Some (Registry files)) = false
is_record (Some (Record stated)) = true
is_record (Some (Replay files)) = false
is_record (Some (Make number)) = false

-- the words spell a lease or a record, which meet the disk
abbrev pub is_of_disk : Option Command → Bool
is_of_disk None = false
is_of_disk (Some (Run files)) = false
is_of_disk (Some (Address topology)) = false
is_of_disk (Some (Lease leased)) = true
is_of_disk (Some (Registry files)) = false
is_of_disk (Some (Record stated)) = true
is_of_disk (Some (Replay files)) = false
is_of_disk (Some (Make number)) = false

-- the words ask for the list of records
abbrev pub is_registry : Option Command → Bool
is_registry None = false
is_registry (Some (Run files)) = false
is_registry (Some (Address topology)) = false
is_registry (Some (Lease leased)) = false
is_registry (Some (Registry files)) = true
is_registry (Some (Record stated)) = false
is_registry (Some (Replay files)) = false
is_registry (Some (Make number)) = false

-- the words spell a replay
abbrev pub is_replay : Option Command → Bool
is_replay None = false
is_replay (Some (Run files)) = false
is_replay (Some (Address topology)) = false
is_replay (Some (Lease leased)) = false
is_replay (Some (Registry files)) = false
is_replay (Some (Record stated)) = false
is_replay (Some (Replay files)) = true
is_replay (Some (Make number)) = false

-- the words spell a run or a made workload, which take the lines of a schedule
abbrev pub is_scheduled : Option Command → Bool
is_scheduled None = false
is_scheduled (Some (Run files)) = true
is_scheduled (Some (Address topology)) = false
is_scheduled (Some (Lease leased)) = false
is_scheduled (Some (Registry files)) = false
is_scheduled (Some (Record stated)) = false
is_scheduled (Some (Replay files)) = false
is_scheduled (Some (Make number)) = true

-- the words spell a command that names files: each does but that of a made workload
abbrev pub is_of_files : Option Command → Bool
is_of_files None = false
is_of_files (Some (Run files)) = true
is_of_files (Some (Address topology)) = true
is_of_files (Some (Lease leased)) = true
is_of_files (Some (Registry files)) = true
is_of_files (Some (Record stated)) = true
is_of_files (Some (Replay files)) = true
is_of_files (Some (Make number)) = false

-- the words spell a command
abbrev pub is_any_command : Option Command → Bool
is_any_command None = false
is_any_command (Some command) = true

-- the words spell no command
abbrev pub is_no_command : Option Command → Bool
is_no_command None = true
is_no_command (Some command) = false

-- no words meet this
abbrev pub is_never : Option Command → Bool
is_never command = false

-- the words name this file
abbrev pub IsNamed : Option Command → List ℕ → Type 0
IsNamed None name = ⊥
IsNamed (Some (Run files)) name = (name ≡ files.topology) ⊎ (name ≡ files.schedule)
IsNamed (Some (Address topology)) name = name ≡ topology
IsNamed (Some (Lease leased)) name = name ≡ leased.topology
IsNamed (Some (Registry files)) name = (name ≡ files.topology) ⊎ (name ≡ files.records)
IsNamed (Some (Record stated)) name = name ≡ stated.topology
IsNamed (Some (Replay files)) name = (name ≡ files.topology) ⊎ (name ≡ files.trace)
IsNamed (Some (Make number)) name = ⊥
