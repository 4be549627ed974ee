-- The entries of a registry, and the records that they stand for.
use Rattle.std.specs.Prelude.{List, map}
use Rattle.aip_registry.specs.declared.records.Record.{Record}
use Rattle.aip_registry.specs.declared.registry.Subject.{Subject}
use Rattle.aip_registry.specs.declared.registry.Term.{Term}

-- what a record is about
abbrev pub subject_of : Record → Subject
subject_of r = record { kind = r.kind; ad = r.ad; other = r.other }

-- the number of a record, and the tick until which it is in force
abbrev pub term_of : Record → Term
term_of r = record { number = r.number; until = r.until }

-- the record that an entry stands for
abbrev pub record_at : Subject × Term → Record
record_at e = record { kind = e.0.kind; ad = e.0.ad; other = e.0.other; number = e.1.number; until = e.1.until }

-- the records that entries stand for
abbrev pub records_in : List (Subject × Term) → List Record
records_in entries = map record_at entries
