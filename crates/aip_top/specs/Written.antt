-- What was taken of a text where a command ends.
use Rattle.std.specs.Prelude.{◌≡◌, ℕ, true, List, Option}
use Rattle.aip_io.specs.Sink.{and_then, TookPart}
use Rattle.aip_top.specs.Statuses.{kind_of}
use Rattle.aip_top.specs.declared.status.Status.{Status}
use Rattle.aip_top.specs.declared.status.Status.TheVariants as status

-- a fault or want of memory cut the command short
abbrev pub CutsShort : Status → Type 0
CutsShort end = (kind_of end).cuts_short ≡ true

-- where all was done the whole text is taken, and on every answer a first part of it
pub record WritesOnDone (text : List ℕ) (end : Status) (old new : Option (List ℕ)) : Type 0 where
  pub whole : end ≡ status.Done → new ≡ and_then old text
  pub part : TookPart old new text
