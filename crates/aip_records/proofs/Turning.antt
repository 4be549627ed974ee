-- One line of a record file, taken.
use Rattle.std.proofs.Common.{◌≡◌, ◌⊎◌, inl, inr, ℕ, ◌+◌, List, [], ◌∷◌, Option, Some, None, Ok, Err, refl, ap, sym, ◌∙◌, subst}
use Rattle.std.specs.Prelude.{IfSome, Result}
use Rattle.aip_text.specs.Lines.{lines_of}
use Rattle.aip_io.specs.declared.got.Got.{Got}
use Rattle.aip_io.specs.declared.got.Got.TheVariants as got
use Rattle.aip_io.specs.Lines.{Gives}
use Rattle.aip_topo.specs.declared.topology.Domain.{Domain}
use Rattle.aip_registry.specs.Kept.{kept_records}
use Rattle.aip_registry.specs.declared.records.Record.{Record}
use Rattle.aip_records.specs.declared.faults.RecordFault.{RecordFault}
use Rattle.aip_records.specs.declared.written.Written.{Written}
use Rattle.aip_records.specs.declared.written.Written.TheVariants as line_is
use Rattle.aip_records.specs.declared.reading.Turn.{Turn}
use Rattle.aip_records.specs.Files.{RefusedRecord, by_fault, by_line, read_from, record_fault, records_of, written}
use Rattle.aip_records.specs.Next.{IsNextOf, IsWritten}
use Rattle.aip_records.specs.Turns.{HasCome, HasRead, IsTurn}

-- ## The next line

-- a line that stands first is the next
judged_first : (number : ℕ) (before after : List (List ℕ)) (line : List ℕ) (next : Written) → before ≡ line ∷ after → IsWritten number line next → IsNextOf number before after line next
judged_first number before after line (line_is.Bytes bytes) first judged = (first, judged)
judged_first number before after line line_is.Skipped first judged = (first, judged)
judged_first number before after line (line_is.Refused f) first judged = (line, after, first, judged)
judged_first number before after line line_is.End first judged = absurd judged
judged_first number before after line line_is.Unread first judged = tt
judged_first number before after line line_is.Memory first judged = tt

stands_first : (most : ℕ) (before line after : List ℕ) (g : Got) → (g ≡ got.Line) ⊎ (g ≡ got.Last) → Gives g most before line after → lines_of before ≡ line ∷ lines_of after
stands_first most before line after g (inl is) gives = (subst (λ x. Gives x most before line after) is gives).lines
stands_first most before line after g (inr is) gives = (subst (λ x. Gives x most before line after) is gives).lines

-- a line that was given, and judged
pub given : (told : Option (List ℕ)) (number most : ℕ) (before after : List ℕ → List ℕ) (line read : List ℕ) (g : Got) (next : Written) → (g ≡ got.Line) ⊎ (g ≡ got.Last)
    → IfSome told (λ text. Gives g most (before text) line (after text)) → read ≡ line → IsWritten number read next
    → IfSome told (λ text. IsNextOf number (lines_of (before text)) (lines_of (after text)) line next)
given None number most before after line read g next which gives same judged = tt
given (Some text) number most before after line read g next which gives same judged =
    judged_first number (lines_of (before text)) (lines_of (after text)) line next (stands_first most (before text) line (after text) g which gives)
    (subst (λ l. IsWritten number l next) same judged)

-- ## What the next line leads to, where the file is told

-- bytes are published
pub on_bytes : (t : Option (List ℕ)) (domains : List Domain) (before after : List ℕ → List (List ℕ)) (line bytes read : List ℕ) (number : ℕ) (kept now : List Record) (turn : Turn)
    → IfSome t (λ told. IsNextOf number (before told) (after told) line (line_is.Bytes bytes)) → read ≡ bytes
    → ((line : List ℕ) (lines : List (List ℕ)) (whole : Result (List (List ℕ)) RefusedRecord) → written number line ≡ Ok (Some read)
    → HasCome domains kept number (line ∷ lines) whole → IsTurn domains now number lines whole turn)
    → IfSome t (λ told. (whole : Result (List (List ℕ)) RefusedRecord) → HasCome domains kept number (before told) whole → IsTurn domains now number (after told) whole turn)
on_bytes None domains before after line bytes read number kept now turn next same takes = tt
on_bytes (Some text) domains before after line bytes read number kept now turn next same takes = λ whole came.
    takes line (after text) whole (next.1 ∙ ap (λ b. Ok (Some b)) (sym same)) (subst (λ lines. HasCome domains kept number lines whole) next.0 came)
