-- What comes of a publication has short words.
use Rattle.std.proofs.Common.{◌≡◌, ℕ, Bool, true, false, cond, not, List, refl, lit<}
use Rattle.hex.specs.Hex.{IsBytes}
use Rattle.aip_registry.specs.Kept.{publication}
use Rattle.aip_registry.specs.Record.{RecordFits, fields_in, is_record}
use Rattle.aip_registry.specs.declared.published.Published.{Published}
use Rattle.aip_registry.specs.declared.published.Published.TheVariants as said
use Rattle.aip_registry.specs.declared.records.Record.{Record}
use Rattle.aip_registry.specs.declared.records.RecordKind.{RecordKind}
use Rattle.aip_registry.specs.declared.records.RecordKind.TheVariants.{Peer, Bind}
use Rattle.aip_registry.proofs.Spelled.{spelled_again}
use Rattle.aip_rules.specs.Records.{kept_record_event, publication_event, publishes}
use Rattle.aip_replay.proofs.Short.{IsShortEvent}
use Rattle.aip_replay.proofs.ShortHosts.{IsShortReaction, happens_short}

-- the words of a record whose fields have their sizes
kept_short : (leaves : ℕ) (kind : RecordKind) (r : Record) → RecordFits r → IsShortEvent leaves (kept_record_event kind r)
kept_short leaves Peer r fits = (fits.ad, fits.other, fits.number, fits.until)
kept_short leaves Bind r fits = (fits.ad, fits.other, fits.number, fits.until)

-- the event by which bytes are answered, where the fields of what is taken have their sizes
answer_short : (leaves : ℕ) (r : Record) (answer : Published) → (answer ≡ said.Ok → RecordFits r) → IsShortEvent leaves (publication_event r answer)
answer_short leaves r said.Ok fits = kept_short leaves r.kind r (fits refl)
answer_short leaves r said.Body fits = lit< tt
answer_short leaves r said.Key fits = lit< tt
answer_short leaves r said.Signature fits = lit< tt
answer_short leaves r (said.Old number) fits = lit< tt

-- what is taken is a record
taken_whole : (whole : Bool) (rest : Published) → cond (not whole) said.Body rest ≡ said.Ok → whole ≡ true
taken_whole true rest e = refl
taken_whole false rest e = absurd cc

-- what comes of a publication of bytes
pub publication_short : (leaves : ℕ) (kept : List Record) (bytes : List ℕ) → IsBytes bytes → IsShortReaction leaves (publishes kept bytes)
publication_short leaves kept bytes small =
    happens_short leaves (publication_event (fields_in bytes) (publication kept bytes))
    (answer_short leaves (fields_in bytes) (publication kept bytes) (λ ok. (spelled_again bytes small (taken_whole (is_record bytes) _ ok)).fits))
