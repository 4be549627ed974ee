-- Bytes that are published, and the core that takes them.
use Rattle.std.proofs.Common.{◌≡◌, ℕ, ◌&&◌, Bool, true, false, cond, not, List, Option, Some, None, Result, Ok, Err, refl, sym, ap, subst, ◌∙◌}
use Rattle.aip_event.specs.declared.event.Event.TheVariants as event
use Rattle.aip_event.specs.declared.event.Event.{Event}
use Rattle.aip_event.specs.declared.input.Input.TheVariants.{Publish}
use Rattle.aip_registry.specs.declared.published.Published.{Published}
use Rattle.aip_registry.specs.declared.published.Published.TheVariants as published
use Rattle.aip_registry.specs.declared.records.Record.{Record}
use Rattle.aip_registry.specs.Record.{fields_in, is_record, record_in}
use Rattle.aip_registry.specs.Kept.{after, has_key, has_signature, against, kept_on, publication, refusal_number}
use Rattle.aip_rules.specs.declared.Reaction.{Reaction}
use Rattle.aip_rules.specs.Records.{publication_event}
use Rattle.aip_host.specs.HostState.{HostState}
use Rattle.aip_core.specs.declared.reactions.NoReaction.{NoReaction}
use Rattle.aip_core.specs.declared.reactions.NoReaction.TheVariants as no
use Rattle.aip_core.specs.Kept.{Kept}
use Rattle.aip_core.specs.Machine.{kept_outcome, kept_published}
use Rattle.aip_core.specs.Moves.{Does, HostMoves, Moved, MovesAt, RouterMoves}
use Rattle.aip_core.specs.RouterMachine.{RouterState}
use Rattle.aip_core.proofs.Acting.{none_moves}

-- what is read of bytes that are a record is what they say
read_fields : (test : Bool) (fields said : Record) → cond test (Some said) None ≡ Some fields → fields ≡ said
read_fields true fields said read = cc
read_fields false fields said read = absurd cc

pub reads : (bytes : List ℕ) (fields : Record) → record_in bytes ≡ Some fields → fields ≡ fields_in bytes
reads bytes fields read = read_fields (is_record bytes) fields (fields_in bytes) read

-- bytes of which nothing is read are no record, and refused as none
read_none : (test : Bool) (said : Record) (rest : Published) → cond test (Some said) None ≡ None → cond (not test) published.Body rest ≡ published.Body
read_none true said rest read = absurd cc
read_none false said rest read = refl

pub refuses : (kept : List Record) (bytes : List ℕ) → record_in bytes ≡ None → publication kept bytes ≡ published.Body
refuses kept bytes read = read_none (is_record bytes) (fields_in bytes) _ read

-- the event of bytes that are a record
pub event_of_fields : (kept : List Record) (bytes : List ℕ) (fields : Record) (said : Published) (told : Event) → record_in bytes ≡ Some fields → told ≡ publication_event fields said
    → said ≡ publication kept bytes → told ≡ publication_event (fields_in bytes) (publication kept bytes)
event_of_fields kept bytes fields said told read is answer =
    is ∙ ap (λ (r : Record). publication_event r said) (reads bytes fields read) ∙ ap (λ (p : Published). publication_event (fields_in bytes) p) answer

-- and of others
pub event_of_none : (kept : List Record) (bytes : List ℕ) (said : Published) (number : ℕ) → record_in bytes ≡ None → number ≡ refusal_number said
    → said ≡ publication kept bytes → event.Unpublished number ≡ publication_event (fields_in bytes) (publication kept bytes)
event_of_none kept bytes said number read is answer =
    let body = refuses kept bytes read in
    ap (λ n. event.Unpublished n) (is ∙ ap refusal_number (answer ∙ body)) ∙ ap (λ (p : Published). publication_event (fields_in bytes) p) (sym body)

-- what comes of a publication in a core is what comes of it to its records
publishes_here : (kept next : Kept) (bytes : List ℕ) (result : Result Reaction NoReaction) → next ≡ record kept { records = next.records }
    → Does (kept_published kept.records bytes) (λ reaction old new. new ≡ after old bytes) kept.records result next.records
    → Does (kept_outcome kept (Publish bytes)) (λ reaction old new. Moved old (Publish bytes) reaction new) kept result next
publishes_here kept next bytes (Ok reaction) is does = (
  does.0,
  record {
    topo = ap (λ (k : Kept). k.topo) is;
    links = ap (λ (k : Kept). k.links) is;
    flights = ap (λ (k : Kept). k.flights) is;
    records = does.1;
    ticks = ap (λ (k : Kept). k.ticks) is;
    inputs = ap (λ (k : Kept). k.inputs) is;
    hosts = subst (λ (hs : List HostState). MovesAt HostState None (HostMoves kept.ticks (Publish bytes) reaction) kept.hosts hs)
        (sym (ap (λ (k : Kept). k.hosts) is))
        (none_moves HostState None (HostMoves kept.ticks (Publish bytes) reaction) kept.hosts refl);
    routers = subst (λ (rs : List RouterState). MovesAt RouterState None (RouterMoves kept None (Publish bytes)) kept.routers rs)
        (sym (ap (λ (k : Kept). k.routers) is))
        (none_moves RouterState None (RouterMoves kept None (Publish bytes)) kept.routers refl);
  },
)
publishes_here kept next bytes (Err (no.Fault f)) is does = (does.0, is ∙ ap (λ (rs : List Record). record kept { records = rs }) does.1)
publishes_here kept next bytes (Err no.Memory) is does = tt

-- the same of a core whose inside is told
pub publishes_in_core : (inside kept next : Kept) (bytes : List ℕ) (result : Result Reaction NoReaction) → inside ≡ kept → next ≡ record inside { records = next.records }
    → Does (kept_published inside.records bytes) (λ reaction old new. new ≡ after old bytes) inside.records result next.records
    → Does (kept_outcome kept (Publish bytes)) (λ reaction old new. Moved old (Publish bytes) reaction new) kept result next
publishes_in_core inside kept next bytes result same is does =
    subst (λ (k : Kept). Does (kept_outcome k (Publish bytes)) (λ reaction old new. Moved old (Publish bytes) reaction new) k result next) same
    (publishes_here inside next bytes result is does)
