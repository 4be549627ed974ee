-- The one event of a publication, and what was published on a trace that a step made longer.
use Rattle.std.proofs.Common.{◌≡◌, ℕ, List, [], ◌∷◌, ◌++◌, refl, ap}
use Rattle.aip_addr.specs.declared.ids.Id.{Id}
use Rattle.aip_event.specs.declared.event.Event.{Event}
use Rattle.aip_event.specs.declared.event.Event.TheVariants.{PublishedPeer, PublishedBind, Unpublished}
use Rattle.aip_event.specs.declared.input.Input.{Input}
use Rattle.aip_event.specs.declared.input.Input.TheVariants.{Publish}
use Rattle.aip_registry.specs.declared.published.Published.{Published}
use Rattle.aip_registry.specs.declared.published.Published.TheVariants as said
use Rattle.aip_registry.specs.declared.records.Record.{Record}
use Rattle.aip_registry.specs.declared.records.RecordKind.{RecordKind}
use Rattle.aip_registry.specs.declared.records.RecordKind.TheVariants.{Peer, Bind}
use Rattle.aip_registry.specs.Record.{fields_in}
use Rattle.aip_registry.specs.Kept.{after, kept_records, publication}
use Rattle.aip_rules.specs.declared.Entry.{Entry}
use Rattle.aip_rules.specs.declared.Entry.TheVariants.{Taken, Happened}
use Rattle.aip_rules.specs.Records.{kept_record_event, publication_event, published_by, published_on, records_kept}
use Rattle.aip_rules.specs.Step.{after_step, with_events}

-- what holds of every event that a publication may have holds of the one that it has
module _ (P : Event → Type 0) (peer : (ad other : Id) (number until : ℕ) → P (PublishedPeer ad other number until)) (bind : (ad other : Id) (number until : ℕ) → P (PublishedBind ad other number until)) (refused : (number : ℕ) → P (Unpublished number)) where
  of_kept : (kind : RecordKind) (r : Record) → P (kept_record_event kind r)
  of_kept Peer r = peer r.ad r.other r.number r.until
  of_kept Bind r = bind r.ad r.other r.number r.until

  of_answer : (r : Record) (answer : Published) → P (publication_event r answer)
  of_answer r said.Ok = of_kept r.kind r
  of_answer r said.Body = refused 1
  of_answer r said.Key = refused 2
  of_answer r said.Signature = refused 3
  of_answer r (said.Old number) = refused 4

  pub of_publication : (kept : List Record) (bytes : List ℕ) → P (publication_event (fields_in bytes) (publication kept bytes))
  of_publication kept bytes = of_answer (fields_in bytes) (publication kept bytes)

-- events publish nothing
still_published : (events : List Event) (tr : List Entry) → published_on (with_events events tr) ≡ published_on tr
still_published [] tr = refl
still_published (event ∷ events) tr = still_published events (Happened event ∷ tr)

-- what was published after a step is what its input publishes, and what was published before
pub published_after : (tr : List Entry) (input : Input) (events : List Event) → published_on (after_step tr input events) ≡ published_by input ++ published_on tr
published_after tr input events = still_published events (Taken input ∷ tr)
