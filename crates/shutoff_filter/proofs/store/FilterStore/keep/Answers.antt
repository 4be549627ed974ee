use Rattle.std.proofs.Common.{◌∷◌}
use Rattle.shutoff_filter.specs.Entries.{entries_of}
use Rattle.shutoff_filter.proofs.Held.{kept_images}
use Rattle.shutoff_filter.proofs.store.FilterStore.keep.Goals as goal

pub returns-clause-kept : goal.returns-clause-kept
returns-clause-kept g c =
    let self = c.args.self in
    kept_images c.write_entry.result self.slots.room c.args.now (record { to = c.args.to.now; until = c.args.until } ∷ entries_of self.slots.slots.items) c.write_entry.ensures.added c.write_entry.ensures.room
