use Rattle.std.proofs.Common.{sym, ◌∙◌, arith}
use Rattle.std.proofs.lemmas.Bool.{false≢true}
use Rattle.shutoff_filter.specs.Entries.{entries_of}
use Rattle.shutoff_filter.specs.InForce.{covered_before}
use Rattle.aip_host.proofs.guard.told.Goals as goal

pub returns-in-Ok-clause-covered : goal.returns-in-Ok-clause-covered
returns-in-Ok-clause-covered c =
    let entries = entries_of c.args.store.slots.slots.items in
    λ told. absurd (false≢true (sym c.if-covers.false ∙ c.covers.ensures ∙ covered_before c.args.until c.args.to.now entries (omega arith) ∙ told))
