use Rattle.aip_registry.proofs.Entries.{none_at, on_error, put_at}
use Rattle.aip_registry.proofs.registry.Registry.put.Goals as goal

pub returns-in_err-insert-clause-needs : goal.returns-in_err-insert-clause-needs
returns-in_err-insert-clause-needs c =
    on_error c.from_residual.result
    (none_at c.args.fields.now c.subject_of.result c.self.inside.terms.entries c.args.self.now c.in_err-insert.ensures.absent c.subject_of.ensures c.self.view_is)

pub returns-clause-kept : goal.returns-clause-kept
returns-clause-kept c =
    put_at c.args.fields.now c.subject_of.result c.self.inside.terms.entries c.insert.new.self.entries c.args.self.now c.in_ok-insert.ensures.entries c.subject_of.ensures
    c.self.view_is
