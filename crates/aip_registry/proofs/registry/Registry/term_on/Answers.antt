use Rattle.std.proofs.Common.{◌∙◌}
use Rattle.aip_registry.proofs.Entries.{found_at}
use Rattle.aip_registry.proofs.registry.Registry.term_on.Goals as goal

pub returns : goal.returns
returns c =
    found_at c.args.subject.now c.self.inside.terms.entries c.args.self.now c.copied.result (c.copied.ensures ∙ c.get.ensures.value) c.self.view_is
