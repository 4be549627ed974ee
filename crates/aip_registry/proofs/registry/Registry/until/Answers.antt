use Rattle.std.proofs.Common.{◌∙◌, ap, List}
use Rattle.std.specs.Prelude.{option_map}
use Rattle.aip_registry.specs.declared.records.Record.{Record}
use Rattle.aip_registry.specs.Kept.{kept_on}
use Rattle.aip_registry.proofs.Newest.{keeps_newest}
use Rattle.aip_registry.proofs.registry.Registry.until.Goals as goal

pub returns-clause-newest : goal.returns-clause-newest
returns-clause-newest c published h =
    c.until_on.ensures
    ∙ ap (option_map (λ (r : Record). r.until))
    (ap (λ (ks : List Record). kept_on c.args.kind c.args.ad.now c.args.other.now ks) h
    ∙ keeps_newest c.args.kind c.args.ad.now c.args.other.now published)
