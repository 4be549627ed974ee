use Rattle.std.proofs.Common.{◌∙◌, sym, ap, subst, List}
use Rattle.std.proofs.lemmas.Result.{IfOk-weaker}
use Rattle.aip_registry.specs.declared.records.Record.{Record}
use Rattle.aip_registry.specs.Kept.{IsInOrder, kept_on}
use Rattle.aip_registry.proofs.Newest.{keeps_newest}
use Rattle.aip_registry.proofs.registry.Registry.list.Goals as goal

pub returns-clause-in_order : goal.returns-clause-in_order
returns-clause-in_order c =
    IfOk-weaker c.records_in.result _ _ (λ v e. subst IsInOrder (sym e) c.records_in.ensures.in_order) c.records_in.ensures.records

pub returns-clause-newest : goal.returns-clause-newest
returns-clause-newest c published h =
    IfOk-weaker c.records_in.result _ _
    (λ v e kind ad other. ap (λ (ks : List Record). kept_on kind ad other ks) (e ∙ (c.self.view_is ∙ h)) ∙ keeps_newest kind ad other published)
    c.records_in.ensures.records
