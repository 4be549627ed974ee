use Rattle.std.proofs.Common.{◌∙◌, ap, List, ℕ}
use Rattle.std.specs.List.{position_from}
use Rattle.std.specs.Ordering.{is_eq}
use Rattle.std.proofs.lemmas.Result.{IfOk-weaker}
use Rattle.aip_topo.specs.Index.{name_cmp}
use Rattle.aip_core.proofs.Keys.{router_by_name}
use Rattle.aip_core.proofs.directory.router_names.Goals as goal

pub returns : goal.returns
returns c =
    IfOk-weaker c.places_of.result _ _ (λ places found key.
    found key ∙ ap (λ (ks : List (List ℕ)). position_from (λ other. is_eq (name_cmp other key)) 0 ks) (c.deref.ensures.value ∙ c.in_ok-names.ensures)
    ∙ router_by_name c.args.routers.now key) c.places_of.ensures
