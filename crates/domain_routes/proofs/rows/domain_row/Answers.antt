use Rattle.std.proofs.Common.{◌≡◌, ◌∙◌, List, ℕ, Option, sym, subst, false}
use Rattle.std.specs.List.{list_any}
use Rattle.std.proofs.Common.{eqb}
use Rattle.domain_routes.specs.declared.Goal.TheVariants.{Domain}
use Rattle.domain_routes.specs.Rows.{IsRow}
use Rattle.domain_routes.proofs.RowLemmas.{empty_row, domains_past, not_there}
use Rattle.domain_routes.proofs.rows.domain_row.Goals as goal

pub returns-then-not-contains : goal.returns-then-not-contains
returns-then-not-contains c =
    let domains = c.args.graph.now.domains.items in
    let edges = c.args.graph.now.edges.items in
    let none : list_any (λ y. eqb y c.args.domain) domains ≡ false =
    subst (λ (xs : List ℕ). list_any (λ y. eqb y c.args.domain) xs ≡ false) c.as_slice.ensures.value (sym c.contains.ensures.value ∙ c.if-not-contains.true) in
    subst (λ (xs : List (Option ℕ)). IsRow domains edges (Domain c.args.domain) xs) (sym c.new.ensures.items)
    (empty_row domains edges (Domain c.args.domain) (domains_past domains c.args.domain (not_there domains c.args.domain none)))
