use Rattle.std.proofs.Common.{◌≡◌, ◌∙◌, ap, sym, List, Vec, Option, ℕ}
use Rattle.std.specs.declared.alloc.Global.{Global}
use Rattle.domain_routes.specs.declared.Goal.{Goal}
use Rattle.domain_routes.specs.Rows.{entry_of}
use Rattle.domain_routes.specs.Table.{port_of}
use Rattle.domain_routes.proofs.PortLemmas.{port_lowest, port_nowhere}
use Rattle.domain_routes.proofs.Routes.port.Goals as goal
use Rattle.domain_routes.proofs.Routes.port.Goals.{After-entry, After-entry-in-Router}

by_domain : (c : After-entry) → c.entry.result ≡ port_of c.args.self.now c.args.router c.args.goal
by_domain c =
    c.entry.ensures ∙ ap (λ (rows : List (Vec (Option ℕ) Global)). entry_of rows c.in-Domain.domain c.args.router) c.deref.ensures.value
    ∙ ap (λ (g : Goal). port_of c.args.self.now c.args.router g) (sym c.in-Domain.is)

by_router : (c : After-entry-in-Router) → c.entry-in-Router.result ≡ port_of c.args.self.now c.args.router c.args.goal
by_router c =
    c.entry-in-Router.ensures ∙ ap (λ (rows : List (Vec (Option ℕ) Global)). entry_of rows c.in-Router.target c.args.router) c.deref-in-Router.ensures.value
    ∙ ap (λ (g : Goal). port_of c.args.self.now c.args.router g) (sym c.in-Router.is)

pub returns-in-Domain-clause-lowest : goal.returns-in-Domain-clause-lowest
returns-in-Domain-clause-lowest c = port_lowest c.args.self.now c.args.router c.args.goal c.entry.result (by_domain c)

pub returns-in-Domain-clause-none : goal.returns-in-Domain-clause-none
returns-in-Domain-clause-none c = port_nowhere c.args.self.now c.args.router c.args.goal c.entry.result (by_domain c)

pub returns-in-Router-clause-lowest : goal.returns-in-Router-clause-lowest
returns-in-Router-clause-lowest c = port_lowest c.args.self.now c.args.router c.args.goal c.entry-in-Router.result (by_router c)

pub returns-in-Router-clause-none : goal.returns-in-Router-clause-none
returns-in-Router-clause-none c = port_nowhere c.args.self.now c.args.router c.args.goal c.entry-in-Router.result (by_router c)
