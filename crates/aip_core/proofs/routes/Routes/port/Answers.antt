use Rattle.std.proofs.Common.{refl}
use Rattle.domain_routes.specs.declared.Goal.TheVariants.{Domain, Router}
use Rattle.aip_core.proofs.routes.Routes.port.Goals as goal

pub returns-in-Domain-clause-over : goal.returns-in-Domain-clause-over
returns-in-Domain-clause-over c = record {
  to_domains = c.port_by.ensures.kept (λ d. Domain d) refl c.requires.over.to_domains;
  to_routers = c.requires.over.to_routers;
}

pub returns-in-Router-clause-over : goal.returns-in-Router-clause-over
returns-in-Router-clause-over c = record {
  to_domains = c.requires.over.to_domains;
  to_routers = c.port_by-in-Router.ensures.kept (λ r. Router r) refl c.requires.over.to_routers;
}
