use Rattle.std.proofs.Common.{rules, ◌≡◌}
use Rattle.domain_routes.specs.Rows.{port_in}
use Rattle.domain_routes.proofs.PortLemmas.{goal_port_nowhere}
use Rattle.domain_routes.proofs.GoalRoutes.port.Goals as goal

pub returns-clause-none : goal.returns-clause-none
returns-clause-none c =
    let held : c.flatten.result ≡ port_in c.args.self.now c.args.router = search rules in
    goal_port_nowhere c.args.self.now c.args.router c.flatten.result held
