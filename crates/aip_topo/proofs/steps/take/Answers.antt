use Rattle.std.proofs.Common.{◌≡◌, false, sym, subst, ◌∙◌}
use Rattle.std.specs.Prelude.{IsTrue}
use Rattle.aip_topo.specs.Steps.{fits, is_many}
use Rattle.aip_topo.specs.declared.topology.Topology.{Topology}
use Rattle.aip_topo.proofs.Accepted.{line_fits}
use Rattle.aip_topo.proofs.steps.take.Goals as goal

pub with-requires : goal.with-requires
with-requires c =
    let topology = c.args.draft.topology in
    let few = subst (λ (t : Topology). is_many t c.args.line.now ≡ false) c.topology.ensures (sym c.is_many.ensures ∙ c.if-is_many.false) in
    let ranged = sym c.is_out_of_range.ensures ∙ c.if-is_out_of_range.false in
    subst (λ e. IsTrue (fits topology e)) (sym c.in_ok-addition.ensures) (line_fits topology c.args.line.now few ranged)
