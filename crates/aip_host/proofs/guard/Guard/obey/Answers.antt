use Rattle.std.proofs.Common.{◌≡◌, true, sym, ap, subst, ◌∙◌}
use Rattle.std.specs.Prelude.{OnOk}
use Rattle.shutoff_filter.specs.Entries.{SameInForce}
use Rattle.aip_host.specs.declared.guard.State.TheVariants.{Ready}
use Rattle.aip_host.specs.Guarding.{GuardState, entries_after, is_told}
use Rattle.aip_host.specs.Guarded.{guard_in, guard_of}
use Rattle.aip_host.proofs.Orders.{entries_left}
use Rattle.aip_host.proofs.guard.Guard.obey.Goals as goal

pub returns-clause-entries : goal.returns-clause-entries
returns-clause-entries c =
    let ready = c.in-Some-Ready in
    let same : guard_in (Ready ready.store ready.halt) ≡ c.args.self.now = sym (ap guard_in ready.field-0-is) ∙ ap guard_of ready.ensures.value ∙ c.self.view_is in
    let after = guard_in c.told-state.result.0 in
    subst (λ (kept : GuardState). OnOk c.told-state.result.1 (SameInForce c.args.now (entries_after kept c.args.to.now c.args.until) after.entries)) same
    (entries_left c.args.now (guard_in (Ready ready.store ready.halt)) c.args.to.now c.args.until c.told-state.result.1 after c.told-state.ensures.obeying)

pub returns-clause-covered : goal.returns-clause-covered
returns-clause-covered c =
    let ready = c.in-Some-Ready in
    let same : guard_in (Ready ready.store ready.halt) ≡ c.args.self.now = sym (ap guard_in ready.field-0-is) ∙ ap guard_of ready.ensures.value ∙ c.self.view_is in
    λ told. c.told-state.ensures.covered (subst (λ (kept : GuardState). is_told kept c.args.to.now c.args.until ≡ true) (sym same) told) ∙ same
