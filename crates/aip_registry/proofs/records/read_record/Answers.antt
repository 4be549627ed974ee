use Rattle.std.proofs.Common.{◌∙◌, sym, subst, arith}
use Rattle.aip_registry.specs.declared.records.Record.{Record}
use Rattle.aip_registry.specs.Record.{IsRecord, key_in, signature_in}
use Rattle.aip_registry.proofs.Spelled.{no_spelling, spelled_again}
use Rattle.aip_registry.proofs.records.read_record.Goals as goal

pub returns-then-not-is_record-clause-none : goal.returns-then-not-is_record-clause-none
returns-then-not-is_record-clause-none c = no_spelling c.args.bytes.now (sym c.is_record.ensures ∙ c.if-not-is_record.true)

pub returns-clause-spelled : goal.returns-clause-spelled
returns-clause-spelled c =
    subst (λ (r : Record). IsRecord c.args.bytes.now r (key_in c.args.bytes.now) (signature_in c.args.bytes.now)) (sym c.fields_in.ensures)
    (spelled_again c.args.bytes.now (λ i. omega (arith, c.type_inv.bytes i)) (sym c.is_record.ensures ∙ c.if-not-is_record.false))
