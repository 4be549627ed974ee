use Rattle.std.proofs.Common.{true, subst}
use Rattle.std.specs.BTreeSet.{Updates}
use Rattle.aip_addr.specs.declared.ids.KeyId.{KeyId}
use Rattle.aip_topo.specs.Index.{key_id_cmp}
use Rattle.aip_topo.proofs.indexed.note.Goals as goal

pub returns-clause-key : goal.returns-clause-key
returns-clause-key c = subst (λ (id : KeyId). Updates key_id_cmp c.args.keys.now c.insert-2.new.self id true) c.key_id.ensures c.in_ok-insert-2.ensures.updates
