use Rattle.std.proofs.Common.{refl}
use Rattle.host_signer.specs.Signers.{disk_of, key_of, next_of}
use Rattle.aip_host.proofs.Bytes.{same_next}
use Rattle.aip_host.proofs.Turns.{is_opened, opening_served}
use Rattle.aip_host.proofs.signing.opened.Goals as goal

pub returns-clause-next : goal.returns-clause-next
returns-clause-next c = λ next rest. same_next c.args.tree next _ _ rest.within rest.spent (c.in-Ok.ensures.says _ refl)

pub returns-clause-spends : goal.returns-clause-spends
returns-clause-spends c =
    let rest = c.requires.rest.1 in
    let signer = c.in-Ok.signer in
    let served = opening_served c.args.disk (disk_of signer) _ _ rest.unlisted rest.unarmed rest.still c.in-Ok.ensures.calls in
    is_opened c.args.tree (key_of signer) c.requires.rest.0 (next_of signer) _ c.args.disk (disk_of signer) rest c.in-Ok.ensures.tree
    (same_next c.args.tree c.requires.rest.0 _ _ rest.within rest.spent (c.in-Ok.ensures.says _ refl)) served.1
