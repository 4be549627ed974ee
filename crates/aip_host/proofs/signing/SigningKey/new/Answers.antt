use Rattle.aip_host.proofs.signing.SigningKey.new.Goals as goal

pub returns-clause-next : goal.returns-clause-next
returns-clause-next c = c.opened-signer.ensures.next 0 c.in_ok-disk.ensures.rest
