-- What a host notes of bytes that it puts.
use Rattle.std.proofs.Common.{◌≡◌, ℕ, true, false, List, refl, Option, Some, None}
use Rattle.std.specs.Prelude.{IfSome, is_some}
use Rattle.aip_addr.specs.declared.ids.Address.{Address}
use Rattle.aip_addr.specs.declared.ids.KeyId.{KeyId}
use Rattle.aip_addr.specs.Ids.{key_id_of}
use Rattle.aip_frame.specs.declared.frame.Frame.{Frame}
use Rattle.aip_frame.specs.Frame.{packet_hash_of}
use Rattle.sent_log.specs.Log.{Log, with_frame}
use Rattle.aip_rules.specs.Standing.{noted_of}
use Rattle.aip_host.specs.After.{with_noted}

-- of a frame its packet hash and whom it is for are noted
pub noted_is : (log : Log) (o : Option Frame) (hash : List ℕ) (to : Address) (key : KeyId) → is_some o ≡ true
    → IfSome o (λ f. hash ≡ packet_hash_of f) → IfSome o (λ f. to ≡ f.to) → key ≡ key_id_of to.eid
    → with_frame log (record { hash = hash; to = key }) ≡ with_noted log (noted_of o)
noted_is log (Some f) hash to key is same_hash same_to same_key = cc
noted_is log None hash to key is same_hash same_to same_key = absurd cc

-- of other bytes nothing is noted
pub none_is : (log : Log) (o : Option Frame) → is_some o ≡ false → log ≡ with_noted log (noted_of o)
none_is log (Some f) is = absurd cc
none_is log None is = refl
