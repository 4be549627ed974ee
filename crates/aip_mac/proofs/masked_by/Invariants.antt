use Rattle.std.proofs.Common.{◌≡◌, ◌++◌, take, drop}
use Rattle.aip_mac.specs.Hmac.{masked}
use Rattle.aip_mac.proofs.masked_by.Given as goal

-- the bytes before the index are changed
abbrev pub invariant-bytes : goal.invariant-bytes
invariant-bytes l = l.out ≡ masked (take l.i l.block) l.pad ++ drop l.i l.block
