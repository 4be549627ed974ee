-- What a lease wants of the disk and writes.
use Rattle.std.specs.Prelude.{◌≡◌}
use Rattle.lms_core.specs.Tree.{Key, identifier_of}
use Rattle.lms_core.specs.Parameters.{levels_of}
use Rattle.aip_top.specs.Leasing.{Asked, Refused, Keyed, lease_text}
use Rattle.aip_top.specs.declared.lease.Wanted.{Wanted}

-- the identifier and the height of the key, and its line
pub record Wants (k : Key) (wanted : Wanted) : Type 0 where
  pub id : wanted.id ≡ identifier_of k.seed
  pub height : wanted.height ≡ levels_of k.height
  pub text : wanted.text.items ≡ lease_text k

-- the lease isn't refused, and this is what it wants
abbrev pub IsWanted : Asked → Wanted → Type 0
IsWanted (Refused end) wanted = ⊥
IsWanted (Keyed k) wanted = Wants k wanted
