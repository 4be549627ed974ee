-- When a disk in memory stops.
use Rattle.std.specs.Prelude.{ℕ, zero, suc, ◌-◌, Bool, true, false, ◌||◌, nat_le, if◌then◌else◌}
use Rattle.lease_disk.specs.declared.stop.Stop.{Stop}
use Rattle.lease_disk.specs.declared.stop.Stop.TheVariants.{Unarmed, Armed, Met}

-- whether the disk has stopped
abbrev pub is_met : Stop → Bool
is_met Unarmed = false
is_met (Armed call fill) = false
is_met (Met fill) = true

-- whether the next write or sync fails for the stop: it is the one that was armed, or the disk has stopped
abbrev pub is_stopping : Stop → Bool
is_stopping Unarmed = false
is_stopping (Armed call fill) = nat_le call 1
is_stopping (Met fill) = true

-- the stop after the next write or sync
abbrev pub stop_after : Stop → Stop
stop_after Unarmed = Unarmed
stop_after (Armed call fill) = if nat_le call 1 then Met fill else Armed (call - 1) fill
stop_after (Met fill) = Met fill

-- the stop once one is armed: one that was met stays
abbrev pub armed : ℕ → ℕ → Stop → Stop
armed call fill Unarmed = Armed call fill
armed call fill (Armed earlier other) = Armed call fill
armed call fill (Met other) = Met other

-- whether the stop falls at one of so many next writes and syncs
abbrev pub stops_within : ℕ → Stop → Bool
stops_within zero stop = false
stops_within (suc n) stop = is_stopping stop || stops_within n (stop_after stop)
