use Rattle.std.proofs.Common.{◌≡◌, take}
use Rattle.aip_rules.specs.Host.{kept_events}
use Rattle.aip_host.proofs.hearing.kept_events.Given as goal

abbrev pub invariant-entries : goal.invariant-entries
invariant-entries l = l.events ≡ kept_events l.host (take l.entry-index l.entries)
