use Rattle.std.proofs.Common.{◌≡◌, ◌++◌, drop}
use Rattle.aip_records.specs.Listing.{list_text}
use Rattle.aip_records.proofs.listing.push_records.Given as goal

-- what is written with the lines of the records that are left is all
abbrev pub invariant-loop-fields : goal.invariant-loop-fields
invariant-loop-fields l = l.out.items ++ list_text (drop l.fields-index l.records) ≡ l.fn.out.items ++ list_text l.records
