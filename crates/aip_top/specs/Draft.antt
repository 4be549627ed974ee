-- A record that isn't signed yet, as the code keeps it.
use Rattle.std.specs.Prelude.{◌≡◌}
use Rattle.aip_top.specs.Recording.{Drafted, Denied, Drafts}
use Rattle.aip_top.specs.declared.issue.Draft.{Draft}

-- the record isn't refused, and this is its key and what it says
abbrev pub IsDrafted : Drafted → Draft → Type 0
IsDrafted (Denied end) draft = ⊥
IsDrafted (Drafts k r) draft = (draft.tree ≡ k) × (draft.fields ≡ r)
