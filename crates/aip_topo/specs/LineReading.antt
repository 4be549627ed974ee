-- The line that a text spells, found word by word.
use Rattle.std.specs.Prelude.{ℕ, Bool, true, false, List, [], ◌∷◌, codes, if◌then◌else◌, Option, None}
use Rattle.std.specs.Str.{bytes_eq}
use Rattle.aip_text.specs.Words.{number_of, hex_sized, cut}
use Rattle.aip_text.specs.Fields.{four_fields, id_of, name_of, named, one_field, three_fields, two_fields, ◌>>=◌}
use Rattle.lmots_core.specs.declared.parameters.Width.{Width}
use Rattle.lmots_core.specs.declared.parameters.Width.TheVariants.{W1, W2, W4, W8}
use Rattle.lms_core.specs.declared.height.Height.{Height}
use Rattle.lms_core.specs.declared.height.Height.TheVariants.{H5, H10}
use Rattle.aip_topo.specs.Lines.{guard_word, height_word, kind_word, setting_word, trust_word, width_word}
use Rattle.aip_topo.specs.declared.lines.Line.{Line}
use Rattle.aip_topo.specs.declared.lines.Line.TheVariants as line
use Rattle.aip_topo.specs.declared.lines.Origin.{Origin}
use Rattle.aip_topo.specs.declared.lines.Origin.TheVariants as origin
use Rattle.aip_topo.specs.declared.lines.Setting.{Setting}
use Rattle.aip_topo.specs.declared.lines.Setting.TheVariants as setting

-- all settings, in their order
abbrev pub all_settings : List Setting
all_settings =
    setting.Accept ∷ setting.Cache ∷ setting.Epoch ∷ setting.Filter ∷ setting.Log ∷ setting.Threshold ∷ setting.Wild ∷ setting.Wildcache ∷ []

-- all widths
abbrev pub all_widths : List Width
all_widths = W1 ∷ W2 ∷ W4 ∷ W8 ∷ []

-- all heights
abbrev pub all_heights : List Height
all_heights = H5 ∷ H10 ∷ []

-- either of two
abbrev pub both : List Bool
both = true ∷ false ∷ []

-- behind `seed` in a domain's line
abbrev pub ad_seed_in : List ℕ → Option Origin
ad_seed_in rest =
    three_fields (named width_word all_widths) (named height_word all_heights) (hex_sized 32) (λ width height seed. origin.Seed width height 0 seed) rest

-- behind `seed` in a host's line
abbrev pub eid_seed_in : List ℕ → Option Origin
eid_seed_in rest =
    four_fields (named width_word all_widths) (named height_word all_heights) number_of (hex_sized 32)
    (λ width height interface seed. origin.Seed width height interface seed) rest

-- an id, or what a seed is read as, by the word before
abbrev pub origin_by : (List ℕ → Option Origin) → List ℕ → List ℕ → Option Origin
origin_by seed_in form rest =
    if bytes_eq form (codes "id") then one_field id_of (λ id. origin.Given id) rest
    else if bytes_eq form (codes "seed") then seed_in rest
    else None

-- how the id of a domain is given
abbrev pub ad_in : List ℕ → Option Origin
ad_in text = do
  form ← cut text
  origin_by ad_seed_in form.0 form.1

-- how the id of a host is given
abbrev pub eid_in : List ℕ → Option Origin
eid_in text = do
  form ← cut text
  origin_by eid_seed_in form.0 form.1

-- behind `set`
unfoldable pub set_in : List ℕ → Option Line
set_in rest = two_fields (named setting_word all_settings) number_of (λ s value. line.Set s value) rest

-- behind `domain`
unfoldable pub domain_in : List ℕ → Option Line
domain_in rest = two_fields name_of ad_in (λ name from. line.Domain name from) rest

-- behind `router`
unfoldable pub router_in : List ℕ → Option Line
router_in rest = four_fields name_of name_of (named kind_word both) (hex_sized 32) (λ name domain checking master. line.Router name domain checking master) rest

-- behind `host`
unfoldable pub host_in : List ℕ → Option Line
host_in rest = four_fields name_of name_of (named guard_word both) eid_in (λ name router guarded from. line.Host name router guarded from) rest

-- behind `link`
unfoldable pub link_in : List ℕ → Option Line
link_in rest = four_fields name_of name_of (named trust_word both) (named trust_word both) (λ a b a_trusts b_trusts. line.Link a b a_trusts b_trusts) rest

-- the line, by its first word
abbrev pub line_by : List ℕ → List ℕ → Option Line
line_by word rest =
    if bytes_eq word (codes "set") then set_in rest
    else if bytes_eq word (codes "domain") then domain_in rest
    else if bytes_eq word (codes "router") then router_in rest
    else if bytes_eq word (codes "host") then host_in rest
    else if bytes_eq word (codes "link") then link_in rest
    else None

-- the line that a text spells, if it spells one
unfoldable pub line_in : List ℕ → Option Line
line_in text = do
  word ← cut text
  line_by word.0 word.1
