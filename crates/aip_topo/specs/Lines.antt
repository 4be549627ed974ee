-- The lines of a topology: what they say, and how each is spelled.
use Rattle.std.specs.Prelude.{◌≡◌, ℕ, Bool, true, false, List, ◌∷◌, ◌++◌, codes, decimal}
use Rattle.hex.specs.Hex.{encode_lower}
use Rattle.aip_addr.specs.Naming.{IsName}
use Rattle.aip_text.specs.Words.{IsNumber}
use Rattle.aip_text.specs.Fields.{IsId, IsSized}
use Rattle.lmots_core.specs.declared.parameters.Width.{Width}
use Rattle.lmots_core.specs.declared.parameters.Width.TheVariants.{W1, W2, W4, W8}
use Rattle.lms_core.specs.declared.height.Height.{Height}
use Rattle.lms_core.specs.declared.height.Height.TheVariants.{H5, H10}
use Rattle.aip_topo.specs.declared.lines.Line.{Line}
use Rattle.aip_topo.specs.declared.lines.Line.TheVariants as line
use Rattle.aip_topo.specs.declared.lines.Origin.{Origin}
use Rattle.aip_topo.specs.declared.lines.Origin.TheVariants as origin
use Rattle.aip_topo.specs.declared.lines.Setting.{Setting}
use Rattle.aip_topo.specs.declared.lines.Setting.TheVariants as setting

-- ## Words

-- the word of a setting
abbrev pub setting_word : Setting → List ℕ
setting_word setting.Accept = codes "accept"
setting_word setting.Cache = codes "cache"
setting_word setting.Epoch = codes "epoch"
setting_word setting.Filter = codes "filter"
setting_word setting.Log = codes "log"
setting_word setting.Threshold = codes "threshold"
setting_word setting.Wild = codes "wild"
setting_word setting.Wildcache = codes "wildcache"

-- the word of the width of a key's one-time signatures
abbrev pub width_word : Width → List ℕ
width_word W1 = codes "W1"
width_word W2 = codes "W2"
width_word W4 = codes "W4"
width_word W8 = codes "W8"

-- the word of the height of a key's tree
abbrev pub height_word : Height → List ℕ
height_word H5 = codes "H5"
height_word H10 = codes "H10"

-- whether a router checks sources
abbrev pub kind_word : Bool → List ℕ
kind_word true = codes "checking"
kind_word false = codes "open"

-- whether a host has a guard
abbrev pub guard_word : Bool → List ℕ
guard_word true = codes "guarded"
guard_word false = codes "plain"

-- whether a router trusts what comes over a link
abbrev pub trust_word : Bool → List ℕ
trust_word true = codes "trusted"
trust_word false = codes "checked"

-- ## Lines

-- a word, a space, and what follows
infixr 5 ◌␣◌
abbrev pub ◌␣◌ : List ℕ → List ℕ → List ℕ
word ␣ rest = word ++ 32 ∷ rest

-- how the id of a domain is given: the id, or the seed of its key
abbrev pub ad_words : Origin → List ℕ
ad_words (origin.Given id) = codes "id" ␣ encode_lower id.bytes
ad_words (origin.Seed width height _ seed) = codes "seed" ␣ width_word width ␣ height_word height ␣ encode_lower seed

-- how the id of a host is given: the id, or the seed of its key with the interface
abbrev pub eid_words : Origin → List ℕ
eid_words (origin.Given id) = codes "id" ␣ encode_lower id.bytes
eid_words (origin.Seed width height interface seed) =
    codes "seed" ␣ width_word width ␣ height_word height ␣ decimal interface ␣ encode_lower seed

-- how a line is spelled
abbrev pub line_text : Line → List ℕ
line_text (line.Set setting value) = codes "set" ␣ setting_word setting ␣ decimal value
line_text (line.Domain name from) = codes "domain" ␣ name ␣ ad_words from
line_text (line.Router name domain checking master) = codes "router" ␣ name ␣ domain ␣ kind_word checking ␣ encode_lower master
line_text (line.Host name router guarded from) = codes "host" ␣ name ␣ router ␣ guard_word guarded ␣ eid_words from
line_text (line.Link a b a_trusts b_trusts) = codes "link" ␣ a ␣ b ␣ trust_word a_trusts ␣ trust_word b_trusts

-- ## What a line may say

-- an id of 20 bytes, or a seed of 32 bytes for a domain, whose interface is 0
abbrev pub IsAdOrigin : Origin → Type 0
IsAdOrigin (origin.Given id) = IsId id
IsAdOrigin (origin.Seed _ _ interface seed) = (interface ≡ 0) × IsSized 32 seed

-- an id of 20 bytes, or a seed of 32 bytes with a number as interface
abbrev pub IsEidOrigin : Origin → Type 0
IsEidOrigin (origin.Given id) = IsId id
IsEidOrigin (origin.Seed _ _ interface seed) = IsNumber interface × IsSized 32 seed

-- a line whose names are names, whose numbers are numbers, and whose ids, seeds and secrets have their sizes
abbrev pub IsLine : Line → Type 0
IsLine (line.Set _ value) = IsNumber value
IsLine (line.Domain name from) = IsName name × IsAdOrigin from
IsLine (line.Router name domain _ master) = IsName name × IsName domain × IsSized 32 master
IsLine (line.Host name router _ from) = IsName name × IsName router × IsEidOrigin from
IsLine (line.Link a b _ _) = IsName a × IsName b
