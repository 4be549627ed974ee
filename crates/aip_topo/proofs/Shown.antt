-- The lines of a topology have few bytes, all of them printed.
use Rattle.std.proofs.Common.{◌≡◌, ℕ, ◌+◌, ◌*◌, ◌^◌, ◌<◌, ◌≤◌, Bool, true, false, ◌&&◌, nat_le, List, [], ◌∷◌, ◌++◌, length, refl, arith, lit≤, length-append}
use Rattle.std.specs.Prelude.{codes, decimal}
use Rattle.std.specs.List.{list_all}
use Rattle.std.proofs.lemmas.Bool.{and_parts, and_from, leb-true}
use Rattle.std.proofs.lemmas.Fmt.{length-decimal-le}
use Rattle.hex.specs.Hex.{encode_lower, lower_digits}
use Rattle.hex.proofs.HexLemmas.{length-encode_with}
use Rattle.aip_addr.specs.Naming.{IsName, begins_with_letter, is_digit, is_name_byte}
use Rattle.aip_text.specs.Lines.{is_skipped}
use Rattle.aip_text.specs.Words.{is_lower_digit}
use Rattle.aip_text.proofs.HexWords.{list_all-encode_lower}
use Rattle.aip_text.proofs.Numbers.{list_all-decimal}
use Rattle.lmots_core.specs.declared.parameters.Width.{Width}
use Rattle.lmots_core.specs.declared.parameters.Width.TheVariants as width
use Rattle.lms_core.specs.declared.height.Height.{Height}
use Rattle.lms_core.specs.declared.height.Height.TheVariants as height
use Rattle.aip_topo.specs.Lines.{IsAdOrigin, IsEidOrigin, IsLine, ad_words, eid_words, guard_word, height_word, kind_word, line_text, setting_word, trust_word, width_word, ◌␣◌}
use Rattle.aip_text.specs.Fields.{IsSized}
use Rattle.aip_topo.specs.declared.lines.Line.{Line}
use Rattle.aip_topo.specs.declared.lines.Line.TheVariants as line
use Rattle.aip_topo.specs.declared.lines.Origin.{Origin}
use Rattle.aip_topo.specs.declared.lines.Origin.TheVariants as origin
use Rattle.aip_topo.specs.declared.lines.Setting.{Setting}
use Rattle.aip_topo.specs.declared.lines.Setting.TheVariants as setting

-- a byte that is seen when it is printed
abbrev pub is_printed : ℕ → Bool
is_printed b = nat_le 32 b && nat_le b 126

-- at most so many such bytes
pub record IsShown (most : ℕ) (text : List ℕ) : Type 0 where
  pub printed : list_all is_printed text ≡ true
  pub short : length text ≤ most

all_append : (xs ys : List ℕ) → list_all is_printed xs ≡ true → list_all is_printed ys ≡ true → list_all is_printed (xs ++ ys) ≡ true
all_append [] ys hx hy = hy
all_append (x ∷ xs) ys hx hy =
    let parts = and_parts (is_printed x) (list_all is_printed xs) hx in
    and_from (is_printed x) (list_all is_printed (xs ++ ys)) parts.0 (all_append xs ys parts.1 hy)

all_weaker : (p : ℕ → Bool) (each : (b : ℕ) → p b ≡ true → is_printed b ≡ true) (xs : List ℕ) → list_all p xs ≡ true → list_all is_printed xs ≡ true
all_weaker p each [] h = refl
all_weaker p each (x ∷ xs) h =
    let parts = and_parts (p x) (list_all p xs) h in
    and_from (is_printed x) (list_all is_printed xs) (each x parts.0) (all_weaker p each xs parts.1)

name_byte_printed : (b : ℕ) → is_name_byte b ≡ true → is_printed b ≡ true
name_byte_printed b h = grind arith

digit_printed : (b : ℕ) → is_digit b ≡ true → is_printed b ≡ true
digit_printed b h = grind arith

lower_printed : (b : ℕ) → is_lower_digit b ≡ true → is_printed b ≡ true
lower_printed b h = grind arith

name_shown : (name : List ℕ) → IsName name → IsShown 16 name
name_shown name h =
    let short = and_parts (nat_le (length name) 16) (begins_with_letter name && list_all is_name_byte name) h in
    let rest = and_parts (begins_with_letter name) (list_all is_name_byte name) short.1 in
    record { printed = all_weaker is_name_byte name_byte_printed name rest.1; short = leb-true (length name) 16 short.0 }

number_shown : (n : ℕ) → n < 10 ^ 15 → IsShown 15 (decimal n)
number_shown n small =
    record {
      printed = all_weaker is_digit digit_printed (decimal n) (list_all-decimal n small);
      short = length-decimal-le 15 n (omega arith) small (omega arith);
    }

hex_shown : (n : ℕ) (bytes : List ℕ) → IsSized n bytes → IsShown (2 * n) (encode_lower bytes)
hex_shown n bytes size =
    record {
      printed = all_weaker is_lower_digit lower_printed (encode_lower bytes) (list_all-encode_lower bytes size.0);
      short = omega (arith, length-encode_with lower_digits bytes, size.1);
    }

-- a word and what follows it
word_shown : (m n : ℕ) (word rest : List ℕ) → IsShown m word → IsShown n rest → IsShown (m + (1 + n)) (word ␣ rest)
word_shown m n word rest hw hr =
    record {
      printed = all_append word (32 ∷ rest) hw.printed hr.printed;
      short = omega (arith, length-append word (32 ∷ rest), hw.short, hr.short);
    }

shown_more : (m n : ℕ) (text : List ℕ) → m ≤ n → IsShown m text → IsShown n text
shown_more m n text up h = record { printed = h.printed; short = omega (arith, h.short, up) }

width_shown : (w : Width) → IsShown 2 (width_word w)
width_shown width.W1 = record { printed = refl; short = lit≤ tt }
width_shown width.W2 = record { printed = refl; short = lit≤ tt }
width_shown width.W4 = record { printed = refl; short = lit≤ tt }
width_shown width.W8 = record { printed = refl; short = lit≤ tt }

height_shown : (h : Height) → IsShown 3 (height_word h)
height_shown height.H5 = record { printed = refl; short = lit≤ tt }
height_shown height.H10 = record { printed = refl; short = lit≤ tt }

kind_shown : (b : Bool) → IsShown 8 (kind_word b)
kind_shown true = record { printed = refl; short = lit≤ tt }
kind_shown false = record { printed = refl; short = lit≤ tt }

guard_shown : (b : Bool) → IsShown 7 (guard_word b)
guard_shown true = record { printed = refl; short = lit≤ tt }
guard_shown false = record { printed = refl; short = lit≤ tt }

trust_shown : (b : Bool) → IsShown 7 (trust_word b)
trust_shown true = record { printed = refl; short = lit≤ tt }
trust_shown false = record { printed = refl; short = lit≤ tt }

setting_shown : (s : Setting) → IsShown 9 (setting_word s)
setting_shown setting.Accept = record { printed = refl; short = lit≤ tt }
setting_shown setting.Cache = record { printed = refl; short = lit≤ tt }
setting_shown setting.Epoch = record { printed = refl; short = lit≤ tt }
setting_shown setting.Filter = record { printed = refl; short = lit≤ tt }
setting_shown setting.Log = record { printed = refl; short = lit≤ tt }
setting_shown setting.Threshold = record { printed = refl; short = lit≤ tt }
setting_shown setting.Wild = record { printed = refl; short = lit≤ tt }
setting_shown setting.Wildcache = record { printed = refl; short = lit≤ tt }

id_shown : (bytes : List ℕ) → IsSized 20 bytes → IsShown 43 (codes "id" ␣ encode_lower bytes)
id_shown bytes size =
    let keyword : IsShown 2 (codes "id") = record { printed = refl; short = lit≤ tt } in
    word_shown 2 40 (codes "id") (encode_lower bytes) keyword (hex_shown 20 bytes size)

ad_shown : (from : Origin) → IsAdOrigin from → IsShown 92 (ad_words from)
ad_shown (origin.Given id) h = shown_more 43 92 _ (lit≤ tt) (id_shown id.bytes h)
ad_shown (origin.Seed w t interface seed) h =
    let keyword : IsShown 4 (codes "seed") = record { printed = refl; short = lit≤ tt } in
    let last = word_shown 3 64 (height_word t) (encode_lower seed) (height_shown t) (hex_shown 32 seed h.1) in
    shown_more 76 92 _ (lit≤ tt) (word_shown 4 71 (codes "seed") _ keyword (word_shown 2 68 (width_word w) _ (width_shown w) last))

eid_shown : (from : Origin) → IsEidOrigin from → IsShown 92 (eid_words from)
eid_shown (origin.Given id) h = shown_more 43 92 _ (lit≤ tt) (id_shown id.bytes h)
eid_shown (origin.Seed w t interface seed) h =
    let keyword : IsShown 4 (codes "seed") = record { printed = refl; short = lit≤ tt } in
    let last = word_shown 15 64 (decimal interface) (encode_lower seed) (number_shown interface h.0) (hex_shown 32 seed h.1) in
    word_shown 4 87 (codes "seed") _ keyword (word_shown 2 84 (width_word w) _ (width_shown w) (word_shown 3 80 (height_word t) _ (height_shown t) last))

-- a line has at most 139 bytes, all of them printed
pub line_shown : (l : Line) → IsLine l → IsShown 139 (line_text l)
line_shown (line.Set s value) h =
    let keyword : IsShown 3 (codes "set") = record { printed = refl; short = lit≤ tt } in
    shown_more 29 139 _ (lit≤ tt) (word_shown 3 25 (codes "set") _ keyword (word_shown 9 15 (setting_word s) (decimal value) (setting_shown s) (number_shown value h)))
line_shown (line.Domain name from) h =
    let keyword : IsShown 6 (codes "domain") = record { printed = refl; short = lit≤ tt } in
    shown_more 116 139 _ (lit≤ tt) (word_shown 6 109 (codes "domain") _ keyword (word_shown 16 92 name _ (name_shown name h.0) (ad_shown from h.1)))
line_shown (line.Router name domain checking master) h =
    let keyword : IsShown 6 (codes "router") = record { printed = refl; short = lit≤ tt } in
    shown_more 114 139 _ (lit≤ tt)
    (word_shown 6 107 (codes "router") _ keyword
    (word_shown 16 90 name _ (name_shown name h.0)
    (word_shown 16 73 domain _ (name_shown domain h.1) (word_shown 8 64 (kind_word checking) _ (kind_shown checking) (hex_shown 32 master h.2)))))
line_shown (line.Host name router guarded from) h =
    let keyword : IsShown 4 (codes "host") = record { printed = refl; short = lit≤ tt } in
    word_shown 4 134 (codes "host") _ keyword
    (word_shown 16 117 name _ (name_shown name h.0)
    (word_shown 16 100 router _ (name_shown router h.1) (word_shown 7 92 (guard_word guarded) _ (guard_shown guarded) (eid_shown from h.2))))
line_shown (line.Link a b a_trusts b_trusts) h =
    let keyword : IsShown 4 (codes "link") = record { printed = refl; short = lit≤ tt } in
    shown_more 54 139 _ (lit≤ tt)
    (word_shown 4 49 (codes "link") _ keyword
    (word_shown 16 32 a _ (name_shown a h.0)
    (word_shown 16 15 b _ (name_shown b h.1) (word_shown 7 7 (trust_word a_trusts) _ (trust_shown a_trusts) (trust_shown b_trusts)))))

-- no line is one that is skipped
pub line_seen : (l : Line) → is_skipped (line_text l) ≡ false
line_seen (line.Set _ _) = refl
line_seen (line.Domain _ _) = refl
line_seen (line.Router _ _ _ _) = refl
line_seen (line.Host _ _ _ _) = refl
line_seen (line.Link _ _ _ _) = refl
