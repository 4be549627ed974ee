-- Lines and their spelling: what is read is spelled so, and what is spelled so is read.
use Rattle.std.proofs.Common.{◌≡◌, ℕ, true, false, List, Option, Some, None, refl, sym, ap, ◌∙◌}
use Rattle.std.specs.Prelude.{IfSome, codes, decimal, ⊤}
use Rattle.std.proofs.lemmas.Option.{none-some}
use Rattle.hex.specs.Hex.{encode_lower}
use Rattle.aip_addr.specs.declared.ids.Id.{Id}
use Rattle.aip_text.specs.Fields.{IsId, id_of, id_word, named, one_field, ◌>>=◌}
use Rattle.aip_text.specs.Words.{cut, lacks}
use Rattle.aip_text.proofs.FieldLaws.{id_field, name_field, number_field, sized_field}
use Rattle.aip_text.proofs.LineForms.{Field, bind_at, bind_some, branch, four_again, four_found, four_rest_again, four_rest_found, joined_four, joined_three, named_found, one_again, one_found, three_again, three_found, two_again, two_found, two_rest_again, two_rest_found}
use Rattle.aip_text.proofs.Texts.{cut_at_again, cut_at_found}
use Rattle.lmots_core.specs.declared.parameters.Width.TheVariants.{W1, W2, W4, W8}
use Rattle.lms_core.specs.declared.height.Height.TheVariants.{H5, H10}
use Rattle.aip_topo.specs.Lines.{IsAdOrigin, IsEidOrigin, IsLine, ad_words, eid_words, guard_word, height_word, kind_word, line_text, setting_word, trust_word, width_word, ◌␣◌}
use Rattle.aip_topo.specs.LineReading.{ad_in, ad_seed_in, all_heights, all_settings, all_widths, both, domain_in, eid_in, eid_seed_in, host_in, line_by, line_in, link_in, origin_by, router_in, set_in}
use Rattle.aip_topo.specs.declared.lines.Line.{Line}
use Rattle.aip_topo.specs.declared.lines.Line.TheVariants as line
use Rattle.aip_topo.specs.declared.lines.Origin.{Origin}
use Rattle.aip_topo.specs.declared.lines.Origin.TheVariants as origin
use Rattle.aip_topo.specs.declared.lines.Setting.TheVariants as setting

-- ## Words

-- a word of a table
table_field : {A : Type 0} (word_of : A → List ℕ) (all : List A) → ((x : A) → named word_of all (word_of x) ≡ Some x) → ((x : A) → lacks 32 (word_of x) ≡ true) → Field (named word_of all) word_of (λ _. ⊤)
table_field word_of all again plain =
    record { found = λ word x h. (tt, named_found word_of all word x h); again = λ x h. again x; plain = λ x h. plain x }

setting_field : Field (named setting_word all_settings) setting_word (λ _. ⊤)
setting_field =
    table_field setting_word all_settings (λ x. elim x as (λ y. named setting_word all_settings (setting_word y) ≡ Some y) [ setting.Accept ↦ refl | setting.Cache ↦ refl | setting.Epoch ↦ refl | setting.Filter ↦ refl | setting.Log ↦ refl | setting.Threshold ↦ refl | setting.Wild ↦ refl | setting.Wildcache ↦ refl ])
    (λ x. elim x as (λ y. lacks 32 (setting_word y) ≡ true) [ setting.Accept ↦ refl | setting.Cache ↦ refl | setting.Epoch ↦ refl | setting.Filter ↦ refl | setting.Log ↦ refl | setting.Threshold ↦ refl | setting.Wild ↦ refl | setting.Wildcache ↦ refl ])

width_field : Field (named width_word all_widths) width_word (λ _. ⊤)
width_field =
    table_field width_word all_widths (λ x. elim x as (λ y. named width_word all_widths (width_word y) ≡ Some y) [ W1 ↦ refl | W2 ↦ refl | W4 ↦ refl | W8 ↦ refl ])
    (λ x. elim x as (λ y. lacks 32 (width_word y) ≡ true) [ W1 ↦ refl | W2 ↦ refl | W4 ↦ refl | W8 ↦ refl ])

height_field : Field (named height_word all_heights) height_word (λ _. ⊤)
height_field =
    table_field height_word all_heights (λ x. elim x as (λ y. named height_word all_heights (height_word y) ≡ Some y) [ H5 ↦ refl | H10 ↦ refl ])
    (λ x. elim x as (λ y. lacks 32 (height_word y) ≡ true) [ H5 ↦ refl | H10 ↦ refl ])

kind_field : Field (named kind_word both) kind_word (λ _. ⊤)
kind_field =
    table_field kind_word both (λ x. elim x as (λ y. named kind_word both (kind_word y) ≡ Some y) [ true ↦ refl | false ↦ refl ])
    (λ x. elim x as (λ y. lacks 32 (kind_word y) ≡ true) [ true ↦ refl | false ↦ refl ])

guard_field : Field (named guard_word both) guard_word (λ _. ⊤)
guard_field =
    table_field guard_word both (λ x. elim x as (λ y. named guard_word both (guard_word y) ≡ Some y) [ true ↦ refl | false ↦ refl ])
    (λ x. elim x as (λ y. lacks 32 (guard_word y) ≡ true) [ true ↦ refl | false ↦ refl ])

trust_field : Field (named trust_word both) trust_word (λ _. ⊤)
trust_field =
    table_field trust_word both (λ x. elim x as (λ y. named trust_word both (trust_word y) ≡ Some y) [ true ↦ refl | false ↦ refl ])
    (λ x. elim x as (λ y. lacks 32 (trust_word y) ≡ true) [ true ↦ refl | false ↦ refl ])

-- ## How an id is given

-- by the word before: the words of an id, and those of a seed
by_found : (seed_in : List ℕ → Option Origin) (spell : Origin → List ℕ) (Fits : Origin → Type 0)
    → ((id : Id) → IsId id → Fits (origin.Given id) × (codes "id" ␣ id_word id ≡ spell (origin.Given id)))
    → ((rest : List ℕ) (from : Origin) → seed_in rest ≡ Some from → Fits from × (codes "seed" ␣ rest ≡ spell from))
    → (text : List ℕ) (from : Origin) → (cut text >>= λ form. origin_by seed_in form.0 form.1) ≡ Some from → Fits from × (text ≡ spell from)
by_found seed_in spell Fits given seeded text from h =
    let c = bind_some (cut text) (λ form. origin_by seed_in form.0 form.1) from h in
    let rest = c.0.1 in
    let P : List ℕ → Origin → Type 0 = λ form o. Fits o × (form ␣ rest ≡ spell o) in
    let id_given = one_found id_field (λ id. origin.Given id) (λ word o. Fits o × (codes "id" ␣ word ≡ spell o)) given rest from in
    let read =
    branch P c.0.0 (codes "id") (one_field id_of (λ id. origin.Given id) rest) _ from id_given
    (branch P c.0.0 (codes "seed") (seed_in rest) None from (seeded rest from) (λ e. absurd (none-some from e))) c.2 in
    (read.0, cut_at_found 32 text c.0 c.1 ∙ read.1)

-- an id, or a seed, by its first word
by_again : (seed_in : List ℕ → Option Origin) (form rest : List ℕ) → lacks 32 form ≡ true → (cut (form ␣ rest) >>= λ w. origin_by seed_in w.0 w.1) ≡ origin_by seed_in form rest
by_again seed_in form rest plain = bind_at (λ w. origin_by seed_in w.0 w.1) (cut_at_again 32 form rest plain)

ad_found : (text : List ℕ) (from : Origin) → ad_in text ≡ Some from → IsAdOrigin from × (text ≡ ad_words from)
ad_found = by_found ad_seed_in ad_words IsAdOrigin (λ id h. (h, refl)) seeded
  where
    seeded : (rest : List ℕ) (from : Origin) → ad_seed_in rest ≡ Some from → IsAdOrigin from × (codes "seed" ␣ rest ≡ ad_words from)
    seeded = three_found width_field height_field (sized_field 32) (λ w t s. origin.Seed w t 0 s) (λ rest from. IsAdOrigin from × (codes "seed" ␣ rest ≡ ad_words from))
        (λ w t s hw ht hs. ((refl, hs), ap (λ r. codes "seed" ␣ r) (sym (joined_three (width_word w) (height_word t) (encode_lower s)))))

ad_again : (from : Origin) → IsAdOrigin from → ad_in (ad_words from) ≡ Some from
ad_again (origin.Given id) h = by_again ad_seed_in (codes "id") (id_word id) refl ∙ one_again id_field (λ i. origin.Given i) id h
ad_again (origin.Seed width height interface seed) h =
    by_again ad_seed_in (codes "seed") (width_word width ␣ height_word height ␣ encode_lower seed) refl
    ∙ ap ad_seed_in (joined_three (width_word width) (height_word height) (encode_lower seed))
    ∙ three_again width_field height_field (sized_field 32) (λ w t s. origin.Seed w t 0 s) width height seed tt tt h.1
    ∙ ap (λ i. Some (origin.Seed width height i seed)) (sym h.0)

eid_found : (text : List ℕ) (from : Origin) → eid_in text ≡ Some from → IsEidOrigin from × (text ≡ eid_words from)
eid_found = by_found eid_seed_in eid_words IsEidOrigin (λ id h. (h, refl)) seeded
  where
    seeded : (rest : List ℕ) (from : Origin) → eid_seed_in rest ≡ Some from → IsEidOrigin from × (codes "seed" ␣ rest ≡ eid_words from)
    seeded = four_found width_field height_field number_field (sized_field 32) (λ w t i s. origin.Seed w t i s) (λ rest from. IsEidOrigin from × (codes "seed" ␣ rest ≡ eid_words from))
        (λ w t i s hw ht hi hs. ((hi, hs), ap (λ r. codes "seed" ␣ r) (sym (joined_four (width_word w) (height_word t) (decimal i) (encode_lower s)))))

eid_again : (from : Origin) → IsEidOrigin from → eid_in (eid_words from) ≡ Some from
eid_again (origin.Given id) h = by_again eid_seed_in (codes "id") (id_word id) refl ∙ one_again id_field (λ i. origin.Given i) id h
eid_again (origin.Seed width height interface seed) h =
    by_again eid_seed_in (codes "seed") (width_word width ␣ height_word height ␣ decimal interface ␣ encode_lower seed) refl
    ∙ ap eid_seed_in (joined_four (width_word width) (height_word height) (decimal interface) (encode_lower seed))
    ∙ four_again width_field height_field number_field (sized_field 32) (λ w t i s. origin.Seed w t i s) width height interface seed tt tt h.0 h.1

-- ## What is read is spelled so

-- a well-formed line, whose first word and rest these are
abbrev IsLineOf : List ℕ → List ℕ → Line → Type 0
IsLineOf rest word l = IsLine l × (word ␣ rest ≡ line_text l)

set_found : (rest : List ℕ) (l : Line) → set_in rest ≡ Some l → IsLineOf rest (codes "set") l
unfolding set_in
set_found = two_found setting_field number_field (λ s value. line.Set s value) (λ r l. IsLineOf r (codes "set") l) (λ s value hs hv. (hv, refl))

domain_found : (rest : List ℕ) (l : Line) → domain_in rest ≡ Some l → IsLineOf rest (codes "domain") l
unfolding domain_in
domain_found = two_rest_found name_field ad_in (λ name from. line.Domain name from) (λ r l. IsLineOf r (codes "domain") l)
    (λ name last from hn e. let read = ad_found last from e in ((hn, read.0), ap (λ r. codes "domain" ␣ name ␣ r) read.1))

router_found : (rest : List ℕ) (l : Line) → router_in rest ≡ Some l → IsLineOf rest (codes "router") l
unfolding router_in
router_found = four_found name_field name_field kind_field (sized_field 32) (λ n d k m. line.Router n d k m) (λ r l. IsLineOf r (codes "router") l)
    (λ n d k m hn hd hk hm. ((hn, hd, hm), ap (λ r. codes "router" ␣ r) (sym (joined_four n d (kind_word k) (encode_lower m)))))

host_found : (rest : List ℕ) (l : Line) → host_in rest ≡ Some l → IsLineOf rest (codes "host") l
unfolding host_in
host_found = four_rest_found name_field name_field guard_field eid_in (λ n r g from. line.Host n r g from) (λ r l. IsLineOf r (codes "host") l)
    (λ n r g last from hn hr hg e. let read = eid_found last from e in
    ((hn, hr, read.0), ap (λ t. codes "host" ␣ t) (sym (joined_four n r (guard_word g) last)) ∙ ap (λ t. codes "host" ␣ n ␣ r ␣ guard_word g ␣ t) read.1))

link_found : (rest : List ℕ) (l : Line) → link_in rest ≡ Some l → IsLineOf rest (codes "link") l
unfolding link_in
link_found = four_found name_field name_field trust_field trust_field (λ a b s t. line.Link a b s t) (λ r l. IsLineOf r (codes "link") l)
    (λ a b s t ha hb hs ht. ((ha, hb), ap (λ r. codes "link" ␣ r) (sym (joined_four a b (trust_word s) (trust_word t)))))

by_word : (word rest : List ℕ) (l : Line) → line_by word rest ≡ Some l → IsLineOf rest word l
by_word word rest l =
    branch (IsLineOf rest) word (codes "set") (set_in rest) _ l (set_found rest l)
    (branch (IsLineOf rest) word (codes "domain") (domain_in rest) _ l (domain_found rest l)
    (branch (IsLineOf rest) word (codes "router") (router_in rest) _ l (router_found rest l)
    (branch (IsLineOf rest) word (codes "host") (host_in rest) _ l (host_found rest l)
    (branch (IsLineOf rest) word (codes "link") (link_in rest) None l (link_found rest l) (λ e. absurd (none-some l e))))))

-- what a text is read as is well formed, and spelled so
pub line_found : (text : List ℕ) (l : Line) → line_in text ≡ Some l → IsLine l × (text ≡ line_text l)
unfolding line_in
line_found text l h =
    let c = bind_some (cut text) (λ w. line_by w.0 w.1) l h in
    let read = by_word c.0.0 c.0.1 l c.2 in
    (read.0, cut_at_found 32 text c.0 c.1 ∙ read.1)

-- ## What is spelled so is read

-- a text is read by its first word
opened : (word rest : List ℕ) → lacks 32 word ≡ true → line_in (word ␣ rest) ≡ line_by word rest
unfolding line_in
opened word rest plain = bind_at (λ w. line_by w.0 w.1) (cut_at_again 32 word rest plain)

-- the spelling of a well-formed line is read as that line
pub line_again : (l : Line) → IsLine l → line_in (line_text l) ≡ Some l
unfolding set_in domain_in router_in host_in link_in
line_again (line.Set s value) h = opened (codes "set") _ refl ∙ two_again setting_field number_field (λ s n. line.Set s n) s value tt h
line_again (line.Domain name from) h =
    opened (codes "domain") _ refl ∙ two_rest_again name_field ad_in (λ n f. line.Domain n f) name (ad_words from) from h.0 (ad_again from h.1)
line_again (line.Router name domain checking master) h =
    opened (codes "router") _ refl ∙ ap router_in (joined_four name domain (kind_word checking) (encode_lower master))
    ∙ four_again name_field name_field kind_field (sized_field 32) (λ n d k m. line.Router n d k m) name domain checking master h.0 h.1 tt h.2
line_again (line.Host name router guarded from) h =
    opened (codes "host") _ refl ∙ ap host_in (joined_four name router (guard_word guarded) (eid_words from))
    ∙ four_rest_again name_field name_field guard_field eid_in (λ n r g f. line.Host n r g f) name router guarded (eid_words from) from h.0 h.1 tt (eid_again from h.2)
line_again (line.Link a b a_trusts b_trusts) h =
    opened (codes "link") _ refl ∙ ap link_in (joined_four a b (trust_word a_trusts) (trust_word b_trusts))
    ∙ four_again name_field name_field trust_field trust_field (λ a b s t. line.Link a b s t) a b a_trusts b_trusts h.0 h.1 tt tt

-- ## As the reader's clauses say it

pub found_in : (text : List ℕ) (r : Option Line) → r ≡ line_in text → IfSome r (λ l. IsLine l × (text ≡ line_text l))
found_in text (Some l) h = line_found text l (sym h)
found_in text None h = tt

pub again_in : (text : List ℕ) (r : Option Line) → r ≡ line_in text → (l : Line) → IsLine l → text ≡ line_text l → r ≡ Some l
again_in text r h l fits spelled = h ∙ ap line_in spelled ∙ line_again l fits
