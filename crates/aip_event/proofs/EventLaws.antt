-- Events and their lines: what is read is spelled so, and what is spelled so is read.
use Rattle.std.proofs.Common.{◌≡◌, ℕ, true, List, ◌∷◌, ◌++◌, Option, Some, None, refl, sym, ap, ◌∙◌}
use Rattle.std.specs.Prelude.{IfSome, codes, decimal}
use Rattle.std.proofs.lemmas.Option.{none-some}
use Rattle.aip_text.specs.Fields.{four_fields, id_of, id_word}
use Rattle.aip_text.specs.Words.{bytes_word, cut, lacks, u64_of}
use Rattle.aip_text.proofs.FieldLaws.{bytes_field, id_field, name_field, number_field, u64_field}
use Rattle.aip_text.proofs.LineForms.{bind_at, bind_some, branch, five_again, five_found, four_again, four_found, one_again, one_found, three_again, three_found, two_again, two_found}
use Rattle.aip_text.proofs.Texts.{cut_at_again, cut_at_found}
use Rattle.aip_event.specs.Lines.{IsEvent, address_word, cause_word, event_line, key_id_word, reason_word, target_word}
use Rattle.aip_event.specs.Reading.{ask_of, bind_of, drop_of, event_from, event_of, forward_of, got_of, halted_of, heard_of, host_event_from, kept_of, obeyed_of, peer_of, proved_of, published_from, published_of, put_of, record_event_from, refuse_of, signed_of, stopped_of, unpublished_of, wild_of, withheld_of}
use Rattle.aip_event.specs.declared.event.Event.{Event}
use Rattle.aip_event.specs.declared.event.Event.TheVariants as event
use Rattle.aip_event.proofs.FieldLaws.{address_field, cause_field, key_id_field, reason_field, target_field}

-- the first word and the rest are the line of a well-formed event
abbrev IsLineOf : List ℕ → List ℕ → Event → Type 0
IsLineOf rest key e = IsEvent e × (key ++ 32 ∷ rest ≡ event_line e)

-- ## What is read is spelled so

put_found : (rest : List ℕ) (e : Event) → put_of rest ≡ Some e → IsLineOf rest (codes "put") e
unfolding put_of
put_found = three_found number_field target_field bytes_field (λ f t b. event.Put f t b) (λ r e. IsLineOf r (codes "put") e)
    (λ x y z hx hy hz. ((hx, hy, hz), refl))

forward_found : (rest : List ℕ) (e : Event) → forward_of rest ≡ Some e → IsLineOf rest (codes "forward") e
unfolding forward_of
forward_found = four_found name_field number_field number_field cause_field (λ r i o c. event.Forward r i o c) (λ r e. IsLineOf r (codes "forward") e)
    (λ x y z v hx hy hz hv. ((hx, hy, hz, hv), refl))

ask_found : (rest : List ℕ) (e : Event) → ask_of rest ≡ Some e → IsLineOf rest (codes "ask") e
unfolding ask_of
ask_found = three_found name_field number_field number_field (λ r i o. event.Ask r i o) (λ r e. IsLineOf r (codes "ask") e)
    (λ x y z hx hy hz. ((hx, hy, hz), refl))

proved_found : (rest : List ℕ) (e : Event) → proved_of rest ≡ Some e → IsLineOf rest (codes "proved") e
unfolding proved_of
proved_found = three_found name_field address_field number_field (λ r s p. event.Proved r s p) (λ r e. IsLineOf r (codes "proved") e)
    (λ x y z hx hy hz. ((hx, hy, hz), refl))

wild_found : (rest : List ℕ) (e : Event) → wild_of rest ≡ Some e → IsLineOf rest (codes "wild") e
unfolding wild_of
wild_found = three_found name_field id_field number_field (λ r a p. event.Wild r a p) (λ r e. IsLineOf r (codes "wild") e)
    (λ x y z hx hy hz. ((hx, hy, hz), refl))

refuse_found : (rest : List ℕ) (e : Event) → refuse_of rest ≡ Some e → IsLineOf rest (codes "refuse") e
unfolding refuse_of
refuse_found = two_found name_field number_field (λ r n. event.Refuse r n) (λ r e. IsLineOf r (codes "refuse") e) (λ x y hx hy. ((hx, hy), refl))

drop_found : (rest : List ℕ) (e : Event) → drop_of rest ≡ Some e → IsLineOf rest (codes "drop") e
unfolding drop_of
drop_found = two_found name_field reason_field (λ n r. event.Drop n r) (λ r e. IsLineOf r (codes "drop") e) (λ x y hx hy. ((hx, hy), refl))

got_found : (rest : List ℕ) (e : Event) → got_of rest ≡ Some e → IsLineOf rest (codes "got") e
unfolding got_of
got_found = two_found name_field number_field (λ h p. event.Got h p) (λ r e. IsLineOf r (codes "got") e) (λ x y hx hy. ((hx, hy), refl))

signed_found : (rest : List ℕ) (e : Event) → signed_of rest ≡ Some e → IsLineOf rest (codes "signed") e
unfolding signed_of
signed_found = two_found name_field number_field (λ h l. event.Signed h l) (λ r e. IsLineOf r (codes "signed") e) (λ x y hx hy. ((hx, hy), refl))

stopped_found : (rest : List ℕ) (e : Event) → stopped_of rest ≡ Some e → IsLineOf rest (codes "stopped") e
unfolding stopped_of
stopped_found = four_found name_field number_field number_field number_field (λ h l c b. event.Stopped h l c b) (λ r e. IsLineOf r (codes "stopped") e)
    (λ x y z v hx hy hz hv. ((hx, hy, hz, hv), refl))

withheld_found : (rest : List ℕ) (e : Event) → withheld_of rest ≡ Some e → IsLineOf rest (codes "withheld") e
unfolding withheld_of
withheld_found = two_found name_field key_id_field (λ h t. event.Withheld h t) (λ r e. IsLineOf r (codes "withheld") e) (λ x y hx hy. ((hx, hy), refl))

obeyed_found : (rest : List ℕ) (e : Event) → obeyed_of rest ≡ Some e → IsLineOf rest (codes "obeyed") e
unfolding obeyed_of
obeyed_found = three_found name_field key_id_field number_field (λ h s u. event.Obeyed h s u) (λ r e. IsLineOf r (codes "obeyed") e)
    (λ x y z hx hy hz. ((hx, hy, hz), refl))

heard_found : (rest : List ℕ) (e : Event) → heard_of rest ≡ Some e → IsLineOf rest (codes "heard") e
unfolding heard_of
heard_found = two_found name_field number_field (λ h n. event.Heard h n) (λ r e. IsLineOf r (codes "heard") e) (λ x y hx hy. ((hx, hy), refl))

halted_found : (rest : List ℕ) (e : Event) → halted_of rest ≡ Some e → IsLineOf rest (codes "halted") e
unfolding halted_of
halted_found = five_found name_field key_id_field number_field number_field number_field (λ h s u c b. event.Halted h s u c b) (λ r e. IsLineOf r (codes "halted") e)
    (λ x y z v u hx hy hz hv hu. ((hx, hy, hz, hv, hu), refl))

kept_found : (rest : List ℕ) (e : Event) → kept_of rest ≡ Some e → IsLineOf rest (codes "kept") e
unfolding kept_of
kept_found = three_found name_field key_id_field number_field (λ h s u. event.Kept h s u) (λ r e. IsLineOf r (codes "kept") e)
    (λ x y z hx hy hz. ((hx, hy, hz), refl))

-- the kind and the rest are the line of a well-formed event behind `published`
abbrev IsRecordOf : List ℕ → List ℕ → Event → Type 0
IsRecordOf rest kind e = IsLineOf (kind ++ 32 ∷ rest) (codes "published") e

peer_found : (rest : List ℕ) (e : Event) → peer_of rest ≡ Some e → IsRecordOf rest (codes "peer") e
unfolding peer_of
peer_found = four_found id_field id_field u64_field u64_field (λ a o n u. event.PublishedPeer a o n u) (λ r e. IsRecordOf r (codes "peer") e)
    (λ x y z v hx hy hz hv. ((hx, hy, hz, hv), refl))

bind_found : (rest : List ℕ) (e : Event) → bind_of rest ≡ Some e → IsRecordOf rest (codes "bind") e
unfolding bind_of
bind_found = four_found id_field id_field u64_field u64_field (λ a o n u. event.PublishedBind a o n u) (λ r e. IsRecordOf r (codes "bind") e)
    (λ x y z v hx hy hz hv. ((hx, hy, hz, hv), refl))

published_found : (rest : List ℕ) (e : Event) → published_of rest ≡ Some e → IsLineOf rest (codes "published") e
unfolding published_of published_from
published_found rest e h =
    let c = bind_some (cut rest) (λ parts. published_from parts.0 parts.1) e h in
    let read =
    branch (IsRecordOf c.0.1) c.0.0 (codes "peer") (peer_of c.0.1) _ e (peer_found c.0.1 e)
    (branch (IsRecordOf c.0.1) c.0.0 (codes "bind") (bind_of c.0.1) None e (bind_found c.0.1 e) (λ n. absurd (none-some e n))) c.2 in
    (read.0, ap (λ (r : List ℕ). codes "published" ++ 32 ∷ r) (cut_at_found 32 rest c.0 c.1) ∙ read.1)

unpublished_found : (rest : List ℕ) (e : Event) → unpublished_of rest ≡ Some e → IsLineOf rest (codes "unpublished") e
unfolding unpublished_of
unpublished_found = one_found number_field (λ n. event.Unpublished n) (λ r e. IsLineOf r (codes "unpublished") e) (λ x hx. (hx, refl))

record_from_found : (key rest : List ℕ) (e : Event) → record_event_from key rest ≡ Some e → IsLineOf rest key e
unfolding record_event_from
record_from_found key rest e =
    branch (IsLineOf rest) key (codes "published") (published_of rest) _ e (published_found rest e)
    (branch (IsLineOf rest) key (codes "unpublished") (unpublished_of rest) None e (unpublished_found rest e) (λ h. absurd (none-some e h)))

host_from_found : (key rest : List ℕ) (e : Event) → host_event_from key rest ≡ Some e → IsLineOf rest key e
unfolding host_event_from
host_from_found key rest e =
    branch (IsLineOf rest) key (codes "got") (got_of rest) _ e (got_found rest e)
    (branch (IsLineOf rest) key (codes "signed") (signed_of rest) _ e (signed_found rest e)
    (branch (IsLineOf rest) key (codes "stopped") (stopped_of rest) _ e (stopped_found rest e)
    (branch (IsLineOf rest) key (codes "withheld") (withheld_of rest) _ e (withheld_found rest e)
    (branch (IsLineOf rest) key (codes "obeyed") (obeyed_of rest) _ e (obeyed_found rest e)
    (branch (IsLineOf rest) key (codes "heard") (heard_of rest) _ e (heard_found rest e)
    (branch (IsLineOf rest) key (codes "halted") (halted_of rest) _ e (halted_found rest e)
    (branch (IsLineOf rest) key (codes "kept") (kept_of rest) (record_event_from key rest) e (kept_found rest e) (record_from_found key rest e))))))))

from_found : (key rest : List ℕ) (e : Event) → event_from key rest ≡ Some e → IsLineOf rest key e
unfolding event_from
from_found key rest e =
    branch (IsLineOf rest) key (codes "put") (put_of rest) _ e (put_found rest e)
    (branch (IsLineOf rest) key (codes "forward") (forward_of rest) _ e (forward_found rest e)
    (branch (IsLineOf rest) key (codes "ask") (ask_of rest) _ e (ask_found rest e)
    (branch (IsLineOf rest) key (codes "proved") (proved_of rest) _ e (proved_found rest e)
    (branch (IsLineOf rest) key (codes "wild") (wild_of rest) _ e (wild_found rest e)
    (branch (IsLineOf rest) key (codes "refuse") (refuse_of rest) _ e (refuse_found rest e)
    (branch (IsLineOf rest) key (codes "drop") (drop_of rest) (host_event_from key rest) e (drop_found rest e) (host_from_found key rest e)))))))

-- what a line is read as is well formed, and has that line
pub event_found : (line : List ℕ) (e : Event) → event_of line ≡ Some e → IsEvent e × (line ≡ event_line e)
unfolding event_of
event_found line e h =
    let c = bind_some (cut line) (λ parts. event_from parts.0 parts.1) e h in
    let read = from_found c.0.0 c.0.1 e c.2 in
    (read.0, cut_at_found 32 line c.0 c.1 ∙ read.1)

-- ## What is spelled so is read

-- a line is read by its first word
opened : (key rest : List ℕ) → lacks 32 key ≡ true → event_of (key ++ 32 ∷ rest) ≡ event_from key rest
unfolding event_of
opened key rest plain = bind_at (λ parts. event_from parts.0 parts.1) (cut_at_again 32 key rest plain)

-- a record's line is read by its kind
peer_opened : (rest : List ℕ) → published_of (codes "peer" ++ 32 ∷ rest) ≡ four_fields id_of id_of u64_of u64_of (λ a o n u. event.PublishedPeer a o n u) rest
unfolding published_of published_from peer_of
peer_opened rest = bind_at (λ parts. published_from parts.0 parts.1) (cut_at_again 32 (codes "peer") rest refl)

bind_opened : (rest : List ℕ) → published_of (codes "bind" ++ 32 ∷ rest) ≡ four_fields id_of id_of u64_of u64_of (λ a o n u. event.PublishedBind a o n u) rest
unfolding published_of published_from bind_of
bind_opened rest = bind_at (λ parts. published_from parts.0 parts.1) (cut_at_again 32 (codes "bind") rest refl)

-- the line of a well-formed event is read as that event
pub event_again : (e : Event) → IsEvent e → event_of (event_line e) ≡ Some e
unfolding event_from host_event_from record_event_from put_of forward_of ask_of proved_of wild_of refuse_of drop_of got_of signed_of stopped_of withheld_of obeyed_of heard_of halted_of kept_of unpublished_of
event_again (event.Put flight target bytes) h =
    opened (codes "put") (decimal flight ++ 32 ∷ target_word target ++ 32 ∷ bytes_word bytes) refl
    ∙ three_again number_field target_field bytes_field (λ f t b. event.Put f t b) flight target bytes h.0 h.1 h.2
event_again (event.Forward router in_port out_port cause) h =
    opened (codes "forward") (router ++ 32 ∷ decimal in_port ++ 32 ∷ decimal out_port ++ 32 ∷ cause_word cause) refl
    ∙ four_again name_field number_field number_field cause_field (λ r i o c. event.Forward r i o c) router in_port out_port cause h.0 h.1 h.2 h.3
event_again (event.Ask router in_port out_port) h =
    opened (codes "ask") (router ++ 32 ∷ decimal in_port ++ 32 ∷ decimal out_port) refl
    ∙ three_again name_field number_field number_field (λ r i o. event.Ask r i o) router in_port out_port h.0 h.1 h.2
event_again (event.Proved router source port) h =
    opened (codes "proved") (router ++ 32 ∷ address_word source ++ 32 ∷ decimal port) refl
    ∙ three_again name_field address_field number_field (λ r s p. event.Proved r s p) router source port h.0 h.1 h.2
event_again (event.Wild router ad port) h =
    opened (codes "wild") (router ++ 32 ∷ id_word ad ++ 32 ∷ decimal port) refl
    ∙ three_again name_field id_field number_field (λ r a p. event.Wild r a p) router ad port h.0 h.1 h.2
event_again (event.Refuse router number) h =
    opened (codes "refuse") (router ++ 32 ∷ decimal number) refl ∙ two_again name_field number_field (λ r n. event.Refuse r n) router number h.0 h.1
event_again (event.Drop node reason) h =
    opened (codes "drop") (node ++ 32 ∷ reason_word reason) refl ∙ two_again name_field reason_field (λ n r. event.Drop n r) node reason h.0 h.1
event_again (event.Got host packet) h =
    opened (codes "got") (host ++ 32 ∷ decimal packet) refl ∙ two_again name_field number_field (λ a p. event.Got a p) host packet h.0 h.1
event_again (event.Signed host leaf) h =
    opened (codes "signed") (host ++ 32 ∷ decimal leaf) refl ∙ two_again name_field number_field (λ a l. event.Signed a l) host leaf h.0 h.1
event_again (event.Stopped host leaf call byte) h =
    opened (codes "stopped") (host ++ 32 ∷ decimal leaf ++ 32 ∷ decimal call ++ 32 ∷ decimal byte) refl
    ∙ four_again name_field number_field number_field number_field (λ a l c b. event.Stopped a l c b) host leaf call byte h.0 h.1 h.2 h.3
event_again (event.Withheld host to) h =
    opened (codes "withheld") (host ++ 32 ∷ key_id_word to) refl ∙ two_again name_field key_id_field (λ a t. event.Withheld a t) host to h.0 h.1
event_again (event.Obeyed host sender until) h =
    opened (codes "obeyed") (host ++ 32 ∷ key_id_word sender ++ 32 ∷ decimal until) refl
    ∙ three_again name_field key_id_field number_field (λ a s u. event.Obeyed a s u) host sender until h.0 h.1 h.2
event_again (event.Heard host number) h =
    opened (codes "heard") (host ++ 32 ∷ decimal number) refl ∙ two_again name_field number_field (λ a n. event.Heard a n) host number h.0 h.1
event_again (event.Halted host sender until call byte) h =
    opened (codes "halted") (host ++ 32 ∷ key_id_word sender ++ 32 ∷ decimal until ++ 32 ∷ decimal call ++ 32 ∷ decimal byte) refl
    ∙ five_again name_field key_id_field number_field number_field number_field (λ a s u c b. event.Halted a s u c b) host sender until call byte h.0 h.1 h.2 h.3 h.4
event_again (event.Kept host sender until) h =
    opened (codes "kept") (host ++ 32 ∷ key_id_word sender ++ 32 ∷ decimal until) refl
    ∙ three_again name_field key_id_field number_field (λ a s u. event.Kept a s u) host sender until h.0 h.1 h.2
event_again (event.PublishedPeer ad other number until) h =
    let fields = id_word ad ++ 32 ∷ id_word other ++ 32 ∷ decimal number ++ 32 ∷ decimal until in
    opened (codes "published") (codes "peer" ++ 32 ∷ fields) refl ∙ peer_opened fields
    ∙ four_again id_field id_field u64_field u64_field (λ a o n u. event.PublishedPeer a o n u) ad other number until h.0 h.1 h.2 h.3
event_again (event.PublishedBind ad other number until) h =
    let fields = id_word ad ++ 32 ∷ id_word other ++ 32 ∷ decimal number ++ 32 ∷ decimal until in
    opened (codes "published") (codes "bind" ++ 32 ∷ fields) refl ∙ bind_opened fields
    ∙ four_again id_field id_field u64_field u64_field (λ a o n u. event.PublishedBind a o n u) ad other number until h.0 h.1 h.2 h.3
event_again (event.Unpublished number) h =
    opened (codes "unpublished") (decimal number) refl ∙ one_again number_field (λ n. event.Unpublished n) number h

-- ## As the reader's clauses say it

pub event_found_in : (line : List ℕ) (r : Option Event) → r ≡ event_of line → IfSome r (λ e. IsEvent e × (line ≡ event_line e))
event_found_in line (Some e) h = event_found line e (sym h)
event_found_in line None h = tt

pub event_again_in : (line : List ℕ) (r : Option Event) → r ≡ event_of line → (e : Event) → IsEvent e → line ≡ event_line e → r ≡ Some e
event_again_in line r h e fits spelled = h ∙ ap event_of spelled ∙ event_again e fits
