-- Inputs and their lines: what is read is spelled so, and what is spelled so is read.
use Rattle.std.proofs.Common.{◌≡◌, ℕ, true, List, ◌∷◌, ◌++◌, Option, Some, None, refl, sym, ap, ◌∙◌}
use Rattle.std.specs.Prelude.{IfSome, codes, decimal}
use Rattle.std.proofs.lemmas.Option.{none-some}
use Rattle.aip_text.specs.Words.{bytes_word, cut, lacks}
use Rattle.aip_text.proofs.Texts.{cut_at_again, cut_at_found}
use Rattle.aip_event.specs.Lines.{IsInput, input_line, target_word}
use Rattle.aip_event.specs.Reading.{cut_of, deliver_of, halt_of, inject_of, input_from, input_of, mend_of, publish_of, raw_of, restart_of, send_of, shutoff_of, stop_of, tick_of}
use Rattle.aip_event.specs.declared.input.Input.{Input}
use Rattle.aip_event.specs.declared.input.Input.TheVariants as input
use Rattle.aip_event.proofs.FieldLaws.{target_field}
use Rattle.aip_text.proofs.FieldLaws.{bytes_field, name_field, number_field}
use Rattle.aip_text.proofs.LineForms.{bind_at, bind_some, branch, four_again, four_found, one_again, one_found, three_again, three_found, two_again, two_found}

-- the first word and the rest are the line of a well-formed input
abbrev IsLineOf : List ℕ → List ℕ → Input → Type 0
IsLineOf rest key i = IsInput i × (key ++ 32 ∷ rest ≡ input_line i)

-- ## What is read is spelled so

tick_found : (rest : List ℕ) (i : Input) → tick_of rest ≡ Some i → IsLineOf rest (codes "tick") i
unfolding tick_of
tick_found = one_found number_field (λ ticks. input.Tick ticks) (λ r i. IsLineOf r (codes "tick") i) (λ x hx. (hx, refl))

send_found : (rest : List ℕ) (i : Input) → send_of rest ≡ Some i → IsLineOf rest (codes "send") i
unfolding send_of
send_found = four_found name_field name_field number_field bytes_field (λ h n p b. input.Send h n p b) (λ r i. IsLineOf r (codes "send") i)
    (λ x y z v hx hy hz hv. ((hx, hy, hz, hv), refl))

raw_found : (rest : List ℕ) (i : Input) → raw_of rest ≡ Some i → IsLineOf rest (codes "raw") i
unfolding raw_of
raw_found = two_found name_field bytes_field (λ h b. input.Raw h b) (λ r i. IsLineOf r (codes "raw") i) (λ x y hx hy. ((hx, hy), refl))

deliver_found : (rest : List ℕ) (i : Input) → deliver_of rest ≡ Some i → IsLineOf rest (codes "deliver") i
unfolding deliver_of
deliver_found = one_found number_field (λ flight. input.Deliver flight) (λ r i. IsLineOf r (codes "deliver") i) (λ x hx. (hx, refl))

inject_found : (rest : List ℕ) (i : Input) → inject_of rest ≡ Some i → IsLineOf rest (codes "inject") i
unfolding inject_of
inject_found = two_found target_field bytes_field (λ t b. input.Inject t b) (λ r i. IsLineOf r (codes "inject") i) (λ x y hx hy. ((hx, hy), refl))

cut_found : (rest : List ℕ) (i : Input) → cut_of rest ≡ Some i → IsLineOf rest (codes "cut") i
unfolding cut_of
cut_found = one_found number_field (λ link. input.Cut link) (λ r i. IsLineOf r (codes "cut") i) (λ x hx. (hx, refl))

mend_found : (rest : List ℕ) (i : Input) → mend_of rest ≡ Some i → IsLineOf rest (codes "mend") i
unfolding mend_of
mend_found = one_found number_field (λ link. input.Mend link) (λ r i. IsLineOf r (codes "mend") i) (λ x hx. (hx, refl))

shutoff_found : (rest : List ℕ) (i : Input) → shutoff_of rest ≡ Some i → IsLineOf rest (codes "shutoff") i
unfolding shutoff_of
shutoff_found = three_found name_field number_field number_field (λ h f t. input.Shutoff h f t) (λ r i. IsLineOf r (codes "shutoff") i)
    (λ x y z hx hy hz. ((hx, hy, hz), refl))

restart_found : (rest : List ℕ) (i : Input) → restart_of rest ≡ Some i → IsLineOf rest (codes "restart") i
unfolding restart_of
restart_found = one_found name_field (λ node. input.Restart node) (λ r i. IsLineOf r (codes "restart") i) (λ x hx. (hx, refl))

stop_found : (rest : List ℕ) (i : Input) → stop_of rest ≡ Some i → IsLineOf rest (codes "stop") i
unfolding stop_of
stop_found = three_found name_field number_field number_field (λ h c b. input.Stop h c b) (λ r i. IsLineOf r (codes "stop") i)
    (λ x y z hx hy hz. ((hx, hy, hz), refl))

halt_found : (rest : List ℕ) (i : Input) → halt_of rest ≡ Some i → IsLineOf rest (codes "halt") i
unfolding halt_of
halt_found = three_found name_field number_field number_field (λ h c b. input.Halt h c b) (λ r i. IsLineOf r (codes "halt") i)
    (λ x y z hx hy hz. ((hx, hy, hz), refl))

publish_found : (rest : List ℕ) (i : Input) → publish_of rest ≡ Some i → IsLineOf rest (codes "publish") i
unfolding publish_of
publish_found = one_found bytes_field (λ bytes. input.Publish bytes) (λ r i. IsLineOf r (codes "publish") i) (λ x hx. (hx, refl))

from_found : (key rest : List ℕ) (i : Input) → input_from key rest ≡ Some i → IsLineOf rest key i
unfolding input_from
from_found key rest i =
    branch (IsLineOf rest) key (codes "tick") (tick_of rest) _ i (tick_found rest i)
    (branch (IsLineOf rest) key (codes "send") (send_of rest) _ i (send_found rest i)
    (branch (IsLineOf rest) key (codes "raw") (raw_of rest) _ i (raw_found rest i)
    (branch (IsLineOf rest) key (codes "deliver") (deliver_of rest) _ i (deliver_found rest i)
    (branch (IsLineOf rest) key (codes "inject") (inject_of rest) _ i (inject_found rest i)
    (branch (IsLineOf rest) key (codes "cut") (cut_of rest) _ i (cut_found rest i)
    (branch (IsLineOf rest) key (codes "mend") (mend_of rest) _ i (mend_found rest i)
    (branch (IsLineOf rest) key (codes "shutoff") (shutoff_of rest) _ i (shutoff_found rest i)
    (branch (IsLineOf rest) key (codes "restart") (restart_of rest) _ i (restart_found rest i)
    (branch (IsLineOf rest) key (codes "stop") (stop_of rest) _ i (stop_found rest i)
    (branch (IsLineOf rest) key (codes "halt") (halt_of rest) _ i (halt_found rest i)
    (branch (IsLineOf rest) key (codes "publish") (publish_of rest) None i (publish_found rest i) (λ h. absurd (none-some i h)))))))))))))

-- what a line is read as is well formed, and has that line
pub input_found : (line : List ℕ) (i : Input) → input_of line ≡ Some i → IsInput i × (line ≡ input_line i)
unfolding input_of
input_found line i h =
    let c = bind_some (cut line) (λ parts. input_from parts.0 parts.1) i h in
    let read = from_found c.0.0 c.0.1 i c.2 in
    (read.0, cut_at_found 32 line c.0 c.1 ∙ read.1)

-- ## What is spelled so is read

-- a line is read by its first word
opened : (key rest : List ℕ) → lacks 32 key ≡ true → input_of (key ++ 32 ∷ rest) ≡ input_from key rest
unfolding input_of
opened key rest plain = bind_at (λ parts. input_from parts.0 parts.1) (cut_at_again 32 key rest plain)

-- the line of a well-formed input is read as that input
pub input_again : (i : Input) → IsInput i → input_of (input_line i) ≡ Some i
unfolding input_from tick_of send_of raw_of deliver_of inject_of cut_of mend_of shutoff_of restart_of stop_of halt_of publish_of
input_again (input.Tick n) h = opened (codes "tick") (decimal n) refl ∙ one_again number_field (λ x. input.Tick x) n h
input_again (input.Send host node packet body) h =
    opened (codes "send") (host ++ 32 ∷ node ++ 32 ∷ decimal packet ++ 32 ∷ bytes_word body) refl
    ∙ four_again name_field name_field number_field bytes_field (λ a n p b. input.Send a n p b) host node packet body h.0 h.1 h.2 h.3
input_again (input.Raw host bytes) h =
    opened (codes "raw") (host ++ 32 ∷ bytes_word bytes) refl ∙ two_again name_field bytes_field (λ a b. input.Raw a b) host bytes h.0 h.1
input_again (input.Deliver n) h = opened (codes "deliver") (decimal n) refl ∙ one_again number_field (λ x. input.Deliver x) n h
input_again (input.Inject t bytes) h =
    opened (codes "inject") (target_word t ++ 32 ∷ bytes_word bytes) refl ∙ two_again target_field bytes_field (λ a b. input.Inject a b) t bytes h.0 h.1
input_again (input.Cut n) h = opened (codes "cut") (decimal n) refl ∙ one_again number_field (λ x. input.Cut x) n h
input_again (input.Mend n) h = opened (codes "mend") (decimal n) refl ∙ one_again number_field (λ x. input.Mend x) n h
input_again (input.Shutoff host flight ttl) h =
    opened (codes "shutoff") (host ++ 32 ∷ decimal flight ++ 32 ∷ decimal ttl) refl
    ∙ three_again name_field number_field number_field (λ a f t. input.Shutoff a f t) host flight ttl h.0 h.1 h.2
input_again (input.Restart node) h = opened (codes "restart") node refl ∙ one_again name_field (λ x. input.Restart x) node h
input_again (input.Stop host call byte) h =
    opened (codes "stop") (host ++ 32 ∷ decimal call ++ 32 ∷ decimal byte) refl
    ∙ three_again name_field number_field number_field (λ a c b. input.Stop a c b) host call byte h.0 h.1 h.2
input_again (input.Halt host call byte) h =
    opened (codes "halt") (host ++ 32 ∷ decimal call ++ 32 ∷ decimal byte) refl
    ∙ three_again name_field number_field number_field (λ a c b. input.Halt a c b) host call byte h.0 h.1 h.2
input_again (input.Publish bytes) h = opened (codes "publish") (bytes_word bytes) refl ∙ one_again bytes_field (λ x. input.Publish x) bytes h

-- ## As the reader's clauses say it

pub input_found_in : (line : List ℕ) (r : Option Input) → r ≡ input_of line → IfSome r (λ i. IsInput i × (line ≡ input_line i))
input_found_in line (Some i) e = input_found line i (sym e)
input_found_in line None e = tt

pub input_again_in : (line : List ℕ) (r : Option Input) → r ≡ input_of line → (i : Input) → IsInput i → line ≡ input_line i → r ≡ Some i
input_again_in line r e i h spelled = e ∙ ap input_of spelled ∙ input_again i h
