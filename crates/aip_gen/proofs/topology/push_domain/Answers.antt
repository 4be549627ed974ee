use Rattle.std.proofs.Common.{◌∙◌, append_assoc, refl}
use Rattle.std.proofs.lemmas.Result.{on_ok_weaker}
use Rattle.aip_gen.proofs.topology.push_domain.Goals as goal

pub returns-clause-drawn : goal.returns-clause-drawn
returns-clause-drawn c =
    on_ok_weaker c.push_last_words.result (λ last. last ∙ rw c.in_ok-push_name.ensures (simp append_assoc refl)) c.push_last_words.ensures.drawn
