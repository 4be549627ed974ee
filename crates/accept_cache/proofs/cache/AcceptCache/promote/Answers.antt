-- What is counted is what the uses say, and after a promotion the cache stands for one wildcard more.
use Rattle.std.proofs.Common.{cond, ◌∷◌, ◌∙◌, subst, sym}
use Rattle.std.proofs.lemmas.Result.{IfOk-weaker}
use Rattle.accept_cache.specs.Recency.{Proved}
use Rattle.accept_cache.specs.Keys.{wildcard_of}
use Rattle.accept_cache.specs.StandsFor.{CacheStandsFor}
use Rattle.accept_cache.proofs.Laws.{is_promoted_agrees, promotion_stands}
use Rattle.accept_cache.proofs.cache.AcceptCache.promote.Goals as goal

pub returns-clause-promotes : goal.returns-clause-promotes
returns-clause-promotes c = λ uses wilds stands.
    IfOk-weaker c.keep_wild.result _ _
    (λ made answer. answer ∙ is_promoted_agrees uses wilds c.args.self.now stands (wildcard_of c.args.ad.now c.args.port) c.args.now)
    c.keep_wild.ensures.answer

pub returns-clause-stands : goal.returns-clause-stands
returns-clause-stands c = λ uses wilds stands.
    let wildcard = wildcard_of c.args.ad.now c.args.port in
    IfOk-weaker c.keep_wild.result _ _
    (λ made kept. subst (CacheStandsFor uses (cond made (Proved wildcard c.args.now ∷ wilds) wilds)) (sym kept) (promotion_stands uses wilds c.args.self.now stands wildcard c.args.now made))
    c.keep_wild.ensures.kept
