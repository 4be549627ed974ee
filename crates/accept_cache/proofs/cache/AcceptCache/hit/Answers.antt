-- A pair is found fresh where the uses say so, and then the cache stands for one hit more.
use Rattle.std.proofs.Common.{cond, ◌∷◌, ◌∙◌, subst, sym}
use Rattle.accept_cache.specs.Recency.{Hit}
use Rattle.accept_cache.specs.Keys.{pair_of}
use Rattle.accept_cache.specs.StandsFor.{CacheStandsFor}
use Rattle.accept_cache.proofs.Laws.{has_fresh_agrees, hit_stands}
use Rattle.accept_cache.proofs.cache.AcceptCache.hit.Goals as goal

pub returns-clause-fresh : goal.returns-clause-fresh
returns-clause-fresh c = λ uses wilds stands.
    c.touch.ensures.answer ∙ has_fresh_agrees uses wilds c.args.self.now stands (pair_of c.args.source.now c.args.port) c.args.now

pub returns-clause-stands : goal.returns-clause-stands
returns-clause-stands c = λ uses wilds stands.
    let pair = pair_of c.args.source.now c.args.port in
    subst (CacheStandsFor (cond c.touch.result (Hit pair ∷ uses) uses) wilds) (sym c.touch.ensures.kept)
    (hit_stands uses wilds c.args.self.now stands pair c.args.now c.touch.result c.touch.ensures.answer)
