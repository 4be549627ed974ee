-- A wildcard is found fresh where the uses say so, and then the cache stands for one hit more.
use Rattle.std.proofs.Common.{cond, ◌∷◌, ◌∙◌, subst, sym}
use Rattle.accept_cache.specs.Recency.{Hit}
use Rattle.accept_cache.specs.Keys.{wildcard_of}
use Rattle.accept_cache.specs.StandsFor.{CacheStandsFor}
use Rattle.accept_cache.proofs.Laws.{has_fresh_wild_agrees, hit_wild_stands}
use Rattle.accept_cache.proofs.cache.AcceptCache.hit_wild.Goals as goal

pub returns-clause-fresh : goal.returns-clause-fresh
returns-clause-fresh c = λ uses wilds stands.
    c.touch_wild.ensures.answer ∙ has_fresh_wild_agrees uses wilds c.args.self.now stands (wildcard_of c.args.ad.now c.args.port) c.args.now

pub returns-clause-stands : goal.returns-clause-stands
returns-clause-stands c = λ uses wilds stands.
    let wildcard = wildcard_of c.args.ad.now c.args.port in
    subst (CacheStandsFor uses (cond c.touch_wild.result (Hit wildcard ∷ wilds) wilds)) (sym c.touch_wild.ensures.kept)
    (hit_wild_stands uses wilds c.args.self.now stands wildcard c.args.now c.touch_wild.result c.touch_wild.ensures.answer)
