-- Where the wildcard passes the frame, the pair was looked at and not touched, and then the wildcard was hit.
use Rattle.border_check.proofs.border.Goals as goal

pub returns-then-hit_wild-clause-stands : goal.returns-then-hit_wild-clause-stands
returns-then-hit_wild-clause-stands c = λ uses wilds stands.
    c.if-hit_wild.ensures.stands uses wilds (c.if-hit.ensures.stands uses wilds stands)
