use Rattle.layers.proofs.BehindLaws.{behind-or, behind-past}
use Rattle.layers.proofs.behind.behind.Goals as goal

pub returns-then-n-lt65535-clause-means : goal.returns-then-n-lt65535-clause-means
returns-then-n-lt65535-clause-means g c =
    λ xs ys s e f. rw c.or.ensures (behind-or xs ys c.args.n c.args.first c.args.second s c.if-n-lt65535.true e f)

pub returns-else-n-lt65535-clause-means : goal.returns-else-n-lt65535-clause-means
returns-else-n-lt65535-clause-means g c = λ xs ys s e f. behind-past xs ys c.args.n c.args.first s c.if-n-lt65535.false e
