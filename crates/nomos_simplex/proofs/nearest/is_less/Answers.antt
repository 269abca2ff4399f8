use Rattle.nomos_simplex.proofs.FractionOrderLemmas.{whole_parts, rest_parts}
use Rattle.nomos_simplex.proofs.nearest.is_less.Goals as goal

pub returns-then-whole-other : goal.returns-then-whole-other
returns-then-whole-other c = whole_parts c.args.f.0 c.args.f.1 c.args.g.0 c.args.g.1 c.requires.f.0 c.requires.g.0
    c.if-whole-other.true

pub returns : goal.returns
returns c = rest_parts c.args.f.0 c.args.f.1 c.args.g.0 c.args.g.1 c.requires.f.0 c.requires.g.0 c.if-whole-other.false
