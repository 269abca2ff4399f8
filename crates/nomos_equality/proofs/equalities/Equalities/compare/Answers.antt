use Rattle.std.proofs.Common.{List, refl, sym, ap, subst}
use Rattle.nomos_ir.specs.declared.ids.TypeId.{TypeId}
use Rattle.nomos_equality.specs.Comparing.{Compared, HasCompared, FindsEqual}
use Rattle.nomos_equality.specs.mirror.Known.{Among, compared_beside}
use Rattle.nomos_equality.specs.mirror.Search.{IsMet}
use Rattle.nomos_equality.proofs.EndLemmas.{met-finds}
use Rattle.nomos_equality.proofs.FreeLemmas.{two-find}
use Rattle.nomos_equality.proofs.equalities.Equalities.compare.Goals as goal

pub returns-then-has-clause-answers : goal.returns-then-has-clause-answers
returns-then-has-clause-answers c =
    met-finds c.args.program.now c.args.left c.args.right c.args.self.now c.requires.compared
    (subst (λ (k : Compared). IsMet c.args.program.now (Among k.types) c.args.left c.args.right) c.self.view_is
    (c.if-has.ensures refl))

pub returns-then-are_joined-clause-answers : goal.returns-then-are_joined-clause-answers
returns-then-are_joined-clause-answers c =
    subst (λ (k : Compared). FindsEqual c.args.program.now c.args.left c.args.right k
    (compared_beside c.self.inside.known c.are_joined.new.classes)) c.self.view_is
    (two-find c.args.program.now c.args.left c.args.right
    (compared_beside c.self.inside.known c.self.inside.classes)
    (compared_beside c.self.inside.known c.are_joined.new.classes)
    (subst (λ (k : Compared). HasCompared c.args.program.now k) (sym c.self.view_is) c.requires.compared)
    (ap (λ (l : List (TypeId × TypeId)). compared_beside c.self.inside.known l) c.are_joined.ensures.same)
    (c.if-are_joined.ensures.joined refl))
