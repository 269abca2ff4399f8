use Rattle.std.proofs.Common.{List, All, sym, subst}
use Rattle.nomos_ir.specs.declared.ids.TypeId.{TypeId}
use Rattle.nomos_equality.specs.Comparing.{Compared, HasCompared, FindsEqual, AreFree}
use Rattle.nomos_equality.specs.mirror.Known.{compared_beside}
use Rattle.nomos_equality.proofs.FreeLemmas.{compared-alone, compared-both, finds-both}
use Rattle.nomos_equality.proofs.VisitLemmas.{ok-map}
use Rattle.nomos_equality.proofs.equalities.Equalities.add.Goals as goal

pub gather-requires-clause-compared : goal.gather-requires-clause-compared
gather-requires-clause-compared c =
    compared-alone c.args.program.now c.self.inside.known c.self.inside.classes
    (subst (λ (k : Compared). HasCompared c.args.program.now k) (sym c.self.view_is) c.requires.compared)

pub returns-then-not-branch-clause-compared : goal.returns-then-not-branch-clause-compared
returns-then-not-branch-clause-compared c =
    let before : HasCompared c.args.program.now (compared_beside c.self.inside.known c.self.inside.classes) =
    subst (λ (k : Compared). HasCompared c.args.program.now k) (sym c.self.view_is) c.requires.compared in
    compared-both c.args.program.now c.gather.new.self c.self.inside.classes c.gather.ensures.compared before.free

pub returns-then-not-branch-clause-finds : goal.returns-then-not-branch-clause-finds
returns-then-not-branch-clause-finds c =
    ok-map c.gather.result
    (λ found. subst (λ (k : Compared). FindsEqual c.args.program.now c.args.left c.args.right k
    (compared_beside c.gather.new.self c.self.inside.classes)) c.self.view_is
    (finds-both c.args.program.now c.args.left c.args.right c.self.inside.known c.gather.new.self
    c.self.inside.classes c.self.inside.classes found))
    c.gather.ensures.finds

pub join-requires-clause-compared : goal.join-requires-clause-compared
join-requires-clause-compared c =
    compared-alone c.args.program.now c.self.inside.known c.self.inside.classes
    (subst (λ (k : Compared). HasCompared c.args.program.now k) (sym c.self.view_is) c.requires.compared)

pub join_free-requires-clause-free : goal.join_free-requires-clause-free
join_free-requires-clause-free c =
    let before : HasCompared c.args.program.now (compared_beside c.self.inside.known c.self.inside.classes) =
    subst (λ (k : Compared). HasCompared c.args.program.now k) (sym c.self.view_is) c.requires.compared in
    subst (λ (l : List (TypeId × TypeId)). All (AreFree c.args.program.now) l) (sym c.make_room.ensures) before.free

pub returns-clause-finds : goal.returns-clause-finds
returns-clause-finds c =
    subst (λ (k : Compared). FindsEqual c.args.program.now c.args.left c.args.right k
    (compared_beside c.join.new.self c.join_free.new.classes)) c.self.view_is
    (finds-both c.args.program.now c.args.left c.args.right c.self.inside.known c.join.new.self
    c.self.inside.classes c.join_free.new.classes c.in_ok-join.ensures.finds)
