use Rattle.std.proofs.Common.{Bool, refl, subst}
use Rattle.nomos_equality.specs.mirror.PairTables.{Puts}
use Rattle.nomos_equality.proofs.KnownLemmas.{meets-known, meets-fresh}
use Rattle.nomos_equality.proofs.known.Known.meet.Goals as goal

pub returns-else-branch-clause-meets : goal.returns-else-branch-clause-meets
returns-else-branch-clause-meets c =
    let put = subst (λ (b : Bool). Puts c.args.self.now.pairs (c.unfold-left.result, c.unfold-right.result)
    c.insert.new.self b) c.if-branch.false c.in_ok-insert.ensures.ok in
    meets-known c.args.program.now c.args.self.now (record c.args.self.now { pairs = c.insert.new.self }) c.args.left
    c.args.right c.unfold-left.result c.unfold-right.result c.unfold-left.ensures.unfolds c.unfold-right.ensures.unfolds
    put.0 put.1 refl refl

pub returns-in_ok-push-clause-meets : goal.returns-in_ok-push-clause-meets
returns-in_ok-push-clause-meets c =
    let put = subst (λ (b : Bool). Puts c.args.self.now.pairs (c.unfold-left.result, c.unfold-right.result)
    c.insert.new.self b) c.if-branch.true c.in_ok-insert.ensures.ok in
    meets-fresh c.args.program.now c.args.self.now
    (record c.args.self.now { pairs = c.insert.new.self; todo = c.push.new.self }) c.args.left
    c.args.right c.unfold-left.result c.unfold-right.result c.unfold-left.ensures.unfolds c.unfold-right.ensures.unfolds
    put c.in_ok-push.ensures.items refl
