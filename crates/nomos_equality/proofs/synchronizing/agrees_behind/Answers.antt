use Rattle.std.proofs.Common.{sym, ◌∙◌, refl}
use Rattle.nomos_equality.proofs.ComparedLaws.{stays-same}
use Rattle.nomos_equality.proofs.PathLaws.{differ-unequal}
use Rattle.nomos_equality.specs.mirror.Walk.{down}
use Rattle.nomos_equality.proofs.ContinuationLemmas.{down-below, down-there}
use Rattle.nomos_equality.proofs.synchronizing.agrees_behind.Goals as goal
use Rattle.nomos_equality.proofs.synchronizing.agrees_behind.Goals.{in-Equal, in-Different}

pub compare-requires-clause-left : goal.compare-requires-clause-left
compare-requires-clause-left c =
    down-below c.args.program.now c.args.at.0 c.node.result.now c.in-Some.behind c.requires.walkable.program
    c.node.ensures (sym c.behind_down.ensures ∙ c.in-Some.is)

pub returns-clause-tells : goal.returns-clause-tells
returns-clause-tells c =
    let there = down-there c.args.program.now c.args.at.0 c.node.result.now c.in-Some.behind c.node.ensures
    (sym c.behind_down.ensures ∙ c.in-Some.is) in
    elim c.match-branch-2.branch [
      | in-Equal w ↦
          let finds = rw w.in-Equal.is at c.in_ok-compare.ensures.answers in
          rw w.result-is (down c.in-Some.behind there finds)
      | in-Different w ↦
          let differs = rw w.in-Different.is at c.in_ok-compare.ensures.answers in
          rw w.result-is (record {
            behind = c.in-Some.behind;
            there = there;
            unequal = differ-unequal c.args.program.now c.in-Some.behind c.args.shared _ differs.0;
          })
    ]

pub returns-in-None-clause-kept : goal.returns-in-None-clause-kept
returns-in-None-clause-kept c = stays-same c.args.equalities.now c.args.equalities.now refl
