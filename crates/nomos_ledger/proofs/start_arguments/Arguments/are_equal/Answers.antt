use Rattle.std.proofs.Common.{All, sym, subst}
use Rattle.nomos_ledger.specs.mirror.StartArguments.{IsAnswered}
use Rattle.nomos_ledger.proofs.AnswerLemmas.{numbers_eq, numbers-exact, put-kept}
use Rattle.nomos_ledger.proofs.start_arguments.Arguments.are_equal.Goals as goal

pub invariant_of-self-2 : goal.invariant_of-self-2
invariant_of-self-2 c = record {
  by_name = c.self.invariant.by_name;
  answered =
      let P = IsAnswered c.self.inside.accepted.now in
      subst (All P) (sym c.in_ok-insert.ensures.entries)
      (put-kept P numbers_eq numbers-exact c.self.inside.answers.entries (c.args.left.0, c.args.right.0)
      c.in_ok-same.same c.self.invariant.answered c.in_ok-same.ensures);
}
