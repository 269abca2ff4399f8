use Rattle.std.proofs.Common.{sym, subst, arith}
use Rattle.nomos_state.specs.Mentions.{names_in}
use Rattle.nomos_state.specs.declared.mentions.MessageNames.{MessageNames}
use Rattle.nomos_machine.specs.declared.object.Object.TheVariants as object
use Rattle.nomos_state.specs.Moving.{Moves}
use Rattle.nomos_state.specs.Tallying.{names_of, nothing}
use Rattle.nomos_state.proofs.MoveLaws.{moves-as}
use Rattle.nomos_state.specs.Counting.{names_used}
use Rattle.nomos_state.specs.Tallied.{AreTalliesOf}
use Rattle.nomos_state.proofs.KeepLemmas.{come-tallied, marked-kept, message-counted}
use Rattle.nomos_state.proofs.tallied.Tallied.add_message.Goals as goal

pub invariant_of-self-2 : goal.invariant_of-self-2
invariant_of-self-2 c =
    let t = c.self.inside in
    let m = c.args.message in
    let after = c.count_message.new.tallies in
    let counted = subst (λ (n : MessageNames). Moves t.tallies after nothing (names_used n)) c.of-names.ensures
    c.count_message.ensures
    in
    let moves = moves-as t.tallies after nothing (names_used (names_in m)) nothing (λ d. names_of d (object.Message m))
    counted (λ d name. omega (arith, message-counted m d name))
    in
    record {
      now =
          subst (AreTalliesOf after) (sym c.in_ok-come_message.ensures.ok)
          (come-tallied t.tallies after t.inside.state (object.Message m) c.self.invariant.now moves);
      marked =
          marked-kept t.was_exact t.was_lost _ _ _ _ c.self.invariant.marked c.count_message.ensures.marked
          c.come_message.ensures.marked;
    }
