use Rattle.std.proofs.Common.{◌∙◌, [], ℕ, Option, refl, sym, subst}
use Rattle.std.specs.Option.{option_to_list}
use Rattle.nomos_machine.specs.Revised.{without_channel}
use Rattle.nomos_machine.specs.State.{process_at}
use Rattle.nomos_machine.specs.declared.object.Process.{Process}
use Rattle.nomos_ir.specs.Bindings.{bound_to}
use Rattle.nomos_state.specs.Moving.{Moves}
use Rattle.nomos_state.specs.Tallied.{AreTalliesOf}
use Rattle.nomos_state.specs.Tallying.{only}
use Rattle.nomos_state.specs.declared.tally.NameUse.TheVariants as doing
use Rattle.nomos_state.proofs.CountLaws.{unbinding-exchanges}
use Rattle.nomos_state.proofs.KeepLemmas.{becomes-tallied, marked-kept, none-there, seen-there}
use Rattle.nomos_state.proofs.tallied.Tallied.unbind_channel.Goals as goal

pub invariant_of-self-2 : goal.invariant_of-self-2
invariant_of-self-2 c =
    let t = c.self.inside in
    let s = t.inside.state in
    let seen = seen-there (λ (p : Process). bound_to c.args.v.0 p.channels) (process_at s c.args.pid) c.in-Some.before
    c.in-Some.ensures.before in
    let p = seen.0 in
    let there = seen.1 in
    let bound = seen.2 in
    let after = c.exchange.new.self in
    record {
      now =
          becomes-tallied t.tallies after s c.unbind_channel.new.self.state c.args.pid p
          (without_channel c.args.v)
          (only doing.Uses (option_to_list (bound_to c.args.v.0 p.channels))) (only doing.Uses [])
          c.self.invariant.now there c.unbind_channel.ensures.state
          (unbinding-exchanges p c.args.v)
          (subst (λ (o : Option ℕ). Moves t.tallies after (only doing.Uses (option_to_list o))
          (only doing.Uses []))
          bound c.exchange.ensures);
      marked =
          marked-kept t.was_exact t.was_lost _ _ _ _ c.self.invariant.marked c.exchange.ensures.marked
          c.unbind_channel.ensures.marked;
    }

-- nothing changed where there is no such process
pub invariant_of-self : goal.invariant_of-self
invariant_of-self c =
    let t = c.self.inside in
    record {
      now =
          subst (AreTalliesOf t.tallies)
          (sym (c.unbind_channel.ensures.none (none-there (λ (p : Process). bound_to c.args.v.0 p.channels)
          (process_at t.inside.state c.args.pid)
          (sym c.in_default.is ∙ c.unbind_channel.ensures.before))))
          c.self.invariant.now;
      marked =
          marked-kept t.was_exact t.was_lost _ _ _ _ c.self.invariant.marked refl c.unbind_channel.ensures.marked;
    }
