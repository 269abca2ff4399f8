use Rattle.std.proofs.Common.{◌≡◌, None, Ok, Err, refl, sym, subst}
use Rattle.std.specs.List.Sorted.{IsStrictlySortedBy}
use Rattle.std.specs.Ordering.{nat_cmp}
use Rattle.nomos_machine.specs.State.{process_at}
use Rattle.nomos_state.proofs.KeepLemmas.{either-marked, either-tallied, marked-kept, out-order}
use Rattle.nomos_state.proofs.tallied.Tallied.replace_channels.Goals as goal

pub count_channels-requires-clause-order : goal.count_channels-requires-clause-order
count_channels-requires-clause-order c =
    let s = c.self.inside.inside.state in
    subst (IsStrictlySortedBy nat_cmp)
    (sym (out-order s c.args.pid c.self.inside.tallies c.uncount_channels.new.tallies c.uncount_channels.ensures.moves
    (λ none. c.uncount_channels.ensures.none (c.span-before.ensures.none none)) (process_at s c.args.pid) refl))
    c.self.invariant.now.order

pub invariant_of-self : goal.invariant_of-self
invariant_of-self c =
    let t = c.self.inside in
    let s = t.inside.state in
    let between = c.uncount_channels.new.tallies in
    let after = c.count_channels.new.tallies in
    let still : process_at s c.args.pid ≡ None → between ≡ t.tallies = λ none.
    c.uncount_channels.ensures.none (c.span-before.ensures.none none) in
    let again : process_at s c.args.pid ≡ None → after ≡ between = λ none.
    c.count_channels.ensures.none (c.in-Ok.ensures.no_span none) in
    let new = c.replace_channels.new.self.state in
    record {
      now =
          either-tallied s c.args.pid t.tallies between c.uncount_channels.ensures.moves still new
          c.args.channels.items after c.self.invariant.now (Ok tt) c.in-Ok.ensures.ok tt c.replace_channels.ensures.none
          c.count_channels.ensures.moves again (process_at s c.args.pid) refl;
      marked =
          marked-kept t.was_exact t.was_lost _ _ _ _ c.self.invariant.marked
          (either-marked s c.args.pid t.tallies between c.uncount_channels.ensures.moves still new
          c.args.channels.items after c.self.invariant.now (Ok tt) c.in-Ok.ensures.ok tt c.replace_channels.ensures.none
          c.count_channels.ensures.moves again (process_at s c.args.pid) refl) c.replace_channels.ensures.marked;
    }

pub invariant_of-self-in-Err : goal.invariant_of-self-in-Err
invariant_of-self-in-Err c =
    let t = c.self.inside in
    let s = t.inside.state in
    let between = c.uncount_channels.new.tallies in
    let after = c.count_channels-in-Err.new.tallies in
    let still : process_at s c.args.pid ≡ None → between ≡ t.tallies = λ none.
    c.uncount_channels.ensures.none (c.span-before.ensures.none none) in
    let again : process_at s c.args.pid ≡ None → after ≡ between = λ none.
    c.count_channels-in-Err.ensures.none (c.span-before.ensures.none none) in
    let new = c.replace_channels.new.self.state in
    record {
      now =
          either-tallied s c.args.pid t.tallies between c.uncount_channels.ensures.moves still new
          c.args.channels.items after c.self.invariant.now (Err c.in-Err.fault) tt c.in-Err.ensures.err
          c.replace_channels.ensures.none
          c.count_channels-in-Err.ensures.moves again (process_at s c.args.pid) refl;
      marked =
          marked-kept t.was_exact t.was_lost _ _ _ _ c.self.invariant.marked
          (either-marked s c.args.pid t.tallies between c.uncount_channels.ensures.moves still new
          c.args.channels.items after c.self.invariant.now (Err c.in-Err.fault) tt c.in-Err.ensures.err
          c.replace_channels.ensures.none
          c.count_channels-in-Err.ensures.moves again (process_at s c.args.pid) refl) c.replace_channels.ensures.marked;
    }
