use Rattle.std.proofs.Common.{◌≡◌, ◌+◌, ◌<◌, ◌≤◌, ◌∙◌, ℕ, IsSome, Some, None, Option, refl, subst, arith}
use Rattle.nomos_slots.specs.Cells.{name_in}
use Rattle.nomos_state.specs.Spanning.{HasVariable}
use Rattle.nomos_state.specs.declared.span.Span.{Span}
use Rattle.nomos_state.proofs.SpanLemmas.{done-all, done-next, done-start}
use Rattle.nomos_state.proofs.span.drop_span.Goals as goal

pub loop-variable-init : goal.loop-variable-init
loop-variable-init c = record {
  done =
      done-start (λ _. None) refl c.args.process c.args.channels.now.now c.in-Some.within
      (λ v some. subst (λ (s : Option Span). HasVariable s v) c.in-Some.is (c.requires v some));
  marked = refl;
  room = omega arith;
}

pub loop-variable-preserved : goal.loop-variable-preserved
loop-variable-preserved c = record {
  done =
      done-next (λ _. None) refl c.args.process c.args.channels.now.now c.in-Some.within
      (λ v some. subst (λ (s : Option Span). HasVariable s v) c.in-Some.is (c.requires v some))
      c.loop-variable.variable c.loop-variable.channels.now c.unbind.new.self.now c.loop-variable.invariant.done
      c.unbind.ensures.names c.next_in-variable.result c.next_in-variable.ensures.over c.next_in-variable.ensures.none;
  marked = c.unbind.ensures.marked ∙ c.loop-variable.invariant.marked;
  room = omega (arith, c.unbind.ensures.room, c.loop-variable.invariant.room);
}

pub returns-clause-names : goal.returns-clause-names
returns-clause-names c =
    let spans : (v : ℕ) → IsSome (name_in c.args.channels.now.now c.args.process v)
    → HasVariable (Some c.in-Some.within) v =
    λ v some. subst (λ (s : Option Span). HasVariable s v) c.in-Some.is (c.requires v some)
    in
    let last = c.loop-variable.variable in
    done-all (λ _. None) refl c.args.process c.args.channels.now.now c.in-Some.within spans
    (last + 1) c.unbind-2.new.self.now
    (omega (arith, c.loop-variable-test.false))
    (done-next (λ _. None) refl c.args.process c.args.channels.now.now c.in-Some.within spans
    last c.loop-variable.channels.now c.unbind-2.new.self.now c.loop-variable.invariant.done
    c.unbind-2.ensures.names (last + 1) (omega arith)
    (λ v over below. absurd (omega arith)))
