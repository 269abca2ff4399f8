use Rattle.std.proofs.Common.{◌≡◌, ◌∙◌, ◌+◌, ◌-◌, ℕ, Option, refl, sym, subst, arith}
use Rattle.std.specs.List.Sorted.{IsStrictlySortedBy}
use Rattle.std.specs.Ordering.{nat_cmp}
use Rattle.nomos_ir.specs.Bindings.{bound_to}
use Rattle.nomos_state.specs.Moving.{Moves}
use Rattle.nomos_state.specs.Tallying.{nothing}
use Rattle.nomos_state.proofs.MoveLaws.{moves-still}
use Rattle.nomos_state.specs.Spanning.{HasVariable}
use Rattle.nomos_state.specs.declared.span.Span.{Span}
use Rattle.nomos_state.proofs.CountLemmas.{uncount-end, uncount-skip, uncount-step, none-by, none-far, so_far}
use Rattle.nomos_state.proofs.counting.uncount_channels.Goals as goal

pub returns-in_default-clause-moves : goal.returns-in_default-clause-moves
returns-in_default-clause-moves c p there =
    uncount-end 0 p c.args.tallies.now c.args.tallies.now 0 (λ some. absurd (omega arith))
    (λ v is. absurd (subst (λ (s : Option Span). HasVariable s v) c.in_default.is (c.requires.spans p there v is)))
    (moves-still c.args.tallies.now (so_far 0 0 p) nothing (λ d n. none-far 0 p d n))

pub loop-variable-init : goal.loop-variable-init
loop-variable-init c = record {
  above = omega arith;
  order = refl;
  ascending = λ p there some. absurd (omega arith);
  moves = λ p there.
      let none : c.in-Some.span.low - c.in-Some.span.low ≡ 0 = omega arith in
      subst (λ (k : ℕ). Moves c.args.tallies.now c.args.tallies.now (so_far c.in-Some.span.low k p) nothing) (sym none)
      (moves-still c.args.tallies.now (so_far c.in-Some.span.low 0 p) nothing
      (λ d n. none-far c.in-Some.span.low p d n));
}

pub exchange-requires : goal.exchange-requires
exchange-requires c = subst (IsStrictlySortedBy nat_cmp) (sym c.loop-variable.invariant.order) c.requires.order

pub loop-variable-preserved : goal.loop-variable-preserved
loop-variable-preserved c = record {
  above = omega (arith, c.loop-variable.invariant.above, c.next_variable-variable.ensures.over);
  order = c.exchange.ensures.order ∙ c.loop-variable.invariant.order;
  ascending = λ p there some. c.bound-name.ensures.order p there;
  moves = λ p there.
      let low = c.in-Some.span.low in
      let v = c.loop-variable.variable in
      let is = c.loop-variable.invariant in
      uncount-skip low p (v + 1) c.next_variable-variable.result (omega (arith, is.above))
      c.next_variable-variable.ensures.over
      (λ w over below.
      none-by (bound_to w p.channels)
      (λ some.
      c.next_variable-variable.ensures.none p there w over below
      (subst (λ (s : Option Span). HasVariable s w) c.in-Some.is (c.requires.spans p there w some))))
      c.args.tallies.now c.exchange.new.self
      (uncount-step low p c.args.tallies.now c.loop-variable.tallies c.exchange.new.self v c.bound-name.result is.above
      (c.bound-name.ensures.name p there) (is.moves p there) c.exchange.ensures);
}

pub loop-variable-smaller : goal.loop-variable-smaller
loop-variable-smaller c = omega (arith, c.if-variable-span.false, c.next_variable-variable.ensures.over)

pub returns-then-variable-span-clause-moves : goal.returns-then-variable-span-clause-moves
returns-then-variable-span-clause-moves c p there =
    let low = c.in-Some.span.low in
    let v = c.loop-variable.variable in
    let is = c.loop-variable.invariant in
    uncount-end low p c.args.tallies.now c.exchange.new.self (v + 1 - low) (λ some. c.bound-name.ensures.order p there)
    (λ w bound.
    let within = subst (λ (s : Option Span). HasVariable s w) c.in-Some.is (c.requires.spans p there w bound) in
    (within.0, omega (arith, within.0, within.1, is.above, c.if-variable-span.true)))
    (uncount-step low p c.args.tallies.now c.loop-variable.tallies c.exchange.new.self v c.bound-name.result is.above
    (c.bound-name.ensures.name p there) (is.moves p there) c.exchange.ensures)
