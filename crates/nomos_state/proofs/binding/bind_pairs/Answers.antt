use Rattle.std.proofs.Common.{◌≡◌, ◌<◌, ◌+◌, ◌-◌, ◌&&◌, ℕ, eqb, cond, Option, Some, length, get_or, drop, refl, ap, ◌∙◌, arith}
use Rattle.nomos_ir.specs.declared.ids.VarId.{VarId}
use Rattle.nomos_slots.specs.Cells.{name_in}
use Rattle.nomos_state.specs.ObjectsCome.{name_with}
use Rattle.nomos_state.proofs.PairLemmas.{name-next, name-start}
use Rattle.nomos_state.proofs.binding.bind_pairs.Goals as goal

pub loop-before-init : goal.loop-before-init
loop-before-init c = record {
  within = omega arith;
  names = λ p v. name-start c.args.process p v c.args.pairs.now (name_in c.args.channels.now.now p v);
  marked = refl;
  room = omega arith;
}

pub loop-before-preserved : goal.loop-before-preserved
loop-before-preserved c =
    let pairs = c.args.pairs.now in
    let at = c.loop-before.before - 1 in
    let inv = c.loop-before.invariant in
    let within : at < length pairs = omega (arith, inv.within, c.loop-before-test.true) in
    let d : VarId × ℕ = (record { 0 = 0 }, 0) in
    let next : c.loop-before.before ≡ at + 1 = omega (arith, c.loop-before-test.true) in
    record {
      within = omega (arith, inv.within);
      names = λ p v.
          let old = name_in c.args.channels.now.now p v in
          let now : ℕ → Option ℕ = λ n. name_with c.args.process (drop n pairs) p v old in
          c.bind.ensures.names p v
          ∙ ap (λ o. cond (eqb c.args.process p && eqb (get_or pairs at d).0.0 v) (Some (get_or pairs at d).1) o)
          (inv.names p v ∙ ap now next)
          ∙ name-next c.args.process p v pairs at d old within;
      marked = c.bind.ensures.marked ∙ inv.marked;
      room = omega (arith, inv.room, inv.within, c.bind.ensures.room, c.loop-before-test.true);
    }

pub returns-clause-names : goal.returns-clause-names
returns-clause-names c p v =
    let pairs = c.args.pairs.now in
    let none : c.loop-before.before ≡ 0 = omega (arith, c.loop-before-test.false) in
    c.loop-before.invariant.names p v
    ∙ ap (λ n. name_with c.args.process (drop n pairs) p v (name_in c.args.channels.now.now p v)) none
