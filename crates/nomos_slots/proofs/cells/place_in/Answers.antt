use Rattle.std.proofs.Common.{◌≡◌, ◌≤◌, ◌<◌, ◌∙◌, ℕ, Some, false, length, sym, arith}
use Rattle.nomos_slots.specs.Cells.{cell_at, home, is_of}
use Rattle.nomos_slots.specs.declared.cells.NamedVariable.{NamedVariable}
use Rattle.nomos_slots.proofs.ProbeLemmas.{none-past, none-there}
use Rattle.nomos_slots.proofs.cells.place_in.Goals as goal

pub returns-in_default : goal.returns-in_default
returns-in_default c =
    let from : home c.args.homes c.args.process c.args.variable ≤ c.loop-at.at =
    omega (arith, c.home-at.ensures.home, c.loop-at.auto.at) in
    none-there c.args.homes c.args.process c.args.variable c.loop-at.at c.args.cells.now.now c.requires.probed
    c.loop-at.invariant from (sym c.cell.ensures ∙ c.in_default.is)

pub returns : goal.returns
returns c =
    let cells = c.args.cells.now.now in
    let others : (i : ℕ) (e : NamedVariable) → home c.args.homes c.args.process c.args.variable ≤ i → i < length cells
    → cell_at cells i ≡ Some e → is_of c.args.process c.args.variable e ≡ false =
    λ i e from within. c.loop-at.invariant i e from (omega (arith, c.len-at-end.ensures))
    in
    none-past c.args.homes c.args.process c.args.variable cells c.requires.probed others
