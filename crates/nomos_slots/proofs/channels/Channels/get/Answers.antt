use Rattle.std.proofs.Common.{◌≡◌, Some, sym, ap, ◌∙◌}
use Rattle.std.specs.Option.{is_some}
use Rattle.std.proofs.lemmas.Bool.{both_ways}
use Rattle.nomos_slots.specs.Cells.{Cell, name_in}
use Rattle.nomos_slots.specs.Marking.{Marking}
use Rattle.nomos_slots.specs.declared.cells.NamedVariable.{NamedVariable}
use Rattle.nomos_slots.proofs.CellLemmas.{has-name}
use Rattle.nomos_slots.proofs.EntryLemmas.{nothing-named}
use Rattle.nomos_slots.proofs.ProbeLemmas.{filled-some}
use Rattle.nomos_slots.proofs.channels.Channels.get.Goals as goal

pub returns-in_default : goal.returns-in_default
returns-in_default c =
    sym (nothing-named c.self.inside.cells.now c.args.process c.args.variable c.in_default.ensures)
    ∙ ap (λ (m : Marking Cell). name_in m.now c.args.process c.args.variable) c.self.view_is

pub returns-in_default-cell : goal.returns-in_default-cell
returns-in_default-cell c =
    let cells = c.self.inside.cells.now in
    let (e, is, of) = c.in-Some.ensures in
    absurd (both_ways _ (ap is_some (sym c.cell.ensures ∙ c.in_default-cell.is)) (filled-some cells c.in-Some.at e is))

pub returns : goal.returns
returns c =
    let cells = c.self.inside.cells.now in
    let (e, is, of) = c.in-Some.ensures in
    let found = c.in-Some-cell.entry in
    let same : Some e ≡ Some found = sym is ∙ sym c.cell.ensures ∙ c.in-Some-cell.is in
    let k : e ≡ found = cc in
    sym (has-name cells c.args.process c.args.variable found.name c.self.invariant.probed.once
    (c.in-Some.at, e, is, of, ap (λ (x : NamedVariable). x.name) k))
    ∙ ap (λ (m : Marking Cell). name_in m.now c.args.process c.args.variable) c.self.view_is
