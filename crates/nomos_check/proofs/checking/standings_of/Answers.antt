use Rattle.std.proofs.Common.{◌∙◌, List, length, sym, subst}
use Rattle.nomos_ir.specs.Amounts.{star_count}
use Rattle.nomos_ir.specs.declared.ids.CodeId.{CodeId}
use Rattle.nomos_forms.specs.declared.form.Form.{Form}
use Rattle.nomos_check.proofs.KeptLemmas.{kept-wanted, kept-potentials}
use Rattle.nomos_check.specs.InHand.{AreWanted, ArePotentials}
use Rattle.nomos_check.specs.Reaching.{outset_of}
use Rattle.nomos_check.specs.declared.standing.Standing.{Standing}
use Rattle.nomos_check.proofs.checking.standings_of.Goals as goal

pub returns-clause-standings : goal.returns-clause-standings
returns-clause-standings c = λ d found.
    let lists = c.args.program.now in
    let wanted = c.args.wanted.now in
    let same = c.in_ok-gather.ensures.wanted ∙ c.new-walk.ensures.wanted in
    subst (λ (l : List Standing). AreWanted lists (star_count lists) (outset_of lists d) wanted l)
    (sym c.of_vec.ensures)
    (kept-wanted c.gather.new.walk wanted same (c.in_ok-gather.ensures.gathers d found))

pub returns-clause-potentials : goal.returns-clause-potentials
returns-clause-potentials c = λ d found.
    let lists = c.args.program.now in
    let wanted = c.args.wanted.now in
    let same = c.in_ok-gather.ensures.wanted ∙ c.new-walk.ensures.wanted in
    subst (λ (l : List (CodeId × Form)). ArePotentials lists (star_count lists) (outset_of lists d) (length wanted) l)
    (sym c.of_vec-2.ensures)
    (kept-potentials c.gather.new.walk wanted same (c.in_ok-gather.ensures.gathers d found))
