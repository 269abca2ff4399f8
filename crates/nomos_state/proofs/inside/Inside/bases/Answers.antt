use Rattle.std.proofs.Common.{sym, ◌∙◌, subst}
use Rattle.std.proofs.lemmas.Option.{MatchOption-at_some}
use Rattle.nomos_machine.specs.Objects.{based}
use Rattle.nomos_machine.specs.declared.object.Object.TheVariants as object
use Rattle.nomos_state.specs.Indexed.{Indexed, held_now, state_of}
use Rattle.nomos_state.specs.Looked.{ObjectIsAt, lists_at, values_at}
use Rattle.nomos_state.specs.Objects.{process_held}
use Rattle.nomos_state.specs.NameUses.{DoesAt}
use Rattle.nomos_state.specs.declared.kept.Kept.{Kept}
use Rattle.nomos_state.proofs.TellLemmas.{told-does}
use Rattle.nomos_state.proofs.inside.Inside.bases.Goals as goal

pub returns-in-Some-default-Process : goal.returns-in-Some-default-Process
returns-in-Some-default-Process c did =
    let h = held_now c.self.inside.contents in
    let step = c.in-Some-default-Process in
    let there : ObjectIsAt h c.args.number step.field-0-0 step.field-0-1 =
    MatchOption-at_some _ _ (step.field-0-0, step.field-0-1) step.is c.object_at.ensures in
    let at = subst (λ (k : Kept). ObjectIsAt h c.args.number step.field-0-0 k) step.field-0-1-is there in
    let values = values_at h step.field-0-0 in
    let its_lists = lists_at h step.field-0-0 in
    subst (λ (i : Indexed). DoesAt based i.state.objects c.args.number c.args.name) c.self.view_is
    (told-does based (state_of h).objects c.args.number c.args.name
    (object.Process (process_held h.cells c.args.number values its_lists step.p)) at.found
    (sym (c.has_base.ensures h.cells c.args.number values its_lists) ∙ did))
