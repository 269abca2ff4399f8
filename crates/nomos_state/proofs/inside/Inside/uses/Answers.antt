use Rattle.std.proofs.Common.{sym, ap, ◌∙◌, option_and_then, subst}
use Rattle.std.proofs.lemmas.Option.{MatchOption-at_some}
use Rattle.nomos_machine.specs.Objects.{process_of, used}
use Rattle.nomos_machine.specs.State.{process_at}
use Rattle.nomos_machine.specs.declared.object.Object.TheVariants as object
use Rattle.nomos_state.specs.Indexed.{Indexed, held_now, state_of}
use Rattle.nomos_state.specs.Looked.{ObjectIsAt, lists_at, values_at}
use Rattle.nomos_state.specs.Objects.{message_held, process_held}
use Rattle.nomos_state.specs.NameUses.{DoesAt}
use Rattle.nomos_state.specs.declared.kept.Kept.{Kept}
use Rattle.nomos_state.proofs.TellLemmas.{bound-does, told-does}
use Rattle.nomos_state.proofs.inside.Inside.uses.Goals as goal

pub returns-in-Some-default-Process : goal.returns-in-Some-default-Process
returns-in-Some-default-Process c did =
    let h = held_now c.self.inside.contents in
    let step = c.in-Some-default-Process in
    let there : ObjectIsAt h c.args.number step.field-0-0 step.field-0-1 =
    MatchOption-at_some _ _ (step.field-0-0, step.field-0-1) step.is c.object_at.ensures in
    let at = subst (λ (k : Kept). ObjectIsAt h c.args.number step.field-0-0 k) step.field-0-1-is there in
    subst (λ (i : Indexed). DoesAt used i.state.objects c.args.number c.args.name) c.self.view_is
    (bound-does (state_of h).objects c.args.number c.args.name c.args.variable
    (process_held h.cells c.args.number (values_at h step.field-0-0) (lists_at h step.field-0-0) step.field-0-1-0)
    at.found
    (c.has_name.ensures did
    (process_held h.cells c.args.number (values_at h step.field-0-0) (lists_at h step.field-0-0) step.field-0-1-0)
    (sym (ap (λ (i : Indexed). process_at i.state c.args.number) c.self.view_is)
    ∙ ap (option_and_then process_of) at.found)))

pub returns-in-Some-default-Message : goal.returns-in-Some-default-Message
returns-in-Some-default-Message c did =
    let h = held_now c.self.inside.contents in
    let step = c.in-Some-default-Message in
    let there : ObjectIsAt h c.args.number step.field-0-0 step.field-0-1 =
    MatchOption-at_some _ _ (step.field-0-0, step.field-0-1) step.is c.object_at.ensures in
    let at = subst (λ (k : Kept). ObjectIsAt h c.args.number step.field-0-0 k) step.field-0-1-is there in
    let row = values_at h step.field-0-0 in
    subst (λ (i : Indexed). DoesAt used i.state.objects c.args.number c.args.name) c.self.view_is
    (told-does used (state_of h).objects c.args.number c.args.name
    (object.Message (message_held c.args.number row step.m)) at.found
    (sym (c.message_uses.ensures c.args.number row) ∙ did))
