use Rattle.std.proofs.Common.{◌∙◌, ap, subst, sym}
use Rattle.std.proofs.lemmas.Option.{MatchOption-at_some}
use Rattle.nomos_machine.specs.Objects.{object_at}
use Rattle.nomos_machine.specs.declared.object.Object.TheVariants as object
use Rattle.nomos_state.specs.Indexed.{Indexed, held_now}
use Rattle.nomos_state.specs.Looked.{ObjectIsAt, lists_at, values_at}
use Rattle.nomos_state.specs.Objects.{process_held}
use Rattle.nomos_state.specs.Redirected.{redirected_at}
use Rattle.nomos_state.specs.declared.kept.Kept.{Kept}
use Rattle.nomos_state.proofs.OnceLemmas.{name-found, renamed-all}
use Rattle.nomos_state.proofs.RedirectLemmas.{process-redirected}
use Rattle.nomos_state.proofs.inside.Inside.redirect_once.Goals as goal

pub returns-in-Some-default-Process-clause-state :
    goal.returns-in-Some-default-Process-clause-state
returns-in-Some-default-Process-clause-state c =
    let h = held_now c.self.inside.contents in
    let number = c.args.number in
    let step = c.in-Some-default-Process in
    let there : ObjectIsAt h number step.field-0-0 step.field-0-1 =
    MatchOption-at_some _ _ (step.field-0-0, step.field-0-1) step.is c.object_at.ensures in
    let at = subst (λ (k : Kept). ObjectIsAt h number step.field-0-0 k) step.field-0-1-is there in
    let held = process_held h.cells number (values_at h step.field-0-0) (lists_at h step.field-0-0) step.field-0-1-0 in
    let once = c.requires (object.Process held)
    (sym (ap (λ (i : Indexed). object_at i.state.objects number) c.self.view_is) ∙ at.found) in
    let has = name-found c.get.result c.args.old (sym c.eq.ensures ∙ c.if-eq.true) in
    let names = renamed-all h.cells c.rename_one.new.self.now number c.args.variable c.args.old c.args.new
    c.rename_one.ensures.names (sym c.get.ensures ∙ has) once in
    process-redirected c.self.inside c.self.invariant c.args.old c.args.new number step.field-0-0 step.field-0-1-0
    c.rename_one.new.self at names c.rename_one.ensures.marked c.rename_one.ensures.room
    ∙ ap (λ (i : Indexed). record i.state { objects = redirected_at number c.args.old c.args.new i.state.objects })
    c.self.view_is
