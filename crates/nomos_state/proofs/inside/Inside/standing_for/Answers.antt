use Rattle.std.proofs.Common.{true, false, sym, ap, ◌∙◌, subst}
use Rattle.std.proofs.lemmas.Option.{MatchOption-at_some}
use Rattle.nomos_machine.specs.Objects.{object_at}
use Rattle.nomos_machine.specs.declared.object.Object.TheVariants as object
use Rattle.nomos_state.specs.Indexed.{Indexed, held_now, state_of}
use Rattle.nomos_state.specs.Looked.{ObjectIsAt, lists_at, values_at}
use Rattle.nomos_state.specs.Objects.{process_held}
use Rattle.nomos_state.specs.declared.kept.Kept.{Kept}
use Rattle.nomos_state.proofs.TellLemmas.{stands-told}
use Rattle.nomos_state.proofs.inside.Inside.standing_for.Goals as goal

pub returns-then-stands_for : goal.returns-then-stands_for
returns-then-stands_for c o here =
    let h = held_now c.self.inside.contents in
    let step = c.in-Some-default-Process in
    let there : ObjectIsAt h c.args.number step.field-0-0 step.field-0-1 =
    MatchOption-at_some _ _ (step.field-0-0, step.field-0-1) step.is c.object_at.ensures in
    let at = subst (λ (k : Kept). ObjectIsAt h c.args.number step.field-0-0 k) step.field-0-1-is there in
    let values = values_at h step.field-0-0 in
    let its_lists = lists_at h step.field-0-0 in
    stands-told (state_of h).objects c.args.number c.args.shared
    (object.Process (process_held h.cells c.args.number values its_lists step.p)) o at.found
    (ap (λ (i : Indexed). object_at i.state.objects c.args.number) c.self.view_is ∙ here) true
    (sym c.if-stands_for.true ∙ c.stands_for.ensures h.cells c.args.number values its_lists)

pub returns-else-stands_for : goal.returns-else-stands_for
returns-else-stands_for c o here =
    let h = held_now c.self.inside.contents in
    let step = c.in-Some-default-Process in
    let there : ObjectIsAt h c.args.number step.field-0-0 step.field-0-1 =
    MatchOption-at_some _ _ (step.field-0-0, step.field-0-1) step.is c.object_at.ensures in
    let at = subst (λ (k : Kept). ObjectIsAt h c.args.number step.field-0-0 k) step.field-0-1-is there in
    let values = values_at h step.field-0-0 in
    let its_lists = lists_at h step.field-0-0 in
    stands-told (state_of h).objects c.args.number c.args.shared
    (object.Process (process_held h.cells c.args.number values its_lists step.p)) o at.found
    (ap (λ (i : Indexed). object_at i.state.objects c.args.number) c.self.view_is ∙ here) false
    (sym c.if-stands_for.false ∙ c.stands_for.ensures h.cells c.args.number values its_lists)
