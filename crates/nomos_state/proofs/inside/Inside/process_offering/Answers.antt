use Rattle.std.proofs.Common.{Bool, None, Some, cond, sym, ap, ◌∙◌, subst, eq-eqb}
use Rattle.std.proofs.lemmas.Option.{MatchOption-at_some}
use Rattle.std.specs.Option.{option_map}
use Rattle.nomos_deeds.specs.SeenObjects.{seen_process}
use Rattle.nomos_machine.specs.Objects.{object_at}
use Rattle.nomos_state.specs.Indexed.{Indexed, held_now, state_of}
use Rattle.nomos_state.specs.Looked.{ObjectIsAt, lists_at, values_at}
use Rattle.nomos_state.specs.Objects.{process_held}
use Rattle.nomos_state.specs.declared.kept.Kept.{Kept}
use Rattle.nomos_state.proofs.TellLemmas.{offer-seen}
use Rattle.nomos_state.proofs.inside.Inside.process_offering.Goals as goal

pub returns-then-p-name : goal.returns-then-p-name
returns-then-p-name c o here =
    let h = held_now c.self.inside.contents in
    let step = c.in-Some-default-Process in
    let there : ObjectIsAt h c.args.number step.field-0-0 step.field-0-1 =
    MatchOption-at_some _ _ (step.field-0-0, step.field-0-1) step.is c.object_at.ensures in
    let at = subst (λ (k : Kept). ObjectIsAt h c.args.number step.field-0-0 k) step.field-0-1-is there in
    let p = process_held h.cells c.args.number (values_at h step.field-0-0) (lists_at h step.field-0-0) step.p in
    ap Some (c.seen_process.ensures h.cells (values_at h step.field-0-0) (lists_at h step.field-0-0))
    ∙ sym (ap (λ (b : Bool). option_map seen_process (cond b (Some p) None))
    (eq-eqb step.p.offers c.args.name c.if-p-name.true))
    ∙ offer-seen (state_of h).objects c.args.number c.args.name p o at.found
    (ap (λ (i : Indexed). object_at i.state.objects c.args.number) c.self.view_is ∙ here)
