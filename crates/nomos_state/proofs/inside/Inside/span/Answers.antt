use Rattle.std.proofs.Common.{◌≡◌, ◌∙◌, ℕ, IsSome, Option, ap, sym, subst}
use Rattle.std.proofs.lemmas.Option.{same_Some}
use Rattle.nomos_ir.specs.Bindings.{bound_to}
use Rattle.nomos_machine.specs.State.{process_at}
use Rattle.nomos_machine.specs.declared.object.Process.{Process}
use Rattle.nomos_state.specs.Indexed.{Indexed, held_now}
use Rattle.nomos_state.specs.Looked.{ProcessIsAt, lists_at, values_at}
use Rattle.nomos_state.specs.Objects.{process_held}
use Rattle.nomos_state.specs.declared.kept.Kept.TheVariants as kept
use Rattle.nomos_state.proofs.ChannelLemmas.{bound-in_channels}
use Rattle.nomos_state.proofs.ProcessLemmas.{not-none, spans-kept}
use Rattle.nomos_state.proofs.inside.Inside.span.Goals as goal

pub returns-clause-spans : goal.returns-clause-spans
returns-clause-spans c p there v some =
    let h = held_now c.self.inside.contents in
    let place = c.in_ok-p.field-0-0 in
    let k = c.in_ok-p.p in
    let at : ProcessIsAt h c.args.pid place k = c.in_ok-p.ensures in
    let held = process_held h.cells c.args.pid (values_at h place) (lists_at h place) k in
    let same : p ≡ held =
    same_Some p held (sym (ap (λ (s : Indexed). process_at s.state c.args.pid) c.self.view_is ∙ there) ∙ at.found) in
    let bound = ap (λ (q : Process). bound_to v q.channels) same ∙ bound-in_channels h.cells c.args.pid v in
    spans-kept h c.self.invariant.now place c.args.pid (kept.Process k) at.at v
    (subst (λ (o : Option ℕ). IsSome o) bound some)

pub returns-clause-none : goal.returns-clause-none
returns-clause-none c none =
    absurd (not-none _ (held_now c.self.inside.contents) c.args.pid c.in_ok-p.field-0-0 c.in_ok-p.p
    (ap (λ (i : Indexed). i.state) c.self.view_is) c.in_ok-p.ensures none)
