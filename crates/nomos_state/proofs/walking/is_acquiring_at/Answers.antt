use Rattle.std.proofs.Common.{◌≡◌, ◌∙◌, ◌&&◌, Some, sym, ap}
use Rattle.std.proofs.lemmas.Bool.{lt-ltb}
use Rattle.std.specs.Option.{is_some}
use Rattle.nomos_deeds.specs.Readers.{acquires}
use Rattle.nomos_state.specs.Indexed.{held_now}
use Rattle.nomos_state.specs.Looked.{lists_at, values_at}
use Rattle.nomos_state.specs.Objects.{kept_at, process_held}
use Rattle.nomos_state.specs.Sought.{some_passes}
use Rattle.nomos_deeds.specs.ProcessWalks.{is_acquiring, is_over}
use Rattle.nomos_state.specs.declared.kept.Kept.TheVariants as kept
use Rattle.nomos_state.proofs.SeekLemmas.{process-standing}
use Rattle.nomos_state.proofs.walking.is_acquiring_at.Goals as goal

pub returns-then-after-pid : goal.returns-then-after-pid
returns-then-after-pid c =
    let h = held_now c.args.contents.now in
    let a = c.args.accepted.now in
    let place = c.args.place in
    let w = c.in-Some-default-Process in
    let call = c.kept_at.ensures in
    let pair = w.is in
    let inner = w.field-0-1-is in
    let holds : kept_at h.slots place ≡ Some (w.pid, kept.Process w.p) = cc in
    let p = process_held h.cells w.pid (values_at h place) (lists_at h place) w.p in
    c.is_some.ensures
    ∙ ap is_some (c.acquires.ensures (values_at h place) (lists_at h place))
    ∙ sym (ap (λ b. b && is_some (acquires a p)) (lt-ltb c.args.after w.pid c.if-after-pid.true))
    ∙ sym (ap (some_passes (is_over c.args.after (is_acquiring a))) (process-standing h place w.pid w.p holds))
