use Rattle.std.proofs.Common.{◌∙◌, Some, sym, ap}
use Rattle.nomos_state.specs.Indexed.{held_now}
use Rattle.nomos_state.specs.declared.kept.Kept.{Kept}
use Rattle.nomos_state.specs.declared.kept.Kept.TheVariants as kept
use Rattle.nomos_state.proofs.ProcessLemmas.{spans-kept}
use Rattle.nomos_state.proofs.plain_data.copy_object.Goals as goal

pub copy_process-requires : goal.copy_process-requires
copy_process-requires c v some =
    let here = c.in-Some-default-Process in
    spans-kept (held_now c.args.contents.now) c.requires c.args.place here.pid (kept.Process here.p)
    (sym c.kept_at.ensures ∙ here.is ∙ ap (λ (k : Kept). Some (here.pid, k)) here.field-0-1-is) v some
