use Rattle.std.proofs.Common.{◌∙◌, ℕ, List, Option, Some, sym, ap}
use Rattle.std.proofs.lemmas.Option.{slice_get_within}
use Rattle.nomos_slots.specs.Numbers.{put_at}
use Rattle.nomos_slots.specs.declared.numbered.Slot.{Slot}
use Rattle.nomos_slots.proofs.NumberLaws.{put_at-own}
use Rattle.nomos_state.specs.declared.kept.Kept.{Kept}
use Rattle.nomos_state.specs.declared.kept.Kept.TheVariants as kept
use Rattle.nomos_state.proofs.ProcessLemmas.{slot-kept}
use Rattle.nomos_state.proofs.changing.keep_lists.Goals as goal

pub put-requires : goal.put-requires
put-requires c =
    let slots = c.args.objects.now.now in
    slice_get_within slots c.args.place _
    (slot-kept slots c.args.place c.args.pid (kept.Process c.args.before) c.requires)

pub returns-then-is_kept-clause-now : goal.returns-then-is_kept-clause-now
returns-then-is_kept-clause-now c =
    let slots = c.args.objects.now.now in
    let place = c.args.place in
    let k = c.args.before in
    let same = c.is_kept.ensures c.if-is_kept.true in
    let put : ℕ → Option ℕ → List (Slot Kept) = λ n o.
    put_at slots place (Some (kept.Process (record k { gone = n; potential = o }))) in
    sym (put_at-own slots place _ (slot-kept slots place c.args.pid (kept.Process k) c.requires))
    ∙ ap (λ (n : ℕ). put n k.potential) (sym same.0)
    ∙ ap (put c.args.lists.gone) (sym same.1)
