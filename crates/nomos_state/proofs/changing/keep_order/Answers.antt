use Rattle.std.proofs.Common.{◌≡◌, ◌∙◌, Bool, List, Some, sym, ap}
use Rattle.std.proofs.lemmas.Option.{slice_get_within}
use Rattle.std.specs.Cmp.{booleans_Decides}
use Rattle.nomos_slots.specs.Numbers.{put_at}
use Rattle.nomos_slots.specs.declared.numbered.Slot.{Slot}
use Rattle.nomos_slots.proofs.NumberLaws.{put_at-own}
use Rattle.nomos_state.specs.declared.kept.Kept.{Kept}
use Rattle.nomos_state.specs.declared.kept.Kept.TheVariants as kept
use Rattle.nomos_state.proofs.ProcessLemmas.{slot-kept}
use Rattle.nomos_state.proofs.changing.keep_order.Goals as goal

pub put-requires : goal.put-requires
put-requires c =
    let slots = c.args.objects.now.now in
    slice_get_within slots c.args.place _
    (slot-kept slots c.args.place c.args.pid (kept.Process c.args.before) c.requires)

pub returns-then-ascends-before-clause-now : goal.returns-then-ascends-before-clause-now
returns-then-ascends-before-clause-now c =
    let slots = c.args.objects.now.now in
    let place = c.args.place in
    let k = c.args.before in
    let same : c.args.ascends ≡ k.ascends = (booleans_Decides c.args.ascends k.ascends).0 c.if-ascends-before.true in
    let put : Bool → List (Slot Kept) = λ b. put_at slots place (Some (kept.Process (record k { ascends = b }))) in
    sym (put_at-own slots place _ (slot-kept slots place c.args.pid (kept.Process k) c.requires))
    ∙ ap put (sym same)
