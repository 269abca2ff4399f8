-- Object by object.
use Rattle.std.proofs.Common.{◌+◌, drop, refl, ap, subst, sym, arith}
use Rattle.std.specs.List.{flat_map}
use Rattle.nomos_machine.specs.TypedState.{HasVariables}
use Rattle.nomos_snapshot.specs.Text.{object_lines}
use Rattle.nomos_snapshot.proofs.SavingLemmas.{ahead-end, ahead-more, ahead-start, left-more, left-none}
use Rattle.nomos_snapshot.proofs.saving.push_objects.Goals as goal

pub loop-object-init : goal.loop-object-init
loop-object-init c =
    ahead-start c.args.text.now.items (flat_map object_lines c.args.objects.now)
    (flat_map object_lines c.args.objects.now) refl

pub push_object-requires : goal.push_object-requires
push_object-requires c =
    subst HasVariables (sym c.object-item.is)
    (c.requires c.loop-object.object-index c.object-item.result c.loop-object-test.true)

pub loop-object-preserved : goal.loop-object-preserved
loop-object-preserved c =
    let xs = c.args.objects.now in
    let i = c.loop-object.object-index in
    ahead-more (object_lines c.object-item.result) (flat_map object_lines (drop (i + 1) xs))
    (flat_map object_lines (drop i xs))
    (ap (flat_map object_lines) (left-more xs i c.object-item.result c.loop-object-test.true c.object-item.is))
    c.loop-object.invariant c.in_ok-push_object.ensures

pub returns : goal.returns
returns c =
    let xs = c.args.objects.now in
    let i = c.loop-object.object-index in
    ahead-end (flat_map object_lines (drop i xs))
    (ap (flat_map object_lines) (left-none xs i (omega (arith, c.loop-object-test.false)))) c.loop-object.invariant
