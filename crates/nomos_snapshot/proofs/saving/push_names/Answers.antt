-- Name by name.
use Rattle.std.proofs.Common.{ℕ, List, [], ◌∷◌, map, refl, ap, arith}
use Rattle.nomos_ir.specs.declared.ids.TypeId.{TypeId}
use Rattle.nomos_snapshot.specs.declared.line.SnapshotLine.{SnapshotLine}
use Rattle.nomos_snapshot.specs.declared.line.SnapshotLine.TheVariants as line
use Rattle.nomos_snapshot.proofs.RemainingLemmas.{none-long}
use Rattle.nomos_snapshot.proofs.SavingLemmas.{ahead-end, ahead-more, ahead-start}
use Rattle.nomos_snapshot.proofs.saving.push_names.Goals as goal

abbrev lines : List (ℕ × TypeId) → List SnapshotLine
lines types = map (λ t. line.Name t.0 t.1) types

pub loop-named-init : goal.loop-named-init
loop-named-init c = ahead-start c.args.text.now.items (lines c.args.types.now) (lines c.args.types.now) refl

pub loop-named-preserved : goal.loop-named-preserved
loop-named-preserved c =
    let t = c.in-Some.named.now in
    ahead-more (line.Name t.0 t.1 ∷ []) (lines c.in-Some.others.now) (lines c.loop-named.left.now)
    (ap lines c.in-Some.ensures.cases.0) c.loop-named.invariant c.in_ok-push_name_line.ensures

pub loop-named-smaller : goal.loop-named-smaller
loop-named-smaller c = omega (arith, c.in-Some.ensures.cases.1)

pub returns : goal.returns
returns c =
    ahead-end (lines c.loop-named.left.now) (ap lines (none-long c.loop-named.left.now c.in_default.ensures.cases))
    c.loop-named.invariant
