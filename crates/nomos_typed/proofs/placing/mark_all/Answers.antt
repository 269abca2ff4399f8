use Rattle.std.proofs.Common.{◌∙◌, Bool, List, All, take, subst, arith}
use Rattle.std.proofs.lemmas.List.{take_all}
use Rattle.std.proofs.lemmas.List.Elements.{All-weaker}
use Rattle.nomos_machine.specs.declared.object.Object.{Object}
use Rattle.nomos_typed.specs.mirror.AtPlaces.{ObjectMarked}
use Rattle.nomos_typed.proofs.TellLemmas.{all-more}
use Rattle.nomos_typed.proofs.placing.mark_all.Goals as goal

pub loop-object-preserved : goal.loop-object-preserved
loop-object-preserved c =
    let objects = c.args.objects.now in
    let i = c.loop-object.object-index in
    let o = c.object-item.result in
    let old : List Bool = c.loop-object.wanted in
    let new : List Bool = c.mark_object.new.wanted in
    let marks = c.mark_object.ensures in
    record {
      width = marks.width ∙ c.loop-object.invariant.width;
      marked =
          (all-more (ObjectMarked new) objects i o (omega arith) c.object-item.is).0 (
            All-weaker (ObjectMarked old) (ObjectMarked new) (λ other marked. marks.kept other marked)
                (take i objects) c.loop-object.invariant.marked,
            marks.marked,
          );
    }

pub returns-clause-marked : goal.returns-clause-marked
returns-clause-marked c =
    let objects = c.args.objects.now in
    subst (λ (l : List Object). All (ObjectMarked c.loop-object.wanted) l)
    (take_all c.loop-object.object-index objects (omega arith)) c.loop-object.invariant.marked
