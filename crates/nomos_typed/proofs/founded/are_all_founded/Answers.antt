use Rattle.std.proofs.Common.{List, All, refl, subst, arith}
use Rattle.std.proofs.lemmas.List.{take_all}
use Rattle.nomos_machine.specs.declared.object.Object.{Object}
use Rattle.nomos_typed.specs.Founded.{ObjectFounded}
use Rattle.nomos_typed.specs.mirror.ComparedWith.{program_of}
use Rattle.nomos_typed.proofs.TellLemmas.{all-more}
use Rattle.nomos_typed.proofs.founded.are_all_founded.Goals as goal

pub loop-object-preserved : goal.loop-object-preserved
loop-object-preserved c =
    let told = c.args.told.now in
    let P : Object → Type 0 = ObjectFounded (program_of told) told.types.now c.args.accounts in
    (all-more P c.args.objects.now c.loop-object.object-index c.object-item.result (omega arith) c.object-item.is).0
    (c.loop-object.invariant, c.is_object_founded.ensures.0 c.if-not-is_object_founded.false)

pub returns : goal.returns
returns c =
    let told = c.args.told.now in
    let P : Object → Type 0 = ObjectFounded (program_of told) told.types.now c.args.accounts in
    let objects = c.args.objects.now in (
      λ is.
          subst (λ (l : List Object). All P l) (take_all c.loop-object.object-index objects (omega arith))
          c.loop-object.invariant,
      λ all. refl,
    )
