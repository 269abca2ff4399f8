use Rattle.std.proofs.Common.{Bool, List, true, take, All, refl, subst, arith}
use Rattle.std.proofs.lemmas.List.{take_all}
use Rattle.std.proofs.lemmas.List.Elements.{All-nil}
use Rattle.nomos_machine.specs.declared.object.Object.{Object}
use Rattle.nomos_typed.specs.StateTyped.{ObjectPlaced}
use Rattle.nomos_typed.specs.Telling.{Tells}
use Rattle.nomos_typed.specs.mirror.ComparedWith.{acceptance_of, amounts_in}
use Rattle.nomos_typed.proofs.TellLemmas.{all-more, not-all, tells-plain, tells-same, tells-through}
use Rattle.nomos_typed.proofs.placing.all_placed.Goals as goal

pub loop-object-init : goal.loop-object-init
loop-object-init c =
    let told = c.args.told.now in
    let P : Object → Type 0 = ObjectPlaced (acceptance_of told) told.types.now in
    record {
      compared = c.requires.compared;
      tells = tells-plain (amounts_in told) c.args.equalities.now.amounts true (λ yes. All-nil P, λ holds. refl);
    }

pub loop-object-preserved : goal.loop-object-preserved
loop-object-preserved c =
    let told = c.args.told.now in
    let P : Object → Type 0 = ObjectPlaced (acceptance_of told) told.types.now in
    let i = c.loop-object.object-index in
    let objects = c.args.objects.now in
    let o = c.object-item.result in
    let here = subst (λ (b : Bool). Tells (amounts_in told) c.loop-object.equalities.amounts
    c.is_object_placed.new.equalities.amounts
    (P o) b) c.if-not-branch.false c.in_ok-is_object_placed.ensures.tells in
    record {
      compared = c.is_object_placed.ensures.compared;
      tells = tells-same (amounts_in told) c.args.equalities.now.amounts c.is_object_placed.new.equalities.amounts true
          (all-more P objects i o (omega arith) c.object-item.is)
          (tells-through (amounts_in told) c.args.equalities.now.amounts c.loop-object.equalities.amounts
          c.is_object_placed.new.equalities.amounts (All P (take i objects)) (P o) true c.loop-object.invariant.tells
          here);
    }

pub returns-then-not-branch-clause-tells : goal.returns-then-not-branch-clause-tells
returns-then-not-branch-clause-tells c =
    let told = c.args.told.now in
    let P : Object → Type 0 = ObjectPlaced (acceptance_of told) told.types.now in
    let o = c.object-item.result in
    let none = subst (λ (b : Bool). Tells (amounts_in told) c.loop-object.equalities.amounts
    c.is_object_placed.new.equalities.amounts
    (P o) b) c.if-not-branch.true c.in_ok-is_object_placed.ensures.tells in
    not-all P c.args.objects.now c.loop-object.object-index o (omega arith) c.object-item.is none

pub returns-clause-tells : goal.returns-clause-tells
returns-clause-tells c =
    let told = c.args.told.now in
    let P : Object → Type 0 = ObjectPlaced (acceptance_of told) told.types.now in
    let objects = c.args.objects.now in
    let all = take_all c.loop-object.object-index objects (omega arith) in
    subst (λ (l : List Object). Tells (amounts_in told) c.args.equalities.now.amounts
    c.loop-object.equalities.amounts (All P l) true)
    all c.loop-object.invariant.tells
