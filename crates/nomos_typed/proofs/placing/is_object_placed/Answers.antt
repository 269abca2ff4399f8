use Rattle.std.proofs.Common.{true, refl, IfOk, subst, sym}
use Rattle.nomos_machine.specs.TypedState.{HasVariables}
use Rattle.nomos_machine.specs.declared.object.Object.{Object}
use Rattle.nomos_typed.specs.Telling.{Tells}
use Rattle.nomos_typed.specs.StateTyped.{ObjectPlaced}
use Rattle.nomos_typed.specs.mirror.AtPlaces.{ObjectIsKnown}
use Rattle.nomos_typed.specs.mirror.ComparedWith.{acceptance_of, amounts_in}
use Rattle.nomos_typed.proofs.TellLemmas.{tells-plain}
use Rattle.nomos_typed.proofs.placing.is_object_placed.Goals as goal

pub is_placed-requires-clause-variables : goal.is_placed-requires-clause-variables
is_placed-requires-clause-variables c = subst HasVariables c.in-Process.is c.requires.variables

pub is_placed-requires-clause-known : goal.is_placed-requires-clause-known
is_placed-requires-clause-known c =
    subst (ObjectIsKnown (acceptance_of c.args.told.now) c.args.places.now) c.in-Process.is c.requires.known

pub returns-in-Process-clause-tells : goal.returns-in-Process-clause-tells
returns-in-Process-clause-tells c =
    let told = c.args.told.now in
    let old = c.args.equalities.now in
    let new = c.is_placed.new.equalities in
    subst (λ (o : Object). IfOk c.is_placed.result
    (Tells (amounts_in told) old.amounts new.amounts (ObjectPlaced (acceptance_of told) told.types.now o)))
    (sym c.in-Process.is) c.is_placed.ensures.tells

pub returns-in-Message-clause-tells : goal.returns-in-Message-clause-tells
returns-in-Message-clause-tells c =
    let told = c.args.told.now in
    let e = c.args.equalities.now in
    subst (λ (o : Object). Tells (amounts_in told) e.amounts e.amounts (ObjectPlaced (acceptance_of told)
    told.types.now o) true)
    (sym c.in-Message.is) (tells-plain (amounts_in told) e.amounts true (λ yes. tt, λ holds. refl))
