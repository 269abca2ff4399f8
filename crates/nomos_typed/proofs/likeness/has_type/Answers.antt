use Rattle.std.proofs.Common.{Bool}
use Rattle.std.proofs.lemmas.Result.{IfOk-weaker}
use Rattle.nomos_typed.specs.Telling.{Tells}
use Rattle.nomos_typed.specs.mirror.ComparedWith.{AreAlikeIn, NameFits, amounts_in}
use Rattle.nomos_typed.proofs.AlikeLemmas.{name-exact, name-none}
use Rattle.nomos_typed.proofs.TellLemmas.{tells-same}
use Rattle.nomos_typed.proofs.likeness.has_type.Goals as goal

pub returns-in-Some-clause-tells : goal.returns-in-Some-clause-tells
returns-in-Some-clause-tells c =
    let told = c.args.told.now in
    let old = c.args.equalities.now in
    let new = c.are_alike.new.equalities in
    let exact = name-exact told c.know.ensures.accepted.is_program c.args.name c.in-Some.own c.args.t
    c.in-Some.ensures.0 in
    IfOk-weaker c.are_alike.result (Tells (amounts_in told) old.amounts new.amounts (AreAlikeIn told c.in-Some.own
    c.args.t))
    (Tells (amounts_in told) old.amounts new.amounts (NameFits told c.args.name c.args.t)) (λ (yes : Bool) tells.
    tells-same (amounts_in told) old.amounts new.amounts yes exact
    tells) c.are_alike.ensures.tells

pub returns-in-None-clause-tells : goal.returns-in-None-clause-tells
returns-in-None-clause-tells c =
    name-none c.args.told.now c.know.ensures.accepted.is_program c.args.name c.args.t c.in-None.ensures
