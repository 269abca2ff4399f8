-- The places are those of the definitions and types.
use Rattle.std.proofs.Common.{◌≡◌, ◌∙◌, length}
use Rattle.nomos_contract_tests.proofs.TypeProgramLemmas.{bodies_fit}
use Rattle.nomos_contract_tests.proofs.type_program.bodies_fit.Goals as goal

pub returns : goal.returns
returns c =
    λ yes.
    let all : c.in-Ok.limit ≡ length c.args.types.now = let is = c.in-Ok.ensures in cc in
    bodies_fit c.args.defs.now c.args.types.now c.deref.result.now c.in-Ok.limit
    (c.deref.ensures.value ∙ c.in_ok-places.ensures) all (c.stand_once.ensures c.if-not-stand_once.false)
    (c.has_bodies.ensures yes)
