-- The slices are those of the lists.
use Rattle.nomos_contract_tests.proofs.TypeProgramLemmas.{types_fit}
use Rattle.nomos_contract_tests.proofs.type_program.fits.Goals as goal

pub returns : goal.returns
returns c =
    λ yes.
    types_fit c.args.lists.now c.as_slice-defs.result.now c.as_slice.result.now c.as_slice-2.result.now
    c.as_slice-defs.ensures c.as_slice.ensures c.as_slice-2.ensures
    (c.in_ok-bodies_fit.ensures c.if-not-branch.false) (c.in_ok-nodes_fit.ensures c.if-not-branch-2.false)
    (c.names_fit.ensures yes)
