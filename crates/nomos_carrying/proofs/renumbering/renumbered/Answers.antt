-- The parts that a text tells, with dense numbers, are admitted or not.
use Rattle.nomos_carrying.proofs.RenumberLemmas.{admitted-err, admitted-ok, told-few, told-named, told-sorted}
use Rattle.nomos_carrying.proofs.renumbering.renumbered.Goals as goal

pub dense_parts-requires-clause-sorted : goal.dense_parts-requires-clause-sorted
dense_parts-requires-clause-sorted g c = told-sorted c.in_ok-told.told c.in_ok-told.ensures.ok.tells

pub dense_parts-requires-clause-few : goal.dense_parts-requires-clause-few
dense_parts-requires-clause-few g c =
    told-few c.in_ok-told.told c.know.ensures.accepted c.in_ok-told.ensures.ok

pub dense_parts-requires-clause-named : goal.dense_parts-requires-clause-named
dense_parts-requires-clause-named g c = told-named c.in_ok-told.told c.in_ok-told.ensures.ok.tells

pub returns-clause-ok : goal.returns-clause-ok
returns-clause-ok g c =
    admitted-ok c.in_ok-told.told c.in_ok-dense.dense c.admitted.result c.know.ensures.accepted
    c.in_ok-told.ensures.ok c.in_ok-dense.ensures.dense c.admitted.ensures.ok

pub returns-clause-err : goal.returns-clause-err
returns-clause-err g c =
    admitted-err c.in_ok-told.told c.in_ok-dense.dense c.admitted.result c.know.ensures.accepted
    c.in_ok-told.ensures.ok c.in_ok-dense.ensures.dense c.admitted.ensures.err
