use Rattle.std.proofs.lemmas.Result.{on_ok_weaker}
use Rattle.nomos_check.proofs.KeepLemmas.{notes-all}
use Rattle.nomos_check.proofs.code_walk.CodeWalk.note.Goals as goal

pub returns-clause-notes : goal.returns-clause-notes
returns-clause-notes c =
    on_ok_weaker c.note_forms.result
    (notes-all c.in_ok-keep.ensures.others c.in_ok-keep.ensures.takes c.in_ok-keep_potential.ensures.others
    c.in_ok-keep_potential.ensures.takes)
    c.note_forms.ensures.notes
