use Rattle.std.proofs.lemmas.Result.{err_from_is_err_and}
use Rattle.nomos_elaborate.proofs.AnswerLaws.{stop_answers, cost_answers, lists_answer}
use Rattle.nomos_surface.specs.FileView.{file_tree}
use Rattle.nomos_elaborate.proofs.elaborate.program_lists.Goals as goal

pub returns-in_err-lists : goal.returns-in_err-lists
returns-in_err-lists c =
    let p = err_from_is_err_and c.from_residual.result c.from_residual.ensures.1 in
    rw (p.1, p.2) (stop_answers (file_tree c.args.surface.now) c.in_err-lists.field-0.0 c.in_err-lists.ensures)

pub returns-in-Some : goal.returns-in-Some
returns-in-Some c =
    cost_answers (file_tree c.args.surface.now) c.in_ok-lists.lists c.written_work.result c.in-Some.at
    c.in_ok-lists.ensures c.written_work.ensures c.in-Some.is

pub returns-in-None : goal.returns-in-None
returns-in-None c =
    lists_answer (file_tree c.args.surface.now) c.in_ok-lists.lists c.written_work.result c.in_ok-lists.ensures
    c.written_work.ensures c.in-None.is
