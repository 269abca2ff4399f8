-- Without a star the pivot run does not stop.
use Rattle.std.proofs.Common.{◌≡◌, ◌∙◌}
use Rattle.nomos_accept.specs.AcceptedText.{PivotRunEndsWith}
use Rattle.nomos_ir.specs.Amounts.{star_count}
use Rattle.nomos_ir.specs.declared.lists.ProgramLists.{ProgramLists}
use Rattle.nomos_simplex.proofs.NoStarLaws.{no_stars-answer}
use Rattle.nomos_simplex.specs.declared.solved.Solved.TheVariants as solved
use Rattle.nomos_simplex.specs.declared.solved.Stop.{Stop}

pub no_stars-stop : (lists : ProgramLists) (stop : Stop) → star_count lists ≡ 0
    → ¬ (PivotRunEndsWith lists (solved.Unsolved stop))
no_stars-stop lists stop none = λ ends. no_stars-answer ends.rows stop (ends.are_rows.stars ∙ none) ends.run
