use Rattle.std.proofs.Common.{◌∙◌, subst, refl}
use Rattle.nomos_ir.specs.Amounts.{star_count}
use Rattle.nomos_equality.specs.Comparing.{Compared}
use Rattle.nomos_equality.proofs.ComparedLaws.{stays-same}
use Rattle.nomos_check.proofs.ConcludingLemmas.{answers-by}
use Rattle.nomos_check.specs.Reaching.{outset_of}
use Rattle.nomos_check.specs.mirror.ProcessAnswers.{IsGathered}
use Rattle.nomos_check.proofs.checking.check_process_with.Goals as goal

pub returns-in-Ok-clause-answers : goal.returns-in-Ok-clause-answers
returns-in-Ok-clause-answers c = λ d found.
    let lists = c.args.program.now in
    let o = outset_of lists d in
    let w = c.gather-gathered.new.walk in
    let same = c.new-walk.ensures.equalities ∙ c.replace-known.ensures.value in
    let gathered : IsGathered lists (star_count lists) o c.args.equalities.now w =
    subst (λ (k : Compared). IsGathered lists (star_count lists) o k w) same (c.in-Ok.ensures.gathers d found)
    in
    answers-by c.args.p.0 d c.requires.formed found c.args.equalities.now w gathered w.stuck refl c.answer.result
    c.answer.ensures

pub returns-in-Ok-clause-kept : goal.returns-in-Ok-clause-kept
returns-in-Ok-clause-kept c =
    let same = c.new-walk.ensures.equalities ∙ c.replace-known.ensures.value in
    c.gather-gathered.ensures.kept c.args.equalities.now (stays-same c.args.equalities.now _ same)

pub returns-clause-kept : goal.returns-clause-kept
returns-clause-kept c =
    let same = c.new-walk.ensures.equalities ∙ c.replace-known.ensures.value in
    c.gather-gathered.ensures.kept c.args.equalities.now (stays-same c.args.equalities.now _ same)
