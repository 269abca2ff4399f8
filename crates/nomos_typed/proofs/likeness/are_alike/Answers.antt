use Rattle.std.proofs.Common.{true, subst}
use Rattle.nomos_ir.specs.declared.lists.ProgramLists.{ProgramLists}
use Rattle.nomos_equality.specs.Comparing.{AnswersComparison, FindsEqual}
use Rattle.nomos_equality.specs.declared.equality.Comparison.{Comparison}
use Rattle.nomos_equality.proofs.AnswerLaws.{differ-not_equal}
use Rattle.nomos_types.proofs.EqualityLaws.{equal-shapes}
use Rattle.nomos_typed.specs.mirror.ComparedWith.{program_of, amounts_in}
use Rattle.nomos_typed.proofs.AlikeLemmas.{alike-equal, alike-mode}
use Rattle.nomos_typed.proofs.TellLemmas.{equal-tells, tells-same}
use Rattle.nomos_typed.proofs.likeness.are_alike.Goals as goal

pub returns-then-not-is_mode-clause-tells : goal.returns-then-not-is_mode-clause-tells
returns-then-not-is_mode-clause-tells c =
    λ alike.
    let same = c.is_mode.ensures.1 (alike-mode c.program-program.ensures.accepted.is_program c.mode_of-mode.ensures
    c.mode_of.ensures alike) in
    let other = c.if-not-is_mode.true in
    absurd cc

pub returns-in-Equal-clause-tells : goal.returns-in-Equal-clause-tells
returns-in-Equal-clause-tells c =
    let told = c.args.told.now in
    let lists = program_of told in
    let old = c.args.equalities.now in
    let new = c.compare.new.self in
    let Answer : ProgramLists → Comparison → Type 0 = λ l found. AnswersComparison l c.args.own c.args.t old new
    found in
    let at = subst (λ (l : ProgramLists). Answer l c.in_ok-compare.field-0) c.program-program.ensures.program
    c.in_ok-compare.ensures.answers in
    let finds : FindsEqual lists c.args.own c.args.t old new = subst (Answer lists) c.in-Equal.is at in
    let same = c.is_mode.ensures.0 c.if-not-is_mode.false in
    tells-same (amounts_in told) old.amounts new.amounts true (alike-equal c.mode_of-mode.ensures c.mode_of.ensures
    same) (equal-tells c.args.own c.args.t finds)

pub returns-in-Different-clause-tells : goal.returns-in-Different-clause-tells
returns-in-Different-clause-tells c =
    let told = c.args.told.now in
    let lists = program_of told in
    let old = c.args.equalities.now in
    let new = c.compare.new.self in
    let Answer : ProgramLists → Comparison → Type 0 = λ l found. AnswersComparison l c.args.own c.args.t old new
    found in
    let at = subst (λ (l : ProgramLists). Answer l c.in_ok-compare.field-0) c.program-program.ensures.program
    c.in_ok-compare.ensures.answers in
    let differ = subst (Answer lists) c.in-Different.is at in
    λ alike. differ-not_equal lists c.args.own c.args.t _ differ.0 (equal-shapes lists (amounts_in told) c.args.own
    c.args.t alike.equal)
