use Rattle.std.proofs.Common.{◌↔◌, ◌⊎◌, inl, inr, ⊎_elim, List, Contains, sym, subst}
use Rattle.nomos_ir.specs.declared.amount.Amount.{Amount}
use Rattle.nomos_ir.specs.declared.ids.TypeId.{TypeId}
use Rattle.nomos_ir.specs.declared.lists.ProgramLists.{ProgramLists}
use Rattle.nomos_ir.specs.declared.mode.Mode.{Mode}
use Rattle.nomos_types.specs.Alike.{AlikeTypes}
use Rattle.nomos_types.specs.Equality.{no_amounts}
use Rattle.nomos_types.specs.Modes.{HasMode}
use Rattle.nomos_equality.specs.Comparing.{Compared, FindsEqual, AnswersComparison}
use Rattle.nomos_equality.specs.Paths.{StandAtEqualPaths}
use Rattle.nomos_equality.specs.declared.equality.Comparison.{Comparison}
use Rattle.nomos_equality.proofs.AnswerLaws.{differ-not_equal}
use Rattle.nomos_equality.proofs.ComparedLaws.{stays-through}
use Rattle.nomos_check.proofs.comparing.are_alike.Goals as goal

pub returns-in-Different-clause-tells : goal.returns-in-Different-clause-tells
returns-in-Different-clause-tells c =
    let lists = c.args.program.now in
    let old = c.args.asked.now.equalities in
    let Tells : Comparison → Type 0 = λ found. AnswersComparison lists c.args.own c.args.t old c.compare.new.self
    found in
    let differ = subst Tells c.in-Different.is c.in_ok-compare.ensures.answers in
    λ alike. differ-not_equal lists c.args.own c.args.t _ differ.0 alike.equal

pub returns-in_err-compare-clause-kept : goal.returns-in_err-compare-clause-kept
returns-in_err-compare-clause-kept c = λ known front.
    stays-through known c.args.asked.now.equalities c.compare.new.self front c.compare.ensures.kept

pub returns-in-Equal-clause-kept : goal.returns-in-Equal-clause-kept
returns-in-Equal-clause-kept c = λ known front.
    stays-through known c.args.asked.now.equalities c.compare.new.self front c.compare.ensures.kept

pub returns-in-Different-clause-kept : goal.returns-in-Different-clause-kept
returns-in-Different-clause-kept c = λ known front.
    stays-through known c.args.asked.now.equalities c.compare.new.self front c.compare.ensures.kept

-- the pairs at equal paths join those that were compared, beside others
joins-found : {lists : ProgramLists} {a b : TypeId} {old new : Compared} (given : List (Amount × Amount))
    → FindsEqual lists a b old new → (pair : Amount × Amount)
    → (Contains new.amounts pair ⊎ Contains given pair)
    ↔ ((Contains old.amounts pair ⊎ Contains given pair) ⊎ StandAtEqualPaths lists a b pair)
joins-found given finds pair = (
  λ has.
      ⊎_elim
      (λ among. ⊎_elim (λ known. inl (inl known)) (λ stand. inr stand) ((finds.amounts pair).0 among))
      (λ other. inl (inr other))
      has,
  λ has.
      ⊎_elim
      (λ before. ⊎_elim (λ known. inl ((finds.amounts pair).1 (inl known))) (λ other. inr other) before)
      (λ stand. inl ((finds.amounts pair).1 (inr stand)))
      has,
)

pub returns-in-Equal-clause-tells : goal.returns-in-Equal-clause-tells
returns-in-Equal-clause-tells c =
    let lists = c.args.program.now in
    let old = c.args.asked.now in
    let Tells : Comparison → Type 0 = λ found. AnswersComparison lists c.args.own c.args.t old.equalities
    c.compare.new.self found in
    let finds : FindsEqual lists c.args.own c.args.t old.equalities c.compare.new.self =
    subst Tells c.in-Equal.is c.in_ok-compare.ensures.answers in
    let same = c.is_mode.ensures.0 c.if-not-is_mode.false in
    let alike : AlikeTypes lists no_amounts c.args.own c.args.t = record {
      equal = finds.shapes;
      mode = c.mode_of-mode.result;
      left_mode = c.mode_of-mode.ensures;
      right_mode = subst (λ (m : Mode). HasMode lists c.args.t m) (sym same) c.mode_of.ensures;
    } in
    (alike, joins-found old.pairs.items finds)
