-- Each of the first four lines stands in one place.
use Rattle.std.proofs.Common.{refl, sym, ◌∙◌}
use Rattle.std.proofs.lemmas.Bool.{false≢true}
use Rattle.nomos_snapshot.proofs.StandLemmas.{head-led, head-none, line-led, line-none, next-led, next-none, spent-led, spent-none, unit-differs, unit-led, unit-none}
use Rattle.nomos_snapshot.proofs.stand.TextStand.after.Goals as goal
use Rattle.nomos_snapshot.proofs.stand.TextStand.after.Goals.{in_default-via-in-Some+else-parts-unit, in_default-via-in_default}

pub returns-then-is_head : goal.returns-then-is_head
returns-then-is_head c = λ a same. head-led a c.args.self c.args.line c.in-Head.is (c.if-is_head.ensures.0 refl)

pub returns-in-Head : goal.returns-in-Head
returns-in-Head c = λ a same.
    head-none a c.args.self c.args.line c.in-Head.is (λ e. absurd (false≢true (c.if-is_head.ensures.1 e)))

pub returns-in-Some : goal.returns-in-Some
returns-in-Some c = λ a same.
    unit-led a c.args.self c.args.line c.in-Some.parts c.in-Unit.is c.in-Some.ensures (c.if-parts-unit.true ∙ sym same)

pub returns-in-Unit : goal.returns-in-Unit
returns-in-Unit c = λ a same.
    elim c.in_default.branch [
      | in_default-via-in-Some+else-parts-unit w ↦
          unit-none a c.args.self c.args.line c.in-Unit.is
          (unit-differs c.args.line w.in-Some.parts a.annotations.unit w.in-Some.ensures
          (λ e. w.if-parts-unit.false (e ∙ same)))
      | in_default-via-in_default w ↦
          unit-none a c.args.self c.args.line c.in-Unit.is (w.in_default.ensures a.annotations.unit)
    ]

pub returns-in-Some-next_told : goal.returns-in-Some-next_told
returns-in-Some-next_told c = λ a same.
    next-led a c.args.self c.args.line c.in-Some-next_told.object c.in-Some-next_told.name c.in-Next.is
    c.in-Some-next_told.ensures

pub returns-in-Next : goal.returns-in-Next
returns-in-Next c = λ a same. next-none a c.args.self c.args.line c.in-Next.is c.in-None.ensures

pub returns-in-Some-spent_told : goal.returns-in-Some-spent_told
returns-in-Some-spent_told c = λ a same.
    spent-led a c.args.self c.args.line c.in-Spent.object c.in-Spent.name c.in-Some-spent_told.dths c.new.result
    c.in-Spent.is c.in-Some-spent_told.ensures c.new.ensures.told c.new.ensures.kept

pub returns-in-Spent : goal.returns-in-Spent
returns-in-Spent c = λ a same.
    spent-none a c.args.self c.args.line c.in-Spent.object c.in-Spent.name c.in-Spent.is c.in-None-spent_told.ensures

pub returns-then-branch : goal.returns-then-branch
returns-then-branch c = λ a same.
    line-led a c.args.self c.args.line c.in-Behind.gathering c.take_line.new.self c.in_ok-take_line-in-Behind.field-0
    c.in-Behind.is c.if-branch.true c.in_ok-take_line-in-Behind.ensures

pub returns : goal.returns
returns c = λ a same.
    line-none a c.args.self c.args.line c.in-Behind.gathering c.take_line.new.self c.in_ok-take_line-in-Behind.field-0
    c.in-Behind.is c.if-branch.false c.in_ok-take_line-in-Behind.ensures
