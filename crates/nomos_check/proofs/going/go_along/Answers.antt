use Rattle.std.proofs.Common.{sym, subst, refl}
use Rattle.nomos_ir.specs.Amounts.{star_count}
use Rattle.nomos_check.proofs.GoingLemmas.{going-start}
use Rattle.nomos_check.proofs.StrideLemmas.{stride-ends, stride-stops, stride-next, stride-on_way, stride-lower, stride-parts}
use Rattle.nomos_check.proofs.WithinLemmas.{within-on_way}
use Rattle.nomos_check.specs.declared.asked.Asked.{Asked}
use Rattle.nomos_check.specs.declared.standing.Forks.{Forks}
use Rattle.nomos_check.specs.declared.code_walk.CodeWalk.{CodeWalk}
use Rattle.nomos_check.specs.mirror.StandingData.{IsReady, KeepsCompared}
use Rattle.nomos_check.specs.mirror.Walking.{Goes}
use Rattle.nomos_check.proofs.going.go_along.Goals as goal

pub note-requires-clause-within : goal.note-requires-clause-within
note-requires-clause-within c = within-on_way c.loop-at.at c.loop-at.invariant.on_way

pub returns-in_err-note-clause-ready : goal.returns-in_err-note-clause-ready
returns-in_err-note-clause-ready c =
    subst (λ (a : Asked). IsReady c.args.program.now a) (sym c.note.ensures.asked) c.loop-at.invariant.ready

pub step-requires-clause-ready : goal.step-requires-clause-ready
step-requires-clause-ready c =
    subst (λ (a : Asked). IsReady c.args.program.now a) (sym c.note.ensures.asked) c.loop-at.invariant.ready

pub step-requires-clause-within : goal.step-requires-clause-within
step-requires-clause-within c = within-on_way c.loop-at.at c.loop-at.invariant.on_way

pub code-requires : goal.code-requires
code-requires c =
    let within = within-on_way c.loop-at.at c.loop-at.invariant.on_way in
    within.code

pub returns-in-Stuck-clause-goes : goal.returns-in-Stuck-clause-goes
returns-in-Stuck-clause-goes c =
    let lists = c.args.program.now in
    let goes = stride-stops lists c.requires.formed c.args.now c.loop-at.at c.step.new.now c.args.walk.now
    c.loop-at.walk c.note.new.self c.step.new.asked c.loop-at.invariant.going c.in_ok-note.ensures.notes
    c.loop-at.invariant.on_way c.in_ok-step.field-0 c.in_ok-step.ensures.tells c.in_ok-step.ensures.asks
    c.in-Stuck.is c.code.result.now c.code.ensures in
    subst (λ (w : CodeWalk). Goes lists (star_count lists) c.args.now c.args.walk.now w) (sym c.stop.ensures) goes

pub returns-in-Done-clause-goes : goal.returns-in-Done-clause-goes
returns-in-Done-clause-goes c =
    stride-ends c.args.program.now c.requires.formed c.args.now c.loop-at.at c.step.new.now c.args.walk.now
    c.loop-at.walk c.note.new.self c.step.new.asked c.loop-at.invariant.going c.in_ok-note.ensures.notes
    c.loop-at.invariant.on_way c.in_ok-step.field-0 c.in_ok-step.ensures.tells c.in_ok-step.ensures.asks
    c.in-Done.is

pub loop-at-init : goal.loop-at-init
loop-at-init c = record {
  ready = c.requires.ready;
  kept = λ known front. front;
  on_way = c.requires.on_way;
  going = going-start c.args.program.now c.args.now c.args.walk.now;
}

pub loop-at-smaller : goal.loop-at-smaller
loop-at-smaller c =
    stride-lower c.args.program.now c.requires.formed c.args.now c.loop-at.at c.step.new.now c.args.walk.now
    c.loop-at.walk c.note.new.self c.step.new.asked c.loop-at.invariant.going c.in_ok-note.ensures.notes
    c.loop-at.invariant.on_way c.in_ok-step.field-0 c.in_ok-step.ensures.tells c.in_ok-step.ensures.asks
    c.in-Next.is

pub loop-at-preserved : goal.loop-at-preserved
loop-at-preserved c = record {
  ready = c.in_ok-step.ensures.ready;
  kept =
      λ known front. c.step.ensures.kept known
      (subst (λ (a : Asked). KeepsCompared c.args.walk.now.asked a) (sym c.note.ensures.asked)
      c.loop-at.invariant.kept known front);
  on_way =
      stride-on_way c.args.program.now c.requires.formed c.args.now c.loop-at.at c.step.new.now c.args.walk.now
      c.loop-at.walk c.note.new.self c.step.new.asked c.loop-at.invariant.going c.in_ok-note.ensures.notes
      c.loop-at.invariant.on_way c.in_ok-step.field-0 c.in_ok-step.ensures.tells c.in_ok-step.ensures.asks
      c.in-Next.is;
  going =
      stride-next c.args.program.now c.requires.formed c.args.now c.loop-at.at c.step.new.now c.args.walk.now
      c.loop-at.walk c.note.new.self c.step.new.asked c.loop-at.invariant.going c.in_ok-note.ensures.notes
      c.loop-at.invariant.on_way c.in_ok-step.field-0 c.in_ok-step.ensures.tells c.in_ok-step.ensures.asks
      c.in-Next.is;
}

pub returns-in-Branches-clause-goes : goal.returns-in-Branches-clause-goes
returns-in-Branches-clause-goes c =
    let f : Forks = record { before = c.step.new.now; ways = c.in-Branches.ways } in
    stride-parts c.args.program.now c.requires.formed c.args.now c.loop-at.at c.step.new.now c.args.walk.now
    c.loop-at.walk c.note.new.self c.step.new.asked c.loop-at.invariant.going c.in_ok-note.ensures.notes
    c.loop-at.invariant.on_way c.in_ok-step.field-0 c.in_ok-step.ensures.tells c.in_ok-step.ensures.asks f refl
    c.in-Branches.is c.push.new.self c.in_ok-push-in-Branches.ensures

pub returns-in_err-note-clause-kept : goal.returns-in_err-note-clause-kept
returns-in_err-note-clause-kept c =
    subst (λ (a : Asked). KeepsCompared c.args.walk.now.asked a) (sym c.note.ensures.asked) c.loop-at.invariant.kept

pub returns-in_err-step-clause-kept : goal.returns-in_err-step-clause-kept
returns-in_err-step-clause-kept c = λ known front. c.step.ensures.kept known
    (subst (λ (a : Asked). KeepsCompared c.args.walk.now.asked a) (sym c.note.ensures.asked)
    c.loop-at.invariant.kept known front)

pub returns-in-Done-clause-kept : goal.returns-in-Done-clause-kept
returns-in-Done-clause-kept c = λ known front. c.step.ensures.kept known
    (subst (λ (a : Asked). KeepsCompared c.args.walk.now.asked a) (sym c.note.ensures.asked)
    c.loop-at.invariant.kept known front)

pub returns-in_err-push-in-Branches-clause-kept : goal.returns-in_err-push-in-Branches-clause-kept
returns-in_err-push-in-Branches-clause-kept c = λ known front. c.step.ensures.kept known
    (subst (λ (a : Asked). KeepsCompared c.args.walk.now.asked a) (sym c.note.ensures.asked)
    c.loop-at.invariant.kept known front)

pub returns-in-Branches-clause-kept : goal.returns-in-Branches-clause-kept
returns-in-Branches-clause-kept c = λ known front. c.step.ensures.kept known
    (subst (λ (a : Asked). KeepsCompared c.args.walk.now.asked a) (sym c.note.ensures.asked)
    c.loop-at.invariant.kept known front)

pub returns-in-Stuck-clause-kept : goal.returns-in-Stuck-clause-kept
returns-in-Stuck-clause-kept c =
    subst (λ (w : CodeWalk). KeepsCompared c.args.walk.now.asked w.asked) (sym c.stop.ensures)
    (λ known front. c.step.ensures.kept known
    (subst (λ (a : Asked). KeepsCompared c.args.walk.now.asked a) (sym c.note.ensures.asked)
    c.loop-at.invariant.kept known front))
