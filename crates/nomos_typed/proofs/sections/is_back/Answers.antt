use Rattle.std.proofs.Common.{◌↔◌, List, All, IsTrue, subst, sym}
use Rattle.nomos_ir.specs.declared.amount.Amount.{Amount}
use Rattle.nomos_ir.specs.declared.lists.ProgramLists.{ProgramLists}
use Rattle.nomos_equality.specs.Answer.{SameWorth}
use Rattle.nomos_equality.specs.SyncAnswer.{AnswersSynchronizing, IsSynchronizingExact}
use Rattle.nomos_equality.specs.declared.synchronizing.Synced.{Synced}
use Rattle.nomos_equality.specs.declared.synchronizing.Synced.TheVariants as synced
use Rattle.nomos_types.specs.Acceptance.{IsAmountOf}
use Rattle.nomos_typed.proofs.TalkLemmas.{stand-amounts}
use Rattle.nomos_typed.proofs.sections.is_back.Goals as goal

pub same_worth-requires : goal.same_worth-requires
same_worth-requires c =
    let a = c.args.accepted.now in
    let talk = c.args.talk in
    let answer = subst (λ (l : ProgramLists). AnswersSynchronizing l talk.own talk.shared (synced.Yes c.in-Yes.pairs))
    c.program-program.ensures.program
    (subst (λ (s : Synced). AnswersSynchronizing c.program-program.result.now talk.own talk.shared s) c.in-Yes.is
    c.in_ok-synced.ensures.answers) in
    subst (λ (l : List (Amount × Amount)). All (λ (p : Amount × Amount). IsAmountOf a.program p.0
    × IsAmountOf a.program p.1) l) (sym c.as_slice.ensures)
    (stand-amounts a.program c.program-program.ensures.accepted.is_program talk.own talk.shared c.in-Yes.pairs
    answer.pairs)

pub returns-in-Yes : goal.returns-in-Yes
returns-in-Yes c =
    let a = c.args.accepted.now in
    let talk = c.args.talk in
    let exact = subst (λ (l : ProgramLists). IsSynchronizingExact l talk.own talk.shared (synced.Yes c.in-Yes.pairs))
    c.program-program.ensures.program
    (subst (λ (s : Synced). IsSynchronizingExact c.program-program.result.now talk.own talk.shared s) c.in-Yes.is
    c.in_ok-synced.ensures.exact) in
    let worth : IsTrue c.same_worth.result ↔ SameWorth a.annotations c.in-Yes.pairs =
    subst (λ (l : List (Amount × Amount)). IsTrue c.same_worth.result ↔ SameWorth a.annotations l) c.as_slice.ensures
    c.same_worth.ensures in
    (λ yes. (exact a.annotations).1 (worth.0 yes), λ back. worth.1 ((exact a.annotations).0 back))

pub returns-in-No : goal.returns-in-No
returns-in-No c =
    let a = c.args.accepted.now in
    let talk = c.args.talk in
    let exact = subst (λ (l : ProgramLists). IsSynchronizingExact l talk.own talk.shared (synced.No c.in-No._path))
    c.program-program.ensures.program
    (subst (λ (s : Synced). IsSynchronizingExact c.program-program.result.now talk.own talk.shared s) c.in-No.is
    c.in_ok-synced.ensures.exact) in
    (λ yes. absurd cc, λ back. absurd ((exact a.annotations).0 back))
