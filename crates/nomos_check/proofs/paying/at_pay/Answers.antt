use Rattle.std.proofs.Common.{◌≡◌, ◌∙◌, refl, ap, arith}
use Rattle.nomos_ir.specs.declared.amount.Amount.{Amount}
use Rattle.nomos_ir.specs.declared.code_node.CodeNode.TheVariants as code
use Rattle.nomos_ir.specs.Amounts.{star_count}
use Rattle.nomos_ir.specs.Bindings.{each_bound}
use Rattle.nomos_types.specs.Judgement.{goes_on}
use Rattle.nomos_check.specs.Account.{spends}
use Rattle.nomos_check.specs.Asking.{AsksPair}
use Rattle.nomos_check.specs.mirror.StandingData.{shape_of, amount_of}
use Rattle.nomos_check.proofs.LeadLemmas.{leads-with}
use Rattle.nomos_check.proofs.LimitLemmas.{room-at, code-amount}
use Rattle.nomos_check.proofs.PairLemmas.{joins-same, pay-asks}
use Rattle.nomos_check.proofs.StepRows.{pay-steps, pay-stuck}
use Rattle.nomos_check.proofs.paying.at_pay.Goals as goal

pub spend-requires : goal.spend-requires
spend-requires c =
    let is_program = c.requires.formed.program in
    let over = c.args.over in
    let node = code.Pay c.requires.stands.0 over.channel over.what over.next in
    room-at is_program c.args.now.now over.what c.requires.within
    (code-amount is_program c.args.now.now.code.0 node over.what c.requires.stands.1 (0, omega arith, refl))

pub returns-in_ok-go_on-in-Some-clause-tells : goal.returns-in_ok-go_on-in-Some-clause-tells
returns-in_ok-go_on-in-Some-clause-tells c =
    let s = c.args.now.now in
    let over = c.args.over in
    leads-with s c.go_on.new.now (goes_on (shape_of s) over.channel c.in-Some.t over.next)
    (code.Pay c.requires.stands.0 over.channel over.what over.next) c.requires.stands.1
    (pay-steps c.requires.stands.1 c.in-Some.said c.in-Some.t c.in-Some.ensures) c.in_ok-go_on-in-Some.ensures.shape
    (λ a has. (
      spends over.what a,
      refl,
      record {
        lists = ap (each_bound amount_of) c.go_on.ensures.amounts.lists ∙ has.lists;
        potential =
            c.go_on.ensures.amounts.potential ∙ c.spend.ensures (star_count c.args.program.now) a has.potential;
      },
    ))

pub returns-in_ok-go_on-in-Some-clause-asks : goal.returns-in_ok-go_on-in-Some-clause-asks
returns-in_ok-go_on-in-Some-clause-asks c =
    let j = shape_of c.args.now.now in
    let over = c.args.over in
    let IsNoted : Amount × Amount → Type 0 = λ pair. pair ≡ (over.what, c.in-Some.said) in
    λ a has.
    joins-same c.args.asked.now c.note.new.self IsNoted (AsksPair c.args.program.now j a)
    c.in_ok-note-in-Some.ensures.joins
    (pay-asks c.args.program.now j a c.requires.stands.0 over.channel over.what c.in-Some.said c.in-Some.t over.next
    c.requires.stands.1 c.in-Some.ensures)

pub returns-in-None-clause-tells : goal.returns-in-None-clause-tells
returns-in-None-clause-tells c = pay-stuck c.requires.stands.1 (λ s t channel. c.in-None.ensures (s, t) channel)
