use Rattle.std.proofs.Common.{refl, arith}
use Rattle.nomos_ir.specs.declared.code_node.CodeNode.TheVariants as code
use Rattle.nomos_ir.specs.Amounts.{star_count}
use Rattle.nomos_types.specs.Judgement.{at_code}
use Rattle.nomos_check.specs.Account.{spends}
use Rattle.nomos_check.specs.mirror.StandingData.{shape_of}
use Rattle.nomos_check.proofs.LeadLemmas.{leads-with}
use Rattle.nomos_check.proofs.LimitLemmas.{room-at, code-amount}
use Rattle.nomos_check.proofs.StepRows.{work-steps}
use Rattle.nomos_check.proofs.paying.at_work.Goals as goal

pub spend-requires : goal.spend-requires
spend-requires c =
    let is_program = c.know.ensures.program in
    let node = code.Work c.requires.stands.0 c.args.amount c.args.next in
    room-at is_program c.args.now.now c.args.amount c.requires.within
    (code-amount is_program c.args.now.now.code.0 node c.args.amount c.requires.stands.1 (0, omega arith, refl))

pub returns : goal.returns
returns c =
    let s = c.args.now.now in
    leads-with s (record s { potential = c.spend.new.self; code = c.args.next }) (at_code (shape_of s) c.args.next)
    (code.Work c.requires.stands.0 c.args.amount c.args.next) c.requires.stands.1 (work-steps c.requires.stands.1) refl
    (λ a has. (
      spends c.args.amount a,
      refl,
      record { lists = has.lists; potential = c.spend.ensures (star_count c.args.program.now) a has.potential },
    ))
