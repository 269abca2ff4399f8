use Rattle.std.proofs.Common.{◌⊎◌, ◌∙◌, Bool, IsTrue, [], ◌∷◌, refl, ap, sym, subst, arith}
use Rattle.nomos_forms.specs.declared.form.Form.{Form}
use Rattle.nomos_ir.specs.declared.amount.Amount.{Amount}
use Rattle.nomos_ir.specs.declared.code_node.CodeNode.TheVariants as code
use Rattle.nomos_ir.specs.Amounts.{star_count}
use Rattle.nomos_ir.specs.Bindings.{each_bound}
use Rattle.nomos_types.specs.Judgement.{Judgement, at_code, binds_channel}
use Rattle.nomos_types.specs.Modes.{may_spawn}
use Rattle.nomos_check.specs.Account.{spends, with_lists}
use Rattle.nomos_check.specs.Accounting.{spends_for, without_passed}
use Rattle.nomos_check.specs.Asking.{AsksPair}
use Rattle.nomos_check.specs.Room.{HasRoom}
use Rattle.nomos_check.specs.mirror.Passing.{TellsArguments, PairOfValues, PairOfChannels, carried_by_all}
use Rattle.nomos_check.specs.mirror.StandingData.{amount_of, shape_of}
use Rattle.nomos_check.proofs.ArgumentSteps.{arguments-ask, declared-in_range, spawn-asks, spawn-stays}
use Rattle.nomos_check.proofs.FoundLemmas.{code-in_range}
use Rattle.nomos_check.proofs.LeadLemmas.{leads-with, keeps-through, not-true}
use Rattle.nomos_check.proofs.LimitLemmas.{room-at, proc-amount}
use Rattle.nomos_check.proofs.PairLemmas.{joins-same}
use Rattle.nomos_check.proofs.StepRows.{spawn-steps}
use Rattle.nomos_check.proofs.spawning.at_spawn.Goals as goal

pub proc-child-requires : goal.proc-child-requires
proc-child-requires c =
    let it = c.args.spawning in
    let node = code.Spawn c.requires.stands.0 it.name it.callee it.args.now it.next in
    (code-in_range c.args.program.now (shape_of c.args.now.now) node c.requires.formed.program
    c.requires.stands.1).calls 0 0 (omega arith)

pub returns-then-not-may_spawn-clause-tells : goal.returns-then-not-may_spawn-clause-tells
returns-then-not-may_spawn-clause-tells c =
    let it = c.args.spawning in
    spawn-stays c.args.program.now (shape_of c.args.now.now) c.requires.stands.0 it.name it.callee it.args.now it.next
    c.proc-child.result.now c.requires.stands.1 c.proc-child.ensures
    (λ left says. let may = says.mode in let refused = sym c.may_spawn.ensures ∙ c.if-not-may_spawn.true in cc)

pub returns-then-not-is_free-clause-tells : goal.returns-then-not-is_free-clause-tells
returns-then-not-is_free-clause-tells c =
    let it = c.args.spawning in
    spawn-stays c.args.program.now (shape_of c.args.now.now) c.requires.stands.0 it.name it.callee it.args.now it.next
    c.proc-child.result.now c.requires.stands.1 c.proc-child.ensures
    (λ left says. not-true c.if-not-is_free.true (c.is_free.ensures.1 says.free))

pub pass_arguments-requires-clause-terms : goal.pass_arguments-requires-clause-terms
pass_arguments-requires-clause-terms c =
    let it = c.args.spawning in
    let node = code.Spawn c.requires.stands.0 it.name it.callee it.args.now it.next in
    (code-in_range c.args.program.now (shape_of c.args.now.now) node c.requires.formed.program
    c.requires.stands.1).terms

pub pass_arguments-requires-clause-in_range : goal.pass_arguments-requires-clause-in_range
pass_arguments-requires-clause-in_range c =
    let it = c.args.spawning in
    (declared-in_range c.args.program.now it.callee.0 c.proc-child.result.now c.requires.formed.program
    c.proc-child.ensures).channels

pub returns-then-not-branch-clause-tells : goal.returns-then-not-branch-clause-tells
returns-then-not-branch-clause-tells c =
    let lists = c.args.program.now in
    let s = c.args.now.now in
    let it = c.args.spawning in
    let d = c.proc-child.result.now in
    let mid = c.pass_arguments.new.now in
    let old = c.args.asked.now in
    let new = c.pass_arguments.new.asked in
    let Tells : Bool → Type 0 = λ b. TellsArguments lists s mid d it.args.now old new b in
    let stays = subst Tells c.if-not-branch.true c.in_ok-pass_arguments.ensures.tells in
    spawn-stays lists (shape_of s) c.requires.stands.0 it.name it.callee it.args.now it.next d c.requires.stands.1
    c.proc-child.ensures (λ left says. stays left says.arguments)

pub spend-requires : goal.spend-requires
spend-requires c =
    let lists = c.args.program.now in
    let s = c.args.now.now in
    let it = c.args.spawning in
    let d = c.proc-child.result.now in
    let mid = c.pass_arguments.new.now in
    let old = c.args.asked.now in
    let new = c.pass_arguments.new.asked in
    let Tells : Bool → Type 0 = λ b. TellsArguments lists s mid d it.args.now old new b in
    let passed = subst Tells c.if-not-branch.false c.in_ok-pass_arguments.ensures.tells in
    let is_program = c.requires.formed.program in
    subst (λ (f : Form). HasRoom f d.amount) (sym passed.potential)
    (room-at is_program s d.amount c.requires.within (proc-amount is_program it.callee.0 d c.proc-child.ensures))

pub returns-clause-tells : goal.returns-clause-tells
returns-clause-tells c =
    let lists = c.args.program.now in
    let s = c.args.now.now in
    let it = c.args.spawning in
    let d = c.proc-child.result.now in
    let mid = c.pass_arguments.new.now in
    let old = c.args.asked.now in
    let new = c.pass_arguments.new.asked in
    let Tells : Bool → Type 0 = λ b. TellsArguments lists s mid d it.args.now old new b in
    let passed = subst Tells c.if-not-branch.false c.in_ok-pass_arguments.ensures.tells in
    let may : IsTrue (may_spawn s.mode d.mode) = sym c.may_spawn.ensures ∙ c.if-not-may_spawn.false in
    let free = c.is_free.ensures.0 c.if-not-is_free.false in
    let Bound : Judgement → Judgement = λ k. binds_channel k it.name d.mode d.offers in
    let keeps = keeps-through c.go_to.ensures.amounts c.bind_channel.ensures.amounts in
    let n = star_count lists in
    leads-with s c.bind_channel.new.now (Bound (at_code (shape_of mid) it.next))
    (code.Spawn c.requires.stands.0 it.name it.callee it.args.now it.next) c.requires.stands.1
    (spawn-steps c.requires.stands.1 d (shape_of mid) c.proc-child.ensures may passed.fit free refl)
    (c.in_ok-bind_channel.ensures.shape ∙ ap Bound c.go_to.ensures.shape)
    (λ a has.
    let left = with_lists a (without_passed it.args.now.values a.lists) in
    let amounts =
    ap (each_bound amount_of) keeps.lists ∙ passed.lists_left ∙ ap (without_passed it.args.now.values) has.lists
    in
    let potential = keeps.potential ∙ c.spend.ensures n a (passed.potential ∙ has.potential) in (
      spends d.amount left,
      ap (λ o. spends_for o left ∷ []) c.proc-child.ensures,
      record { lists = amounts; potential = potential },
    ))

pub returns-clause-asks : goal.returns-clause-asks
returns-clause-asks c =
    let lists = c.args.program.now in
    let s = c.args.now.now in
    let it = c.args.spawning in
    let d = c.proc-child.result.now in
    let mid = c.pass_arguments.new.now in
    let old = c.args.asked.now in
    let new = c.pass_arguments.new.asked in
    let Tells : Bool → Type 0 = λ b. TellsArguments lists s mid d it.args.now old new b in
    let passed = subst Tells c.if-not-branch.false c.in_ok-pass_arguments.ensures.tells in
    let j = shape_of s in
    let args = it.args.now in
    let Pairs : Amount × Amount → Type 0 =
    λ pair. PairOfValues (carried_by_all s) args.values d.values pair
    ⊎ PairOfChannels lists j args.channels d.channels pair
    in
    λ a has.
    joins-same old new Pairs (AsksPair lists j a) passed.joins
    (λ pair.
    let first = arguments-ask lists j s a d args has.lists pair in
    let second =
    spawn-asks lists j a c.requires.stands.0 it.name it.callee args it.next d c.requires.stands.1 c.proc-child.ensures
    pair
    in
    (λ p. second.0 (first.0 p), λ asks. first.1 (second.1 asks)))
