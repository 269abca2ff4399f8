use Rattle.std.proofs.Common.{◌∙◌, refl, ap, arith}
use Rattle.nomos_ir.specs.TermKind.{HasKind}
use Rattle.nomos_ir.specs.declared.code_node.CodeNode.TheVariants as code
use Rattle.nomos_types.specs.Judgement.{Judgement, at_code, binds_value}
use Rattle.nomos_types.specs.TypingRule as row
use Rattle.nomos_check.specs.mirror.StandingData.{shape_of}
use Rattle.nomos_check.proofs.FoundLemmas.{code-in_range, found-some, found-none}
use Rattle.nomos_check.proofs.LeadLemmas.{leads-on, keeps-through, not-true}
use Rattle.nomos_check.proofs.StepRows.{let-stuck}
use Rattle.nomos_check.proofs.value_rules.at_let.Goals as goal

pub returns-then-not-is_free : goal.returns-then-not-is_free
returns-then-not-is_free c =
    let-stuck c.requires.stands.1 (λ kind has free. not-true c.if-not-is_free.true (c.is_free.ensures.1 free))

pub kind_of-requires : goal.kind_of-requires
kind_of-requires c =
    let it = c.args.letting in
    let node = code.Let c.requires.stands.0 it.var it.term it.next in
    (code-in_range c.args.program.now (shape_of c.args.now.now) node c.know.ensures.program
    c.requires.stands.1).terms 0 0 (omega arith)

pub returns-in_ok-bind_value-in-Some : goal.returns-in_ok-bind_value-in-Some
returns-in_ok-bind_value-in-Some c =
    let it = c.args.letting in
    let j = shape_of c.args.now.now in
    let node = code.Let c.requires.stands.0 it.var it.term it.next in
    let has = found-some (HasKind c.args.program.now j.kinds it.term) _ c.in-Some.kind c.in_ok-kind.ensures
    c.in-Some.is in
    let Bound : Judgement → Judgement = λ k. binds_value k it.var c.in-Some.kind in
    leads-on c.args.now.now c.bind_value.new.now (Bound (at_code j it.next)) node c.requires.stands.1 (λ a. refl)
    (row.«let» c.requires.stands.1 c.in-Some.kind has (c.is_free.ensures.0 c.if-not-is_free.false))
    (c.in_ok-bind_value-in-Some.ensures.shape ∙ ap Bound c.go_to.ensures.shape)
    (keeps-through c.go_to.ensures.amounts c.bind_value.ensures.amounts)

pub returns-in-None : goal.returns-in-None
returns-in-None c =
    let it = c.args.letting in
    let j = shape_of c.args.now.now in
    let none = found-none (HasKind c.args.program.now j.kinds it.term) _ c.in_ok-kind.ensures c.in-None.is in
    let-stuck c.requires.stands.1 (λ kind has free. none kind has)
