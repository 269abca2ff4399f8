use Rattle.std.proofs.Common.{◌≡◌, ◌<◌, Bool, Option, Some, IfOk, IfSome, length, subst, sym}
use Rattle.std.proofs.lemmas.Result.{IfOk-weaker}
use Rattle.nomos_ir.specs.Nodes.{type_node}
use Rattle.nomos_ir.specs.declared.ids.TypeId.{TypeId}
use Rattle.nomos_ir.specs.declared.lists.ProgramLists.{ProgramLists}
use Rattle.nomos_types.specs.Unfolding.{IsUnfolding}
use Rattle.nomos_machine.specs.TypedMessage.{MessageTyped}
use Rattle.nomos_typed.specs.Telling.{Tells}
use Rattle.nomos_typed.specs.mirror.MessageHeads.{PayloadFits, goes_of}
use Rattle.nomos_typed.specs.mirror.ComparedWith.{GoesOn, IsTypeIn, acceptance_of, program_of, amounts_in}
use Rattle.nomos_typed.proofs.BringsLemmas.{head-unfolds, message-exact, untyped-name}
use Rattle.nomos_typed.proofs.HeadLemmas.{goes-in}
use Rattle.nomos_typed.proofs.TellLemmas.{tells-same, tells-through}
use Rattle.nomos_typed.proofs.message_types.message_typed.Goals as goal

pub unfold-requires-clause-in_range : goal.unfold-requires-clause-in_range
unfold-requires-clause-in_range c =
    subst (λ (l : ProgramLists). c.in-Some.own.0 < length l.types) (sym c.program-program.ensures.program)
    c.in-Some.ensures.1

pub payload_fits-requires-clause-head : goal.payload_fits-requires-clause-head
payload_fits-requires-clause-head c = (
  c.unfold.result.0,
  subst (λ (l : ProgramLists). type_node l c.unfold.result.0 ≡ Some c.node-head.result.now)
      c.program-program.ensures.program c.node-head.ensures,
)

pub goes_on-requires-clause-goes : goal.goes_on-requires-clause-goes
goes_on-requires-clause-goes c =
    let told = c.args.told.now in
    let there = subst (λ (l : ProgramLists). type_node l c.unfold.result.0 ≡ Some c.node-head.result.now)
    c.program-program.ensures.program c.node-head.ensures in
    subst (λ (o : Option TypeId). IfSome o (IsTypeIn told)) (sym c.goes_of.ensures)
    (goes-in c.program-program.ensures.accepted.is_program c.unfold.result.0 c.node-head.result.now there
    c.args.message.now.payload)

pub returns-in-None-clause-tells : goal.returns-in-None-clause-tells
returns-in-None-clause-tells c = untyped-name c.args.told.now c.args.message.now c.in-None.ensures

pub returns-then-not-branch-clause-tells : goal.returns-then-not-branch-clause-tells
returns-then-not-branch-clause-tells c =
    let told = c.args.told.now in
    let m = c.args.message.now in
    let lists = program_of told in
    let u = c.unfold.result.0 in
    let head = c.node-head.result.now in
    let there = subst (λ (l : ProgramLists). type_node l u ≡ Some head) c.program-program.ensures.program
    c.node-head.ensures in
    let leads = subst (λ (l : ProgramLists). IsUnfolding l c.in-Some.own.0 u) c.program-program.ensures.program
    c.unfold.ensures.unfolds in
    let unfolds = head-unfolds c.in-Some.own.0 u head leads there in
    let exact = message-exact told m c.in-Some.own head c.in-Some.ensures.0 unfolds in
    let none = subst (λ (b : Bool). Tells (amounts_in told) c.args.equalities.now.amounts
    c.payload_fits.new.equalities.amounts
    (PayloadFits told m.to_client head m.payload m.purse) b) c.if-not-branch.true
    c.in_ok-payload_fits.ensures.tells in
    λ typed. none (exact.1 typed).0

pub returns-clause-tells : goal.returns-clause-tells
returns-clause-tells c =
    let told = c.args.told.now in
    let m = c.args.message.now in
    let x = amounts_in told in
    let lists = program_of told in
    let u = c.unfold.result.0 in
    let head = c.node-head.result.now in
    let old = c.args.equalities.now in
    let mid = c.payload_fits.new.equalities in
    let new = c.goes_on.new.equalities in
    let there = subst (λ (l : ProgramLists). type_node l u ≡ Some head) c.program-program.ensures.program
    c.node-head.ensures in
    let leads = subst (λ (l : ProgramLists). IsUnfolding l c.in-Some.own.0 u) c.program-program.ensures.program
    c.unfold.ensures.unfolds in
    let unfolds = head-unfolds c.in-Some.own.0 u head leads there in
    let exact = message-exact told m c.in-Some.own head c.in-Some.ensures.0 unfolds in
    let first = subst (λ (b : Bool). Tells x old.amounts mid.amounts (PayloadFits told m.to_client head m.payload
    m.purse) b)
    c.if-not-branch.false c.in_ok-payload_fits.ensures.tells in
    let Goes : Option TypeId → Bool → Type 0 = λ o yes. Tells x mid.amounts new.amounts (GoesOn told m.next o) yes in
    let tells : IfOk c.goes_on.result (Goes (goes_of head m.payload)) =
    subst (λ (o : Option TypeId). IfOk c.goes_on.result (Goes o)) c.goes_of.ensures c.goes_on.ensures.tells in
    IfOk-weaker c.goes_on.result (Goes (goes_of head m.payload))
    (λ (yes : Bool). Tells x old.amounts new.amounts (MessageTyped (acceptance_of told) told.types.now m) yes)
    (λ (yes : Bool) (second : Goes (goes_of head m.payload) yes). tells-same x old.amounts new.amounts yes exact
    (tells-through x old.amounts mid.amounts new.amounts
    (PayloadFits told m.to_client head m.payload m.purse) (GoesOn told m.next (goes_of head m.payload)) yes first
    second)) tells
