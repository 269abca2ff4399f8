-- What is decided of an instruction is decided of the same one.
use Rattle.std.proofs.Common.{◌≡◌, ℕ, List, Option, sym, subst}
use Rattle.nomos_ir.specs.Value.{Value}
use Rattle.nomos_ir.specs.declared.code_node.CodeNode.{CodeNode}
use Rattle.nomos_types.specs.Acceptance.{Acceptance}
use Rattle.nomos_machine.specs.State.{State}
use Rattle.nomos_deeds.specs.Acts.{DecidesWith}
use Rattle.nomos_deeds.specs.declared.act.Doing.{Doing}

pub decided : (a : Acceptance) (s : State) (pid : ℕ) (vs : List Value) (answer : Option Doing) {n m : CodeNode}
    → n ≡ m → DecidesWith a s pid vs m answer → DecidesWith a s pid vs n answer
decided a s pid vs answer same is = subst (λ (e : CodeNode). DecidesWith a s pid vs e answer) (sym same) is
