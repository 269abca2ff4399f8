-- When all shared types of a program are synchronizing: where they are so with amounts ignored, and the amounts that
-- stand at equal paths of each and of the types behind its `down`s are worth the same.
use Rattle.std.proofs.Common.{◌≡◌, ◌↔◌, Some}
use Rattle.nomos_ir.specs.declared.amount.Amount.{Amount}
use Rattle.nomos_ir.specs.declared.ids.TypeId.{TypeId}
use Rattle.nomos_ir.specs.declared.lists.ProgramLists.{ProgramLists}
use Rattle.nomos_ir.specs.declared.type_node.TypeNode.TheVariants as node
use Rattle.nomos_ir.specs.Nodes.{type_node}
use Rattle.nomos_equality.proofs.PathLaws.{equal-worth, equal-from_worth}
use Rattle.nomos_equality.specs.Continuing.{StandAtDown}
use Rattle.nomos_types.proofs.EqualityLaws.{equal-shapes}
use Rattle.nomos_types.specs.Amount.{Annotations, dths}
use Rattle.nomos_types.specs.Equality.{no_amounts}
use Rattle.nomos_types.specs.Synchronizing.{IsSynchronizing}

-- the amounts that lead each shared type back are worth the same
abbrev pub LeadBackAlike : ProgramLists → Annotations → Type 0
LeadBackAlike lists x =
    (shared body : TypeId) (pair : Amount × Amount) → type_node lists shared.0 ≡ Some (node.Up body)
    → StandAtDown lists body shared pair → dths x pair.0 ≡ dths x pair.1

-- a synchronizing program is so where amounts are ignored
pub synchronizing-shapes : (lists : ProgramLists) (x : Annotations) → IsSynchronizing lists x
    → IsSynchronizing lists no_amounts
synchronizing-shapes lists x is t a up at behind reached unfolds =
    equal-shapes lists x behind t (is t a up at behind reached unfolds)

-- the law
pub synchronizing-exact : (lists : ProgramLists) (x : Annotations)
    → IsSynchronizing lists x ↔ (IsSynchronizing lists no_amounts × LeadBackAlike lists x)
synchronizing-exact lists x = (
  λ is. (
    synchronizing-shapes lists x is,
    λ shared body pair up stands. equal-worth lists x stands.behind shared pair
        (is shared body up stands.at stands.behind stands.reached stands.unfolds) stands.stand,
  ),
  λ given.
      λ t a up at behind reached unfolds.
      equal-from_worth lists x behind t (given.0 t a up at behind reached unfolds)
      (λ pair stand. given.1 t a pair up
      (record { at = at; behind = behind; reached = reached; unfolds = unfolds; stand = stand })),
)
