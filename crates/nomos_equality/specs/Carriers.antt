-- Types on whose talks no channel is sent, so that an outside party can speak them.
use Rattle.nomos_ir.specs.Unfold.{Unfolds}
use Rattle.nomos_ir.specs.declared.ids.TypeId.{TypeId}
use Rattle.nomos_ir.specs.declared.lists.ProgramLists.{ProgramLists}
use Rattle.nomos_ir.specs.declared.type_node.TypeNode.{TypeNode}
use Rattle.nomos_ir.specs.declared.type_node.TypeNode.TheVariants as node
use Rattle.nomos_types.specs.Synchronizing.{Reaches}

-- a channel is sent at the node
abbrev pub IsCarrier : TypeNode → Type 0
IsCarrier (node.Tensor a b) = Unit {0}
IsCarrier (node.Lolli a b) = Unit {0}
IsCarrier _ = ⊥

-- A path of continuations leads from the type to one at which a channel is sent. It crosses no `up` and no `down`.
pub record CarriesChannel (lists : ProgramLists) (from : TypeId) : Type 0 where
  pub at : TypeId
  pub reached : Reaches lists from at
  pub head : TypeNode
  pub unfolds : Unfolds lists at.0 head
  pub carrier : IsCarrier head

-- none does
abbrev pub CarriesNothing : ProgramLists → TypeId → Type 0
CarriesNothing lists from = ¬ (CarriesChannel lists from)
