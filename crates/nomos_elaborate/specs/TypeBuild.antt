-- The type nodes of a type: parts before wholes, in order of text.
use Rattle.std.specs.Prelude.{ℕ, List, [], ◌∷◌}
use Rattle.nomos_elaborate.specs.Built.{Built, with_label, label_id, put_type, amount_of, kind_of}
use Rattle.nomos_elaborate.specs.Names.{Names, number_of}
use Rattle.nomos_ir.specs.declared.amount.Amount.{Amount}
use Rattle.nomos_ir.specs.declared.ids.Label.{Label}
use Rattle.nomos_ir.specs.declared.ids.TypeId.{TypeId}
use Rattle.nomos_ir.specs.declared.kind.Kind.{Kind}
use Rattle.nomos_ir.specs.declared.type_node.Branch.{Branch}
use Rattle.nomos_ir.specs.declared.type_node.TypeNode.{TypeNode}
use Rattle.nomos_ir.specs.declared.type_node.TypeNode.TheVariants as node
use Rattle.nomos_surface.specs.declared.types.Sender.{Sender}
use Rattle.nomos_surface.specs.declared.types.Sender.TheVariants as side
use Rattle.nomos_surface.specs.Tree.{TypeTree, one, named, choice, channel, valued, paying, going_up, going_down, grouped, BranchTrees, no_branches, branch}

-- the nodes of the forms that have two sides
abbrev pub choice_node : Sender → List Branch → TypeNode
choice_node side.Provider branches = node.Plus branches
choice_node side.Client branches = node.With branches

-- A channel that the provider sends gives the tensor, and one that the client sends the linear implication.
abbrev pub channel_node : Sender → TypeId → TypeId → TypeNode
channel_node side.Provider carried goes = node.Tensor carried goes
channel_node side.Client carried goes = node.Lolli carried goes

-- A value that the provider sends is output, and one that the client sends is input, before the type goes on.
abbrev pub value_node : Sender → Kind → TypeId → TypeNode
value_node side.Provider kind goes = node.ValueOut kind goes
value_node side.Client kind goes = node.ValueIn kind goes

-- Potential that the provider pays goes out with the type, and potential that the client pays comes in.
abbrev pub paying_node : Sender → Amount → TypeId → TypeNode
paying_node side.Provider amount goes = node.PotOut amount goes
paying_node side.Client amount goes = node.PotIn amount goes

-- a node whose last part was built
abbrev pub put_over : Built × TypeId → (TypeId → TypeNode) → ℕ → Built × TypeId
put_over part whole at = put_type part.0 (whole part.1) at

-- one more branch at the front
abbrev pub with_branch : Label → TypeId → Built × List Branch → Built × List Branch
with_branch l goes built = (built.0, record { label = l; goes = goes } ∷ built.1)

unfoldable mutual
  pub build_type : Names → Built → TypeTree → Built × TypeId
  build_type types s (one at) = put_type s node.One at
  build_type types s (named n) = put_type s (node.Named (record { 0 = number_of types n.name })) n.at
  build_type types s (choice sender at branches) =
      let built = build_branches types s branches in
      put_type built.0 (choice_node sender built.1) at
  build_type types s (channel sender at carried goes) =
      let built = build_type types s carried in
      put_over (build_type types built.0 goes) (channel_node sender built.1) at
  build_type types s (valued sender at value goes) =
      put_over (build_type types s goes) (value_node sender (kind_of value)) at
  build_type types s (paying sender at potential goes) =
      let paid = amount_of s potential in
      put_over (build_type types paid.0 goes) (paying_node sender paid.1) at
  build_type types s (going_up at goes) = put_over (build_type types s goes) node.Up at
  build_type types s (going_down at goes) = put_over (build_type types s goes) node.Down at
  build_type types s (grouped inner) = build_type types s inner

  pub build_branches : Names → Built → BranchTrees → Built × List Branch
  build_branches types s no_branches = (s, [])
  build_branches types s (branch l goes branches) =
      let seen = with_label s l in
      let built = build_type types seen goes in
      with_branch (label_id seen l) built.1 (build_branches types built.0 branches)
