-- The labels of each choice of a type differ.
use Rattle.std.proofs.Common.{◌≡◌, Bool, true, false, not, List, [], ◌∷◌, ◌++◌, map, refl, sym, ◌∙◌}
use Rattle.nomos_elaborate.proofs.NameClaimLaws.{AllHold, first_holds, rest_hold, left_hold, right_hold}
use Rattle.nomos_elaborate.proofs.DistinctNameLaws.{AreNew, new-differ, none_differ, Numbered, none, Numbered-seen, Numbered-differ}
use Rattle.nomos_elaborate.proofs.KeptLabelLaws.{KeepsLabels, keeps-none, keeps-then, keeps-same, keeps-label, keeps-put_type, amount-labelled}
use Rattle.nomos_elaborate.proofs.NumberLaws.{Grows-then}
use Rattle.nomos_elaborate.specs.Built.{Built, with_label, amount_of, kind_of, quantity_amount}
use Rattle.nomos_elaborate.specs.NameClaim.{NameClaim, new_among}
use Rattle.nomos_elaborate.specs.Names.{Names, is_among, seen, number_of}
use Rattle.nomos_elaborate.specs.TypeBuild.{choice_node, channel_node, value_node, paying_node, build_type, build_branches}
use Rattle.nomos_elaborate.specs.TypeClaims.{type_claims, branch_claims}
use Rattle.nomos_ir.specs.Naming.{AllDiffer}
use Rattle.nomos_ir.specs.TypeParts.{type_labels}
use Rattle.nomos_ir.specs.declared.amount.Amount.{Amount}
use Rattle.nomos_ir.specs.declared.ids.TypeId.{TypeId}
use Rattle.nomos_ir.specs.declared.kind.Kind.{Kind}
use Rattle.nomos_ir.specs.declared.type_node.Branch.{Branch}
use Rattle.nomos_ir.specs.declared.type_node.TypeNode.TheVariants as node
use Rattle.nomos_surface.specs.declared.name_at.NameAt.{NameAt}
use Rattle.nomos_surface.specs.declared.potential.Quantity.{Quantity}
use Rattle.nomos_surface.specs.declared.potential.Quantity.TheVariants as quantity
use Rattle.nomos_surface.specs.declared.types.Sender.{Sender}
use Rattle.nomos_surface.specs.declared.types.Sender.TheVariants as side
use Rattle.nomos_surface.specs.Tree.{TypeTree, one, named, choice, channel, valued, paying, going_up, going_down, grouped, BranchTrees, no_branches, branch}

-- a new name is not among those before
pub new_is_out : (before : Names) (n : NameAt) (more : List NameClaim) → AllHold (new_among before n ∷ more)
    → is_among before n.name ≡ false
new_is_out before n more h = by (is_among before n.name) (first_holds (new_among before n) more h)
  where
    by : (b : Bool) → not b ≡ true → b ≡ false
    by true e = sym e
    by false e = refl

-- the labels of a node with two sides are those of its branches, if it has any
choice-differs : (sender : Sender) (branches : List Branch) → AllDiffer (map (λ b. b.label.0) branches)
    → AllDiffer (type_labels (choice_node sender branches))
choice-differs side.Provider branches h = h
choice-differs side.Client branches h = h

channel-differs : (sender : Sender) (carried goes : TypeId) → AllDiffer (type_labels (channel_node sender carried goes))
channel-differs side.Provider carried goes = none_differ
channel-differs side.Client carried goes = none_differ

value-differs : (sender : Sender) (kind : Kind) (goes : TypeId) → AllDiffer (type_labels (value_node sender kind goes))
value-differs side.Provider kind goes = none_differ
value-differs side.Client kind goes = none_differ

paying-differs : (sender : Sender) (paid : Amount) (goes : TypeId)
    → AllDiffer (type_labels (paying_node sender paid goes))
paying-differs side.Provider paid goes = none_differ
paying-differs side.Client paid goes = none_differ

-- the labels of branches, in order of text
abbrev branch_labels : BranchTrees → Names
branch_labels no_branches = []
branch_labels (branch l goes branches) = l.name ∷ branch_labels branches

branches-new : (types before : Names) (branches : BranchTrees) → AllHold (branch_claims types before branches)
    → AreNew before (branch_labels branches)
unfolding branch_claims
branches-new types before no_branches h = tt
branches-new types before (branch l goes branches) h =
    let more = branch_claims types (seen before l.name) branches in
    let first = type_claims types goes in
    let rest = right_hold first more (rest_hold (new_among before l) (first ++ more) h) in
    (new_is_out before l (first ++ more) h, branches-new types (seen before l.name) branches rest)

-- what holds of the claims of the first branch, and of the others
branch-holds : (types before : Names) (l : NameAt) (goes : TypeTree) (branches : BranchTrees)
    → AllHold (branch_claims types before (branch l goes branches))
    → AllHold (type_claims types goes) × AllHold (branch_claims types (seen before l.name) branches)
unfolding branch_claims
branch-holds types before l goes branches h =
    let first = type_claims types goes in
    let more = branch_claims types (seen before l.name) branches in
    let rest = rest_hold (new_among before l) (first ++ more) h in
    (left_hold first more rest, right_hold first more rest)

-- a type leaves the labels as they are, or adds some
mutual
  unfolding build_type build_branches type_claims

  pub type-keeps : (types : Names) (s : Built) (t : TypeTree) → AllHold (type_claims types t)
      → KeepsLabels s (build_type types s t).0
  type-keeps types s (one at) h = keeps-put_type s node.One at none_differ
  type-keeps types s (named n) h =
      keeps-put_type s (node.Named (record { 0 = number_of types n.name })) n.at none_differ
  type-keeps types s (choice sender at branches) h =
      let b = build_branches types s branches in
      let differ = new-differ [] (branch_labels branches) (branches-new types [] branches h) in
      let numbers = Numbered-differ (branches-numbered types [] s branches h) differ in
      keeps-then (branches-keep types [] s branches h)
      (keeps-put_type b.0 (choice_node sender b.1) at (choice-differs sender b.1 numbers))
  type-keeps types s (channel sender at carried goes) h =
      let claims = type_claims types carried in
      let more = type_claims types goes in
      let a = build_type types s carried in
      let b = build_type types a.0 goes in
      let first = type-keeps types s carried (left_hold claims more h) in
      let second = type-keeps types a.0 goes (right_hold claims more h) in
      keeps-then (keeps-then first second)
      (keeps-put_type b.0 (channel_node sender a.1 b.1) at (channel-differs sender a.1 b.1))
  type-keeps types s (valued sender at value goes) h =
      let b = build_type types s goes in
      keeps-then (type-keeps types s goes h)
      (keeps-put_type b.0 (value_node sender (kind_of value) b.1) at (value-differs sender (kind_of value) b.1))
  type-keeps types s (paying sender at potential goes) h =
      let paid = amount_of s potential in
      let b = build_type types paid.0 goes in
      let amount = keeps-same s paid.0 (amount-labelled s potential.quantity) in
      keeps-then (keeps-then amount (type-keeps types paid.0 goes h))
      (keeps-put_type b.0 (paying_node sender paid.1 b.1) at (paying-differs sender paid.1 b.1))
  type-keeps types s (going_up at goes) h =
      let b = build_type types s goes in
      keeps-then (type-keeps types s goes h) (keeps-put_type b.0 (node.Up b.1) at none_differ)
  type-keeps types s (going_down at goes) h =
      let b = build_type types s goes in
      keeps-then (type-keeps types s goes h) (keeps-put_type b.0 (node.Down b.1) at none_differ)
  type-keeps types s (grouped inner) h = type-keeps types s inner h

  branches-keep : (types before : Names) (s : Built) (branches : BranchTrees)
      → AllHold (branch_claims types before branches) → KeepsLabels s (build_branches types s branches).0
  branches-keep types before s no_branches h = keeps-none s
  branches-keep types before s (branch l goes branches) h =
      let hold = branch-holds types before l goes branches h in
      let first = (build_type types (with_label s l) goes).0 in
      keeps-then (keeps-then (keeps-label s l) (type-keeps types (with_label s l) goes hold.0))
      (branches-keep types (seen before l.name) first branches hold.1)

  branches-numbered : (types before : Names) (s : Built) (branches : BranchTrees)
      → AllHold (branch_claims types before branches)
      → (let built = build_branches types s branches in
      Numbered built.0.labels (map (λ b. b.label.0) built.1) (branch_labels branches))
  branches-numbered types before s no_branches h = none
  branches-numbered types before s (branch l goes branches) h =
      let hold = branch-holds types before l goes branches h in
      let first = (build_type types (with_label s l) goes).0 in
      let here = type-keeps types (with_label s l) goes hold.0 in
      let later = branches-keep types (seen before l.name) first branches hold.1 in
      Numbered-seen s.labels l.name (Grows-then here.grows later.grows)
      (branches-numbered types (seen before l.name) first branches hold.1)

-- a type has no variables
pub amount-variables : (s : Built) (q : Quantity) → (quantity_amount s q).0.variables ≡ s.variables
amount-variables s (quantity.Number units) = refl
amount-variables s quantity.Star = refl

mutual
  unfolding build_type build_branches

  pub type-variables : (types : Names) (s : Built) (t : TypeTree) → (build_type types s t).0.variables ≡ s.variables
  type-variables types s (one at) = refl
  type-variables types s (named n) = refl
  type-variables types s (choice sender at branches) = branches-variables types s branches
  type-variables types s (channel sender at carried goes) =
      type-variables types (build_type types s carried).0 goes ∙ type-variables types s carried
  type-variables types s (valued sender at value goes) = type-variables types s goes
  type-variables types s (paying sender at potential goes) =
      type-variables types (amount_of s potential).0 goes ∙ amount-variables s potential.quantity
  type-variables types s (going_up at goes) = type-variables types s goes
  type-variables types s (going_down at goes) = type-variables types s goes
  type-variables types s (grouped inner) = type-variables types s inner

  branches-variables : (types : Names) (s : Built) (branches : BranchTrees)
      → (build_branches types s branches).0.variables ≡ s.variables
  branches-variables types s no_branches = refl
  branches-variables types s (branch l goes branches) =
      branches-variables types (build_type types (with_label s l) goes).0 branches
      ∙ type-variables types (with_label s l) goes
