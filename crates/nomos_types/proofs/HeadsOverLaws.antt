-- What a node is like that has the same head as a node of a known form, by the side from which a process sees its
-- channel.
use Rattle.std.proofs.Common.{◌≡◌, List, Option, Some, refl, subst}
use Rattle.nomos_ir.specs.declared.amount.Amount.{Amount}
use Rattle.nomos_ir.specs.declared.code_node.Chan.{Chan}
use Rattle.nomos_ir.specs.declared.code_node.Chan.TheVariants as chan
use Rattle.nomos_ir.specs.declared.ids.TypeId.{TypeId}
use Rattle.nomos_ir.specs.declared.kind.Kind.{Kind}
use Rattle.nomos_ir.specs.declared.type_node.Branch.{Branch}
use Rattle.nomos_ir.specs.declared.type_node.TypeNode.{TypeNode}
use Rattle.nomos_ir.specs.declared.type_node.TypeNode.TheVariants as node
use Rattle.nomos_types.specs.Amount.{Annotations, dths}
use Rattle.nomos_types.specs.Equality.{BothOrNeither, both, neither, SameBranches, SameHead, one, plus, with, tensor, lolli, value_out, value_in, pot_out, pot_in, up, down}
use Rattle.nomos_types.specs.Premises.{by_side}

-- what is there on the right side is there on the left one, and related
pub both-over : {X : Type 0} {R : X → X → Type 0} {o p : Option X} → (b : X) → BothOrNeither R o p → p ≡ Some b
    → (a : X) × (o ≡ Some a) × R a b
both-over {X} {R} b (both c d related) right =
    let same : d ≡ b = cc in
    (c, refl, subst (λ (e : X). R c e) same related)
both-over b neither right = absurd cc

-- what is there on the left side is there on the right one, and related
pub both-under : {X : Type 0} {R : X → X → Type 0} {o p : Option X} → (a : X) → BothOrNeither R o p → o ≡ Some a
    → (b : X) × (p ≡ Some b) × R a b
both-under {X} {R} a (both c d related) left =
    let same : c ≡ a = cc in
    (d, refl, subst (λ (e : X). R e d) same related)
both-under a neither left = absurd cc

module _ {x : Annotations} {R : TypeId → TypeId → Type 0} where
  -- a choice that is made, and one that is awaited
  pub sent-choice : (c : Chan) (p : TypeNode) (cs : List Branch)
      → SameHead x R p (by_side c (node.Plus cs) (node.With cs)) → (bs : List Branch)
      × (p ≡ by_side c (node.Plus bs) (node.With bs)) × SameBranches R bs cs
  sent-choice chan.Own _ cs (plus bs _ same) = (bs, refl, same)
  sent-choice (chan.Var v) _ cs (with bs _ same) = (bs, refl, same)

  pub awaited-choice : (c : Chan) (p : TypeNode) (cs : List Branch)
      → SameHead x R p (by_side c (node.With cs) (node.Plus cs)) → (bs : List Branch)
      × (p ≡ by_side c (node.With bs) (node.Plus bs)) × SameBranches R bs cs
  awaited-choice chan.Own _ cs (with bs _ same) = (bs, refl, same)
  awaited-choice (chan.Var v) _ cs (plus bs _ same) = (bs, refl, same)

  -- a channel that is sent, and one that is received
  pub sent-channel : (c : Chan) (p : TypeNode) (d e : TypeId)
      → SameHead x R p (by_side c (node.Tensor d e) (node.Lolli d e)) → (a : TypeId) × (b : TypeId)
      × (p ≡ by_side c (node.Tensor a b) (node.Lolli a b)) × R a d × R b e
  sent-channel chan.Own _ d e (tensor a b _ _ carried rest) = (a, b, refl, carried, rest)
  sent-channel (chan.Var v) _ d e (lolli a b _ _ carried rest) = (a, b, refl, carried, rest)

  pub received-channel : (c : Chan) (p : TypeNode) (d e : TypeId)
      → SameHead x R p (by_side c (node.Lolli d e) (node.Tensor d e)) → (a : TypeId) × (b : TypeId)
      × (p ≡ by_side c (node.Lolli a b) (node.Tensor a b)) × R a d × R b e
  received-channel chan.Own _ d e (lolli a b _ _ carried rest) = (a, b, refl, carried, rest)
  received-channel (chan.Var v) _ d e (tensor a b _ _ carried rest) = (a, b, refl, carried, rest)

  -- a value that is sent, and one that is received
  pub sent-of_kind : (c : Chan) (p : TypeNode) (kind : Kind) (b : TypeId)
      → SameHead x R p (by_side c (node.ValueOut kind b) (node.ValueIn kind b)) → (a : TypeId)
      × (p ≡ by_side c (node.ValueOut kind a) (node.ValueIn kind a)) × R a b
  sent-of_kind chan.Own _ kind b (value_out _ a _ rest) = (a, refl, rest)
  sent-of_kind (chan.Var v) _ kind b (value_in _ a _ rest) = (a, refl, rest)

  pub received-of_kind : (c : Chan) (p : TypeNode) (kind : Kind) (b : TypeId)
      → SameHead x R p (by_side c (node.ValueIn kind b) (node.ValueOut kind b)) → (a : TypeId)
      × (p ≡ by_side c (node.ValueIn kind a) (node.ValueOut kind a)) × R a b
  received-of_kind chan.Own _ kind b (value_in _ a _ rest) = (a, refl, rest)
  received-of_kind (chan.Var v) _ kind b (value_out _ a _ rest) = (a, refl, rest)

  -- potential that is paid, and such that is got
  pub paid-amount : (c : Chan) (p : TypeNode) (r : Amount) (b : TypeId)
      → SameHead x R p (by_side c (node.PotOut r b) (node.PotIn r b)) → (q : Amount) × (a : TypeId)
      × (p ≡ by_side c (node.PotOut q a) (node.PotIn q a)) × (dths x q ≡ dths x r) × R a b
  paid-amount chan.Own _ r b (pot_out q _ a _ same rest) = (q, a, refl, same, rest)
  paid-amount (chan.Var v) _ r b (pot_in q _ a _ same rest) = (q, a, refl, same, rest)

  pub got-amount : (c : Chan) (p : TypeNode) (r : Amount) (b : TypeId)
      → SameHead x R p (by_side c (node.PotIn r b) (node.PotOut r b)) → (q : Amount) × (a : TypeId)
      × (p ≡ by_side c (node.PotIn q a) (node.PotOut q a)) × (dths x q ≡ dths x r) × R a b
  got-amount chan.Own _ r b (pot_in q _ a _ same rest) = (q, a, refl, same, rest)
  got-amount (chan.Var v) _ r b (pot_out q _ a _ same rest) = (q, a, refl, same, rest)

  -- the end of a session
  pub closed-node : (p : TypeNode) → SameHead x R p node.One → p ≡ node.One
  closed-node _ one = refl

  -- a shared contract, and the end of a critical section
  pub shared-node : (p : TypeNode) (b : TypeId) → SameHead x R p (node.Up b) → (a : TypeId) × (p ≡ node.Up a) × R a b
  shared-node _ b (up a _ rest) = (a, refl, rest)

  pub ended-node : (p : TypeNode) (b : TypeId) → SameHead x R p (node.Down b) → (a : TypeId) × (p ≡ node.Down a) × R a b
  ended-node _ b (down a _ rest) = (a, refl, rest)
