-- What is alike in the parts of two nodes of the same head, by the side from which a process sees its channel.
use Rattle.std.proofs.Common.{◌≡◌, List, Option, Some, refl, subst}
use Rattle.nomos_ir.specs.declared.amount.Amount.{Amount}
use Rattle.nomos_ir.specs.declared.code_node.Chan.{Chan}
use Rattle.nomos_ir.specs.declared.code_node.Chan.TheVariants as chan
use Rattle.nomos_ir.specs.declared.ids.TypeId.{TypeId}
use Rattle.nomos_ir.specs.declared.kind.Kind.{Kind}
use Rattle.nomos_ir.specs.declared.type_node.Branch.{Branch}
use Rattle.nomos_ir.specs.declared.type_node.TypeNode.TheVariants as node
use Rattle.nomos_types.specs.Amount.{Annotations}
use Rattle.nomos_types.specs.Equality.{BothOrNeither, both, neither, SameBranches, SameHead, plus, with, tensor, lolli, value_out, value_in, pot_out, pot_in, up, down}
use Rattle.nomos_types.specs.Premises.{by_side}

-- what is there on both sides is related
pub both-there : {X : Type 0} {R : X → X → Type 0} {o p : Option X} → (a b : X) → BothOrNeither R o p → o ≡ Some a
    → p ≡ Some b → R a b
both-there {X} {R} a b (both c d related) left right =
    let first : c ≡ a = cc in
    let second : d ≡ b = cc in
    subst (λ (e : X). R e b) first (subst (λ (e : X). R c e) second related)
both-there a b neither left right = absurd cc

module _ {x : Annotations} {R : TypeId → TypeId → Type 0} where
  -- a choice that is made has related branches
  pub sent-branches : (c : Chan) (bs cs : List Branch)
      → SameHead x R (by_side c (node.Plus bs) (node.With bs)) (by_side c (node.Plus cs) (node.With cs))
      → SameBranches R bs cs
  sent-branches chan.Own bs cs (plus _ _ same) = same
  sent-branches (chan.Var v) bs cs (with _ _ same) = same

  -- so has one that is awaited
  pub awaited-branches : (c : Chan) (bs cs : List Branch)
      → SameHead x R (by_side c (node.With bs) (node.Plus bs)) (by_side c (node.With cs) (node.Plus cs))
      → SameBranches R bs cs
  awaited-branches chan.Own bs cs (with _ _ same) = same
  awaited-branches (chan.Var v) bs cs (plus _ _ same) = same

  -- what is sent over a channel, and how the channel goes on
  pub sent-parts : (c : Chan) (a b d e : TypeId)
      → SameHead x R (by_side c (node.Tensor a b) (node.Lolli a b)) (by_side c (node.Tensor d e) (node.Lolli d e))
      → R a d × R b e
  sent-parts chan.Own a b d e (tensor _ _ _ _ carried rest) = (carried, rest)
  sent-parts (chan.Var v) a b d e (lolli _ _ _ _ carried rest) = (carried, rest)

  -- what is received over a channel, and how the channel goes on
  pub received-parts : (c : Chan) (a b d e : TypeId)
      → SameHead x R (by_side c (node.Lolli a b) (node.Tensor a b)) (by_side c (node.Lolli d e) (node.Tensor d e))
      → R a d × R b e
  received-parts chan.Own a b d e (lolli _ _ _ _ carried rest) = (carried, rest)
  received-parts (chan.Var v) a b d e (tensor _ _ _ _ carried rest) = (carried, rest)

  -- the kind of a value that is sent, and how the channel goes on
  pub sent-value : (c : Chan) (k l : Kind) (a b : TypeId)
      → SameHead x R (by_side c (node.ValueOut k a) (node.ValueIn k a))
      (by_side c (node.ValueOut l b) (node.ValueIn l b)) → (k ≡ l) × R a b
  sent-value chan.Own k l a b (value_out _ _ _ rest) = (refl, rest)
  sent-value (chan.Var v) k l a b (value_in _ _ _ rest) = (refl, rest)

  -- the kind of a value that is received, and how the channel goes on
  pub received-value : (c : Chan) (k l : Kind) (a b : TypeId)
      → SameHead x R (by_side c (node.ValueIn k a) (node.ValueOut k a))
      (by_side c (node.ValueIn l b) (node.ValueOut l b)) → (k ≡ l) × R a b
  received-value chan.Own k l a b (value_in _ _ _ rest) = (refl, rest)
  received-value (chan.Var v) k l a b (value_out _ _ _ rest) = (refl, rest)

  -- how a channel goes on after potential was paid, or got
  pub paid-rest : (c : Chan) (q r : Amount) (a b : TypeId)
      → SameHead x R (by_side c (node.PotOut q a) (node.PotIn q a)) (by_side c (node.PotOut r b) (node.PotIn r b))
      → R a b
  paid-rest chan.Own q r a b (pot_out _ _ _ _ same rest) = rest
  paid-rest (chan.Var v) q r a b (pot_in _ _ _ _ same rest) = rest

  pub got-rest : (c : Chan) (q r : Amount) (a b : TypeId)
      → SameHead x R (by_side c (node.PotIn q a) (node.PotOut q a)) (by_side c (node.PotIn r b) (node.PotOut r b))
      → R a b
  got-rest chan.Own q r a b (pot_in _ _ _ _ same rest) = rest
  got-rest (chan.Var v) q r a b (pot_out _ _ _ _ same rest) = rest

  -- what is behind an `up`, and behind a `down`
  pub up-rest : (a b : TypeId) → SameHead x R (node.Up a) (node.Up b) → R a b
  up-rest a b (up _ _ rest) = rest

  pub down-rest : (a b : TypeId) → SameHead x R (node.Down a) (node.Down b) → R a b
  down-rest a b (down _ _ rest) = rest
