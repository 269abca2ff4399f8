-- A message brings what is asked for exactly where its payload fits, and goes on as the node does.
use Rattle.std.proofs.Common.{◌≡◌, ◌↔◌, ℕ, Bool, true, false, List, Option, Some, None, IsSome, refl, subst, sym, arith}
use Rattle.nomos_ir.proofs.UnfoldLaws.{Unfolds-unique}
use Rattle.nomos_ir.specs.Unfold.{Unfolds}
use Rattle.nomos_ir.specs.declared.ids.Label.{Label}
use Rattle.nomos_ir.specs.declared.ids.TypeId.{TypeId}
use Rattle.nomos_ir.specs.declared.type_node.Branch.{Branch}
use Rattle.nomos_ir.specs.declared.type_node.TypeNode.{TypeNode}
use Rattle.nomos_ir.specs.declared.type_node.TypeNode.TheVariants as node
use Rattle.nomos_types.specs.Branches.{goes_by}
use Rattle.nomos_types.specs.Unfolding.{IsUnfolding}
use Rattle.nomos_ir.specs.Nodes.{type_node}
use Rattle.nomos_ir.specs.declared.lists.ProgramLists.{ProgramLists}
use Rattle.nomos_machine.specs.State.{type_of}
use Rattle.nomos_machine.specs.TypedMessage.{Brings, GoesOnAt, MessageTyped}
use Rattle.nomos_machine.specs.TypedMessage as bringing
use Rattle.nomos_machine.specs.declared.object.Message.{Message}
use Rattle.nomos_machine.specs.declared.object.Payload.{Payload}
use Rattle.nomos_machine.specs.declared.object.Payload.TheVariants as payload
use Rattle.nomos_typed.proofs.HeadLemmas.{unfolds-below}
use Rattle.nomos_typed.specs.declared.told.Told.{Told}
use Rattle.nomos_typed.specs.mirror.MessageHeads.{PayloadFits, goes_of}
use Rattle.nomos_typed.specs.mirror.ComparedWith.{GoesOn, FindsType, acceptance_of, program_of, amounts_in}

some-from : {X : Type 0} {x : X} → (o : Option X) → o ≡ Some x → IsSome o
some-from (Some y) is = refl
some-from None is = absurd cc

from-some : {X : Type 0} → (o : Option X) → IsSome o → (x : X) × (o ≡ Some x)
from-some (Some x) some = (x, refl)
from-some None some = absurd cc

-- what stands behind the names of a type is what it unfolds to
pub head-unfolds : {lists : ProgramLists} (t u : ℕ) (head : TypeNode) → IsUnfolding lists t u
    → type_node lists u ≡ Some head → Unfolds lists t head
head-unfolds {lists} t u head leads there =
    let other = leads.there in
    let same : leads.node ≡ head = cc in
    subst (λ (n : TypeNode). Unfolds lists t n) same leads.unfolds

module _ (told : Told) where
  abbrev BringsIn : Bool → TypeNode → Payload → ℕ → Option TypeId → Type 0
  BringsIn c n p gas goes = Brings (program_of told) (amounts_in told) told.types.now c n p gas goes

  -- what is brought fits, and the talk goes on as the node does
  brings-fits : {c : Bool} {n : TypeNode} {p : Payload} {gas : ℕ} {goes : Option TypeId} → BringsIn c n p gas goes
      → PayloadFits told c n p gas × (goes ≡ goes_of n p)
  brings-fits (bringing.own_label branches l t is) = ((refl, (refl, some-from (goes_by branches l) is)), sym is)
  brings-fits (bringing.other_label branches l t is) = ((refl, (refl, some-from (goes_by branches l) is)), sym is)
  brings-fits (bringing.own_channel sent t name fits) = ((refl, fits), refl)
  brings-fits (bringing.other_channel sent t name fits) = ((refl, fits), refl)
  brings-fits (bringing.own_value kind t v has) = ((refl, has), refl)
  brings-fits (bringing.other_value kind t v has) = ((refl, has), refl)
  brings-fits (bringing.own_potential r t) = (refl, refl)
  brings-fits (bringing.other_potential r t) = (refl, refl)
  brings-fits bringing.end = ((refl, refl), refl)

  -- with no gas
  unpaid : {c : Bool} {n : TypeNode} {p : Payload} {gas : ℕ} {goes : Option TypeId} → gas ≡ 0 → BringsIn c n p 0 goes
      → BringsIn c n p gas goes
  unpaid {c} {n} {p} {goes = goes} none brings = subst (λ (g : ℕ). BringsIn c n p g goes) (sym none) brings

  own-label : (bs : List Branch) (l : Label) → IsSome (goes_by bs l)
      → BringsIn true (node.Plus bs) (payload.Label l) 0 (goes_by bs l)
  own-label bs l some =
      let (t, is) = from-some (goes_by bs l) some in
      subst (λ (o : Option TypeId). BringsIn true (node.Plus bs) (payload.Label l) 0 o) (sym is)
      (bringing.own_label bs l t is)

  other-label : (bs : List Branch) (l : Label) → IsSome (goes_by bs l)
      → BringsIn false (node.With bs) (payload.Label l) 0 (goes_by bs l)
  other-label bs l some =
      let (t, is) = from-some (goes_by bs l) some in
      subst (λ (o : Option TypeId). BringsIn false (node.With bs) (payload.Label l) 0 o) (sym is)
      (bringing.other_label bs l t is)

  -- what fits is brought
  fits-brings : (c : Bool) (n : TypeNode) (p : Payload) (gas : ℕ) → PayloadFits told c n p gas
      → BringsIn c n p gas (goes_of n p)
  fits-brings true (node.Plus bs) (payload.Label l) gas fits = unpaid fits.0 (own-label bs l fits.1.1)
  fits-brings false (node.Plus bs) (payload.Label l) gas fits = let no = fits.1.0 in absurd cc
  fits-brings false (node.With bs) (payload.Label l) gas fits = unpaid fits.0 (other-label bs l fits.1.1)
  fits-brings true (node.With bs) (payload.Label l) gas fits = let no = fits.1.0 in absurd cc
  fits-brings true (node.Tensor sent t) (payload.Channel name) gas fits =
      unpaid fits.0 (bringing.own_channel sent t name fits.1)
  fits-brings false (node.Tensor sent t) (payload.Channel name) gas fits = absurd fits.1
  fits-brings false (node.Lolli sent t) (payload.Channel name) gas fits =
      unpaid fits.0 (bringing.other_channel sent t name fits.1)
  fits-brings true (node.Lolli sent t) (payload.Channel name) gas fits = absurd fits.1
  fits-brings true (node.ValueOut kind t) (payload.Value v) gas fits =
      unpaid fits.0 (bringing.own_value kind t v fits.1)
  fits-brings false (node.ValueOut kind t) (payload.Value v) gas fits = absurd fits.1
  fits-brings false (node.ValueIn kind t) (payload.Value v) gas fits =
      unpaid fits.0 (bringing.other_value kind t v fits.1)
  fits-brings true (node.ValueIn kind t) (payload.Value v) gas fits = absurd fits.1
  fits-brings true (node.PotOut r t) payload.Pay gas fits =
      subst (λ (g : ℕ). BringsIn true (node.PotOut r t) payload.Pay g (Some t)) (sym fits) (bringing.own_potential r t)
  fits-brings false (node.PotOut r t) payload.Pay gas fits = absurd fits
  fits-brings false (node.PotIn r t) payload.Pay gas fits =
      subst (λ (g : ℕ). BringsIn false (node.PotIn r t) payload.Pay g (Some t)) (sym fits)
      (bringing.other_potential r t)
  fits-brings true (node.PotIn r t) payload.Pay gas fits = absurd fits
  fits-brings true node.One payload.Close gas fits = unpaid fits.0 bringing.end
  fits-brings false node.One payload.Close gas fits = let no = fits.1 in absurd cc
  fits-brings c n (payload.Label l) gas fits = absurd fits.1
  fits-brings c n (payload.Channel name) gas fits = absurd fits.1
  fits-brings c n (payload.Value v) gas fits = absurd fits.1
  fits-brings c n payload.Pay gas fits = absurd fits
  fits-brings c n payload.Close gas fits = absurd fits.1

  -- a message is typed exactly where its payload fits and its talk goes on
  module _ (m : Message) (own : TypeId) (head : TypeNode) (found : type_of told.types.now m.from ≡ Some own)
      (unfolds : Unfolds (program_of told) own.0 head) where
    abbrev FitsMessage : Type 0
    FitsMessage =
        PayloadFits told m.to_client head m.payload m.purse × GoesOn told m.next (goes_of head m.payload)

    typed-fits : MessageTyped (acceptance_of told) told.types.now m → FitsMessage
    typed-fits typed =
        let same : typed.own ≡ own = let there = typed.found in cc in
        let at : Unfolds (program_of told) own.0 typed.head =
        subst (λ (t : TypeId). Unfolds (program_of told) t.0 typed.head) same typed.unfolds in
        let one : typed.head ≡ head = Unfolds-unique (program_of told) own.0 typed.head head at unfolds in
        let brings : BringsIn m.to_client head m.payload m.purse typed.goes =
        subst (λ (n : TypeNode). BringsIn m.to_client n m.payload m.purse typed.goes) one typed.brings in
        let fits = brings-fits brings in
        (fits.0, subst (λ (o : Option TypeId). GoesOn told m.next o) fits.1 typed.next)

    fits-typed : FitsMessage → MessageTyped (acceptance_of told) told.types.now m
    fits-typed fits = record {
      own = own;
      found = found;
      head = head;
      unfolds = unfolds;
      goes = goes_of head m.payload;
      brings = fits-brings m.to_client head m.payload m.purse fits.0;
      next = fits.1;
    }

    pub message-exact : FitsMessage ↔ MessageTyped (acceptance_of told) told.types.now m
    message-exact = (fits-typed, typed-fits)

  -- where the name has no type of the program, the message is not typed
  pub untyped-name : (m : Message) → FindsType told m.from None
      → MessageTyped (acceptance_of told) told.types.now m → ⊥
  untyped-name m none typed =
      let inside = unfolds-below (program_of told) typed.own.0 typed.head typed.unfolds in
      let over = none typed.own typed.found in
      absurd (omega (arith, inside, over))
