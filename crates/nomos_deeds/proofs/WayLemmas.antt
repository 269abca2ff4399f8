-- How a talk goes on, as it is worked out.
use Rattle.std.proofs.Common.{◌≡◌, ◌∙◌, ℕ, List, All, Option, Some, None, sym, subst}
use Rattle.std.specs.Prelude.{MatchOption}
use Rattle.nomos_ir.specs.TypeParts.{type_amounts}
use Rattle.nomos_ir.specs.Unfold.{Unfolds, unfolded}
use Rattle.nomos_ir.specs.Value.{Value}
use Rattle.nomos_ir.specs.ValueKind.{ValueHasKind}
use Rattle.nomos_ir.specs.declared.amount.Amount.{Amount}
use Rattle.nomos_ir.specs.declared.ids.Label.{Label}
use Rattle.nomos_ir.specs.declared.ids.TypeId.{TypeId}
use Rattle.nomos_ir.specs.declared.kind.Kind.{Kind}
use Rattle.nomos_ir.specs.declared.type_node.Branch.{Branch}
use Rattle.nomos_ir.specs.declared.type_node.TypeNode.{TypeNode}
use Rattle.nomos_ir.specs.declared.type_node.TypeNode.TheVariants as node
use Rattle.nomos_ir.proofs.UnfoldLaws.{unfolded-unfolds, unfolds-unfolded, Unfolds-unique}
use Rattle.nomos_types.specs.Acceptance.{Acceptance, IsAccepted, IsAmountOf}
use Rattle.nomos_types.specs.Amount.{dths}
use Rattle.nomos_types.specs.Branches.{goes_by}
use Rattle.nomos_machine.specs.State.{State, NameTypes, type_of}
use Rattle.nomos_machine.specs.Opening.{outside_name}
use Rattle.nomos_machine.specs.Saying.{Awaits, AwaitsOn, MayNotSay, label, value, pay}
use Rattle.nomos_deeds.specs.declared.awaiting.Way.{Way}
use Rattle.nomos_machine.specs.declared.object.Said.{Said}
use Rattle.nomos_machine.specs.declared.object.Said.TheVariants as said
use Rattle.nomos_machine.proofs.PurseLaws.{types-amounts}

-- how a talk goes on without gas
abbrev pub IsFree : Option TypeId → Option Way → Type 0
IsFree goes result = MatchOption result (goes ≡ None) (λ w. (goes ≡ Some w.goes) × (w.gas ≡ 0))

abbrev pub IsWayAt : Acceptance → TypeNode → Said → Option Way → Type 0
IsWayAt a n what result = MatchOption result ((gas : ℕ) (goes : TypeId) → Awaits a n what gas goes → ⊥)
    (λ w. Awaits a n what w.gas w.goes)

abbrev pub IsWayOn : Acceptance → NameTypes → ℕ → Said → Option Way → Type 0
IsWayOn a types name what result = MatchOption result
    ((gas : ℕ) (goes : TypeId) → AwaitsOn a types name what gas goes → ⊥)
    (λ w. AwaitsOn a types name what w.gas w.goes)

module _ (a : Acceptance) where
  label-so : (branches : List Branch) (l : Label) (result : Option Way) → IsFree (goes_by branches l) result
      → IsWayAt a (node.With branches) (said.Label l) result
  label-so branches l None none = λ gas goes awaits. not-awaited awaits
    where
      not-awaited : {gas : ℕ} {goes : TypeId} → Awaits a (node.With branches) (said.Label l) gas goes → ⊥
      not-awaited (label _ _ t is) =
          let nothing : None ≡ Some t = sym none ∙ is in
          cc
  label-so branches l (Some w) free =
      subst (λ (gas : ℕ). Awaits a (node.With branches) (said.Label l) gas w.goes) (sym free.1)
      (label branches l w.goes free.0)

  pub label-way : (n : TypeNode) (what : Said) (branches : List Branch) (l : Label) (found : Option TypeId)
      (result : Option Way) → n ≡ node.With branches → what ≡ said.Label l → found ≡ goes_by branches l
      → IsFree found result → IsWayAt a n what result
  label-way n what branches l found result is says looked free =
      subst (λ (m : TypeNode). IsWayAt a m what result) (sym is)
      (subst (λ (w : Said). IsWayAt a (node.With branches) w result) (sym says)
      (label-so branches l result (subst (λ (o : Option TypeId). IsFree o result) looked free)))

  value-so : (kind : Kind) (goes : TypeId) (v : Value) (result : Option Way) → ValueHasKind v kind
      → IsFree (Some goes) result → IsWayAt a (node.ValueIn kind goes) (said.Value v) result
  value-so kind goes v None has none = absurd cc
  value-so kind goes v (Some w) has free =
      let same : goes ≡ w.goes = cc in
      subst (λ (gas : ℕ). Awaits a (node.ValueIn kind goes) (said.Value v) gas w.goes) (sym free.1)
      (subst (λ (t : TypeId). Awaits a (node.ValueIn kind goes) (said.Value v) 0 t) same (value kind goes v has))

  pub value-way : (n : TypeNode) (what : Said) (kind : Kind) (goes : TypeId) (v : Value) (result : Option Way)
      → n ≡ node.ValueIn kind goes → what ≡ said.Value v → ValueHasKind v kind → IsFree (Some goes) result
      → IsWayAt a n what result
  value-way n what kind goes v result is says has free =
      subst (λ (m : TypeNode). IsWayAt a m what result) (sym is)
      (subst (λ (w : Said). IsWayAt a (node.ValueIn kind goes) w result) (sym says)
      (value-so kind goes v result has free))

  pub value-none : (n : TypeNode) (what : Said) (kind : Kind) (goes : TypeId) (v : Value)
      → n ≡ node.ValueIn kind goes → what ≡ said.Value v → ¬ (ValueHasKind v kind) → IsWayAt a n what None
  value-none n what kind goes v is says not =
      subst (λ (m : TypeNode). IsWayAt a m what None) (sym is)
      (subst (λ (w : Said). IsWayAt a (node.ValueIn kind goes) w None) (sym says) nothing)
    where
      nothing : IsWayAt a (node.ValueIn kind goes) (said.Value v) None
      nothing = λ gas onward awaits. not-awaited awaits
        where
          not-awaited : {gas : ℕ} {onward : TypeId} → Awaits a (node.ValueIn kind goes) (said.Value v) gas onward → ⊥
          not-awaited (value _ _ _ has) = not has

  pub pay-way : (n : TypeNode) (what : Said) (r : Amount) (goes : TypeId) (gas : ℕ) → n ≡ node.PotIn r goes
      → what ≡ said.Pay → gas ≡ dths a.annotations r → Awaits a n what gas goes
  pay-way n what r goes gas is says paid =
      subst (λ (m : TypeNode). Awaits a m what gas goes) (sym is)
      (subst (λ (w : Said). Awaits a (node.PotIn r goes) w gas goes) (sym says)
      (subst (λ (k : ℕ). Awaits a (node.PotIn r goes) said.Pay k goes) (sym paid) (pay r goes)))

  -- ---- on a name

  pub way-none : IsAccepted a → (types : NameTypes) (name : ℕ) (what : Said) (t : TypeId) → type_of types name ≡ Some t
      → unfolded a.program t.0 ≡ None → IsWayOn a types name what None
  way-none accepted types name what t found none = λ gas goes on.
      let here = on.found in
      let same : on.own ≡ t = cc in
      let unfolds = subst (λ (u : TypeId). Unfolds a.program u.0 on.head) same on.unfolds in
      let there = unfolds-unfolded a.program t.0 on.head accepted.typed.formed.contractive unfolds in
      let nothing : None ≡ Some on.head = sym none ∙ there in
      cc

  pub way-found : IsAccepted a → (types : NameTypes) (name : ℕ) (what : Said) (t : TypeId) (n : TypeNode)
      (result : Option Way) → type_of types name ≡ Some t → unfolded a.program t.0 ≡ Some n → IsWayAt a n what result
      → IsWayOn a types name what result
  way-found accepted types name what t n None found stands none = λ gas goes on.
      let here = on.found in
      let same : on.own ≡ t = cc in
      let unfolds = subst (λ (u : TypeId). Unfolds a.program u.0 on.head) same on.unfolds in
      let there = unfolded-unfolds a.program t.0 n accepted.typed.formed.contractive stands in
      let one = Unfolds-unique a.program t.0 on.head n unfolds there in
      none gas goes (subst (λ (m : TypeNode). Awaits a m what gas goes) one on.awaits)
  way-found accepted types name what t n (Some w) found stands awaits = record {
    own = t;
    found = found;
    head = n;
    unfolds = unfolded-unfolds a.program t.0 n accepted.typed.formed.contractive stands;
    awaits = awaits;
  }

  -- the amounts of a node to which a type unfolds are the program's
  pub node-amounts : IsAccepted a → (t : ℕ) (n : TypeNode) → unfolded a.program t ≡ Some n
      → All (IsAmountOf a.program) (type_amounts n)
  node-amounts accepted t n stands =
      types-amounts accepted t n (unfolded-unfolds a.program t n accepted.typed.formed.contractive stands)

  -- ---- on the outside name

  pub fits-none : (s : State) (name : ℕ) (what : Said) → outside_name s ≡ Some name
      → IsWayOn a s.types name what None → MayNotSay a s what
  fits-none s name what is none = λ gas fits.
      let (goes, at) = fits in
      let here = at.outside in
      let same : at.name ≡ name = cc in
      none gas goes (subst (λ (n : ℕ). AwaitsOn a s.types n what gas goes) same at.on)
