-- A channel that is sent, and a process that hands its place on.
use Rattle.std.proofs.Common.{◌≡◌, ◌<◌, ◌↔◌, ◌∙◌, ℕ, [], ◌∷◌, length, Some, None, refl, ap, subst, eq-eqb, cond}
use Rattle.nomos_ir.specs.declared.amount.Amount.{Amount}
use Rattle.nomos_ir.specs.declared.code_node.Chan.{Chan}
use Rattle.nomos_ir.specs.declared.code_node.CodeNode.TheVariants as code
use Rattle.nomos_ir.specs.declared.ids.CodeId.{CodeId}
use Rattle.nomos_ir.specs.declared.ids.TypeId.{TypeId}
use Rattle.nomos_ir.specs.declared.ids.VarId.{VarId}
use Rattle.nomos_ir.specs.declared.lists.ProgramLists.{ProgramLists}
use Rattle.nomos_ir.specs.declared.type_node.TypeNode.TheVariants as node
use Rattle.nomos_ir.specs.Bindings.{bound_to}
use Rattle.nomos_equality.specs.Paths.{StandAtEqualPaths}
use Rattle.nomos_ir.specs.Program.{IsProgram}
use Rattle.nomos_types.proofs.UniqueRowLaws.{sent-same}
use Rattle.nomos_types.specs.Alike.{AlikeTypes}
use Rattle.nomos_types.specs.Arguments.{PassesChannel}
use Rattle.nomos_types.specs.Equality.{no_amounts}
use Rattle.nomos_types.specs.Judgement.{Judgement, IsJudgement}
use Rattle.nomos_types.specs.Premises.{HasType, by_side, Forwards, SendsChannel}
use Rattle.nomos_types.specs.TypingRule.{StandsAtCode}
use Rattle.nomos_check.specs.Account.{Account}
use Rattle.nomos_check.specs.Asking.{AsksPair, IsOfType}
use Rattle.nomos_check.proofs.AskingLaws.{asks-at, asked-at}
use Rattle.nomos_check.proofs.ChannelLaws.{linear-has_place, head-unique}
use Rattle.nomos_check.proofs.PassingSteps.{of-type_unique}

module _ (lists : ProgramLists) (j : Judgement) where
  -- what is sent passes as the type that the channel's type says
  pub sent-passes : (c : Chan) (y : VarId) (p : TypeId × TypeId) (left : Judgement) (t : TypeId)
      → HasType lists j c (by_side c (node.Tensor p.0 p.1) (node.Lolli p.0 p.1))
      → SendsChannel lists no_amounts j c y left t → PassesChannel lists no_amounts j y p.0 left
  sent-passes c y p left t typed says =
      let heads = head-unique lists j c _ _ says.channel typed in
      let (same, rest) = sent-same c says.carried t p.0 p.1 heads in
      subst (λ (u : TypeId). PassesChannel lists no_amounts j y u left) same says.passes

  -- the pairs that sending a channel asks for
  pub send-asks : (a : Account) (at : ℕ) (c : Chan) (y : VarId) (next : CodeId) (carried t own : TypeId)
      → IsJudgement lists j
      → StandsAtCode lists j (code.Send at c y next)
      → HasType lists j c (by_side c (node.Tensor carried t) (node.Lolli carried t)) → IsOfType j y own
      → (pair : Amount × Amount) → StandAtEqualPaths lists own carried pair ↔ AsksPair lists j a pair
  send-asks a at c y next carried t own h stands typed is_of pair = (
    λ paths. asked-at (code.Send at c y next) stands (own, carried, t, is_of, typed, paths),
    λ asks.
        let (its, other, u, its_is_of, its_typed, paths) = asks-at (code.Send at c y next) stands asks in
        let heads = head-unique lists j c _ _ its_typed typed in
        let (same, rest) = sent-same c other u carried t heads in
        let one = of-type_unique lists j y its own h its_is_of is_of in
        let with_carried = subst (λ (s : TypeId). StandAtEqualPaths lists its s pair) same paths in
        subst (λ (s : TypeId). StandAtEqualPaths lists s carried pair) one with_carried,
  )

  -- the pairs that handing the place on asks for
  pub forward-asks : (a : Account) (at : ℕ) (v : VarId) (own : TypeId) → StandsAtCode lists j (code.Fwd at v)
      → j.linear ≡ (v, own) ∷ [] → (pair : Amount × Amount)
      → StandAtEqualPaths lists j.offers own pair ↔ AsksPair lists j a pair
  forward-asks a at v own stands only pair =
      let here : bound_to v.0 ((v, own) ∷ []) ≡ Some own = ap (λ t. cond t (Some own) None) (eq-eqb v.0 v.0 refl) in
      let found : bound_to v.0 j.linear ≡ Some own = ap (bound_to v.0) only ∙ here in (
        λ paths. asked-at (code.Fwd at v) stands (own, found, paths),
        λ asks.
            let (its, its_found, paths) = asks-at (code.Fwd at v) stands asks in
            let same : its ≡ own = cc in
            subst (λ (s : TypeId). StandAtEqualPaths lists j.offers s pair) same paths,
      )

-- the one channel that is held is found by its variable
only-bound : (v : VarId) (own : TypeId) → bound_to v.0 ((v, own) ∷ []) ≡ Some own
only-bound v own = ap (λ t. cond t (Some own) None) (eq-eqb v.0 v.0 refl)

-- its type has its place
pub only-in_range : (lists : ProgramLists) (j : Judgement) (v : VarId) (own : TypeId) → IsProgram lists
    → IsJudgement lists j → j.linear ≡ (v, own) ∷ [] → own.0 < length lists.types
only-in_range lists j v own is_program h only =
    linear-has_place lists j v own is_program h (ap (bound_to v.0) only ∙ only-bound v own)

-- where the types are not alike the process does not hand its place on
pub forward-stays : (lists : ProgramLists) (j : Judgement) (v : VarId) (own : TypeId) → j.linear ≡ (v, own) ∷ []
    → ¬ (AlikeTypes lists no_amounts j.offers own) → ¬ (Forwards lists no_amounts j v)
forward-stays lists j v own only differ says =
    let its_only = says.only in
    let here = ap (bound_to v.0) only ∙ only-bound v own in
    let there = ap (bound_to v.0) its_only ∙ only-bound v says.own in
    let same : says.own ≡ own = cc in
    differ (subst (λ (t : TypeId). AlikeTypes lists no_amounts j.offers t) same says.alike)
