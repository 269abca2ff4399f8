-- Which pairs join those that were asked for.
use Rattle.std.proofs.Common.{◌≡◌, ◌↔◌, ◌∙◌, ℕ, inl, inr, ap}
use Rattle.std.specs.declared.alloc.AllocError.{AllocError}
use Rattle.std.specs.declared.result.Result.{Result}
use Rattle.std.specs.declared.result.Result.TheVariants.{Ok, Err}
use Rattle.std.specs.Result.{IfOk}
use Rattle.nomos_ir.specs.declared.amount.Amount.{Amount}
use Rattle.nomos_ir.specs.declared.code_node.Chan.{Chan}
use Rattle.nomos_ir.specs.declared.code_node.CodeNode.{CodeNode}
use Rattle.nomos_ir.specs.declared.code_node.CodeNode.TheVariants as code
use Rattle.nomos_ir.specs.declared.ids.CodeId.{CodeId}
use Rattle.nomos_ir.specs.declared.ids.TypeId.{TypeId}
use Rattle.nomos_ir.specs.declared.lists.ProgramLists.{ProgramLists}
use Rattle.nomos_ir.specs.declared.type_node.TypeNode.TheVariants as node
use Rattle.nomos_types.specs.Judgement.{Judgement}
use Rattle.nomos_types.specs.Premises.{HasType, by_side}
use Rattle.nomos_types.specs.TypingRule.{StandsAtCode}
use Rattle.nomos_check.specs.Account.{Account}
use Rattle.nomos_check.specs.Asking.{AsksPair}
use Rattle.nomos_check.specs.declared.asked.Asked.{Asked}
use Rattle.nomos_check.specs.declared.standing.Standing.{Standing}
use Rattle.nomos_check.specs.declared.standing.Step.{Step}
use Rattle.nomos_check.specs.declared.standing.Step.TheVariants as step
use Rattle.nomos_check.specs.mirror.StandingData.{shape_of, Joins, StepAsks}
use Rattle.nomos_check.proofs.AskingLaws.{AsksAt, asks-at, asked-at}
use Rattle.nomos_check.proofs.ChannelLaws.{head-unique}
use Rattle.nomos_check.proofs.SideLaws.{paid_amount-same, got_amount-same}

-- the pairs that join are the same where they are said in another way
pub joins-same : (old new : Asked) (P Q : Amount × Amount → Type 0) → Joins old new P
    → ((pair : Amount × Amount) → P pair ↔ Q pair) → Joins old new Q
joins-same old new P Q joins same =
    λ pair.
    let here = joins pair in (
      λ has. elim (here.0 has) [ inl before ↦ inl before | inr p ↦ inr ((same pair).0 p) ],
      λ either. here.1 (elim either [ inl before ↦ inl before | inr q ↦ inr ((same pair).1 q) ]),
    )

-- where nothing is asked for, nothing joins
pub joins-none : (old : Asked) (Q : Amount × Amount → Type 0) → ((pair : Amount × Amount) → ¬ (Q pair))
    → Joins old old Q
joins-none old Q none =
    λ pair. (λ has. inl has, λ either. elim either [ inl before ↦ before | inr q ↦ absurd (none pair q) ])

module _ (lists : ProgramLists) (j : Judgement) (a : Account) where
  -- the one pair that `pay` asks for
  pub pay-asks : (at : ℕ) (c : Chan) (r s : Amount) (t : TypeId) (next : CodeId)
      → StandsAtCode lists j (code.Pay at c r next) → HasType lists j c (by_side c (node.PotOut s t) (node.PotIn s t))
      → (pair : Amount × Amount) → (pair ≡ (r, s)) ↔ AsksPair lists j a pair
  pay-asks at c r s t next stands channel pair = (
    λ same. asked-at (code.Pay at c r next) stands (s, t, channel, same),
    λ asks.
        let (q, u, channel_too, is) = asks-at (code.Pay at c r next) stands asks in
        let same = paid_amount-same c q s u t (head-unique lists j c _ _ channel_too channel) in
        is ∙ ap (λ (p : Amount). let made : Amount × Amount = (r, p) in made) same.0,
  )

  -- the one pair that `get` asks for
  pub get-asks : (at : ℕ) (c : Chan) (r s : Amount) (t : TypeId) (next : CodeId)
      → StandsAtCode lists j (code.Get at c r next) → HasType lists j c (by_side c (node.PotIn s t) (node.PotOut s t))
      → (pair : Amount × Amount) → (pair ≡ (r, s)) ↔ AsksPair lists j a pair
  get-asks at c r s t next stands channel pair = (
    λ same. asked-at (code.Get at c r next) stands (s, t, channel, same),
    λ asks.
        let (q, u, channel_too, is) = asks-at (code.Get at c r next) stands asks in
        let same = got_amount-same c q s u t (head-unique lists j c _ _ channel_too channel) in
        is ∙ ap (λ (p : Amount). let made : Amount × Amount = (r, p) in made) same.0,
  )

  -- a node that asks for nothing
  pub quiet-asks : (n : CodeNode) → StandsAtCode lists j n → ((pair : Amount × Amount) → ¬ (AsksAt lists j a n pair))
      → (pair : Amount × Amount) → ¬ (AsksPair lists j a pair)
  quiet-asks n stands none pair asks = none pair (asks-at n stands asks)

-- a step at a node that asks for nothing
pub quiet-step : (lists : ProgramLists) (s : Standing) (old : Asked) (n : CodeNode) → StandsAtCode lists (shape_of s) n
    → ((a : Account) (pair : Amount × Amount) → ¬ (AsksAt lists (shape_of s) a n pair)) → (st : Step)
    → StepAsks lists s old old st
quiet-step lists s old n stands none step.Stuck = tt
quiet-step lists s old n stands none step.Done =
    λ a has. joins-none old (AsksPair lists (shape_of s) a) (quiet-asks lists (shape_of s) a n stands (none a))
quiet-step lists s old n stands none step.Next =
    λ a has. joins-none old (AsksPair lists (shape_of s) a) (quiet-asks lists (shape_of s) a n stands (none a))
quiet-step lists s old n stands none (step.Branches ways) =
    λ a has. joins-none old (AsksPair lists (shape_of s) a) (quiet-asks lists (shape_of s) a n stands (none a))

-- the same where memory may run out
pub quiet-result : (lists : ProgramLists) (s : Standing) (old : Asked) (n : CodeNode)
    → StandsAtCode lists (shape_of s) n
    → ((a : Account) (pair : Amount × Amount) → ¬ (AsksAt lists (shape_of s) a n pair))
    → (r : Result Step AllocError) → IfOk r (StepAsks lists s old old)
quiet-result lists s old n stands none (Ok st) = quiet-step lists s old n stands none st
quiet-result lists s old n stands none (Err e) = tt
