-- Where an instruction leads from one standing to the next.
use Rattle.std.proofs.Common.{◌≡◌, ◌∙◌, ℕ, Bool, true, false, IsTrue, List, [], ◌∷◌, map, All, ap, sym, subst}
use Rattle.std.proofs.lemmas.List.Elements.{All-cons, All-nil}
use Rattle.nomos_ir.specs.declared.code_node.CodeNode.{CodeNode}
use Rattle.nomos_ir.specs.declared.ids.VarId.{VarId}
use Rattle.nomos_ir.specs.declared.lists.ProgramLists.{ProgramLists}
use Rattle.nomos_ir.specs.Amounts.{star_count}
use Rattle.nomos_ir.specs.Bindings.{each_bound}
use Rattle.nomos_types.specs.Equality.{no_amounts}
use Rattle.nomos_types.specs.Judgement.{Judgement}
use Rattle.nomos_types.specs.TypingRule.{TypingRule, StandsAtCode}
use Rattle.nomos_check.specs.Account.{Account}
use Rattle.nomos_check.specs.Accounting.{accounts_after}
use Rattle.nomos_check.specs.declared.standing.Carried.{Carried}
use Rattle.nomos_check.specs.declared.standing.Standing.{Standing}
use Rattle.nomos_check.specs.declared.standing.WayOn.{WayOn}
use Rattle.nomos_check.specs.mirror.StepMoves.{KeepsAmounts}
use Rattle.nomos_check.specs.mirror.StandingData.{shape_of, amount_of, HasAccount, IsWayOf, LeadsAlong, LeadsTo, way_account, way_shape}

-- a standing with the same lists and potential has the same accounts
pub keeps-account : {n : ℕ} {s next : Standing} {a : Account} → KeepsAmounts s next → HasAccount n s a
    → HasAccount n next a
keeps-account keeps has = record {
  lists = ap (λ (b : List (VarId × Carried)). each_bound amount_of b) keeps.lists ∙ has.lists;
  potential = keeps.potential ∙ has.potential;
}

-- the one way on, where the account of the next standing is known for each account
pub leads-with : {lists : ProgramLists} (s next : Standing) (k : Judgement) (n : CodeNode)
    → StandsAtCode lists (shape_of s) n → TypingRule lists no_amounts (shape_of s) (k ∷ []) → shape_of next ≡ k
    → ((a : Account) → HasAccount (star_count lists) s a
    → (b : Account) × (accounts_after lists n a ≡ b ∷ []) × HasAccount (star_count lists) next b)
    → LeadsTo lists s next
leads-with {lists} s next k n stands steps shape account = record {
  row = subst (λ (i : Judgement). TypingRule lists no_amounts (shape_of s) (i ∷ [])) (sym shape) steps;
  account =
      λ m a there has.
      let same : n ≡ m = cc in
      let Goes : CodeNode → Type 0 =
      λ i. (b : Account) × (accounts_after lists i a ≡ b ∷ []) × HasAccount (star_count lists) next b
      in
      subst Goes same (account a has);
}

-- the one way on, where lists and potential stay the same
pub leads-on : {lists : ProgramLists} (s next : Standing) (k : Judgement) (n : CodeNode)
    → StandsAtCode lists (shape_of s) n → ((a : Account) → accounts_after lists n a ≡ a ∷ [])
    → TypingRule lists no_amounts (shape_of s) (k ∷ []) → shape_of next ≡ k → KeepsAmounts s next → LeadsTo lists s next
leads-on s next k n stands same steps shape keeps =
    leads-with s next k n stands steps shape (λ a has. (a, same a, keeps-account keeps has))

-- several ways on
pub leads-along : {lists : ProgramLists} (s : Standing) (n : CodeNode) (made ways : List WayOn) → made ≡ ways
    → StandsAtCode lists (shape_of s) n → TypingRule lists no_amounts (shape_of s) (map (way_shape (shape_of s)) ways)
    → ((a : Account) → HasAccount (star_count lists) s a → accounts_after lists n a ≡ map (way_account a) ways)
    → All (IsWayOf s) ways → LeadsAlong lists s made
leads-along {lists} s n made ways same stands steps account there =
    let along : LeadsAlong lists s ways = record {
      row = steps;
      account =
          λ m a stands_too has.
          let one : n ≡ m = cc in
          subst (λ (i : CodeNode). accounts_after lists i a ≡ map (way_account a) ways) one (account a has);
      there = there;
    }
    in
    subst (LeadsAlong lists s) (sym same) along

-- two ways of a standing
pub both-ways : (s : Standing) (a b : WayOn) → IsWayOf s a → IsWayOf s b → All (IsWayOf s) (a ∷ b ∷ [])
both-ways s a b here there =
    All-cons (IsWayOf s) a (b ∷ []) here (All-cons (IsWayOf s) b [] there (All-nil (IsWayOf s)))

-- what is false is not true
pub not-true : {b : Bool} → b ≡ false → ¬ (IsTrue b)
not-true is_false is_true = let same : true ≡ false = sym is_true ∙ is_false in cc

-- the lists and the potential stay the same on the way
pub keeps-through : {s between next : Standing} → KeepsAmounts s between → KeepsAmounts between next
    → KeepsAmounts s next
keeps-through first second =
    record { lists = second.lists ∙ first.lists; potential = second.potential ∙ first.potential }
