-- The deed of a process by what its instruction's terms come to.
use Rattle.std.proofs.Common.{◌≡◌, ◌≢◌, ◌∙◌, ◌↔◌, ℕ, Bool, true, false, List, [], ◌∷◌, Option, Some, Ok, refl, sym, ap, slice_get, IsTrue}
use Rattle.std.specs.Option.{option_map}
use Rattle.nomos_ir.specs.CodeParts.{code_terms}
use Rattle.nomos_ir.specs.TermsEvaluation.{TermsResult, terms_evaluation, terms_of, instruction_evaluation}
use Rattle.nomos_ir.specs.Value.{Value}
use Rattle.nomos_ir.specs.declared.code_node.CodeNode.{CodeNode}
use Rattle.nomos_types.specs.Acceptance.{Acceptance}
use Rattle.nomos_machine.specs.Deeds.{deed_at}
use Rattle.nomos_machine.specs.Optional.{◌>>=◌}
use Rattle.nomos_machine.specs.State.{State, process_at}
use Rattle.nomos_machine.specs.Step.{deed, deed_by}
use Rattle.nomos_machine.specs.declared.object.Process.{Process}
use Rattle.nomos_deeds.specs.SeenObjects.{seen_process}
use Rattle.nomos_deeds.specs.declared.sight.SeenProcess.{SeenProcess}

module _ (a : Acceptance) (s : State) (p : Process) where
  -- at an instruction whose terms come to this
  pub deed-by_terms : (n : CodeNode) (r : TermsResult) → slice_get a.program.code p.code.0 ≡ Some n
      → r ≡ instruction_evaluation a.program p.values p.code.0 → deed a s p ≡ deed_by a s p n r
  deed-by_terms n r stands comes =
      ap (λ (o : Option CodeNode). o >>= λ m. deed_by a s p m (terms_evaluation a.program p.values (code_terms m)))
      stands
      ∙ ap (deed_by a s p n)
      (sym (comes ∙ ap (λ (o : Option CodeNode). terms_evaluation a.program p.values (terms_of o)) stands))

  -- where there are none
  pub deed-without_terms : (n : CodeNode) (vs : List Value) → slice_get a.program.code p.code.0 ≡ Some n
      → code_terms n ≡ [] → vs ≡ [] → deed a s p ≡ deed_at a s p vs n
  deed-without_terms n vs stands none empty =
      deed-by_terms n (Ok vs) stands
      (sym (ap (λ (o : Option CodeNode). terms_evaluation a.program p.values (terms_of o)) stands
      ∙ ap (terms_evaluation a.program p.values) none ∙ ap Ok (sym empty)))

-- what is seen under the number of a process is that process
pub seen-is : (s : State) (pid : ℕ) (p : Process) (seen : SeenProcess) → process_at s pid ≡ Some p
    → Some seen ≡ option_map seen_process (process_at s pid) → seen ≡ seen_process p
seen-is s pid p seen there sees = one (sees ∙ ap (option_map seen_process) there)
  where
    one : Some seen ≡ Some (seen_process p) → seen ≡ seen_process p
    one e = cc

-- the process of a number stands where what is seen of it does
pub stands-seen : (a : Acceptance) (s : State) (pid : ℕ) (p : Process) (seen : SeenProcess) (o : Option CodeNode)
    → process_at s pid ≡ Some p → Some seen ≡ option_map seen_process (process_at s pid)
    → slice_get a.program.code seen.code.0 ≡ o → slice_get a.program.code p.code.0 ≡ o
stands-seen a s pid p seen o there sees stands =
    ap (λ (q : SeenProcess). slice_get a.program.code q.code.0) (sym (seen-is s pid p seen there sees)) ∙ stands

-- what is not told to be some list with a term is the empty one
pub none-told : {X : Type 0} (some : Bool) (xs : List X) → IsTrue some ↔ (xs ≢ []) → some ≡ false → xs ≡ []
none-told some [] told is = refl
none-told {X} some (x ∷ xs) told is = absurd (never (told.1 filled))
  where
    filled : x ∷ xs ≡ [] → ⊥
    filled e = cc

    never : some ≡ true → ⊥
    never e = cc
