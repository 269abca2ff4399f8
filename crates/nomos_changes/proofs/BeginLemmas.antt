-- What is given to a declaration is one thing.
use Rattle.std.proofs.Common.{◌≡◌, ◌∙◌, ℕ, List, Option, Some, IfSome, MatchOption, sym, ap, subst, slice_get}
use Rattle.nomos_ir.specs.Value.{Value}
use Rattle.nomos_ir.specs.declared.code_node.Args.{Args}
use Rattle.nomos_ir.specs.declared.declaration.ProcDecl.{ProcDecl}
use Rattle.nomos_ir.specs.declared.ids.ProcId.{ProcId}
use Rattle.nomos_changes.proofs.MadeLemmas.{one-some}
use Rattle.nomos_types.specs.Acceptance.{Acceptance}
use Rattle.nomos_deeds.specs.Acts.{args_of}
use Rattle.nomos_deeds.specs.SeenObjects.{seen_process}
use Rattle.nomos_deeds.specs.declared.sight.SeenProcess.{SeenProcess}
use Rattle.nomos_machine.specs.Given.{Given, given}
use Rattle.nomos_machine.specs.Optional.{◌>>=◌}
use Rattle.nomos_machine.specs.State.{State, process_at}
use Rattle.nomos_machine.specs.declared.object.Process.{Process}
use Rattle.nomos_changes.specs.Beginnings.{Begins, HasBegun}

-- what is said of what is there
pub if-told : {X : Type 0} (P : X → Type 0) (o : Option X) (x : X) → o ≡ Some x → IfSome o P → P x
if-told P o x is told = subst (λ o. IfSome o P) is told

-- the same where something is said of what is not there too
pub match-told : {X : Type 0} (A : Type 0) (P : X → Type 0) (o : Option X) (x : X) → o ≡ Some x → MatchOption o A P
    → P x
match-told A P o x is told = subst (λ o. MatchOption o A P) is told

pub record SameBegun (d e : ProcDecl) (args others : Args) (g h : Given) (seen own : SeenProcess) : Type 0 where
  pub declaration : d ≡ e
  pub args_are : args ≡ others
  pub gives : g ≡ h
  pub seen_is : seen ≡ own

pub begun-is : (a : Acceptance) (s : State) (pid : ℕ) (f : ProcId) (vs : List Value) (d e : ProcDecl)
    (args others : Args) (g h : Given) (seen : SeenProcess) (p : Process) → HasBegun a s pid f vs d args g seen
    → process_at s pid ≡ Some p → Begins a p f vs e others h → SameBegun d e args others g h seen (seen_process p)
begun-is a s pid f vs d e args others g h seen p has there begins =
    let one : has.process ≡ p = one-some has.process p (sym has.there ∙ there) in
    let declaration : d ≡ e = one-some d e (sym has.begins.declared ∙ begins.declared) in
    let args_are : args ≡ others = one-some args others
    (sym has.begins.stands ∙ ap (λ (q : Process). slice_get a.program.code q.code.0 >>= args_of) one ∙ begins.stands) in
    record {
      declaration = declaration;
      args_are = args_are;
      gives = one-some g h (sym has.begins.gives
          ∙ ap (λ (q : Process). given q vs args d) one
          ∙ ap (λ (all : Args). given p vs all d) args_are
          ∙ ap (λ (d : ProcDecl). given p vs others d) declaration
          ∙ begins.gives);
      seen_is = has.seen_is ∙ ap seen_process one;
    }
