-- What is found of one function more.
use Rattle.std.proofs.Common.{◌≡◌, ℕ, Option, Some, None, slice_get, sym, subst, arith}
use Rattle.nomos_ir.specs.declared.declaration.FnDecl.{FnDecl}
use Rattle.nomos_ir.specs.declared.lists.ProgramLists.{ProgramLists}
use Rattle.nomos_ir.specs.TermKind.{HasKind}
use Rattle.nomos_rows.specs.declared.first_fault.DeclarationFault.{DeclarationFault}
use Rattle.nomos_rows.specs.mirror.Declarations.{FunctionFault, FunctionFine, TellsFunction}
use Rattle.nomos_rows.specs.mirror.FirstFault.{TellsOne}

module _ (lists : ProgramLists) where
  -- a function that has its kind has no fault
  pub fine-no_fault : (k at : ℕ) (f : DeclarationFault) → FunctionFine lists k → FunctionFault lists k at f → ⊥
  fine-no_fault k at f fine fault = fault.other (fine fault.function fault.declared)

  -- what is told of the function at a place
  pub function-told : (k : ℕ) (d : FnDecl) (found : Option (ℕ × DeclarationFault)) → slice_get lists.fns k ≡ Some d
      → TellsFunction lists d found → TellsOne (FunctionFault lists k) (FunctionFine lists k) found
  function-told k d None declared has =
      λ e there.
      let same : d ≡ e = cc in
      subst (λ (f : FnDecl). HasKind lists f.pars f.body f.gives) same has
  function-told k d (Some a) declared (other, offset, is) = (
    record { function = d; declared = declared; offset = sym offset; other = other; is = is },
    λ at f fault.
        let there = fault.declared in
        let same : fault.function ≡ d = cc in
        let at_its : d.at ≡ at = subst (λ (e : FnDecl). e.at ≡ at) same fault.offset in
        omega (arith, offset, at_its),
  )
