-- The kinds of values in a program.
use Rattle.std.specs.Prelude.{◌≤◌, All}
use Rattle.nomos_ir.specs.declared.kind.Kind.{Kind}
use Rattle.nomos_ir.specs.declared.declaration.FnDecl.{FnDecl}
use Rattle.nomos_ir.specs.declared.lists.ProgramLists.{ProgramLists}
use Rattle.nomos_ir.specs.TypeParts.{type_kinds}
use Rattle.nomos_ir.specs.TermParts.{term_kinds}
use Rattle.nomos_ir.specs.CodeParts.{code_kinds}

-- a kind has at most 64 lists
abbrev pub IsShallow : Kind → Type 0
IsShallow kind = kind.lists ≤ 64

-- the kinds of a function's parameters and of its result
pub record FnIsShallow (f : FnDecl) : Type 0 where
  pub pars : All (λ par. IsShallow par.1) f.pars
  pub gives : IsShallow f.gives

-- all kinds have at most 64 lists
pub record KindsAreShallow (lists : ProgramLists) : Type 0 where
  pub types : All (λ t. All IsShallow (type_kinds t.node)) lists.types
  pub terms : All (λ node. All IsShallow (term_kinds node)) lists.terms
  pub fns : All FnIsShallow lists.fns
  pub code : All (λ node. All IsShallow (code_kinds node)) lists.code
  pub procs : All (λ d. All (λ par. IsShallow par.kind) d.values) lists.procs
