-- When a program is typed under amounts.
use Rattle.std.specs.Prelude.{All}
use Rattle.nomos_ir.specs.declared.lists.ProgramLists.{ProgramLists}
use Rattle.nomos_ir.specs.Program.{IsProgram}
use Rattle.nomos_ir.specs.TermKind.{FunctionsAreTyped}
use Rattle.nomos_ir.specs.Unfold.{IsContractive}
use Rattle.nomos_types.specs.Amount.{Annotations}
use Rattle.nomos_types.specs.Derivation.{Derives}
use Rattle.nomos_types.specs.Equality.{no_amounts}
use Rattle.nomos_types.specs.Judgement.{start_of}
use Rattle.nomos_types.specs.Modes.{ObeysModes}
use Rattle.nomos_types.specs.Synchronizing.{IsSynchronizing}

-- The lists are those of a program, no definition is a bare name, and the tables of modes are obeyed.
pub record IsWellFormed (lists : ProgramLists) : Type 0 where
  pub program : IsProgram lists
  pub contractive : IsContractive lists
  pub modes : ObeysModes lists

-- A program is typed under amounts: it is well formed, each shared type is synchronizing, each function has its kind,
-- and each process has a derivation.
pub record IsTypedProgram (lists : ProgramLists) (x : Annotations) : Type 0 where
  pub formed : IsWellFormed lists
  pub synchronizing : IsSynchronizing lists x
  -- the body of each function has its declared kind
  pub functions : FunctionsAreTyped lists
  -- each process declaration has a derivation with its declared potential
  pub procs : All (λ d. Derives lists x (start_of lists x d)) lists.procs

-- A program has a skeleton in every part: it is typed where amounts are ignored.
abbrev pub HasSkeletons : ProgramLists → Type 0
HasSkeletons lists = IsTypedProgram lists no_amounts
