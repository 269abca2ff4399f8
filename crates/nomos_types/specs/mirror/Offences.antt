-- A mirror of the code: the offsets at which each of its three looks finds an offence. No promise stands on it.
use Rattle.std.specs.Prelude.{◌≡◌, ◌<◌, ℕ, IsTrue, Some, length, slice_get}
use Rattle.nomos_ir.specs.Nodes.{type_node}
use Rattle.nomos_ir.specs.declared.declaration.ProcDecl.{ProcDecl}
use Rattle.nomos_ir.specs.declared.ids.TypeId.{TypeId}
use Rattle.nomos_ir.specs.declared.ids.VarId.{VarId}
use Rattle.nomos_ir.specs.declared.lists.ProgramLists.{ProgramLists}
use Rattle.nomos_ir.specs.declared.mode.Mode.{Mode}
use Rattle.nomos_ir.specs.declared.mode.Mode.TheVariants as mode
use Rattle.nomos_ir.specs.declared.type_node.Def.{Def}
use Rattle.nomos_ir.specs.declared.type_node.TypeNode.{TypeNode}
use Rattle.nomos_types.specs.Forming.{StandsAtOffset}
use Rattle.nomos_types.specs.Modes.{HasMode, Allows, may_hold, parameter_mode}

-- a type node below the place i that its mode does not allow
pub record ForbiddenBelow (lists : ProgramLists) (i : ℕ) (at : ℕ) : Type 0 where
  pub t : TypeId
  pub below : t.0 < i
  pub m : Mode
  pub n : TypeNode
  pub has : HasMode lists t m
  pub there : type_node lists t.0 ≡ Some n
  pub not_allowed : ¬ (Allows lists m n)
  pub offset : StandsAtOffset lists t at

-- a channel parameter of a declaration, below the place i, that the process may not hold
pub record NotHeldBelow (lists : ProgramLists) (d : ProcDecl) (i : ℕ) (at : ℕ) : Type 0 where
  pub place : ℕ
  pub par : VarId × TypeId
  pub below : place < i
  pub there : slice_get d.channels place ≡ Some par
  pub not_held : ¬ (IsTrue (may_hold d.mode (parameter_mode lists par.1)))
  pub offset : StandsAtOffset lists par.1 at

-- the same of the declarations below the place i
pub record NotHeldInBelow (lists : ProgramLists) (i : ℕ) (at : ℕ) : Type 0 where
  pub place : ℕ
  pub d : ProcDecl
  pub below : place < i
  pub there : slice_get lists.procs place ≡ Some d
  pub not_held : NotHeldBelow lists d (length d.channels) at

-- the body of a definition below the place i that has the mode of transactions
pub record OfTransactionsBelow (lists : ProgramLists) (i : ℕ) (at : ℕ) : Type 0 where
  pub place : ℕ
  pub d : Def
  pub below : place < i
  pub there : slice_get lists.defs place ≡ Some d
  pub of_transactions : d.mode ≡ mode.T
  pub offset : StandsAtOffset lists d.body at
