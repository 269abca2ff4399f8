-- When a judgement has a derivation; which judgements follow from a start; where an instruction is stuck.
use Rattle.std.specs.Prelude.{◌≤◌, ℕ, List, Contains}
use Rattle.nomos_ir.specs.declared.declaration.ProcDecl.{ProcDecl}
use Rattle.nomos_ir.specs.declared.lists.ProgramLists.{ProgramLists}
use Rattle.nomos_types.specs.Alike.{Alike}
use Rattle.nomos_types.specs.Amount.{Annotations}
use Rattle.nomos_types.specs.Equality.{no_amounts}
use Rattle.nomos_types.specs.Judgement.{Judgement, start_of, with_potential}
use Rattle.nomos_types.specs.TypingRule.{TypingRule}

-- A judgement has a derivation where a rule applies to one that is alike, with at most its potential, and each
-- judgement with which that rule goes on has a derivation. A rule is a row of the table of instructions, with what it
-- goes on with.
pub data Derives (lists : ProgramLists) (x : Annotations) : Judgement → Type 0 where
  by_row : {j : Judgement} → (k : Judgement) (q : ℕ) (after : List Judgement) → Alike lists x j k → q ≤ k.q
      → TypingRule lists x (with_potential k q) after
      → ((next : Judgement) → Contains after next → Derives lists x next)
      → Derives lists x j

-- The judgement follows from a first one by rules alone, without any replacement.
pub data Follows (lists : ProgramLists) (x : Annotations) (first : Judgement) : Judgement → Type 0 where
  first : Follows lists x first first
  next : {j k : Judgement} → (after : List Judgement) → Follows lists x first j → TypingRule lists x j after
      → Contains after k → Follows lists x first k

-- A declaration has a skeleton: a derivation in which amounts are ignored.
abbrev pub HasSkeleton : ProgramLists → ProcDecl → Type 0
HasSkeleton lists d = Derives lists no_amounts (start_of lists no_amounts d)

-- The instruction of a judgement is stuck in a declaration: the judgement follows from the start where amounts are
-- ignored, and no rule applies to any that is alike.
pub record IsStuck (lists : ProgramLists) (d : ProcDecl) (j : Judgement) : Type 0 where
  pub follows : Follows lists no_amounts (start_of lists no_amounts d) j
  pub no_row : (k : Judgement) (after : List Judgement) → Alike lists no_amounts j k
      → ¬ (TypingRule lists no_amounts k after)
