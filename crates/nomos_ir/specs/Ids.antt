-- Each id of a program has its place in the list that it counts.
use Rattle.std.specs.Prelude.{◌<◌, ℕ, List, length, All}
use Rattle.nomos_ir.specs.declared.type_node.TypeNode.{TypeNode}
use Rattle.nomos_ir.specs.declared.term_node.TermNode.{TermNode}
use Rattle.nomos_ir.specs.declared.code_node.CodeNode.{CodeNode}
use Rattle.nomos_ir.specs.declared.declaration.ProcDecl.{ProcDecl}
use Rattle.nomos_ir.specs.declared.lists.ProgramLists.{ProgramLists}
use Rattle.nomos_ir.specs.TypeParts.{type_parts, type_names, type_labels}
use Rattle.nomos_ir.specs.TermParts.{term_parts, term_calls}
use Rattle.nomos_ir.specs.CodeParts.{code_next, code_terms, code_calls, code_labels}

-- each number is below n
abbrev pub AllBelow : ℕ → List ℕ → Type 0
AllBelow n numbers = All (λ k. k < n) numbers

-- the ids in a type node
pub record TypeInRange (lists : ProgramLists) (node : TypeNode) : Type 0 where
  pub parts : AllBelow (length lists.types) (type_parts node)
  pub names : AllBelow (length lists.defs) (type_names node)
  pub labels : AllBelow (length lists.labels) (type_labels node)

-- the ids in a term node
pub record TermInRange (lists : ProgramLists) (node : TermNode) : Type 0 where
  pub parts : AllBelow (length lists.terms) (term_parts node)
  pub calls : AllBelow (length lists.fns) (term_calls node)

-- the ids in a code node
pub record CodeInRange (lists : ProgramLists) (node : CodeNode) : Type 0 where
  pub next : AllBelow (length lists.code) (code_next node)
  pub terms : AllBelow (length lists.terms) (code_terms node)
  pub calls : AllBelow (length lists.procs) (code_calls node)
  pub labels : AllBelow (length lists.labels) (code_labels node)

-- the ids in a process declaration
pub record ProcInRange (lists : ProgramLists) (d : ProcDecl) : Type 0 where
  pub channels : All (λ par. par.1.0 < length lists.types) d.channels
  pub offers : d.offers.0 < length lists.types
  pub first : d.first.0 < length lists.code

-- the ids in the lists of a program
pub record IdsInRange (lists : ProgramLists) : Type 0 where
  pub defs : All (λ d. d.body.0 < length lists.types) lists.defs
  pub types : All (λ t. TypeInRange lists t.node) lists.types
  pub terms : All (TermInRange lists) lists.terms
  pub code : All (CodeInRange lists) lists.code
  pub fns : All (λ f. f.body.0 < length lists.terms) lists.fns
  pub procs : All (ProcInRange lists) lists.procs
