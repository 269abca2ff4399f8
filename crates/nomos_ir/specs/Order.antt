-- A program's nodes stand after their parts, and each stands in one place.
use Rattle.std.specs.Prelude.{◌≡◌, ◌<◌, ◌≤◌, ◌==◌, ℕ, List, ◌++◌, length, map, count_by, slice_get, Some}
use Rattle.std.specs.List.{flat_map}
use Rattle.nomos_ir.specs.declared.type_node.TypeAt.{TypeAt}
use Rattle.nomos_ir.specs.declared.term_node.TermNode.{TermNode}
use Rattle.nomos_ir.specs.declared.code_node.CodeNode.{CodeNode}
use Rattle.nomos_ir.specs.declared.lists.ProgramLists.{ProgramLists}
use Rattle.nomos_ir.specs.TypeParts.{type_parts}
use Rattle.nomos_ir.specs.TermParts.{term_parts}
use Rattle.nomos_ir.specs.CodeParts.{code_next}
use Rattle.nomos_ir.specs.Ids.{AllBelow}

-- the parts of a node have lower numbers than the node
pub record PartsAreLower (lists : ProgramLists) : Type 0 where
  pub types : (t : ℕ) (at : TypeAt) → slice_get lists.types t ≡ Some at → AllBelow t (type_parts at.node)
  pub terms : (e : ℕ) (node : TermNode) → slice_get lists.terms e ≡ Some node → AllBelow e (term_parts node)
  pub code : (c : ℕ) (node : CodeNode) → slice_get lists.code c ≡ Some node → AllBelow c (code_next node)

-- how often a number occurs
abbrev pub count_of : ℕ → List ℕ → ℕ
count_of n numbers = count_by (λ k. k == n) numbers

-- where type nodes stand: in definitions, in type nodes, as types of channel parameters, as offered types
abbrev pub type_places : ProgramLists → List ℕ
type_places lists =
    map (λ d. d.body.0) lists.defs
    ++ flat_map (λ t. type_parts t.node) lists.types
    ++ flat_map (λ d. map (λ par. par.1.0) d.channels) lists.procs
    ++ map (λ d. d.offers.0) lists.procs

-- each type node stands exactly once
abbrev pub TypesStandOnce : ProgramLists → Type 0
TypesStandOnce lists = (t : ℕ) → t < length lists.types → count_of t (type_places lists) ≡ 1

-- where code nodes stand: after code nodes, as the first of process declarations
abbrev pub code_places : ProgramLists → List ℕ
code_places lists = flat_map code_next lists.code ++ map (λ d. d.first.0) lists.procs

-- each code node stands at most once
abbrev pub CodeStandsOnce : ProgramLists → Type 0
CodeStandsOnce lists = (c : ℕ) → count_of c (code_places lists) ≤ 1
