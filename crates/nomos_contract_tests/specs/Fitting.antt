-- What is looked at in lists of definitions, types and labels that were made by hand. No promise stands on it.
use Rattle.std.specs.Prelude.{◌≡◌, ◌≢◌, ◌<◌, ◌≤◌, ℕ, List, All, AllPairs, length, map, get_or, ◌++◌}
use Rattle.std.specs.List.{flat_map}
use Rattle.nomos_ir.specs.declared.lists.ProgramLists.{ProgramLists}
use Rattle.nomos_ir.specs.declared.type_node.Def.{Def}
use Rattle.nomos_ir.specs.declared.type_node.TypeAt.{TypeAt}
use Rattle.nomos_ir.specs.declared.type_node.TypeNode.{TypeNode}
use Rattle.nomos_ir.specs.Amounts.{IsAmount}
use Rattle.nomos_ir.specs.Ids.{AllBelow}
use Rattle.nomos_ir.specs.Kinds.{IsShallow}
use Rattle.nomos_ir.specs.Name.{IsShortName, IsWordText, max_name_length}
use Rattle.nomos_ir.specs.Naming.{AllDiffer}
use Rattle.nomos_ir.specs.Order.{count_of}
use Rattle.nomos_ir.specs.TypeParts.{type_parts, type_names, type_labels, type_kinds, type_amounts}

-- what a node at a place has in it
pub record NodeFits (lists : ProgramLists) (place : ℕ) (node : TypeNode) : Type 0 where
  pub parts : AllBelow place (type_parts node)
  pub names : AllBelow (length lists.defs) (type_names node)
  pub labels : AllBelow (length lists.labels) (type_labels node)
  pub differ : AllDiffer (type_labels node)
  pub kinds : All IsShallow (type_kinds node)
  pub amounts : All IsAmount (type_amounts node)

-- the same of each node
abbrev pub NodesFit : ProgramLists → Type 0
NodesFit lists =
    (place : ℕ) (d : TypeAt) → place < length lists.types → NodeFits lists place (get_or lists.types place d).node

-- each number below the limit occurs once
abbrev pub StandOnce : List ℕ → ℕ → Type 0
StandOnce places limit = (t : ℕ) → t < limit → count_of t places ≡ 1

-- a word of at most 64 bytes
pub record IsShortWord (bytes : List ℕ) : Type 0 where
  pub word : IsWordText bytes
  pub short : length bytes ≤ max_name_length

-- there are not too many definitions, and their bodies are types
pub record HasBodies (defs : List Def) (types : ℕ) : Type 0 where
  pub few : length defs ≤ 10000
  pub bodies : All (λ d. d.body.0 < types) defs

-- bodies of definitions are there, and each node stands in one place
pub record BodiesFit (defs : List Def) (types : List TypeAt) : Type 0 where
  pub bodies : HasBodies defs (length types)
  pub once : StandOnce (map (λ d. d.body.0) defs ++ flat_map (λ t. type_parts t.node) types) (length types)

-- names are short and differ
pub record NamesFit (defs : List Def) (labels : List (List ℕ)) : Type 0 where
  pub def_names : All (λ d. IsShortName d.name) defs
  pub label_names : All IsShortName labels
  pub defs_differ : AllPairs (λ d e. d.name ≢ e.name) defs
  pub labels_differ : AllPairs (λ k l. k ≢ l) labels

-- all of this
pub record TypesFit (lists : ProgramLists) : Type 0 where
  pub bodies : BodiesFit lists.defs lists.types
  pub nodes : NodesFit lists
  pub names : NamesFit lists.defs lists.labels
