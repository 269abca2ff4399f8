-- A mirror of the code: what is kept beside an accepted program to judge the arguments of starts.
use Rattle.std.specs.Prelude.{◌≡◌, ◌↔◌, ℕ, Bool, IsTrue, List, map, All}
use Rattle.nomos_ir.specs.declared.ids.TypeId.{TypeId}
use Rattle.nomos_types.specs.Acceptance.{Acceptance}
use Rattle.nomos_types.specs.Equality.{EqualTypes}

-- the type of this number
abbrev pub type_at : ℕ → TypeId
type_at n = record { 0 = n }

-- whether two types were found equal, which they are exactly where the answer is true
abbrev pub IsAnswered : Acceptance → (ℕ × ℕ) × Bool → Type 0
IsAnswered a e = IsTrue e.1 ↔ EqualTypes a.program a.annotations (type_at e.0.0) (type_at e.0.1)

-- The names are those of the declarations, and each pair of types was answered.
pub record IsKept (a : Acceptance) (names : List (List ℕ)) (answers : List ((ℕ × ℕ) × Bool)) : Type 0 where
  pub by_name : names ≡ map (λ d. d.name) a.program.procs
  pub answered : All (IsAnswered a) answers
