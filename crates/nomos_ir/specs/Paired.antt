-- Two maps that bind the same variables, to things that are related.
use Rattle.std.specs.Prelude.{ℕ, List, [], ◌∷◌, Option, Some, None}
use Rattle.nomos_ir.specs.Bindings.{bound_to}
use Rattle.nomos_ir.specs.declared.ids.VarId.{VarId}

-- both are there and related, or neither is there
pub data Paired {X Y : Type 0} (R : X → Y → Type 0) : Option X → Option Y → Type 0 where
  both : {x : X} {y : Y} → R x y → Paired R (Some x) (Some y)
  neither : Paired R None None

-- each variable is bound on both sides, to what is related, or on neither
abbrev pub ArePaired : {X Y : Type 0} → (X → Y → Type 0) → List (VarId × X) → List (VarId × Y) → Type 0
ArePaired R b c = (v : ℕ) → Paired R (bound_to v b) (bound_to v c)

-- the same variables in the same order, with what is related
pub data PairedInOrder {X Y : Type 0} (R : X → Y → Type 0) : List (VarId × X) → List (VarId × Y) → Type 0 where
  none : PairedInOrder R [] []
  pair : {x : X} {y : Y} {ps : List (VarId × X)} {qs : List (VarId × Y)} → (v : VarId) → R x y → PairedInOrder R ps qs
      → PairedInOrder R ((v, x) ∷ ps) ((v, y) ∷ qs)
