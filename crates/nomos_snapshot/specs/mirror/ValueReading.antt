-- A mirror: how the code takes values from the front of a text.
use Rattle.std.specs.Prelude.{◌≡◌, ◌≢◌, ◌≤◌, ℕ, List, [], ◌∷◌, ◌++◌, All}
use Rattle.nomos_ir.specs.Value.{Value, ValueList, int, truth, list}
use Rattle.nomos_printing.specs.ValueTexts.{value_text, row_text}
use Rattle.nomos_snapshot.specs.LineValue.{IsLineNumber, HasSmallNumbers, nesting, HaveSmallNumbers, nestings}

-- a number or a truth value
abbrev pub IsScalar : Value → Type 0
IsScalar (int z) = IsLineNumber z
IsScalar (truth b) = Unit {0}
IsScalar (list vs) = ⊥

-- a value whose numbers fit, and so many lists of which may stand in one another
abbrev pub IsWithin : ℕ → Value → Type 0
IsWithin depth v = HasSmallNumbers v × (nesting v ≤ depth)

abbrev pub AreWithin : ℕ → ValueList → Type 0
AreWithin depth vs = HaveSmallNumbers vs × (nestings vs ≤ depth)

-- no comma and no `]`
abbrev pub IsInner : ℕ → Type 0
IsInner byte = (byte ≢ 44) × (byte ≢ 93)

-- what stands behind a value: nothing, a comma, or `]`
abbrev pub Ends : List ℕ → Type 0
Ends [] = Unit {0}
Ends (byte ∷ rest) = ¬ (IsInner byte)

-- a front without comma and `]`, and what ends it
pub record BeginsScalar (text front back : List ℕ) : Type 0 where
  pub inner : All IsInner front
  pub ends : Ends back
  pub joined : text ≡ front ++ back

-- a value within this depth, and what ends it
pub record BeginsValue (depth : ℕ) (text : List ℕ) (v : Value) (back : List ℕ) : Type 0 where
  pub within : IsWithin depth v
  pub ends : Ends back
  pub joined : text ≡ value_text v ++ back

abbrev pub HasNoValue : ℕ → List ℕ → Type 0
HasNoValue depth text = (v : Value) (back : List ℕ) → BeginsValue depth text v back → ⊥

-- the values of a list behind its `[`, the `]`, and what stands behind it
pub record BeginsRow (depth : ℕ) (text : List ℕ) (vs : ValueList) (back : List ℕ) : Type 0 where
  pub within : AreWithin depth vs
  pub joined : text ≡ row_text vs ++ 93 ∷ back

abbrev pub HasNoRow : ℕ → List ℕ → Type 0
HasNoRow depth text = (vs : ValueList) (back : List ℕ) → BeginsRow depth text vs back → ⊥
