-- Kinds of values.
use Rattle.std.specs.Prelude.{◌≡◌, ℕ, Some}
use Rattle.nomos_ir.specs.declared.kind.Kind.{Kind}
use Rattle.nomos_ir.specs.Bindings.{bound_to}
use Rattle.nomos_ir.specs.Evaluation.{Environment}
use Rattle.nomos_ir.specs.TermKind.{VariableKinds, int_kind, bool_kind, list_kind}
use Rattle.nomos_ir.specs.Value.{Value, int, truth, list, ValueList, no_values, value}

-- the value has this kind; the empty list has the kind of every list
abbrev mutual
  pub ValueHasKind : Value → Kind → Type 0
  ValueHasKind (int z) kind = kind ≡ int_kind
  ValueHasKind (truth b) kind = kind ≡ bool_kind
  ValueHasKind (list vs) kind = (element : Kind) × (kind ≡ list_kind element) × AllHaveKind vs element

  pub AllHaveKind : ValueList → Kind → Type 0
  AllHaveKind no_values kind = Unit {0}
  AllHaveKind (value v vs) kind = ValueHasKind v kind × AllHaveKind vs kind

-- each of these variables has a value of its kind
abbrev pub HasKinds : Environment → VariableKinds → Type 0
HasKinds env vars =
    (v : ℕ) (kind : Kind) → bound_to v vars ≡ Some kind → (w : Value) × (bound_to v env ≡ Some w) × ValueHasKind w kind
