-- What the object of a number does with a name.
use Rattle.std.specs.Prelude.{◌≡◌, ◌≤◌, ℕ, List, Some}
use Rattle.nomos_ir.specs.Order.{count_of}
use Rattle.nomos_machine.specs.Objects.{object_at}
use Rattle.nomos_machine.specs.declared.object.Object.{Object}

-- there is an object of the number, and it does this with the name
abbrev pub DoesAt : (Object → List ℕ) → List Object → ℕ → ℕ → Type 0
DoesAt does objects number name =
    (o : Object) × (object_at objects number ≡ Some o) × (1 ≤ count_of name (does o))
