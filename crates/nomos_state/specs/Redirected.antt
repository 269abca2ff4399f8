-- An object, found by its number, uses one name instead of another.
use Rattle.std.specs.Prelude.{ℕ, List, map, Some}
use Rattle.std.specs.Option.{option_to_list}
use Rattle.nomos_machine.specs.Change.{put_all}
use Rattle.nomos_machine.specs.Objects.{object_at, object_number}
use Rattle.nomos_machine.specs.Revised.{uses_instead}
use Rattle.nomos_machine.specs.declared.object.Object.{Object}

-- the object of this number uses the new name wherever it used the old one
abbrev pub redirected_at : ℕ → ℕ → ℕ → List Object → List Object
redirected_at number old new objects =
    put_all (map (λ o. (object_number o, Some (uses_instead old new o))) (option_to_list (object_at objects number)))
    objects
