-- The names that are bound on the way from a declaration's head, each as a value, a channel or a list, in the order in
-- which they were bound. A channel that is used up stays bound.
use Rattle.std.specs.Prelude.{ℕ, Bool, true, false, List, [], ◌∷◌, Option, Some, None, if◌then◌else◌}
use Rattle.std.specs.Str.{bytes_eq}
use Rattle.nomos_elaborate.specs.declared.sort.Sort.{Sort}
use Rattle.nomos_elaborate.specs.declared.sort.Sort.TheVariants as sort
use Rattle.nomos_surface.specs.declared.name_at.NameAt.{NameAt}

-- What is bound at a place of a code: names, each with its sort, in the order in which they were bound.
abbrev pub Scope : Type 0
Scope = List (List ℕ × Sort)

-- as what a name is bound
abbrev pub sort_of : Scope → List ℕ → Option Sort
sort_of [] n = None
sort_of (b ∷ scope) n = if bytes_eq b.0 n then Some b.1 else sort_of scope n

-- one more name is bound, behind the others; one that is bound already is bound anew
abbrev pub bind : Scope → NameAt → Sort → Scope
bind [] n s = (n.name, s) ∷ []
bind (b ∷ scope) n s = if bytes_eq b.0 n.name then (b.0, s) ∷ scope else b ∷ bind scope n s

-- whether a name with this sort, if it has one, is a value, a channel, a list, or not bound
abbrev pub is_value : Option Sort → Bool
is_value (Some sort.Value) = true
is_value _ = false

-- Whether a name that was looked up is bound as a channel.
abbrev pub is_channel : Option Sort → Bool
is_channel (Some sort.Channel) = true
is_channel _ = false

-- Whether a name that was looked up is bound as a list with potential.
abbrev pub is_list : Option Sort → Bool
is_list (Some sort.List) = true
is_list _ = false

-- Whether a name that was looked up is not bound, so that a binder may take it.
abbrev pub is_unbound : Option Sort → Bool
is_unbound None = true
is_unbound (Some s) = false
