-- Which arguments of a spawned or called process hand over a list.
use Rattle.std.specs.Prelude.{Option, Some, None, if◌then◌else◌}
use Rattle.nomos_elaborate.specs.Scope.{Scope, sort_of, is_list}
use Rattle.nomos_surface.specs.declared.name_at.NameAt.{NameAt}
use Rattle.nomos_surface.specs.Tree.{TermTree, number, truth, me, variable, application, no_items, binary, negation, choosing, matching, parenthesized}

-- the name, where the term is only a name, in parentheses or not
abbrev pub whole_name : TermTree → Option NameAt
whole_name (number at value) = None
whole_name (truth at value) = None
whole_name (me at) = None
whole_name (variable n) = Some n
whole_name (application f arguments) = None
whole_name (no_items at element) = None
whole_name (binary operator at left right) = None
whole_name (negation at inner) = None
whole_name (choosing at test holds fails) = None
whole_name (matching at matched empty head tail more) = None
whole_name (parenthesized inner) = whole_name inner

-- the name, where it is bound as a list
abbrev pub if_list : Scope → Option NameAt → Option NameAt
if_list scope None = None
if_list scope (Some n) = if is_list (sort_of scope n.name) then Some n else None

-- the list that a whole argument names
abbrev pub list_argument : Scope → TermTree → Option NameAt
list_argument scope t = if_list scope (whole_name t)
