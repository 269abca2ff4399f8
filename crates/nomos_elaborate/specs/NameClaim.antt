-- Claims about the names of a text: each stands at the offset of a token, and holds or does not.
use Rattle.std.specs.Prelude.{ℕ, Bool, not, List, [], ◌∷◌, Option, Some, None, if◌then◌else◌}
use Rattle.nomos_elaborate.specs.Names.{Names, is_among}
use Rattle.nomos_elaborate.specs.Scope.{Scope, sort_of, is_value, is_channel, is_list, is_unbound}
use Rattle.nomos_surface.specs.declared.name_at.NameAt.{NameAt}
use Rattle.nomos_surface.specs.declared.steps.ChanAt.{ChanAt}
use Rattle.nomos_surface.specs.declared.steps.ChanAt.TheVariants as chan

-- A claim about a name: the offset of its token in the text, and whether the claim holds.
pub record NameClaim : Type 0 where
  pub at : ℕ
  pub holds : Bool

-- where the first claim stands that does not hold
abbrev pub first_broken : List NameClaim → Option ℕ
first_broken [] = None
first_broken (c ∷ claims) = if c.holds then first_broken claims else Some c.at

-- a used name is declared in its space
abbrev pub declared : Names → NameAt → NameClaim
declared names n = record { at = n.at; holds = is_among names n.name }

-- a name is new among these
abbrev pub new_among : Names → NameAt → NameClaim
new_among names n = record { at = n.at; holds = not (is_among names n.name) }

-- a name is bound on the way as a value, as a channel, as a list
abbrev pub bound_value : Scope → NameAt → NameClaim
bound_value scope n = record { at = n.at; holds = is_value (sort_of scope n.name) }

-- A name that is used as a channel is bound on the way as one.
abbrev pub bound_channel : Scope → NameAt → NameClaim
bound_channel scope n = record { at = n.at; holds = is_channel (sort_of scope n.name) }

-- A name that is used as a list with potential is bound on the way as one.
abbrev pub bound_list : Scope → NameAt → NameClaim
bound_list scope n = record { at = n.at; holds = is_list (sort_of scope n.name) }

-- a binder's name is new on the way
abbrev pub new_on_way : Scope → NameAt → NameClaim
new_on_way scope n = record { at = n.at; holds = is_unbound (sort_of scope n.name) }

-- what stands at the offset stands inside a transaction
abbrev pub within : Bool → ℕ → NameClaim
within inside at = record { at = at; holds = inside }

-- the channel at which an instruction works is its own, or bound
abbrev pub chan_claims : Scope → ChanAt → List NameClaim
chan_claims scope (chan.Own at) = []
chan_claims scope (chan.Variable n) = bound_channel scope n ∷ []
