-- The claims of a term: each variable is bound as a value, each called function is declared, the names of a `match` are
-- new on the way, and `me` stands inside a transaction.
use Rattle.std.specs.Prelude.{Bool, List, [], ◌∷◌, ◌++◌}
use Rattle.nomos_elaborate.specs.NameClaim.{NameClaim, declared, bound_value, new_on_way, within}
use Rattle.nomos_elaborate.specs.Names.{Names}
use Rattle.nomos_elaborate.specs.Scope.{Scope, bind}
use Rattle.nomos_elaborate.specs.declared.sort.Sort.TheVariants as sort
use Rattle.nomos_surface.specs.declared.name_at.NameAt.{NameAt}
use Rattle.nomos_surface.specs.Tree.{TermTree, number, truth, me, variable, application, no_items, binary, negation, choosing, matching, parenthesized, TermTrees, no_terms, term}

-- what is bound behind the names of a `match` between terms
abbrev pub matched_value : Scope → NameAt → NameAt → Scope
matched_value scope head tail = bind (bind scope head sort.Value) tail sort.Value

-- the declared functions, whether the term stands inside a transaction, and what is bound
unfoldable mutual
  pub term_claims : Names → Bool → Scope → TermTree → List NameClaim
  term_claims functions inside scope (number at value) = []
  term_claims functions inside scope (truth at value) = []
  term_claims functions inside scope (me at) = within inside at ∷ []
  term_claims functions inside scope (variable n) = bound_value scope n ∷ []
  term_claims functions inside scope (application f arguments) =
      declared functions f ∷ terms_claims functions inside scope arguments
  term_claims functions inside scope (no_items at element) = []
  term_claims functions inside scope (binary operator at left right) =
      term_claims functions inside scope left ++ term_claims functions inside scope right
  term_claims functions inside scope (negation at inner) = term_claims functions inside scope inner
  term_claims functions inside scope (choosing at test holds fails) =
      term_claims functions inside scope test
      ++ term_claims functions inside scope holds
      ++ term_claims functions inside scope fails
  term_claims functions inside scope (matching at matched empty head tail more) =
      term_claims functions inside scope matched
      ++ term_claims functions inside scope empty
      ++ new_on_way scope head
      ∷ new_on_way (bind scope head sort.Value) tail
      ∷ term_claims functions inside (matched_value scope head tail) more
  term_claims functions inside scope (parenthesized inner) = term_claims functions inside scope inner

  pub terms_claims : Names → Bool → Scope → TermTrees → List NameClaim
  terms_claims functions inside scope no_terms = []
  terms_claims functions inside scope (term first rest) =
      term_claims functions inside scope first ++ terms_claims functions inside scope rest
