-- What the code makes of a term, and where it ends early, is what the definitions say.
use Rattle.std.proofs.Common.{◌≡◌, List, [], ◌∷◌, ◌++◌, refl, ◌∙◌}
use Rattle.nomos_elaborate.proofs.CheckedLaws.{demand-then, law-then, law-last, grouped-law, bind-then, bounds-none, bounds-bind, bounds-kept, now_bound}
use Rattle.nomos_elaborate.specs.NameClaim.{declared, bound_value, within, new_on_way}
use Rattle.nomos_elaborate.specs.Scope.{bind}
use Rattle.nomos_elaborate.specs.TermBuild.{build_term, build_terms}
use Rattle.nomos_elaborate.specs.TermClaims.{term_claims, terms_claims, matched_value}
use Rattle.nomos_elaborate.specs.declared.elaborator.Elaborator.{Elaborator}
use Rattle.nomos_elaborate.specs.declared.sort.Sort.TheVariants as sort
use Rattle.nomos_elaborate.specs.mirror.Agrees.{where_all_hold}
use Rattle.nomos_elaborate.specs.mirror.Checked.{found}
use Rattle.nomos_elaborate.specs.mirror.TermCheck.{check_term, check_terms}
use Rattle.nomos_elaborate.specs.mirror.Work.{made}
use Rattle.nomos_ir.specs.declared.ids.TermId.{TermId}
use Rattle.nomos_surface.specs.Tree.{TermTree, number, truth, me, variable, application, no_items, binary, negation, choosing, matching, parenthesized, TermTrees, no_terms, term}

abbrev term_built : Elaborator → TermTree → Elaborator × TermId
term_built w t = made w (build_term w.spaces.functions w.built t)

abbrev terms_built : Elaborator → TermTrees → Elaborator × List TermId
terms_built w ts = made w (build_terms w.spaces.functions w.built ts)

mutual
  unfolding check_term check_terms term_claims terms_claims build_term build_terms

  pub term_law : (w : Elaborator) (t : TermTree)
      → check_term w t ≡ where_all_hold (term_claims w.spaces.functions w.inside w.scope t)
      (made w (build_term w.spaces.functions w.built t))
  term_law w (number at value) = refl
  term_law w (truth at value) = refl
  term_law w (me at) = demand-then (within w.inside at) [] _ _ (λ h. refl)
  term_law w (variable n) = demand-then (bound_value w.scope n) [] _ _ (λ h. refl)
  term_law w (application f arguments) =
      demand-then (declared w.spaces.functions f) (terms_claims w.spaces.functions w.inside w.scope arguments) _ _ (λ h.
      law-last (terms_built w arguments) _ _ _ (terms_claims w.spaces.functions w.inside w.scope arguments)
      (terms_law w arguments) refl)
  term_law w (no_items at element) = refl
  term_law w (binary operator at left right) =
      let v = (term_built w left).0 in
      law-then (term_built w left) _ (term_claims w.spaces.functions w.inside w.scope right) _ _
      (term_claims w.spaces.functions w.inside w.scope left) (term_law w left)
      (law-last (term_built v right) _ _ _ (term_claims w.spaces.functions w.inside w.scope right) (term_law v right)
      refl)
  term_law w (negation at inner) =
      law-last (term_built w inner) _ _ _ (term_claims w.spaces.functions w.inside w.scope inner) (term_law w inner)
      refl
  term_law w (choosing at test holds fails) =
      let c = term_claims w.spaces.functions w.inside w.scope in
      let v = (term_built w test).0 in
      let u = (term_built v holds).0 in
      law-then (term_built w test) _ (c holds ++ c fails) _ _ (c test) (term_law w test)
      (law-then (term_built v holds) _ (c fails) _ _ (c holds) (term_law v holds)
      (law-last (term_built u fails) _ _ _ (c fails) (term_law u fails) refl))
      ∙ grouped-law (c test) (c holds) (c fails) _
  term_law w (matching at matched empty head tail more) =
      let c = term_claims w.spaces.functions w.inside in
      let v = (term_built w matched).0 in
      let u = (term_built v empty).0 in
      let one = (now_bound u head sort.Value).0 in
      let two = (now_bound one tail sort.Value).0 in
      let inner = c (matched_value w.scope head tail) more in
      let rest = new_on_way w.scope head ∷ new_on_way (bind w.scope head sort.Value) tail ∷ inner in
      let whole = term_built w (matching at matched empty head tail more) in
      law-then (term_built w matched) _ (c w.scope empty ++ rest) whole _ (c w.scope matched) (term_law w matched)
      (law-then (term_built v empty) _ rest whole _ (c w.scope empty) (term_law v empty)
      (bind-then u head sort.Value (new_on_way (bind w.scope head sort.Value) tail ∷ inner) _ whole (λ g.
      bind-then one tail sort.Value inner _ whole (λ h.
      law-last (term_built two more) _ whole _ inner (term_law two more)
      (λ i. found (
        record whole.0 {
          scope = bounds-kept w.scope two.scope
              (bounds-bind w.scope one.scope tail sort.Value
              (bounds-bind w.scope w.scope head sort.Value (bounds-none w.scope) g) h) i;
        },
        whole.1,
      ))))))
      ∙ grouped-law (c w.scope matched) (c w.scope empty) rest _
  term_law w (parenthesized inner) = term_law w inner

  pub terms_law : (w : Elaborator) (ts : TermTrees)
      → check_terms w ts ≡ where_all_hold (terms_claims w.spaces.functions w.inside w.scope ts)
      (made w (build_terms w.spaces.functions w.built ts))
  terms_law w no_terms = refl
  terms_law w (term first rest) =
      let v = (term_built w first).0 in
      law-then (term_built w first) _ (terms_claims w.spaces.functions w.inside w.scope rest) _ _
      (term_claims w.spaces.functions w.inside w.scope first) (term_law w first)
      (law-last (terms_built v rest) _ _ _ (terms_claims w.spaces.functions w.inside w.scope rest) (terms_law v rest)
      refl)
