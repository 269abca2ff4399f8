use Rattle.std.proofs.Common.{rules, ◌++◌, [], ◌∷◌, List, ℤ, All, FitsSigned, to_z, of_z, sym, subst, ◌∙◌}
use Rattle.std.specs.Int.{w64}
use Rattle.std.proofs.lemmas.Int.{to_z-of_z}
use Rattle.std.proofs.lemmas.List.{map_more}
use Rattle.std.proofs.lemmas.List.Elements.{All-push}
use Rattle.nomos_forms.specs.Bounds.{IsSmall}
use Rattle.nomos_simplex.specs.Tables.{bound_of}
use Rattle.nomos_simplex.proofs.bounds.bounds_of.Goals as goal

-- one variable more
pub loop-variable-preserved : goal.loop-variable-preserved
loop-variable-preserved c =
    let rows = c.args.rows.now in
    let at = c.loop-variable.variable-index in
    let fits : FitsSigned w64 c.bound.result = search rules in
    let back = to_z-of_z w64 c.bound.result fits in
    let value = back ∙ c.bound.ensures.value in
    let small : IsSmall (to_z w64 (of_z w64 c.bound.result)) = subst IsSmall (sym back) c.bound.ensures.small in
    let items = c.in_ok-push.ensures.items in
    record {
      value = ◌∙◌ {A = List ℤ} items ((λ p. c.loop-variable.invariant.value p ++ value p ∷ [])
          ∙ sym (map_more (bound_of rows) c.args.variables.now at 0 c.loop-variable-test.true));
      small = subst (All IsSmall) (sym {A = List ℤ} items) (All-push IsSmall c.loop-variable.bounds.items
          (to_z w64 (of_z w64 c.bound.result)) c.loop-variable.invariant.small small);
    }
