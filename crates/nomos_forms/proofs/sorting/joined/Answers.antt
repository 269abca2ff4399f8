use Rattle.std.proofs.Common.{◌∙◌, List, [], ◌∷◌, ◌++◌, ap, sym, subst}
use Rattle.std.specs.Cmp.Lexicographic.{slice_cmp}
use Rattle.std.specs.List.Sorted.{IsSorted, IsStrictlySortedBy}
use Rattle.std.specs.Ordering.{int_cmp}
use Rattle.std.proofs.lemmas.List.{map-append}
use Rattle.nomos_forms.specs.RowGroups.{group_rows, rows_in}
use Rattle.nomos_forms.specs.declared.row_group.RowGroup.{RowGroup}
use Rattle.nomos_forms.specs.mirror.Joining.{coefs_of}
use Rattle.nomos_forms.proofs.CoefLemmas.{coefs_total, coefs_exact}
use Rattle.nomos_forms.proofs.GroupLemmas.{rows-push}
use Rattle.nomos_forms.proofs.SortLemmas.{last_of, join-step, strict-none}
use Rattle.nomos_forms.proofs.TakenLemmas.{taken-front}
use Rattle.nomos_forms.proofs.sorting.joined.Goals as goal

pub loop-group-init : goal.loop-group-init
loop-group-init c =
    let none = c.new-made.ensures.items in
    record {
      rows = ap rows_in none;
      ascend = subst (λ gs. IsStrictlySortedBy (slice_cmp int_cmp) (coefs_of gs)) (sym none)
          (strict-none (slice_cmp int_cmp));
      last = ap (λ gs. last_of (coefs_of gs)) none;
    }

-- one group more
pub loop-group-preserved : goal.loop-group-preserved
loop-group-preserved c =
    let R = slice_cmp int_cmp in
    let front = c.loop-group.yielded in
    let item = c.in-Some.group in
    let rest = c.next.new.self.rest.items in
    let start = c.into_iter-group-iterator in
    let coefs : RowGroup → List _ = λ g. g.coefs in
    let all = sym start.ensures.into_iter_gives.0
    ∙ taken-front start.result front c.loop-group.group-iterator c.loop-group.yielded_by
    ∙ ap (λ gs. front ++ gs) c.in-Some.ensures.steps.0 in
    let sorted = subst (IsSorted R) (ap coefs_of all ∙ map-append coefs front (item ∷ rest)) c.requires in
    let made = c.in_ok-add_group.ensures in
    let step = join-step R coefs_total coefs_exact _ _ (coefs_of front) (coefs_of rest) item.coefs sorted
    c.loop-group.invariant.last c.loop-group.invariant.ascend made.coefs in
    record {
      rows = made.rows ∙ ap (λ rows. rows ++ group_rows item) c.loop-group.invariant.rows ∙ sym (rows-push front item);
      ascend = step.0;
      last = step.1 ∙ ap last_of (sym (map-append coefs front (item ∷ [])));
    }
