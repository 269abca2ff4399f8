use Rattle.std.proofs.Common.{◌≡◌, ◌∙◌, List, [], ◌∷◌, ◌++◌, Less, ap, sym, subst}
use Rattle.std.specs.Cmp.Lexicographic.{slice_cmp}
use Rattle.std.specs.List.Sorted.{IsStrictlySortedBy}
use Rattle.std.specs.Ordering.{int_cmp}
use Rattle.std.proofs.lemmas.List.{map-append}
use Rattle.std.proofs.lemmas.List.Elements.{All-contains, All-from_recursion}
use Rattle.nomos_forms.specs.RowGroups.{group_rows, rows_in}
use Rattle.nomos_forms.specs.RowOrder.{row_cmp}
use Rattle.nomos_forms.specs.declared.row_group.RowGroup.{RowGroup}
use Rattle.nomos_forms.specs.mirror.Joining.{coefs_of}
use Rattle.nomos_forms.specs.mirror.SameRows.{HasSame}
use Rattle.nomos_forms.proofs.CoefLemmas.{less-coefs}
use Rattle.nomos_forms.proofs.GroupLemmas.{rows-push, in-group, coefs-in, same-front}
use Rattle.nomos_forms.proofs.SortLemmas.{strict-front, strict-none}
use Rattle.nomos_forms.proofs.TakenLemmas.{taken-front, all-taken}
use Rattle.nomos_forms.proofs.sorting.each_once.Goals as goal

pub loop-group-init : goal.loop-group-init
loop-group-init c =
    let none = sym c.new-made.ensures.items in
    record {
      ascend = subst (λ gs. IsStrictlySortedBy row_cmp (rows_in gs)) none (strict-none row_cmp);
      same = subst (λ gs. HasSame (rows_in gs) []) none (λ row. ((λ h. h), (λ h. h)));
    }

-- the coefficients so far are less than those of the next group
pub add_sorted-requires-clause-behind : goal.add_sorted-requires-clause-behind
add_sorted-requires-clause-behind c = λ row other i j.
    let R = slice_cmp int_cmp in
    let front = c.loop-group.yielded in
    let item = c.in-Some.group in
    let rest = c.next.new.self.rest.items in
    let start = c.into_iter-group-iterator in
    let all = sym start.ensures.into_iter_gives.0
    ∙ taken-front start.result front c.loop-group.group-iterator c.loop-group.yielded_by
    ∙ ap (λ gs. front ++ gs) c.in-Some.ensures.steps.0 in
    let sorted = subst (IsStrictlySortedBy R) (ap coefs_of all ∙ map-append (λ (g : RowGroup). g.coefs) front
    (item ∷ rest)) c.requires in
    let P : List _ → Type 0 = λ coefs. R coefs item.coefs ≡ Less in
    let before = All-from_recursion P (coefs_of front)
    (strict-front R (coefs_of front) item.coefs (coefs_of rest) sorted) in
    let less = All-contains P (coefs_of front) row.coefs before
    (coefs-in front row ((c.loop-group.invariant.same row).0 i)) in
    less-coefs row other (subst (λ coefs. R row.coefs coefs ≡ Less) ((in-group item other).0 j).0 less)

pub loop-group-preserved : goal.loop-group-preserved
loop-group-preserved c =
    let front = c.loop-group.yielded in
    let item = c.in-Some.group in
    let made = c.in_ok-add_sorted.ensures in
    let more = same-front (group_rows item) (rows_in c.loop-group.made.items) (rows_in front)
    c.loop-group.invariant.same in
    record {
      ascend = made.ascend;
      same = subst (HasSame _) (sym (rows-push front item)) (λ row. (
        (λ h. (more row).0 ((made.same row).0 h)),
        (λ h. (made.same row).1 ((more row).1 h)),
      ));
    }

pub returns-clause-same : goal.returns-clause-same
returns-clause-same c =
    let start = c.into_iter-group-iterator in
    let all = all-taken start.result c.loop-group.yielded c.loop-group.group-iterator c.loop-group.yielded_by
    c.in-None.ensures.steps.0
    ∙ start.ensures.into_iter_gives.0 in
    subst (λ gs. HasSame (rows_in c.loop-group.made.items) (rows_in gs)) all c.loop-group.invariant.same
