use Rattle.std.proofs.Common.{◌==◌, ℤ, [], true, Global, map, arith, ◌≡◌, ◌∙◌, ◌++◌, ap, sym, subst, refl}
use Rattle.std.specs.List.Sorted.{IsStrictlySortedBy}
use Rattle.std.specs.Vec.{vec_len}
use Rattle.std.specs.declared.vec.Vec.{Vec}
use Rattle.std.proofs.lemmas.Bool.Decides.{Decides-eqb}
use Rattle.std.proofs.lemmas.List.{append-nil}
use Rattle.nomos_forms.specs.RowGroups.{row_of, group_rows, rows_in}
use Rattle.nomos_forms.specs.RowOrder.{row_cmp}
use Rattle.nomos_forms.specs.mirror.SameRows.{HasSame}
use Rattle.nomos_forms.specs.declared.row_group.RowGroup.{RowGroup}
use Rattle.nomos_forms.proofs.CoefLemmas.{strict-rows}
use Rattle.nomos_forms.proofs.GroupLemmas.{rows-push, same-group, same-behind}
use Rattle.nomos_forms.proofs.SortLemmas.{strict-append}
use Rattle.nomos_forms.proofs.TakenLemmas.{none-left}
use Rattle.nomos_forms.proofs.sorting.add_sorted.Goals as goal

-- no row
pub returns-then-is_empty : goal.returns-then-is_empty
returns-then-is_empty c =
    let old = c.args.groups.now.items in
    let group = c.args.group in
    let none = no-leasts group.leasts c.if-is_empty.ensures in
    record {
      ascend = c.requires.ascend;
      same = subst (HasSame (rows_in old)) (sym (append-nil (rows_in old))
          ∙ ap (λ ls. rows_in old ++ map (row_of group.coefs) ls)
          (sym none)) (λ row. ((λ h. h), (λ h. h)));
    }
  where
    no-leasts : (leasts : Vec ℤ Global) → true ≡ (vec_len leasts == 0) → leasts.items ≡ []
    no-leasts leasts e =
        let none = (Decides-eqb (vec_len leasts) 0).0 (sym e) in
        none-left leasts.items (omega (arith, none, leasts.ok.0))

pub returns : goal.returns
returns c =
    let old = c.args.groups.now.items in
    let group = c.args.group in
    let own : RowGroup = record { coefs = group.coefs; leasts = c.sort_out.new.leasts } in
    let same = same-group group own refl c.sort_out.ensures.same in
    let all = ap rows_in c.in_ok-push.ensures.items ∙ rows-push old own in
    record {
      ascend = subst (IsStrictlySortedBy row_cmp) (sym all) (strict-append row_cmp (rows_in old) (group_rows own)
          c.requires.ascend (strict-rows group.coefs _ c.sort_out.ensures.ascend)
          (λ x y i j. c.requires.behind x y i ((same y).0 j)));
      same = subst (λ rows. HasSame rows (rows_in old ++ group_rows group)) (sym all)
          (same-behind (rows_in old) (group_rows own) (group_rows group) same);
    }
