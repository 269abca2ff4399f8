use Rattle.std.proofs.Common.{◌≡◌, ◌==◌, false, zero, suc, Global, ◌∙◌, ◌<◌, ◌≤ℤ◌, ◌*ℤ◌, ℕ, ℤ, List, pos, All, length, get_or, FitsSigned, rules, ap, sym, subst, arith}
use Rattle.std.specs.Int.{w128}
use Rattle.std.specs.Vec.{vec_len}
use Rattle.std.specs.declared.vec.Vec.{Vec}
use Rattle.std.proofs.lemmas.Bool.{false≢true}
use Rattle.std.proofs.lemmas.Int.{to_z-of_z}
use Rattle.nomos_forms.specs.Bounds.{IsSmall, IsRow}
use Rattle.nomos_forms.specs.Linear.{dot}
use Rattle.nomos_forms.specs.Meeting.{MeetsRow}
use Rattle.nomos_forms.specs.RowGroups.{row_of, group_rows}
use Rattle.nomos_forms.specs.declared.row.Row.{Row}
use Rattle.nomos_forms.specs.declared.row_group.RowGroup.{RowGroup}
use Rattle.nomos_forms.proofs.GroupLemmas.{all-leasts, all-rows}
use Rattle.nomos_forms.proofs.meeting.meets_each.Goals as goal

some-of : (leasts : Vec ℤ Global) → false ≡ (vec_len leasts == 0) → 0 < length leasts.items
some-of leasts e = by (vec_len leasts) e leasts.ok.0
  where
    by : (n : ℕ) → false ≡ (n == 0) → n ≡ length leasts.items → 0 < length leasts.items
    by zero e same = absurd (false≢true e)
    by (suc n) e same = omega (arith, same)

-- a group with a row has coefficients as the row has
one-row : (n : ℕ) (group : RowGroup) → All (IsRow n) (group_rows group) → 0 < length group.leasts.items
    → IsRow n (row_of group.coefs (get_or group.leasts.items 0 (pos 0)))
one-row n group all some = all-leasts (IsRow n) group all 0 (pos 0) some

pub weigh-sum-requires-clause-width : goal.weigh-sum-requires-clause-width
weigh-sum-requires-clause-width c =
    let row = one-row _ c.args.group.now c.requires.rows (some-of c.args.group.now.leasts c.if-is_empty.ensures) in
    ap length c.as_slice.ensures ∙ row.width ∙ sym (ap length c.as_slice-2.ensures)

pub weigh-sum-requires-clause-few : goal.weigh-sum-requires-clause-few
weigh-sum-requires-clause-few c =
    let wide = weigh-sum-requires-clause-width c in
    omega (arith, wide, ap length c.as_slice-2.ensures, c.requires.few)

pub weigh-sum-requires-clause-coefs : goal.weigh-sum-requires-clause-coefs
weigh-sum-requires-clause-coefs c =
    let row = one-row _ c.args.group.now c.requires.rows (some-of c.args.group.now.leasts c.if-is_empty.ensures) in
    subst (All IsSmall) (sym c.as_slice.ensures) row.coefs

pub reaches_each-requires : goal.reaches_each-requires
reaches_each-requires c =
    subst (All IsSmall) (sym c.deref.ensures.value)
    (λ k d below. (all-leasts (IsRow _) c.args.group.now c.requires.rows k d below).least)

pub returns : goal.returns
returns c =
    let group = c.args.group.now in
    let stars = c.args.found.now.stars in
    let unit = c.args.found.now.unit in
    let M : Row → Type 0 = MeetsRow stars unit in
    let Each : ℤ → List ℤ → Type 0 = λ sum. All (λ least. (pos unit *ℤ least) ≤ℤ sum) in
    let fits : FitsSigned w128 c.weigh-sum.result = search rules in
    let value = to_z-of_z w128 c.weigh-sum.result fits ∙ c.weigh-sum.ensures.value
    ∙ (λ p. dot (c.as_slice.ensures p) (c.as_slice-2.ensures p)) in
    let own = c.deref.ensures.value in (
      λ e. all-rows M group
          (subst (Each _) own (subst (λ sum. Each sum c.deref.result.now) value (c.reaches_each.ensures.0 e))),
      λ all. c.reaches_each.ensures.1 (subst (λ sum. Each sum c.deref.result.now) (sym value)
          (subst (Each _) (sym own) (all-leasts M group all))),
    )
