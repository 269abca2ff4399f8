use Rattle.std.proofs.Common.{◌∙◌, map, filter, ℕ, List, ap, sym, subst}
use Rattle.std.proofs.lemmas.List.Kept.{IsStrictlySortedBy-filter}
use Rattle.std.specs.List.Sorted.{IsStrictlySortedBy}
use Rattle.std.specs.Ordering.{nat_cmp}
use Rattle.nomos_ir.specs.Order.{count_of}
use Rattle.nomos_ir.specs.declared.ids.TypeId.{TypeId}
use Rattle.nomos_typed.specs.mirror.Ties.{limited, once}
use Rattle.nomos_typed.proofs.owning.are_tied.Goals as goal

pub stand_once-requires : goal.stand_once-requires
stand_once-requires c =
    let told = c.args.told.now in
    let right = c.as_slice-2.ensures.value ∙ c.in_ok-wanted.ensures in
    subst (IsStrictlySortedBy nat_cmp) (sym right)
    (IsStrictlySortedBy-filter nat_cmp (once told c.args.tie) (map (λ (t : ℕ × TypeId). t.0) told.types.now)
    c.requires.types)

pub returns : goal.returns
returns c =
    let told = c.args.told.now in
    let kept : List ℕ → List ℕ = filter (limited told c.args.tie) in
    let left = c.in_ok-found.ensures ∙ ap kept (c.as_slice.ensures.value ∙ c.in_ok-all.ensures) in
    let right = c.as_slice-2.ensures.value ∙ c.in_ok-wanted.ensures in (
      λ yes n. ap (count_of n) (sym left) ∙ c.stand_once.ensures.0 yes n ∙ ap (count_of n) right,
      λ are. c.stand_once.ensures.1 (λ n. ap (count_of n) left ∙ are n ∙ ap (count_of n) (sym right)),
    )
