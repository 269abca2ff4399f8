use Rattle.std.proofs.Common.{◌≡◌, ℕ, List, [], get_or, sym, zero-add, subst, ◌∙◌, arith}
use Rattle.std.specs.List.{range_with_len}
use Rattle.std.proofs.lemmas.List.FromFn.{get_or-range_with_len, length-range_with_len}
use Rattle.nomos_equality.specs.mirror.Linking.{Linked, same, IsForest}
use Rattle.nomos_equality.proofs.type_classes.TypeClasses.new.Goals as goal

-- each number stands over itself
alone : (n : ℕ) → IsForest (range_with_len 0 n) []
alone n i inside =
    let at : get_or (range_with_len 0 n) i 0 ≡ i =
    get_or-range_with_len 0 n i 0 (omega (arith, inside, length-range_with_len 0 n)) ∙ zero-add i in
    (omega (arith, at), subst (λ (j : ℕ). Linked [] i j) (sym at) (same i))

pub invariant_of-result : goal.invariant_of-result
invariant_of-result c =
    subst (λ (l : List ℕ). IsForest l []) (sym c.in_ok-in_place.ensures) (alone c.args.count)
