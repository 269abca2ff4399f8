-- The potential of a process's lists, taken list by list.
use Rattle.std.proofs.Common.{◌≡◌, ◌+◌, ◌*◌, ℕ, List, [], ◌∷◌, length, sum_by, refl, sym, ap, ◌∙◌}
use Rattle.std.proofs.lemmas.List.Sums.{sum_by-cons}
use Rattle.nomos_ir.specs.declared.ids.VarId.{VarId}
use Rattle.nomos_machine.specs.declared.object.PotentialList.{PotentialList}
use Rattle.nomos_changes.specs.Gives.{potential_in}

pub potential-sum : (lists : List (VarId × PotentialList))
    → potential_in lists ≡ sum_by (λ e. e.1.amount * length e.1.items) lists
potential-sum [] = refl
potential-sum (e ∷ lists) =
    ap (λ (n : ℕ). e.1.amount * length e.1.items + n) (potential-sum lists)
    ∙ sym (sum_by-cons (λ (e : VarId × PotentialList). e.1.amount * length e.1.items) e lists)
