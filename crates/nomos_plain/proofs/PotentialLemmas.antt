-- The potential of a process's lists, taken list by list.
use Rattle.std.proofs.Common.{◌≡◌, ◌+◌, ◌*◌, ◌<◌, ℕ, List, [], ◌∷◌, length, Option, Some, None, MatchOption, sum_by, refl, sym, ap, ◌∙◌, arith, nat_le}
use Rattle.std.proofs.lemmas.Bool.{le-leb, lt-leb}
use Rattle.std.proofs.lemmas.List.Sums.{sum_by-cons}
use Rattle.std.specs.Option.{is_some}
use Rattle.nomos_ir.specs.declared.ids.VarId.{VarId}
use Rattle.nomos_machine.specs.declared.object.PotentialList.{PotentialList}
use Rattle.nomos_changes.specs.Gives.{potential_in}

pub potential-sum : (lists : List (VarId × PotentialList))
    → potential_in lists ≡ sum_by (λ e. e.1.amount * length e.1.items) lists
potential-sum [] = refl
potential-sum (e ∷ lists) =
    ap (λ (n : ℕ). e.1.amount * length e.1.items + n) (potential-sum lists)
    ∙ sym (sum_by-cons (λ (e : VarId × PotentialList). e.1.amount * length e.1.items) e lists)

-- what is left of a purse beside the gas is enough for the lists exactly where the purse is for both
pub both-told : (o : Option ℕ) (gas left other potential purse : ℕ)
    → MatchOption o (left < other) (λ beside. beside + other ≡ left) → other ≡ potential → left + gas ≡ purse
    → is_some o ≡ nat_le (gas + potential) purse
both-told (Some beside) gas left other potential purse fits same all =
    sym (le-leb (gas + potential) purse (omega (arith, fits, same, all)))
both-told None gas left other potential purse less same all =
    sym (lt-leb (gas + potential) purse (omega (arith, less, same, all)))
