-- What lists carry one after the other is the potential of a process.
use Rattle.std.proofs.Common.{◌≡◌, ◌<◌, ◌≤◌, ◌+◌, ◌-◌, ◌*◌, ◌∙◌, ℕ, List, [], ◌∷◌, length, sum_by, MatchOption, Option, Some, None, ap, refl, sym, arith}
use Rattle.std.proofs.lemmas.List.Sums.{sum_by-cons}
use Rattle.nomos_ir.specs.declared.ids.VarId.{VarId}
use Rattle.nomos_machine.specs.declared.object.PotentialList.{PotentialList}
use Rattle.nomos_typed.specs.mirror.Purses.{carried_in}

pub carried-sum : (ls : List (VarId × PotentialList)) → carried_in ls ≡ sum_by (λ e. e.1.amount * length e.1.items) ls
carried-sum [] = refl
carried-sum (l ∷ ls) =
    ap (λ k. l.1.amount * length l.1.items + k) (carried-sum ls)
    ∙ sym (sum_by-cons (λ (e : VarId × PotentialList). e.1.amount * length e.1.items) l ls)

pub free-told : (r : Option ℕ) (purse carried sum : ℕ) → carried ≡ sum
    → MatchOption r (purse < carried) (λ left. left + carried ≡ purse)
    → MatchOption r (purse < sum) (λ left. (sum ≤ purse) × (left ≡ purse - sum))
free-told (Some left) purse carried sum same told = (omega (arith, same, told), omega (arith, same, told))
free-told None purse carried sum same told = omega (arith, same, told)
