-- The amounts of the accounts to which a process gets have stars of the program, or up to a greater number.
use Rattle.std.proofs.Common.{◌≡◌, ◌≤◌, ℕ, zero, suc, List, [], ◌∷◌, map, Contains, Some, slice_get, arith}
use Rattle.std.proofs.lemmas.List.Elements.{All-contains}
use Rattle.nomos_ir.specs.declared.amount.Amount.{Amount}
use Rattle.nomos_ir.specs.declared.amount.Amount.TheVariants as amount
use Rattle.nomos_ir.specs.declared.declaration.ProcDecl.{ProcDecl}
use Rattle.nomos_ir.specs.declared.lists.ProgramLists.{ProgramLists}
use Rattle.nomos_ir.specs.Amounts.{amounts_of, IsAmount, star_of, star_count, greatest}
use Rattle.nomos_ir.specs.Program.{IsProgram}
use Rattle.nomos_forms.specs.Bounds.{HasStarUpTo}
use Rattle.nomos_types.specs.Judgement.{Judgement}
use Rattle.nomos_check.specs.Account.{Account, start_account}
use Rattle.nomos_check.specs.Reaching.{Outset, GetsTo, IsPoint}
use Rattle.nomos_check.proofs.AmountLaws.{start-amounts, reached-amounts, point-amounts}
use Rattle.nomos_check.proofs.FormLaws.{HasStarsUpTo}
use Rattle.nomos_check.proofs.ListLemmas.{contains-map}

-- a number among others is at most the greatest
pub at_most-greatest : (xs : List ℕ) (x : ℕ) → Contains xs x → x ≤ greatest xs
at_most-greatest [] x (i, inside, is) = absurd (omega arith)
at_most-greatest (y ∷ xs) x (zero, inside, is) = omega (arith, is)
at_most-greatest (y ∷ xs) x (suc i, inside, is) = omega (arith, at_most-greatest xs x (i, omega arith, is))

-- an amount of this size whose star is at most n has a star up to n
star-up_to : (n : ℕ) (r : Amount) → IsAmount r → star_of r ≤ n → HasStarUpTo n r
star-up_to n (amount.Written units) is_amount low = tt
star-up_to n (amount.Star star) is_amount low = (is_amount.0, low)

-- an amount of the program has a star up to n, where the program has at most n stars
pub program-star_up_to : {lists : ProgramLists} (n : ℕ) (r : Amount) → IsProgram lists → star_count lists ≤ n
    → Contains (amounts_of lists) r → HasStarUpTo n r
program-star_up_to {lists} n r is_program few among =
    let low = at_most-greatest (map star_of (amounts_of lists)) (star_of r)
    (contains-map star_of (amounts_of lists) r among) in
    star-up_to n r (All-contains IsAmount (amounts_of lists) r is_program.amounts among) (omega (arith, low, few))

-- so it has a star of the program
pub program-star : {lists : ProgramLists} (r : Amount) → IsProgram lists → Contains (amounts_of lists) r
    → HasStarUpTo (star_count lists) r
program-star {lists} r is_program among = program-star_up_to (star_count lists) r is_program (omega arith) among

-- the account at the start of a declaration has stars of the program
pub start-stars : {lists : ProgramLists} (p : ℕ) (d : ProcDecl) → IsProgram lists → slice_get lists.procs p ≡ Some d
    → HasStarsUpTo (star_count lists) (start_account d)
start-stars {lists} p d is_program declared =
    start-amounts lists (HasStarUpTo (star_count lists)) (λ r among. program-star r is_program among) p d declared

module _ {lists : ProgramLists} {o : Outset} {n : ℕ} (is_program : IsProgram lists) (few : star_count lists ≤ n)
    (begins : HasStarsUpTo n o.account) where
  -- each account to which the process gets has stars up to n, where the first one has
  pub reached-stars : (j : Judgement) (a : Account) → GetsTo lists o j a → HasStarsUpTo n a
  reached-stars j a reached =
      reached-amounts lists (HasStarUpTo n) (λ r among. program-star_up_to n r is_program few among) begins j a reached

  -- and each point of it
  pub point-stars : (a : Account) → IsPoint lists o a → HasStarsUpTo n a
  point-stars a point =
      point-amounts lists (HasStarUpTo n) (λ r among. program-star_up_to n r is_program few among) begins a point
