-- Amounts of the program have room in a potential.
use Rattle.std.proofs.Common.{◌≡◌, ◌≤◌, ℕ, Contains, Some, slice_get, refl, arith}
use Rattle.std.proofs.lemmas.List.Elements.{All-contains}
use Rattle.nomos_ir.proofs.BindingLaws.{all-bound}
use Rattle.nomos_ir.specs.declared.amount.Amount.{Amount}
use Rattle.nomos_ir.specs.declared.amount.Amount.TheVariants as amount
use Rattle.nomos_ir.specs.declared.code_node.CodeNode.{CodeNode}
use Rattle.nomos_ir.specs.declared.declaration.ProcDecl.{ProcDecl}
use Rattle.nomos_ir.specs.declared.lists.ProgramLists.{ProgramLists}
use Rattle.nomos_ir.specs.Amounts.{IsAmount, star_of, star_count, amounts_of}
use Rattle.nomos_ir.specs.Bindings.{bound_to}
use Rattle.nomos_ir.specs.CodeParts.{code_amounts}
use Rattle.nomos_ir.specs.Program.{IsProgram}
use Rattle.nomos_forms.specs.Bounds.{HasStarUpTo}
use Rattle.nomos_check.proofs.AmountLaws as amounts
use Rattle.nomos_check.proofs.StarLaws.{program-star}
use Rattle.nomos_check.specs.declared.standing.Carried.{Carried}
use Rattle.nomos_check.specs.declared.standing.Standing.{Standing}
use Rattle.nomos_check.specs.Room.{HasRoom}
use Rattle.nomos_check.specs.mirror.FormLimits.{IsAmountOf}
use Rattle.nomos_check.specs.mirror.StandingData.{IsWithin}

-- an amount with a star up to n
pub star-below : (n : ℕ) (r : Amount) → HasStarUpTo n r → star_of r ≤ n
star-below n (amount.Written units) up = omega arith
star-below n (amount.Star star) up = up.1

-- an amount of a program is small, and its star occurs
pub is-amount : {lists : ProgramLists} → IsProgram lists → (r : Amount) → Contains (amounts_of lists) r
    → IsAmountOf lists r
is-amount {lists} is_program r among = record {
  small = All-contains (λ q. IsAmount q) (amounts_of lists) r is_program.amounts among;
  star = star-below (star_count lists) r (program-star r is_program among);
}

module _ {lists : ProgramLists} (is_program : IsProgram lists) where
  -- those of an instruction, of a declaration
  pub code-amount : (i : ℕ) (n : CodeNode) (r : Amount) → slice_get lists.code i ≡ Some n
      → Contains (code_amounts n) r → IsAmountOf lists r
  code-amount i n r found inside = is-amount is_program r (amounts.code-amount lists i n r found inside)

  pub proc-amount : (p : ℕ) (d : ProcDecl) → slice_get lists.procs p ≡ Some d → IsAmountOf lists d.amount
  proc-amount p d found = is-amount is_program d.amount (amounts.declared-amount lists p d found)

  -- there is room for an amount
  pub room-at : (s : Standing) (r : Amount) → IsWithin lists s → IsAmountOf lists r → HasRoom s.potential r
  room-at s r within amount =
      let width = within.potential.width in
      record {
        form = record { width = refl; coefs = within.potential.coefs; plus = within.potential.plus };
        small = amount.small;
        star = omega (arith, amount.star, width);
      }

-- what a list carries is an amount of the program
pub list-amount : {lists : ProgramLists} (s : Standing) (v : ℕ) (c : Carried) → IsWithin lists s
    → bound_to v s.lists ≡ Some c → IsAmountOf lists c.amount
list-amount {lists} s v c within found =
    let Its : Carried → Type 0 = λ d. IsAmountOf lists d.amount in
    all-bound Its v c s.lists within.amounts found
