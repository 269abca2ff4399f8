-- A program has one least run, and without a star that does not stop.
use Rattle.std.proofs.Common.{◌≡◌, ◌<◌, ◌^◌, ◌&&◌, ℕ, zero, suc, true, List, [], ◌∷◌, length, ℤ, pos, ◌+ℤ◌, ◌*ℤ◌, unsigned_abs, int_le, refl, ap, sym, subst, ◌∙◌, arith, tests, rules}
use Rattle.std.specs.Prelude.{nat_lt}
use Rattle.std.proofs.lemmas.Bool.{lt-ltb}
use Rattle.std.proofs.lemmas.Int.{ints}
use Rattle.nomos_accept.proofs.ReadLaws.{read-is_program}
use Rattle.nomos_accept.proofs.RowListLaws.{rows_for-once}
use Rattle.nomos_accept.specs.TypedText.{IsReadAs}
use Rattle.nomos_forms.specs.Bounds.{IsForm}
use Rattle.nomos_forms.specs.Linear.{dot, form_value}
use Rattle.nomos_forms.specs.declared.form.Form.{Form}
use Rattle.nomos_ir.specs.Amounts.{star_count}
use Rattle.nomos_ir.specs.Program.{IsProgram}
use Rattle.nomos_ir.specs.declared.lists.ProgramLists.{ProgramLists}
use Rattle.nomos_least.specs.Goal.{all_declared, goal_of}
use Rattle.nomos_least.specs.LeastBounds.{LeastRunEndsWith}
use Rattle.nomos_least.proofs.GoalLaws.{goal-is_form, goal-worth}
use Rattle.nomos_simplex.proofs.NoStarLaws.{no_stars-least}
use Rattle.nomos_simplex.proofs.OneEndLaws.{least-once}
use Rattle.nomos_simplex.specs.LeastRun.{LeastRun, is_total}
use Rattle.nomos_simplex.specs.declared.solved.SolvedLeast.{SolvedLeast}
use Rattle.nomos_simplex.specs.declared.solved.SolvedLeast.TheVariants as least
use Rattle.nomos_simplex.specs.declared.solved.Stop.{Stop}

-- The least run on the rows of a program and its goal has one end.
pub least_ends-once : (lists : ProgramLists) (a b : SolvedLeast) → LeastRunEndsWith lists a → LeastRunEndsWith lists b
    → a ≡ b
least_ends-once lists a b ends other =
    let same = rows_for-once lists ends.rows other.rows ends.are_rows other.are_rows in
    least-once ends.rows (goal_of lists) a b ends.run
    (subst (λ rows. LeastRun rows (goal_of lists) b) (sym same) other.run)

-- a sum over no amounts
dot-none : (cs : List ℤ) → dot cs [] ≡ pos 0
dot-none [] = refl
dot-none (c ∷ cs) = refl

value-none : (z d : ℤ) → d ≡ pos 0 → d +ℤ pos 1 *ℤ z ≡ z
value-none z d none = omega (arith, ints, none)

plus-low : (m : ℕ) (z : ℤ) → z ≡ pos m → unsigned_abs z < 2 ^ 45 → m < 2 ^ 62
plus-low m z is low =
    let small : m < 2 ^ 45 = subst (λ y. unsigned_abs y < 2 ^ 45) is low in omega (arith, small)

zero_low : (m : ℕ) → int_le (pos 0) (pos m) ≡ true
zero_low m = search (tests, rules)

total-of : (m : ℕ) → m < 2 ^ 62 → is_total (pos m) ≡ true
total-of m low = ap (λ b. b && nat_lt m (2 ^ 62)) (zero_low m) ∙ lt-ltb m (2 ^ 62) low

-- what transactions declare without a star is a total
no_stars-total : (lists : ProgramLists) → IsProgram lists → star_count lists ≡ 0
    → is_total (form_value [] 1 (goal_of lists)) ≡ true
no_stars-total lists is_program none =
    let goal = goal_of lists in
    let m = all_declared (record { stars = []; unit = 1 }) lists in
    let value : form_value [] 1 goal ≡ pos m = goal-worth lists (record { stars = []; unit = 1 }) is_program
    (sym none) in
    let plus : goal.plus ≡ pos m = sym (value-none goal.plus (dot goal.coefs []) (dot-none goal.coefs)) ∙ value in
    let low : m < 2 ^ 62 = plus-low m goal.plus plus (goal-is_form lists is_program).plus in
    ap is_total value ∙ total-of m low

empty : (cs : List ℤ) (n : ℕ) → length cs ≡ n → n ≡ 0 → cs ≡ []
empty [] n is none = refl
empty (c ∷ cs) n is none = absurd (omega (arith, is, none))

-- Without a star the least run does not stop.
pub no_stars-least_stop : (text : List ℕ) (lists : ProgramLists) (stop : Stop) → IsReadAs text lists
    → star_count lists ≡ 0 → ¬ (LeastRunEndsWith lists (least.Unsolved stop))
no_stars-least_stop text lists stop read none = λ ends.
    let is_program : IsProgram lists = read-is_program text lists read in
    no_stars-least ends.rows (goal_of lists) stop (ends.are_rows.stars ∙ none)
    (empty (goal_of lists).coefs (star_count lists) (goal-is_form lists is_program).width none)
    (no_stars-total lists is_program none) ends.run
