-- The lines of the first table: one for each row, whose sum has the row's number.
use Rattle.std.proofs.Common.{◌≡◌, ℕ, zero, suc, ◌+◌, ◌<◌, List, [], ◌∷◌, length, get_or, ap, sym, refl, subst, ◌∙◌, arith, pos, All}
use Rattle.nomos_forms.specs.declared.row.Row.{Row}
use Rattle.nomos_simplex.specs.Tables.{lines_from}
use Rattle.nomos_simplex.specs.declared.table.TableLine.{TableLine}

pub length-lines_from : (v : ℕ) (rows : List Row) → length (lines_from v rows) ≡ length rows
length-lines_from v [] = refl
length-lines_from v (row ∷ rows) = ap suc (length-lines_from (v + 1) rows)

pub get_or-lines_from : (v : ℕ) (rows : List Row) (k : ℕ) (d : TableLine) (e : Row) → k < length rows →
    get_or (lines_from v rows) k d ≡ record { times = pos 1; basic = v + k; coefs = (get_or rows k e).coefs }
get_or-lines_from v [] k d e h = absurd (omega arith)
get_or-lines_from v (row ∷ rows) zero d e h = let n : v ≡ v + 0 =
    omega arith in λ p. record { times = pos 1; basic = n p; coefs = row.coefs }
get_or-lines_from v (row ∷ rows) (suc k) d e h =
    let n : v + 1 + k ≡ v + suc k = omega arith in
    get_or-lines_from (v + 1) rows k d e (omega arith)
    ∙ (λ p. record { times = pos 1; basic = n p; coefs = (get_or rows k e).coefs })

-- what holds of the line of each row holds of each line
pub All-lines_from : (P : TableLine → Type 0) (v : ℕ) (rows : List Row) →
    ((k : ℕ) (e : Row) → k < length rows →
    P (record { times = pos 1; basic = v + k; coefs = (get_or rows k e).coefs })) → All P (lines_from v rows)
All-lines_from P v [] h k d l = absurd (omega arith)
All-lines_from P v (row ∷ rows) h k d l =
    let l' : k < length (row ∷ rows) = omega (arith, length-lines_from v (row ∷ rows)) in
    subst P (sym (get_or-lines_from v (row ∷ rows) k d row l')) (h k row l')

pub at_lines_from : (P : TableLine → Type 0) (v : ℕ) (rows : List Row) (k : ℕ) (e : Row) → k < length rows →
    All P (lines_from v rows) → P (record { times = pos 1; basic = v + k; coefs = (get_or rows k e).coefs })
at_lines_from P v rows k e l h =
    let d : TableLine = record { times = pos 1; basic = v; coefs = [] } in
    subst P (get_or-lines_from v rows k d e l) (h k d (omega (arith, length-lines_from v rows)))
