-- The least run in a table with one line for each class: what is kept stands for the full table.
use Rattle.std.proofs.Common.{◌≡◌, ℕ, ◌<◌, ◌≤◌, Bool, true, false, cond, List, length, map, get_or, refl, ap, sym, subst, ◌∙◌, arith, unsigned_abs, pos, ◌≤ℤ◌, int_lt, All, Option, Some, None}
use Rattle.std.proofs.lemmas.List.{length-map}
use Rattle.std.proofs.lemmas.Option.{same_Some, none-some}
use Rattle.nomos_forms.specs.Bounds.{IsForm}
use Rattle.nomos_forms.specs.Linear.{form_value}
use Rattle.nomos_forms.specs.declared.form.Form.{Form}
use Rattle.nomos_forms.specs.declared.found.Found.{Found}
use Rattle.nomos_forms.specs.declared.row_list.RowList.{RowList}
use Rattle.nomos_simplex.specs.Exits.{fractions, found_or_large, weight_of}
use Rattle.nomos_simplex.specs.GoalLine.{goal_line}
use Rattle.nomos_simplex.specs.LeastRun.{Exchanges, proof_of, weights_above, is_total, least_or_large}
use Rattle.nomos_simplex.specs.LowestVariable.{lowest_place}
use Rattle.nomos_simplex.specs.Nearest.{lowering, nearest, line_at}
use Rattle.nomos_simplex.specs.Sizes.{IsLine}
use Rattle.nomos_simplex.specs.declared.classes.Classed.{Classed}
use Rattle.nomos_simplex.specs.declared.lowering.Aimed.{Aimed}
use Rattle.nomos_simplex.specs.declared.solved.Solved.{Solved}
use Rattle.nomos_simplex.specs.declared.solved.Solved.TheVariants as solved
use Rattle.nomos_simplex.specs.declared.solved.SolvedLeast.{SolvedLeast}
use Rattle.nomos_simplex.specs.declared.solved.SolvedLeast.TheVariants as least
use Rattle.nomos_simplex.specs.declared.solved.Stop.TheVariants as stop
use Rattle.nomos_simplex.specs.declared.table.TableLine.{TableLine}
use Rattle.nomos_simplex.specs.declared.table.Table.{Table}
use Rattle.nomos_simplex.specs.mirror.Classes.{IsReached, IsKept, ShowsFull}
use Rattle.nomos_simplex.specs.mirror.Steps.{KeptFits, StandsAt, EndsFoundAt, LowersTo}
use Rattle.nomos_simplex.proofs.ClassNearestLemmas.{nearest-stands, none_nearest-stands}
use Rattle.nomos_simplex.proofs.ClassTableLemmas.{fractions-stand, goal_line-stands}
use Rattle.nomos_simplex.proofs.ExitLemmas.{IsRightFor, found_low}
use Rattle.nomos_simplex.proofs.LoweringLemmas.{IsAimed, aimed, one_leaves, line-is_line}
use Rattle.nomos_simplex.proofs.TurningLemmas.{reached, kept-is_table}

-- ---- how large the numbers of what is kept are
pub kept-few : (rows : RowList) (classed : Classed) → IsKept rows classed → length classed.kept.table.nonbasic ≤ 64
kept-few rows classed k =
    let table = kept-is_table rows classed k in
    omega (arith, table.width, rows.few_stars)

pub kept-lines : (rows : RowList) (classed : Classed) → IsKept rows classed →
    All (IsLine (length classed.kept.table.nonbasic)) classed.kept.table.lines
kept-lines rows classed k =
    let table = kept-is_table rows classed k in
    subst (λ n. All (IsLine n) classed.kept.table.lines) (sym table.width) table.lines

-- ---- where the pivot run stands
pub stands-kept : (rows : RowList) (classed : Classed) (pivots : ℕ) → StandsAt rows classed pivots →
    IsKept rows classed
stands-kept rows classed pivots s = record {
  full = s.full;
  reached = IsReached.by_pivots pivots s.reaches;
  shows = s.shows;
}

pub found-kept : (rows : RowList) (classed : Classed) (pivots : ℕ) → EndsFoundAt rows classed pivots →
    IsKept rows classed
found-kept rows classed pivots e = record {
  full = e.full;
  reached = IsReached.by_pivots pivots e.ends.reaches;
  shows = e.shows;
}

-- what is found from what is kept is what is found from the full table
pub found-stands : (rows : RowList) (classed : Classed) (full : Table) (pivots : ℕ) → IsReached rows full →
    ShowsFull rows classed full → found_or_large pivots (fractions rows classed.kept.table) ≡
    found_or_large pivots (fractions rows full)
found-stands rows classed full pivots r s =
    ap (found_or_large pivots)
    (fractions-stand rows classed.kept.table classed.classes full (reached rows full r) s.stands)

-- so is the goal's line
pub goal-stands : (rows : RowList) (goal : Form) (classed : Classed) (full : Table) → IsForm rows.stars goal →
    IsReached rows full → ShowsFull rows classed full → goal_line classed.kept.table goal ≡ goal_line full goal
goal-stands rows goal classed full f r s =
    goal_line-stands rows classed.kept.table classed.classes full goal f.width (reached rows full r) s.stands

-- ---- what the least run keeps
module _ (rows : RowList) (goal : Form) (pivots : ℕ) (at : Aimed) (f : IsForm rows.stars goal)
    (r : LowersTo rows goal pivots at) where
  pub lowers-reached : IsReached rows r.full
  lowers-reached = IsReached.by_lowering goal pivots at.line f r.run

  pub lowers-kept : IsKept rows at.classed
  lowers-kept = record { full = r.full; reached = lowers-reached; shows = r.shows }

  pub lowers-aimed : IsAimed rows goal r.full at.line
  lowers-aimed = aimed rows goal pivots r.full at.line f r.run

  pub lowers-line : IsLine (length at.classed.kept.table.nonbasic) at.line
  lowers-line =
      subst (λ (vs : List ℕ). IsLine (length vs) at.line) (sym r.shows.stands.nonbasic)
      (line-is_line rows goal r.full at.line lowers-aimed)

  pub lowers-fits : KeptFits at.classed.kept
  lowers-fits = record {
    over = ap length r.shows.shows ∙ length-map at.classed.kept.table.lines _;
    lines = kept-lines rows at.classed lowers-kept;
  }

  -- what is found there is right
  pub lowers-found : IsRightFor rows (found_or_large pivots (fractions rows at.classed.kept.table))
  lowers-found =
      let a = lowers-aimed in
      subst (IsRightFor rows) (sym (found-stands rows at.classed r.full pivots lowers-reached r.shows))
      (found_low pivots rows r.full a.of_rows a.none)

-- ---- the same nonbasic variables give the same
abbrev lowering_of : (line : TableLine) (vs : List ℕ) → Option ℕ
lowering_of line vs =
    lowest_place (λ j. int_lt (get_or line.coefs j (pos 0)) (pos 0)) (λ j. get_or vs j 0) (length vs)

pub lowering-stands : (table full : Table) (line : TableLine) → table.nonbasic ≡ full.nonbasic →
    lowering table line ≡ lowering full line
lowering-stands table full line e = ap (lowering_of line) e

pub proof_of-stands : (rows : RowList) (table full : Table) (line : TableLine) (total : ℕ) →
    table.nonbasic ≡ full.nonbasic → proof_of rows table line total ≡ proof_of rows full line total
proof_of-stands rows table full line total e = λ p. record {
  scale = unsigned_abs line.times;
  weights = map (weight_of rows) (weights_above (e p) line.coefs);
  total = total;
}

least-stands : (pivots : ℕ) (rows : RowList) (goal : Form) (table full : Table) (line : TableLine) (s : Solved) →
    table.nonbasic ≡ full.nonbasic →
    least_or_large pivots rows goal table line s ≡ least_or_large pivots rows goal full line s
least-stands pivots rows goal table full line (solved.Found f) e =
    let value = form_value f.stars f.unit goal in
    ap (λ made. cond (is_total value) (least.Found f made) (least.Unsolved (stop.Large pivots)))
    (proof_of-stands rows table full line (unsigned_abs value) e)
least-stands pivots rows goal table full line (solved.Refuted verdict) e = refl
least-stands pivots rows goal table full line (solved.Unsolved s) e = refl

-- the end, from what is found from what is kept
pub end-stands : (pivots : ℕ) (rows : RowList) (goal : Form) (classed : Classed) (full : Table) (line : TableLine)
    (s : Solved) → IsReached rows full → ShowsFull rows classed full →
    s ≡ found_or_large pivots (fractions rows classed.kept.table) →
    least_or_large pivots rows goal classed.kept.table line s ≡
    least_or_large pivots rows goal full line (found_or_large pivots (fractions rows full))
end-stands pivots rows goal classed full line s r h e =
    least-stands pivots rows goal classed.kept.table full line s h.stands.nonbasic
    ∙ ap (least_or_large pivots rows goal full line) (e ∙ found-stands rows classed full pivots r h)

-- ---- the answer where amounts are found, by their total
with_total : (t : Bool) (x total : ℕ) (made : ℕ → SolvedLeast) (other : SolvedLeast) →
    cond t (Some x) None ≡ Some total → cond t (made x) other ≡ made total
with_total true x total made other e = ap made (same_Some x total e)
with_total false x total made other e = absurd (none-some total e)

without_total : (t : Bool) (x : ℕ) (made other : SolvedLeast) → cond t (Some x) None ≡ None → cond t made other ≡ other
without_total true x made other e = absurd (none-some x (sym e))
without_total false x made other e = refl

pub ends_found : (pivots : ℕ) (rows : RowList) (goal : Form) (table : Table) (line : TableLine) (f : Found) (total : ℕ)
    →
    cond (is_total (form_value f.stars f.unit goal)) (Some (unsigned_abs (form_value f.stars f.unit goal))) None ≡
    Some total →
    least_or_large pivots rows goal table line (solved.Found f) ≡ least.Found f (proof_of rows table line total)
ends_found pivots rows goal table line f total e =
    let value = form_value f.stars f.unit goal in
    with_total (is_total value) (unsigned_abs value) total (λ n. least.Found f (proof_of rows table line n))
    (least.Unsolved (stop.Large pivots)) e

pub ends_large : (pivots : ℕ) (rows : RowList) (goal : Form) (table : Table) (line : TableLine) (f : Found) →
    cond (is_total (form_value f.stars f.unit goal)) (Some (unsigned_abs (form_value f.stars f.unit goal))) None ≡
    None → least_or_large pivots rows goal table line (solved.Found f) ≡ least.Unsolved (stop.Large pivots)
ends_large pivots rows goal table line f e =
    let value = form_value f.stars f.unit goal in
    without_total (is_total value) (unsigned_abs value)
    (least.Found f (proof_of rows table line (unsigned_abs value))) (least.Unsolved (stop.Large pivots)) e

-- ---- the exchange that comes
pub to_exchange : (rows : RowList) (goal : Form) (pivots : ℕ) (at : Aimed) (i j : ℕ) → IsForm rows.stars goal →
    (r : LowersTo rows goal pivots at) → j < length at.classed.kept.table.nonbasic →
    lowering at.classed.kept.table at.line ≡ Some j → nearest rows at.classed.kept.table j ≡ Some i →
    (k : ℕ) × Exchanges rows r.full at.line k j (line_at at.classed.kept.table.lines i)
to_exchange rows goal pivots at i j f r column e n =
    let table = at.classed.kept.table in
    let s = r.shows.stands in
    let a = lowers-aimed rows goal pivots at f r in
    let near = nearest-stands rows table at.classed.classes r.full i j a.of_rows s r.shows.lead a.none column n in (
      near.0,
      record {
        column = sym (lowering-stands table r.full at.line s.nonbasic) ∙ e;
        place = near.1;
        there = near.2;
      },
    )

pub some_leaves : (rows : RowList) (goal : Form) (pivots : ℕ) (at : Aimed) (j : ℕ) → IsForm rows.stars goal →
    LowersTo rows goal pivots at → All (λ c. pos 0 ≤ℤ c) goal.coefs → j < length at.classed.kept.table.nonbasic →
    lowering at.classed.kept.table at.line ≡ Some j → ¬ (nearest rows at.classed.kept.table j ≡ None)
some_leaves rows goal pivots at j f r high column e n =
    let table = at.classed.kept.table in
    let s = r.shows.stands in
    let a = lowers-aimed rows goal pivots at f r in
    one_leaves rows goal r.full at.line j a high (sym (lowering-stands table r.full at.line s.nonbasic) ∙ e)
    (none_nearest-stands rows table at.classed.classes r.full j a.of_rows s r.shows.lead a.none column n)
