-- The least run on rows and a goal has one end.
use Rattle.std.proofs.Common.{◌≡◌, ◌+◌, ◌-◌, ◌<◌, ◌≤◌, ℕ, true, false, Option, Some, None, slice_get, refl, sym, ap, subst, ◌∙◌, inl, inr, arith}
use Rattle.std.proofs.lemmas.Bool.{cases_lt}
use Rattle.nomos_forms.specs.declared.form.Form.{Form}
use Rattle.nomos_forms.specs.declared.found.Found.{Found}
use Rattle.nomos_forms.specs.declared.row_list.RowList.{RowList}
use Rattle.nomos_forms.specs.declared.verdict.Verdict.{Verdict}
use Rattle.nomos_simplex.specs.Exchange.{exchanged}
use Rattle.nomos_simplex.specs.Exits.{fractions, found_or_large}
use Rattle.nomos_simplex.specs.GoalLine.{goal_line}
use Rattle.nomos_simplex.specs.LeastRun.{PivotsTo, EndsFound, Exchanges, Lowers, LeastRun, line_exchanged, is_large_with, least_or_large}
use Rattle.nomos_simplex.specs.LowestVariable.{leaving}
use Rattle.nomos_simplex.specs.Nearest.{lowering, nearest}
use Rattle.nomos_simplex.specs.PivotRun.{turn, turn_from, answer_to}
use Rattle.nomos_simplex.specs.declared.solved.Solved.TheVariants as solved
use Rattle.nomos_simplex.specs.declared.solved.SolvedLeast.{SolvedLeast}
use Rattle.nomos_simplex.specs.declared.solved.SolvedLeast.TheVariants as least
use Rattle.nomos_simplex.specs.declared.solved.Stop.{Stop}
use Rattle.nomos_simplex.specs.declared.solved.Stop.TheVariants as stop
use Rattle.nomos_simplex.specs.declared.table.TableLine.{TableLine}
use Rattle.nomos_simplex.specs.declared.table.Table.{Table}
use Rattle.nomos_simplex.specs.declared.turn.PivotTurn.TheVariants.{Goes}

same_some : {A : Type 0} (a b : A) → Some a ≡ Some b → a ≡ b
same_some a b e = cc

none_some : {A : Type 0} {o : Option A} {a : A} → o ≡ None → o ≡ Some a → ⊥
none_some none some = absurd cc

-- ---- the pivot run
same_goes : (a b : Table) → Goes a ≡ Goes b → a ≡ b
same_goes a b e = cc

-- after so many pivots it has come to one table
reached-once : (rows : RowList) (n m : ℕ) (t u : Table) → n ≡ m → PivotsTo rows n t → PivotsTo rows m u → t ≡ u
reached-once rows n m t u e PivotsTo.at_first PivotsTo.at_first = refl
reached-once rows n m t u e PivotsTo.at_first (PivotsTo.goes_on after r is) = absurd (omega (arith, e))
reached-once rows n m t u e (PivotsTo.goes_on after r is) PivotsTo.at_first = absurd (omega (arith, e))
reached-once rows n m t u e (PivotsTo.goes_on {pivots = p} {table = earlier} after r is)
    (PivotsTo.goes_on {pivots = q} {table = own} other s gives) =
    let same : p ≡ q = omega (arith, e) in
    let at_one : earlier ≡ own = reached-once rows p q earlier own same r s in
    same_goes after other
    (sym is ∙ ap (λ k. turn (2000 - k) k rows earlier) same ∙ ap (λ x. turn (2000 - q) q rows x) at_one ∙ gives)

-- where it comes to more pivots, it goes on
abbrev GoesOn : RowList → ℕ → Table → Type 0
GoesOn rows n t = (after : Table) × (turn (2000 - n) n rows t ≡ Goes after)

reached-before : (rows : RowList) (n m : ℕ) (t u : Table) → n < m → PivotsTo rows n t → PivotsTo rows m u →
    GoesOn rows n t
reached-before rows n m t u less r PivotsTo.at_first = absurd (omega (arith, less))
reached-before rows n m t u less r (PivotsTo.goes_on {pivots = q} {table = own} after s gives) =
    elim (cases_lt n q) [
      | inl below ↦ reached-before rows n q t own below r s
      | inr above ↦
          let same : n ≡ q = omega (arith, less, above) in
          let at_one : t ≡ own = reached-once rows n q t own same r s in
          (after, ap (λ k. turn (2000 - k) k rows t) same ∙ ap (λ x. turn (2000 - q) q rows x) at_one ∙ gives)
    ]

-- where no basic variable is below its bound, it does not
stays : (rows : RowList) (n : ℕ) (t : Table) → leaving rows t ≡ None → GoesOn rows n t → ⊥
stays rows n t none (after, goes) =
    let is : turn_from (2000 - n) n rows t None ≡ Goes after =
    subst (λ o. turn_from (2000 - n) n rows t o ≡ Goes after) none goes in absurd cc

-- so it ends with amounts once
found-once : (rows : RowList) (n m : ℕ) (t u : Table) → EndsFound rows n t → EndsFound rows m u → (n ≡ m) × (t ≡ u)
found-once rows n m t u a b =
    elim (cases_lt n m) [
      | inl below ↦ absurd (stays rows n t a.none_below (reached-before rows n m t u below a.reaches b.reaches))
      | inr above ↦
          elim (cases_lt m n) [
            | inl over ↦ absurd (stays rows m u b.none_below (reached-before rows m n u t over b.reaches a.reaches))
            | inr most ↦
                let same : n ≡ m = omega (arith, above, most) in
                (same, reached-once rows n m t u same a.reaches b.reaches)
          ]
    ]

-- ---- the least run
-- where it began
record Began (rows : RowList) (goal : Form) (n : ℕ) : Type 0 where
  at : ℕ
  table : Table
  line : TableLine
  ends : EndsFound rows at table
  is : goal_line table goal ≡ Some line
  most : at ≤ n

began : (rows : RowList) (goal : Form) (n : ℕ) (t : Table) (l : TableLine) → Lowers rows goal n t l → Began rows goal n
began rows goal n t l (Lowers.begins ends e) =
    record { at = n; table = t; line = l; ends = ends; is = e; most = omega arith }
began rows goal n t l (Lowers.goes_on {pivots = p} {table = earlier} {line = own} i j left d x most small) =
    let b = began rows goal p earlier own d in
    record { at = b.at; table = b.table; line = b.line; ends = b.ends; is = b.is; most = omega (arith, b.most) }

-- what is exchanged
exchanged-once : (rows : RowList) (t : Table) (l : TableLine) (i j m n : ℕ) (left own : TableLine)
    → Exchanges rows t l i j left →
    Exchanges rows t l m n own
    → (exchanged i j left t ≡ exchanged m n own t) × (line_exchanged j left l ≡ line_exchanged n own l)
exchanged-once rows t l i j m n left own x y =
    let columns : j ≡ n = same_some j n (sym x.column ∙ y.column) in
    let places : i ≡ m = same_some i m (sym x.place ∙ ap (λ c. nearest rows t c) columns ∙ y.place) in
    let lines : left ≡ own =
    same_some left own (sym x.there ∙ ap (λ c. slice_get t.lines c) places ∙ y.there) in (
      ap (λ c. exchanged c j left t) places ∙ ap (λ c. exchanged m c left t) columns
          ∙ ap (λ c. exchanged m n c t) lines,
      ap (λ c. line_exchanged c left l) columns ∙ ap (λ c. line_exchanged n c l) lines,
    )

exchanges-once : (rows : RowList) (t u : Table) (l k : TableLine) (i j m n : ℕ) (left own : TableLine) → t ≡ u → l ≡ k →
    Exchanges rows t l i j left → Exchanges rows u k m n own
    → (exchanged i j left t ≡ exchanged m n own u) × (line_exchanged j left l ≡ line_exchanged n own k)
exchanges-once rows t u l k i j m n left own e f x y =
    let here : Exchanges rows t l m n own =
    subst (λ z. Exchanges rows t z m n own) (sym f) (subst (λ z. Exchanges rows z k m n own) (sym e) y) in
    let same = exchanged-once rows t l i j m n left own x here in
    (same.0 ∙ ap (λ z. exchanged m n own z) e, same.1 ∙ ap (λ z. line_exchanged n own z) f)

-- after so many pivots it has come to one table and one line
lowered-once : (rows : RowList) (goal : Form) (n m : ℕ) (t u : Table) (l k : TableLine) → n ≡ m → Lowers rows goal n t l
    → Lowers rows goal m u k → (t ≡ u) × (l ≡ k)
lowered-once rows goal n m t u l k e (Lowers.begins ends is) (Lowers.begins others gives) =
    let at_one : t ≡ u = (found-once rows n m t u ends others).1 in
    (at_one, same_some l k (sym is ∙ ap (λ x. goal_line x goal) at_one ∙ gives))
lowered-once rows goal n m t u l k e (Lowers.begins ends is)
    (Lowers.goes_on {pivots = q} {table = own} {line = its} i j left d x most small) =
    let b = began rows goal q own its d in
    absurd (omega (arith, e, b.most, (found-once rows n b.at t b.table ends b.ends).0))
lowered-once rows goal n m t u l k e
    (Lowers.goes_on {pivots = p} {table = earlier} {line = its} i j left d x most small) (Lowers.begins ends is) =
    let b = began rows goal p earlier its d in
    absurd (omega (arith, e, b.most, (found-once rows m b.at u b.table ends b.ends).0))
lowered-once rows goal n m t u l k e
    (Lowers.goes_on {pivots = p} {table = earlier} {line = its} i j left d x most small)
    (Lowers.goes_on {pivots = q} {table = own} {line = that} v w other g y most_two small_two) =
    let before = lowered-once rows goal p q earlier own its that (omega (arith, e)) d g in
    exchanges-once rows earlier own its that i j v w left other before.0 before.1 x y

-- where it comes to more pivots, it goes on
record StepsOn (rows : RowList) (n : ℕ) (t : Table) (l : TableLine) : Type 0 where
  place : ℕ
  column : ℕ
  left : TableLine
  exchanges : Exchanges rows t l place column left
  most : n < 2000
  small : is_large_with (exchanged place column left t) (line_exchanged column left l) ≡ false

steps-there : (rows : RowList) (n q : ℕ) (t u : Table) (l k : TableLine) → n ≡ q → t ≡ u → l ≡ k → StepsOn rows q u k →
    StepsOn rows n t l
steps-there rows n q t u l k e f g s =
    subst (λ c. StepsOn rows c t l) (sym e)
    (subst (λ z. StepsOn rows q z l) (sym f) (subst (λ z. StepsOn rows q u z) (sym g) s))

lowered-before : (rows : RowList) (goal : Form) (n m : ℕ) (t u : Table) (l k : TableLine) → n < m
    → Lowers rows goal n t l
    → Lowers rows goal m u k → StepsOn rows n t l
lowered-before rows goal n m t u l k less d (Lowers.begins ends is) =
    let b = began rows goal n t l d in
    absurd (omega (arith, less, b.most, (found-once rows m b.at u b.table ends b.ends).0))
lowered-before rows goal n m t u l k less d
    (Lowers.goes_on {pivots = q} {table = own} {line = its} i j left g x most small) =
    elim (cases_lt n q) [
      | inl below ↦ lowered-before rows goal n q t own l its below d g
      | inr above ↦
          let same : n ≡ q = omega (arith, less, above) in
          let at_one = lowered-once rows goal n q t own l its same d g in
          steps-there rows n q t own l its same at_one.0 at_one.1 (record {
            place = i;
            column = j;
            left = left;
            exchanges = x;
            most = most;
            small = small;
          })
    ]

-- what is answered at the last table
data Last (rows : RowList) (goal : Form) (n : ℕ) (t : Table) (l : TableLine) : SolvedLeast → Type 0 where
  lowest : lowering t l ≡ None →
      Last rows goal n t l (least_or_large n rows goal t l (found_or_large n (fractions rows t)))
  spent : (i j : ℕ) (left : TableLine) → n ≡ 2000 → Exchanges rows t l i j left →
      Last rows goal n t l (least.Unsolved stop.Pivots)
  too_large : (i j : ℕ) (left : TableLine) → Exchanges rows t l i j left → n < 2000 →
      is_large_with (exchanged i j left t) (line_exchanged j left l) ≡ true →
      Last rows goal n t l (least.Unsolved (stop.Large (n + 1)))

last-stays : (rows : RowList) (goal : Form) (n : ℕ) (t : Table) (l : TableLine) (a : SolvedLeast)
    → Last rows goal n t l a
    → StepsOn rows n t l → ⊥
last-stays rows goal n t l a (Last.lowest none) s = none_some none s.exchanges.column
last-stays rows goal n t l a (Last.spent i j left e x) s = absurd (omega (arith, e, s.most))
last-stays rows goal n t l a (Last.too_large i j left x most large) s =
    let same = exchanged-once rows t l i j s.place s.column left s.left x s.exchanges in
    let both : true ≡ false =
    sym large ∙ ap (λ y. is_large_with y (line_exchanged j left l)) same.0
    ∙ ap (λ y. is_large_with (exchanged s.place s.column s.left t) y) same.1 ∙ s.small in absurd cc

last-once : (rows : RowList) (goal : Form) (n : ℕ) (t : Table) (l : TableLine) (a b : SolvedLeast)
    → Last rows goal n t l a
    → Last rows goal n t l b → a ≡ b
last-once rows goal n t l a b (Last.lowest none) (Last.lowest other) = refl
last-once rows goal n t l a b (Last.lowest none) (Last.spent i j left e x) = absurd (none_some none x.column)
last-once rows goal n t l a b (Last.lowest none) (Last.too_large i j left x most large) =
    absurd (none_some none x.column)
last-once rows goal n t l a b (Last.spent i j left e x) (Last.lowest none) = absurd (none_some none x.column)
last-once rows goal n t l a b (Last.spent i j left e x) (Last.spent v w own f y) = refl
last-once rows goal n t l a b (Last.spent i j left e x) (Last.too_large v w own y most large) =
    absurd (omega (arith, e, most))
last-once rows goal n t l a b (Last.too_large i j left x most large) (Last.lowest none) =
    absurd (none_some none x.column)
last-once rows goal n t l a b (Last.too_large i j left x most large) (Last.spent v w own e y) =
    absurd (omega (arith, e, most))
last-once rows goal n t l a b (Last.too_large i j left x most large) (Last.too_large v w own y less other) = refl

-- ---- the answer
-- how an answer comes about
data Comes (rows : RowList) (goal : Form) : SolvedLeast → Type 0 where
  refuted : (verdict : Verdict) → answer_to rows ≡ solved.Refuted verdict → Comes rows goal (least.Refuted verdict)
  stopped : (s : Stop) → answer_to rows ≡ solved.Unsolved s → Comes rows goal (least.Unsolved s)
  no_goal : (n : ℕ) (t : Table) → EndsFound rows n t → goal_line t goal ≡ None →
      Comes rows goal (least.Unsolved (stop.Large n))
  lowered : (n : ℕ) (t : Table) (l : TableLine) (a : SolvedLeast) → Lowers rows goal n t l → Last rows goal n t l a →
      Comes rows goal a

comes : (rows : RowList) (goal : Form) (a : SolvedLeast) → LeastRun rows goal a → Comes rows goal a
comes rows goal a (LeastRun.refuted verdict e) = Comes.refuted verdict e
comes rows goal a (LeastRun.stopped s e) = Comes.stopped s e
comes rows goal a (LeastRun.large_goal n t ends none) = Comes.no_goal n t ends none
comes rows goal a (LeastRun.ends n t l d none) = Comes.lowered n t l _ d (Last.lowest none)
comes rows goal a (LeastRun.pivots_made t l i j left d x) = Comes.lowered 2000 t l _ d (Last.spent i j left refl x)
comes rows goal a (LeastRun.large n t l i j left d x most large) =
    Comes.lowered n t l _ d (Last.too_large i j left x most large)

refuted-or_found : (v : Verdict) (f : Found) → solved.Refuted v ≡ solved.Found f → ⊥
refuted-or_found v f e = absurd cc

stopped-or_found : (s : Stop) (f : Found) → solved.Unsolved s ≡ solved.Found f → ⊥
stopped-or_found s f e = absurd cc

refuted-or_stopped : (v : Verdict) (s : Stop) → solved.Refuted v ≡ solved.Unsolved s → ⊥
refuted-or_stopped v s e = absurd cc

same_refuted : (v w : Verdict) → solved.Refuted v ≡ solved.Refuted w → v ≡ w
same_refuted v w e = cc

same_stopped : (s r : Stop) → solved.Unsolved s ≡ solved.Unsolved r → s ≡ r
same_stopped s r e = cc

-- a goal has a line where the least run lowers it
no_line : (rows : RowList) (goal : Form) (n m : ℕ) (t u : Table) (l : TableLine) → EndsFound rows n t →
    goal_line t goal ≡ None → Lowers rows goal m u l → ⊥
no_line rows goal n m t u l ends none d =
    let b = began rows goal m u l d in
    let same = found-once rows n b.at t b.table ends b.ends in
    none_some none (ap (λ z. goal_line z goal) same.1 ∙ b.is)

lowered-answers : (rows : RowList) (goal : Form) (n m : ℕ) (t u : Table) (l k : TableLine) (a b : SolvedLeast) →
    Lowers rows goal n t l → Last rows goal n t l a → Lowers rows goal m u k → Last rows goal m u k b → a ≡ b
lowered-answers rows goal n m t u l k a b d x g y =
    elim (cases_lt n m) [
      | inl below ↦ absurd (last-stays rows goal n t l a x (lowered-before rows goal n m t u l k below d g))
      | inr above ↦
          elim (cases_lt m n) [
            | inl over ↦ absurd (last-stays rows goal m u k b y (lowered-before rows goal m n u t k l over g d))
            | inr most ↦
                let same : n ≡ m = omega (arith, above, most) in
                let at_one = lowered-once rows goal n m t u l k same d g in
                last-once rows goal n t l a b x
                (subst (λ z. Last rows goal n t z b) (sym at_one.1)
                (subst (λ z. Last rows goal n z k b) (sym at_one.0) (subst (λ c. Last rows goal c u k b) (sym same) y)))
          ]
    ]

comes-once : (rows : RowList) (goal : Form) (a b : SolvedLeast) → Comes rows goal a → Comes rows goal b → a ≡ b
comes-once rows goal a b (Comes.refuted v e) (Comes.refuted w f) = ap least.Refuted (same_refuted v w (sym e ∙ f))
comes-once rows goal a b (Comes.refuted v e) (Comes.stopped s f) = absurd (refuted-or_stopped v s (sym e ∙ f))
comes-once rows goal a b (Comes.refuted v e) (Comes.no_goal n t ends none) =
    absurd (refuted-or_found v ends.found (sym e ∙ ends.answer))
comes-once rows goal a b (Comes.refuted v e) (Comes.lowered n t l c d x) =
    let p = began rows goal n t l d in absurd (refuted-or_found v p.ends.found (sym e ∙ p.ends.answer))
comes-once rows goal a b (Comes.stopped s e) (Comes.refuted w f) = absurd (refuted-or_stopped w s (sym f ∙ e))
comes-once rows goal a b (Comes.stopped s e) (Comes.stopped r f) = ap least.Unsolved (same_stopped s r (sym e ∙ f))
comes-once rows goal a b (Comes.stopped s e) (Comes.no_goal n t ends none) =
    absurd (stopped-or_found s ends.found (sym e ∙ ends.answer))
comes-once rows goal a b (Comes.stopped s e) (Comes.lowered n t l c d x) =
    let p = began rows goal n t l d in absurd (stopped-or_found s p.ends.found (sym e ∙ p.ends.answer))
comes-once rows goal a b (Comes.no_goal n t ends none) (Comes.refuted w f) =
    absurd (refuted-or_found w ends.found (sym f ∙ ends.answer))
comes-once rows goal a b (Comes.no_goal n t ends none) (Comes.stopped s f) =
    absurd (stopped-or_found s ends.found (sym f ∙ ends.answer))
comes-once rows goal a b (Comes.no_goal n t ends none) (Comes.no_goal m u others lacks) =
    ap (λ c. least.Unsolved (stop.Large c)) (found-once rows n m t u ends others).0
comes-once rows goal a b (Comes.no_goal n t ends none) (Comes.lowered m u l c d x) =
    absurd (no_line rows goal n m t u l ends none d)
comes-once rows goal a b (Comes.lowered n t l c d x) (Comes.refuted w f) =
    let p = began rows goal n t l d in absurd (refuted-or_found w p.ends.found (sym f ∙ p.ends.answer))
comes-once rows goal a b (Comes.lowered n t l c d x) (Comes.stopped s f) =
    let p = began rows goal n t l d in absurd (stopped-or_found s p.ends.found (sym f ∙ p.ends.answer))
comes-once rows goal a b (Comes.lowered n t l c d x) (Comes.no_goal m u ends none) =
    absurd (no_line rows goal m n u t l ends none d)
comes-once rows goal a b (Comes.lowered n t l c d x) (Comes.lowered m u k e g y) =
    lowered-answers rows goal n m t u l k a b d x g y

-- The least run on rows and a goal has one answer.
pub least-once : (rows : RowList) (goal : Form) (a b : SolvedLeast) → LeastRun rows goal a → LeastRun rows goal b →
    a ≡ b
least-once rows goal a b run other = comes-once rows goal a b (comes rows goal a run) (comes rows goal b other)
