use Rattle.std.proofs.Common.{◌≡◌, ◌≤◌, ◌+◌, ap, sym, subst, ◌∙◌, arith, length, get_or, Some, None, false, true}
use Rattle.std.proofs.lemmas.Bool.{false≢true}
use Rattle.std.proofs.lemmas.List.{get_or_default}
use Rattle.std.specs.Prelude.{nat_lt}
use Rattle.nomos_simplex.specs.LowestVariable.{lowest_place}
use Rattle.nomos_simplex.specs.Nearest.{line_at}
use Rattle.nomos_simplex.specs.mirror.Classes.{IsFollowed, class_at, column_at}
use Rattle.nomos_simplex.specs.declared.table.TableLine.{TableLine}
use Rattle.nomos_simplex.proofs.ChosenLemmas.{is_followed, line_chosen, column_chosen, none_chosen}
use Rattle.nomos_simplex.proofs.ClassChoiceLemmas.{leaves, none_below_at}
use Rattle.nomos_simplex.proofs.choosing.choose.Goals as goal

pub returns-then-as_slice-place : goal.returns-then-as_slice-place
returns-then-as_slice-place c = λ rows shows.
    let table = c.args.classed.now.kept.table in
    let classes = c.args.classed.now.classes in
    let column = subst (IsFollowed table classes (length table.nonbasic)) c.in-Some-Some.is-1
    (is_followed table classes c.followed-column.result (c.followed-column.ensures.choice
    ∙ (λ p. lowest_place (λ j. nat_lt (get_or (c.as_slice-nonbasic.ensures p) j 0)
    (class_at (c.as_slice.ensures p) j).last) (λ j. get_or (c.as_slice-nonbasic.ensures p) j 0)
    (length (c.as_slice-nonbasic.ensures p))))) in
    let line = leaves rows table c.in-Some-Some.place
    (sym (c.leaving-line.ensures.choice rows shows) ∙ c.in-Some-Some.is-0) in
    let x = c.index-as_slice-place.result in
    let at : get_or c.as_slice-in-Some-Some.result.now c.in-Some-Some.place x ≡ line_at table.lines
    c.in-Some-Some.place = ap (λ xs. get_or xs c.in-Some-Some.place x) c.as_slice-in-Some-Some.ensures
    ∙ get_or_default table.lines c.in-Some-Some.place x _ line.within in
    let number : get_or c.as_slice-nonbasic.result.now c.in-Some-Some.column 0 ≡ column_at table
    c.in-Some-Some.column = ap (λ xs. get_or xs c.in-Some-Some.column 0) c.as_slice-nonbasic.ensures in
    let most : (line_at table.lines c.in-Some-Some.place).basic ≤ column_at table c.in-Some-Some.column = omega
    (arith, ap (λ (l : TableLine). l.basic) at, number, c.if-as_slice-place.true) in
    line_chosen rows table classes c.in-Some-Some.place
    (sym (c.leaving-line.ensures.choice rows shows) ∙ c.in-Some-Some.is-0)
    (λ j l h. omega (arith, most, column.2 j l h))

pub returns-else-as_slice-place : goal.returns-else-as_slice-place
returns-else-as_slice-place c = λ rows shows.
    let table = c.args.classed.now.kept.table in
    let classes = c.args.classed.now.classes in
    let column = subst (IsFollowed table classes (length table.nonbasic)) c.in-Some-Some.is-1
    (is_followed table classes c.followed-column.result (c.followed-column.ensures.choice
    ∙ (λ p. lowest_place (λ j. nat_lt (get_or (c.as_slice-nonbasic.ensures p) j 0)
    (class_at (c.as_slice.ensures p) j).last) (λ j. get_or (c.as_slice-nonbasic.ensures p) j 0)
    (length (c.as_slice-nonbasic.ensures p))))) in
    let line = leaves rows table c.in-Some-Some.place
    (sym (c.leaving-line.ensures.choice rows shows) ∙ c.in-Some-Some.is-0) in
    let x = c.index-as_slice-place.result in
    let at : get_or c.as_slice-in-Some-Some.result.now c.in-Some-Some.place x ≡ line_at table.lines
    c.in-Some-Some.place = ap (λ xs. get_or xs c.in-Some-Some.place x) c.as_slice-in-Some-Some.ensures
    ∙ get_or_default table.lines c.in-Some-Some.place x _ line.within in
    let number : get_or c.as_slice-nonbasic.result.now c.in-Some-Some.column 0 ≡ column_at table
    c.in-Some-Some.column = ap (λ xs. get_or xs c.in-Some-Some.column 0) c.as_slice-nonbasic.ensures in
    let more : column_at table c.in-Some-Some.column + 1 ≤ (line_at table.lines c.in-Some-Some.place).basic = omega
    (arith, ap (λ (l : TableLine). l.basic) at, number, c.if-as_slice-place.false) in
    column_chosen rows table classes c.in-Some-Some.column column
    (λ i l b. omega (arith, more, line.least i l b))

pub returns-in-Some-None : goal.returns-in-Some-None
returns-in-Some-None c = λ rows shows.
    let table = c.args.classed.now.kept.table in
    let classes = c.args.classed.now.classes in
    let column = subst (IsFollowed table classes (length table.nonbasic)) c.in-Some-None.is-1
    (is_followed table classes c.followed-column.result (c.followed-column.ensures.choice
    ∙ (λ p. lowest_place (λ j. nat_lt (get_or (c.as_slice-nonbasic.ensures p) j 0)
    (class_at (c.as_slice.ensures p) j).last) (λ j. get_or (c.as_slice-nonbasic.ensures p) j 0)
    (length (c.as_slice-nonbasic.ensures p))))) in
    line_chosen rows table classes c.in-Some-None.place
    (sym (c.leaving-line.ensures.choice rows shows) ∙ c.in-Some-None.is-0)
    (λ j l h. absurd (omega (arith, h, column j l)))

pub returns-in-None-Some : goal.returns-in-None-Some
returns-in-None-Some c = λ rows shows.
    let table = c.args.classed.now.kept.table in
    let classes = c.args.classed.now.classes in
    let column = subst (IsFollowed table classes (length table.nonbasic)) c.in-None-Some.is-1
    (is_followed table classes c.followed-column.result (c.followed-column.ensures.choice
    ∙ (λ p. lowest_place (λ j. nat_lt (get_or (c.as_slice-nonbasic.ensures p) j 0)
    (class_at (c.as_slice.ensures p) j).last) (λ j. get_or (c.as_slice-nonbasic.ensures p) j 0)
    (length (c.as_slice-nonbasic.ensures p))))) in
    let none = none_below_at rows table (sym (c.leaving-line.ensures.choice rows shows) ∙ c.in-None-Some.is-0) in
    column_chosen rows table classes c.in-None-Some.column column
    (λ i l b. absurd (false≢true (sym (none i l) ∙ b)))

pub returns-in-None-None : goal.returns-in-None-None
returns-in-None-None c = λ rows shows.
    let table = c.args.classed.now.kept.table in
    let classes = c.args.classed.now.classes in
    none_chosen rows table classes (sym (c.leaving-line.ensures.choice rows shows) ∙ c.in-None-None.is-0)
    (subst (IsFollowed table classes (length table.nonbasic)) c.in-None-None.is-1
    (is_followed table classes c.followed-column.result (c.followed-column.ensures.choice
    ∙ (λ p. lowest_place (λ j. nat_lt (get_or (c.as_slice-nonbasic.ensures p) j 0)
    (class_at (c.as_slice.ensures p) j).last) (λ j. get_or (c.as_slice-nonbasic.ensures p) j 0)
    (length (c.as_slice-nonbasic.ensures p))))))
