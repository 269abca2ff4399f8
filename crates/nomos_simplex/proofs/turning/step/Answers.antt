use Rattle.std.proofs.Common.{◌≡◌, ◌+◌, ◌<◌, ◌≤◌, ◌^◌, ◌+ℤ◌, ◌-ℤ◌, ◌*ℤ◌, pos, map, unsigned_abs, to_z, of_z, length, get_or, set, ap, sym, subst, ◌∙◌, arith, All}
use Rattle.std.specs.Int.{w64}
use Rattle.std.proofs.lemmas.Int.{ints, to_z-of_z, fits_signed_from_abs}
use Rattle.std.proofs.lemmas.List.{get_or_default}
use Rattle.std.proofs.lemmas.List.Elements.{All-map}
use Rattle.nomos_simplex.specs.Exchange.{coef_at, exchanged}
use Rattle.nomos_simplex.specs.Nearest.{line_at}
use Rattle.nomos_simplex.specs.Sizes.{HasNumbers, IsTable}
use Rattle.nomos_simplex.specs.Tables.{bound_of}
use Rattle.nomos_simplex.specs.mirror.Classes.{Fit, StandsFor, column_at, stepped}
use Rattle.nomos_simplex.specs.mirror.Keeping.{over_of}
use Rattle.nomos_simplex.specs.declared.table.TableLine.{TableLine}
use Rattle.nomos_simplex.specs.declared.table.Table.{Table}
use Rattle.nomos_simplex.proofs.ClassStepLemmas.{step-stands}
use Rattle.nomos_simplex.proofs.KeepingLemmas.{written}
use Rattle.nomos_simplex.proofs.RisenLemmas.{over_size, overs_risen}
use Rattle.nomos_simplex.proofs.TurningLemmas.{reached, kept-is_table, stepped-is_table, stepped-fits, stands-renamed}
use Rattle.nomos_simplex.proofs.turning.step.Goals as goal

-- ---- how far the variables are over their bounds then
pub raise-requires-clause-column : goal.raise-requires-clause-column
raise-requires-clause-column c =
    let rows = c.args.rows.now in
    let table = c.args.classed.kept.table in
    let j = c.args.column in
    let t = kept-is_table rows c.args.classed c.requires.kept in
    subst (All (λ (line : TableLine). j < length line.coefs)) (sym c.as_slice-2.ensures)
    (λ k d h. let line = t.lines k d h in omega (arith, line.width, t.width, c.requires.column))

pub raise-requires-clause-lines : goal.raise-requires-clause-lines
raise-requires-clause-lines c =
    let rows = c.args.rows.now in
    let table = c.args.classed.kept.table in
    let t = kept-is_table rows c.args.classed c.requires.kept in
    subst (All HasNumbers) (sym c.as_slice-2.ensures)
    (λ k d h. let line = t.lines k d h in record { times = line.times; coefs = line.coefs })

pub raise-requires-clause-over : goal.raise-requires-clause-over
raise-requires-clause-over c =
    let rows = c.args.rows.now in
    let table = c.args.classed.kept.table in
    let t = kept-is_table rows c.args.classed c.requires.kept in
    let f = over_of rows table.nonbasic in
    subst (All (λ z. unsigned_abs z ≤ 2 ^ 114))
    (sym (c.deref_mut.ensures.value ∙ c.into_vec-over.ensures ∙ c.requires.kept.shows.shows))
    (All-map (λ z. unsigned_abs z ≤ 2 ^ 114) f table.lines
    (λ k d h. over_size rows table.nonbasic rows.stars (get_or table.lines k d) (t.lines k d h) rows.few_stars))

pub rename-requires-clause-shows : goal.rename-requires-clause-shows
rename-requires-clause-shows c =
    let rows = c.args.rows.now in
    let table = c.args.classed.kept.table in
    let j = c.args.column in
    let t = kept-is_table rows c.args.classed c.requires.kept in
    let now = c.index-before.result.now in
    let own : now ≡ column_at table j = c.index-before.ensures ∙ ap (λ vs. get_or vs j now) c.into_vec-nonbasic.ensures
    ∙ get_or_default table.nonbasic j now 0 c.requires.column in
    let next = c.next-next.ensures ∙ ap (λ n. n + 1) own in
    let is : c.of_vec.result ≡ set table.nonbasic j (column_at table j + 1) = c.of_vec.ensures
    ∙ (λ p. set (c.into_vec-nonbasic.ensures p) j (next p)) in
    let bound = to_z-of_z w64 c.bound.result (fits_signed_from_abs w64 c.bound.result (omega
    (arith, c.bound.ensures.small))) in
    let before = to_z-of_z w64 c.bound-2.result (fits_signed_from_abs w64 c.bound-2.result (omega
    (arith, c.bound-2.ensures.small))) in
    let rise = c.bound.result -ℤ c.bound-2.result in
    let back = (λ q. to_z w64 (of_z w64 (bound q -ℤ before q))) ∙ to_z-of_z w64 rise (fits_signed_from_abs w64 rise
    (omega (arith, ints, c.bound.ensures.small, c.bound-2.ensures.small))) in
    let rises : rise ≡ bound_of rows (column_at table j + 1) -ℤ bound_of rows (column_at table j) = λ q.
    (c.bound.ensures.value ∙ ap (bound_of rows) next) q -ℤ (c.bound-2.ensures.value ∙ ap (bound_of rows) own) q in
    let old = c.deref_mut.ensures.value ∙ c.into_vec-over.ensures in
    let risen = overs_risen rows table.nonbasic j (column_at table j + 1) table.lines c.deref_mut.result.now
    c.raise.new.over rise c.requires.column
    (λ k d h. let line = t.lines k d h in omega (arith, line.width, t.width, c.requires.column))
    (old ∙ c.requires.kept.shows.shows) c.raise.ensures.long rises
    (λ i l. c.raise.ensures.value i l
    ∙ (λ q. get_or c.deref_mut.result.now i (pos 0) +ℤ coef_at j (line_at (c.as_slice-2.ensures q) i) *ℤ back q)) in
    c.of_vec-2.ensures
    ∙ written c.into_vec-over.result.len c.raise.new.over _
    (omega (arith, c.raise.ensures.long, c.deref_mut.ensures.len))
    ∙ risen ∙ ap (λ vs. map (over_of rows vs) table.lines) (sym is)

pub rename-requires-clause-fit : goal.rename-requires-clause-fit
rename-requires-clause-fit c =
    let rows = c.args.rows.now in
    let table = c.args.classed.kept.table in
    let j = c.args.column in
    let now = c.index-before.result.now in
    let own : now ≡ column_at table j = c.index-before.ensures ∙ ap (λ vs. get_or vs j now) c.into_vec-nonbasic.ensures
    ∙ get_or_default table.nonbasic j now 0 c.requires.column in
    let next = c.next-next.ensures ∙ ap (λ n. n + 1) own in
    let is : c.of_vec.result ≡ set table.nonbasic j (column_at table j + 1) = c.of_vec.ensures
    ∙ (λ p. set (c.into_vec-nonbasic.ensures p) j (next p)) in
    subst (λ vs. Fit rows (record { nonbasic = vs; lines = table.lines }) c.args.classed.classes) (sym is)
    (stepped-fits rows j table c.args.classed.classes c.requires.kept.shows.stands.fit c.requires.column
    c.requires.follows)

-- the variable that follows the one of the column stands in its place
pub rename-requires-clause-table : goal.rename-requires-clause-table
rename-requires-clause-table c =
    let rows = c.args.rows.now in
    let table = c.args.classed.kept.table in
    let j = c.args.column in
    let now = c.index-before.result.now in
    let own : now ≡ column_at table j = c.index-before.ensures ∙ ap (λ vs. get_or vs j now) c.into_vec-nonbasic.ensures
    ∙ get_or_default table.nonbasic j now 0 c.requires.column in
    let is : c.of_vec.result ≡ set table.nonbasic j (column_at table j + 1) = c.of_vec.ensures
    ∙ (λ p. set (c.into_vec-nonbasic.ensures p) j ((c.next-next.ensures ∙ ap (λ n. n + 1) own) p)) in
    subst (λ vs. IsTable rows (record { nonbasic = vs; lines = table.lines })) (sym is)
    (stepped-is_table rows j table c.args.classed.classes (kept-is_table rows c.args.classed c.requires.kept)
    c.requires.kept.shows.stands.fit c.requires.column c.requires.follows)

pub returns : goal.returns
returns c = λ full k left of_run shows at next.
    let rows = c.args.rows.now in
    let table = c.args.classed.kept.table in
    let j = c.args.column in
    let now = c.index-before.result.now in
    let own : now ≡ column_at table j = c.index-before.ensures ∙ ap (λ vs. get_or vs j now) c.into_vec-nonbasic.ensures
    ∙ get_or_default table.nonbasic j now 0 c.requires.column in
    let is : c.of_vec.result ≡ set table.nonbasic j (column_at table j + 1) = c.of_vec.ensures
    ∙ (λ p. set (c.into_vec-nonbasic.ensures p) j ((c.next-next.ensures ∙ ap (λ n. n + 1) own) p)) in
    let classes = c.args.classed.classes in
    let after = exchanged k j left full in
    let moved = ap (λ vs. record { nonbasic = vs; lines = table.lines }) is in
    let stands = subst (λ t. StandsFor rows t classes after) (sym moved)
    (step-stands rows k j left table classes full (reached rows full of_run) shows.stands c.requires.column
    c.requires.follows at next) in
    let renamed = c.in_ok-kept.ensures in
    record {
      stands = stands-renamed rows (record { nonbasic = c.of_vec.result; lines = table.lines })
          c.in_ok-kept.kept.table classes renamed.nonbasic renamed.renamed after stands;
      lead = renamed.lead;
      shows = renamed.shows;
    }
