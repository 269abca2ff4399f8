use Rattle.std.proofs.Common.{◌≤◌, ◌+◌, List, None, set, sym, subst, ap, ◌∙◌, arith}
use Rattle.nomos_slots.specs.Cells.{Cell, IsGap, entries, home_of, name_in}
use Rattle.nomos_slots.proofs.CellLemmas.{gap-moved, names-moved, entries-moved}
use Rattle.nomos_slots.proofs.cells.fill_hole.Goals as goal

pub returns-clause-gap : goal.returns-clause-gap
returns-clause-gap c =
    let homes = c.args.homes in
    let cells = c.args.cells.now.now in
    let next = c.args.next.0 in
    let e = c.args.next.1 in
    let early : home_of homes e ≤ c.args.hole = omega (arith, c.home.ensures.home) in
    subst (λ (cs : List Cell). IsGap homes cs next (next + 1))
    (sym (c.put-2.ensures.now ∙ ap (λ (cs : List Cell). set cs next None) c.put.ensures.now))
    (gap-moved homes cells c.args.hole next c.requires.gap e c.requires.next early c.requires.within)

pub returns-clause-names : goal.returns-clause-names
returns-clause-names c p v =
    let homes = c.args.homes in
    let cells = c.args.cells.now.now in
    let next = c.args.next.0 in
    let e = c.args.next.1 in
    let early : home_of homes e ≤ c.args.hole = omega (arith, c.home.ensures.home) in
    ap (λ (cs : List Cell). name_in cs p v) (c.put-2.ensures.now ∙ ap (λ (cs : List Cell). set cs next None)
    c.put.ensures.now)
    ∙ names-moved homes cells c.args.hole next c.requires.gap e c.requires.next early c.requires.within p v

pub returns-clause-entries : goal.returns-clause-entries
returns-clause-entries c =
    let homes = c.args.homes in
    let cells = c.args.cells.now.now in
    let next = c.args.next.0 in
    let e = c.args.next.1 in
    let early : home_of homes e ≤ c.args.hole = omega (arith, c.home.ensures.home) in
    ap entries (c.put-2.ensures.now ∙ ap (λ (cs : List Cell). set cs next None) c.put.ensures.now)
    ∙ entries-moved homes cells c.args.hole next c.requires.gap e c.requires.next early c.requires.within
