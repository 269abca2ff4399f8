use Rattle.std.proofs.Common.{◌≡◌, ◌+◌, List, None, cond, set, sym, subst, ap, ◌∙◌, arith}
use Rattle.std.specs.Option.{is_some}
use Rattle.std.proofs.lemmas.Bool.{both_ways}
use Rattle.nomos_slots.specs.Cells.{Cell, IsGap, entries, name_in}
use Rattle.nomos_slots.proofs.CellLemmas.{some-within}
use Rattle.nomos_slots.proofs.EntryLemmas.{entries-gone, gap-opened, key-same, names-gone, none-name_in, nothing-named}
use Rattle.nomos_slots.proofs.cells.unbind_in.Goals as goal

pub close_up-requires-clause-gap : goal.close_up-requires-clause-gap
close_up-requires-clause-gap c =
    let homes = c.args.homes in
    let cells = c.args.cells.now.now in
    let at = c.in-Some.at in
    let (e, is, of) = c.in-Some.ensures in
    subst (λ (cs : List Cell). IsGap homes cs at (at + 1)) (sym c.put.ensures.now)
    (gap-opened homes cells at e c.requires.probed is (some-within cells at e is))

pub returns-in_default-clause-names : goal.returns-in_default-clause-names
returns-in_default-clause-names c p v = none-name_in c.args.cells.now.now c.args.process c.args.variable p v
    c.in_default.ensures

pub returns-clause-names : goal.returns-clause-names
returns-clause-names c p v =
    let homes = c.args.homes in
    let cells = c.args.cells.now.now in
    let at = c.in-Some.at in
    let (e, is, of) = c.in-Some.ensures in
    c.close_up.ensures.names p v
    ∙ ap (λ (cs : List Cell). name_in cs p v) c.put.ensures.now
    ∙ names-gone homes cells at e c.requires.probed is (some-within cells at e is) p v
    ∙ ap (λ b. cond b None (name_in cells p v)) (key-same c.args.process c.args.variable p v e of)

pub returns-clause-entries : goal.returns-clause-entries
returns-clause-entries c =
    let homes = c.args.homes in
    let cells = c.args.cells.now.now in
    let at = c.in-Some.at in
    let (e, is, of) = c.in-Some.ensures in
    let gone : entries (set cells at None) + 1 ≡ entries cells =
    entries-gone homes cells at e c.requires.probed is (some-within cells at e is) in
    omega (arith, gone, c.close_up.ensures.entries, ap entries c.put.ensures.now)

pub returns-in_default-clause-one : goal.returns-in_default-clause-one
returns-in_default-clause-one c some =
    absurd (both_ways _ (ap is_some (nothing-named c.args.cells.now.now c.args.process c.args.variable
    c.in_default.ensures)) some)
