use Rattle.std.proofs.Common.{◌≡◌, ◌<◌, ◌≤◌, true, List, length, refl, sym, subst, ap, ◌∙◌, arith}
use Rattle.std.specs.Option.{is_some}
use Rattle.std.proofs.lemmas.Bool.{both_ways}
use Rattle.nomos_slots.specs.Cells.{Cell, IsProbed, entries, home_of, is_of, name_in}
use Rattle.nomos_slots.specs.declared.cells.NamedVariable.{NamedVariable}
use Rattle.nomos_slots.proofs.CellLemmas.{same-entry, some-within}
use Rattle.nomos_slots.proofs.EntryLemmas.{entries-renamed, names-come, nothing-named, others-apart, probed-come}
use Rattle.nomos_slots.proofs.ProbeLemmas.{same-home}
use Rattle.nomos_slots.proofs.cells.rebind_in.Goals as goal

pub unreachable-requires : goal.unreachable-requires
unreachable-requires c =
    let e = c.args.entry in
    let none = nothing-named c.args.cells.now.now e.process e.variable c.in_default.ensures in
    absurd (both_ways _ (ap is_some none) c.requires.there)

pub returns-clause-probed : goal.returns-clause-probed
returns-clause-probed c =
    let homes = c.args.homes in
    let cells = c.args.cells.now.now in
    let e = c.args.entry in
    let at = c.in-Some.at in
    let (old, is, of) = c.in-Some.ensures in
    let probed = c.requires.probed in
    let same = same-home homes e.process e.variable old of in
    let near : home_of homes old ≤ at = probed.near at old is in
    let l : at < length cells = some-within cells at old is in
    subst (IsProbed homes) (sym c.put.ensures.now)
    (probed-come homes cells at e probed l (others-apart homes e.process e.variable at cells old probed is of)
    (omega arith)
    (λ i from before. probed.full i at old is (omega arith) before))

pub returns-clause-names : goal.returns-clause-names
returns-clause-names c p v =
    let homes = c.args.homes in
    let cells = c.args.cells.now.now in
    let e = c.args.entry in
    let at = c.in-Some.at in
    let (old, is, of) = c.in-Some.ensures in
    let probed = c.requires.probed in
    let l : at < length cells = some-within cells at old is in
    ap (λ (cs : List Cell). name_in cs p v) c.put.ensures.now
    ∙ names-come homes cells at e probed l (others-apart homes e.process e.variable at cells old probed is of)
    (λ f has.
    subst (λ (k : NamedVariable). is_of e.process e.variable k ≡ true) (same-entry cells at at old f refl is has) of) p
    v

pub returns-clause-entries : goal.returns-clause-entries
returns-clause-entries c =
    let homes = c.args.homes in
    let cells = c.args.cells.now.now in
    let e = c.args.entry in
    let at = c.in-Some.at in
    let (old, is, of) = c.in-Some.ensures in
    let probed = c.requires.probed in
    let l : at < length cells = some-within cells at old is in
    ap entries c.put.ensures.now
    ∙ entries-renamed homes cells at e probed l (others-apart homes e.process e.variable at cells old probed is of)
    old is
