use Rattle.std.proofs.Common.{◌≡◌, ◌<◌, ◌≤◌, ◌+◌, List, true, length, refl, sym, subst, ap, ◌∙◌, arith}
use Rattle.std.specs.Option.{is_some}
use Rattle.std.proofs.lemmas.Bool.{both_ways}
use Rattle.std.proofs.lemmas.Option.{MatchOption-at_none}
use Rattle.nomos_slots.specs.Cells.{Cell, IsProbed, entries, home_of, is_of, name_in}
use Rattle.nomos_slots.specs.declared.cells.NamedVariable.{NamedVariable}
use Rattle.nomos_slots.proofs.CellLemmas.{same-entry, some-within}
use Rattle.nomos_slots.proofs.EntryLemmas.{all-filled, names-come, others-apart, probed-come}
use Rattle.nomos_slots.proofs.ProbeLemmas.{filled-some, same-home}
use Rattle.nomos_slots.proofs.cells.bind_in.Goals as goal

pub returns-in-Some-clause-probed : goal.returns-in-Some-clause-probed
returns-in-Some-clause-probed c =
    let homes = c.args.homes in
    let cells = c.args.cells.now.now in
    let e = c.args.entry in
    let at = c.in-Some.at in
    let (old, is, of) = c.in-Some.ensures in
    let probed = c.requires.probed in
    let same = same-home homes e.process e.variable old of in
    let near : home_of homes old ≤ at = probed.near at old is in
    let l : at < length cells = some-within cells at old is in
    subst (IsProbed homes) (sym c.put.ensures.now)
    (probed-come homes cells at e probed l (others-apart homes e.process e.variable at cells old probed is of)
    (omega arith)
    (λ i from before. probed.full i at old is (omega arith) before))

pub returns-in-Some-clause-names : goal.returns-in-Some-clause-names
returns-in-Some-clause-names c p v =
    let homes = c.args.homes in
    let cells = c.args.cells.now.now in
    let e = c.args.entry in
    let at = c.in-Some.at in
    let (old, is, of) = c.in-Some.ensures in
    let probed = c.requires.probed in
    let l : at < length cells = some-within cells at old is in
    ap (λ (cs : List Cell). name_in cs p v) c.put.ensures.now
    ∙ names-come homes cells at e probed l (others-apart homes e.process e.variable at cells old probed is of)
    (λ f has. subst (λ (k : NamedVariable). is_of e.process e.variable k ≡ true)
    (same-entry cells at at old f refl is has) of)
    p v

pub unreachable-requires : goal.unreachable-requires
unreachable-requires c =
    let cells = c.args.cells.now.now in
    let many : length cells ≤ c.home.result + entries cells =
    all-filled cells c.home.result c.in_default-empty_in.ensures in
    omega arith

pub returns-clause-probed : goal.returns-clause-probed
returns-clause-probed c =
    let homes = c.args.homes in
    let cells = c.args.cells.now.now in
    let e = c.args.entry in
    let at = c.in-Some-empty_in.at in
    let (from, l, none, filled) = c.in-Some-empty_in.ensures in
    let apart = MatchOption-at_none _ _ c.in_default.is c.place_in.ensures in
    let same : c.home.result ≡ home_of homes e = c.home.ensures.home in
    subst (IsProbed homes) (sym c.put-2.ensures.now)
    (probed-come homes cells at e c.requires.probed l (λ place f other has. apart place f has) (omega arith)
    (λ i after before. filled i (omega arith) before))

pub returns-clause-names : goal.returns-clause-names
returns-clause-names c p v =
    let homes = c.args.homes in
    let cells = c.args.cells.now.now in
    let e = c.args.entry in
    let at = c.in-Some-empty_in.at in
    let (from, l, none, filled) = c.in-Some-empty_in.ensures in
    let apart = MatchOption-at_none _ _ c.in_default.is c.place_in.ensures in
    ap (λ (cs : List Cell). name_in cs p v) c.put-2.ensures.now
    ∙ names-come homes cells at e c.requires.probed l (λ place f other has. apart place f has)
    (λ f has. absurd (both_ways _ (ap is_some none) (filled-some cells at f has))) p v
