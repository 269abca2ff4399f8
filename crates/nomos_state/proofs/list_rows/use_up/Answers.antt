use Rattle.std.proofs.Common.{◌≡◌, ◌≤◌, ◌<◌, ◌+◌, ◌∙◌, [], ℕ, suc, Option, IfSome, arith, sym, ap, subst, drop, length, slice_index_or, slice_set}
use Rattle.std.proofs.lemmas.List.Edits.{length-remove}
use Rattle.std.specs.List.{remove}
use Rattle.nomos_state.specs.Objects.{ListRow}
use Rattle.nomos_state.proofs.LeftLemmas.{left-next, left-removed, only-itself, only-there, row-there}
use Rattle.nomos_state.proofs.list_rows.use_up.Goals as goal

pub returns-in-Some-clause-row : goal.returns-in-Some-clause-row
returns-in-Some-clause-row c = only-itself c.args.lists.now.now c.args.place

pub returns-in-Some-clause-left : goal.returns-in-Some-clause-left
returns-in-Some-clause-left c =
    let rows = c.args.lists.now.now in
    let place = c.args.place in
    let gone = c.args.kept.gone in
    let row : ListRow = slice_index_or rows place [] in
    let (first, next) =
    subst (λ (o : Option ℕ). IfSome o (λ n. (c.args.at ≡ 0) × (n ≡ gone + 1))) c.in-Some.is c.one_more.ensures in
    let more : c.in-Some.gone ≡ suc gone = omega (arith, next) in
    let inside : gone < length row = omega (arith, c.requires.at, first) in
    ap (λ (n : ℕ). drop n row) more ∙ left-next gone row inside ∙ ap (remove (drop gone row)) (sym first)

pub returns-in-None-clause-row : goal.returns-in-None-clause-row
returns-in-None-clause-row c =
    let rows = c.args.lists.now.now in
    let place = c.args.place in
    let gone = c.args.kept.gone in
    let row : ListRow = slice_index_or rows place [] in
    let same : c.from.result + c.args.at ≡ gone + c.args.at = omega (arith, c.from.ensures) in
    let now = c.remove-pair.ensures.now ∙ ap (λ (i : ℕ). slice_set rows place (remove row i)) same in
    only-there rows c.remove-pair.new.self.now place (remove row (gone + c.args.at)) c.requires.within now

pub returns-in-None-clause-left : goal.returns-in-None-clause-left
returns-in-None-clause-left c =
    let rows = c.args.lists.now.now in
    let place = c.args.place in
    let gone = c.args.kept.gone in
    let row : ListRow = slice_index_or rows place [] in
    let same : c.from.result + c.args.at ≡ gone + c.args.at = omega (arith, c.from.ensures) in
    let now = c.remove-pair.ensures.now ∙ ap (λ (i : ℕ). slice_set rows place (remove row i)) same in
    let stands = row-there rows c.remove-pair.new.self.now place (remove row (gone + c.args.at)) c.requires.within
    now in
    let inside : gone ≤ length row = omega (arith, c.requires.at) in
    ap (λ (ls : ListRow). drop gone ls) stands ∙ left-removed gone row c.args.at inside

pub returns-in-None-clause-gone : goal.returns-in-None-clause-gone
returns-in-None-clause-gone c =
    let rows = c.args.lists.now.now in
    let place = c.args.place in
    let gone = c.args.kept.gone in
    let row : ListRow = slice_index_or rows place [] in
    let same : c.from.result + c.args.at ≡ gone + c.args.at = omega (arith, c.from.ensures) in
    let now = c.remove-pair.ensures.now ∙ ap (λ (i : ℕ). slice_set rows place (remove row i)) same in
    let stands = row-there rows c.remove-pair.new.self.now place (remove row (gone + c.args.at)) c.requires.within
    now in
    let long = length-remove row (gone + c.args.at) c.requires.at in
    omega (arith, ap length stands, long, c.requires.at)
