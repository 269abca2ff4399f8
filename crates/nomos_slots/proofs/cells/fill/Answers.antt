use Rattle.std.proofs.Common.{◌<◌, ◌≤◌, ◌∷◌, [], List, refl, length, take, sym, ap, ◌∙◌, arith}
use Rattle.std.proofs.lemmas.List.{take_all}
use Rattle.nomos_slots.specs.Cells.{Cell, entries, name_in, with_cell}
use Rattle.nomos_slots.proofs.FillLemmas.{entries-empty, entries-more, entries-take, names-empty, names-more, probed-empty}
use Rattle.nomos_slots.proofs.cells.fill.Goals as goal

pub loop-at-init : goal.loop-at-init
loop-at-init c =
    let cells = c.args.cells.now.now in
    record {
      probed = probed-empty c.args.homes cells c.requires.empty;
      names = λ p v. names-empty cells p v c.requires.empty;
      count = sym (entries-empty cells c.requires.empty);
      few = omega arith;
      len = refl;
      marked = refl;
      seats = refl;
    }

pub loop-at-preserved : goal.loop-at-preserved
loop-at-preserved c =
    let from = c.args.from.now.now in
    let at = c.loop-at.at in
    let inv = c.loop-at.invariant in
    let within : at < length from = omega (arith, c.len-at-end.ensures) in
    let more = entries-more from at within in
    record {
      probed = c.bind_any-count.ensures.probed;
      names = λ p v.
          c.bind_any-count.ensures.names p v
          ∙ ap (with_cell c.cell.result p v) (inv.names p v)
          ∙ ap (λ (k : Cell). with_cell k p v (name_in (take at from) p v)) c.cell.ensures
          ∙ sym (names-more from at p v c.requires.once within);
      count = omega (arith, inv.count, c.bind_any-count.ensures.entries);
      few = omega (
        arith,
        inv.few,
        more,
        c.bind_any-count.ensures.one,
        ap (λ (k : Cell). entries (k ∷ []))
            c.cell.ensures,
      );
      len = c.bind_any-count.ensures.len ∙ inv.len;
      marked = c.bind_any-count.ensures.marked ∙ inv.marked;
      seats = c.bind_any-count.ensures.seats ∙ inv.seats;
    }

pub bind_any-count-requires-clause-room : goal.bind_any-count-requires-clause-room
bind_any-count-requires-clause-room c =
    let inv = c.loop-at.invariant in
    omega (arith, c.requires.room, inv.count, inv.few, inv.len, entries-take c.args.from.now.now c.loop-at.at)

pub returns-clause-names : goal.returns-clause-names
returns-clause-names c p v =
    let past : length c.args.from.now.now ≤ c.loop-at.at = omega (arith, c.len-at-end.ensures) in
    c.loop-at.invariant.names p v ∙ ap (λ (cs : List Cell). name_in cs p v)
    (take_all c.loop-at.at c.args.from.now.now past)
