use Rattle.std.proofs.Common.{◌&&◌, cond, eqb, eq-eqb, ne_eqb, None, sym, ap, ◌∙◌, inl, inr, arith}
use Rattle.std.specs.Option.{is_some}
use Rattle.std.proofs.lemmas.Bool.{cases_eq}
use Rattle.std.proofs.lemmas.List.Sums.{count_by-le-length}
use Rattle.nomos_slots.specs.Cells.{name_in}
use Rattle.nomos_slots.proofs.SweepLemmas.{entry-named, nobody-named}
use Rattle.nomos_slots.proofs.sweeps.drop_in.Goals as goal

pub loop-entry-preserved : goal.loop-entry-preserved
loop-entry-preserved c =
    let inv = c.loop-entry.invariant in
    let un = c.unbind_in-count.ensures in
    record {
      probed = un.probed;
      names = λ p v other.
          un.names p v
          ∙ ap (λ b. cond (b && eqb c.in-Some.entry.variable v) None (name_in c.loop-entry.cells.now p v))
          (ne_eqb c.args.process p other)
          ∙ inv.names p v other;
      entries = omega (arith, inv.entries, un.entries);
      len = un.len ∙ inv.len;
      marked = un.marked ∙ inv.marked;
      seats = un.seats ∙ inv.seats;
    }

pub overflow_add-count : goal.overflow_add-count
overflow_add-count c =
    let cells = c.args.cells.now.now in
    omega (
      arith,
      c.loop-entry.invariant.entries,
      c.unbind_in-count.ensures.entries,
      count_by-le-length is_some cells,
      c.requires.fits,
    )

pub loop-entry-smaller : goal.loop-entry-smaller
loop-entry-smaller c =
    let (place, is, of) = c.in-Some.ensures in
    let one = c.unbind_in-count.ensures.one
    (entry-named c.loop-entry.cells.now place c.in-Some.entry c.args.process is of) in
    omega (arith, one, c.unbind_in-count.ensures.entries)

pub returns-clause-names : goal.returns-clause-names
returns-clause-names c p v =
    let cells = c.loop-entry.cells.now in
    let was = name_in c.args.cells.now.now p v in
    elim (cases_eq c.args.process p) [
      | inl same ↦
          nobody-named cells c.args.process c.in_default.ensures p v same
          ∙ sym (ap (λ b. cond b None was) (eq-eqb c.args.process p same))
      | inr other ↦
          c.loop-entry.invariant.names p v other ∙ sym (ap (λ b. cond b None was) (ne_eqb c.args.process p other))
    ]
