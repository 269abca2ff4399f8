use Rattle.std.proofs.Common.{◌≡◌, List, ℕ, Option, Some, None, IfSome, length, refl, cond, eqb, sym, subst, ap, ◌∙◌, arith}
use Rattle.std.specs.Option.{option_map}
use Rattle.std.proofs.lemmas.List.{length-map}
use Rattle.nomos_slots.specs.Marking.{Marking}
use Rattle.nomos_slots.specs.Cells.{Cell, IsProbed, entries, name_in}
use Rattle.nomos_slots.specs.Sweeps.{instead_of, renamed_cell}
use Rattle.nomos_slots.specs.ChannelTables.{IsMarkedTable}
use Rattle.nomos_slots.specs.declared.channels.Channels.TheInside.{Inside}
use Rattle.nomos_slots.proofs.SweepLemmas.{entries-renamed_cells, names-renamed, probed-renamed}
use Rattle.nomos_slots.proofs.channels.Channels.rename.Goals as goal

marked-same : (s t : Inside) (o : Option (List Cell)) → t.homes ≡ s.homes → t.counted ≡ s.counted
    → length t.cells.now ≡ length s.cells.now → IfSome o (IsMarkedTable s) → IfSome o (IsMarkedTable t)
marked-same s t None homes counted len marked = marked
marked-same s t (Some m) homes counted len marked = record {
  probed = subst (λ n. IsProbed n m) (sym homes) marked.probed;
  counted = counted ∙ marked.counted;
  len = marked.len ∙ sym len;
}

pub invariant_of-self : goal.invariant_of-self
invariant_of-self c =
    let s = c.self.inside in
    let cells = s.cells.now in
    let is = c.self.invariant in
    let now = c.rename_in.ensures.now in
    let len : length c.rename_in.new.cells.now ≡ length cells =
    ap length now ∙ length-map cells (renamed_cell c.args.process c.args.old c.args.new) in
    record {
      homes = is.homes;
      probed =
          subst (IsProbed s.homes) (sym now)
          (probed-renamed c.args.process c.args.old c.args.new s.homes cells is.probed);
      count = is.count ∙ sym (ap entries now ∙ entries-renamed_cells c.args.process c.args.old c.args.new cells);
      seats = omega (arith, is.seats, c.rename_in.ensures.seats);
      fits = omega (arith, is.fits);
      marked =
          subst (λ o. IfSome o (IsMarkedTable (record s { cells = c.rename_in.new.cells })))
          (sym c.rename_in.ensures.marked)
          (marked-same s (record s { cells = c.rename_in.new.cells }) s.cells.marked refl refl len is.marked);
    }

pub returns-clause-names : goal.returns-clause-names
returns-clause-names c p v =
    let cells = c.self.inside.cells.now in
    let told : Marking Cell → Option ℕ = λ m.
    cond (eqb c.args.process p) (option_map (instead_of c.args.old c.args.new) (name_in m.now p v))
    (name_in m.now p v) in
    ap (λ (cs : List Cell). name_in cs p v) c.rename_in.ensures.now
    ∙ names-renamed c.args.process c.args.old c.args.new cells p v
    ∙ ap told c.self.view_is
