use Rattle.std.proofs.Common.{sym, ap}
use Rattle.nomos_elaborate.proofs.NameTables.{put-name_seen, seen-within, seen-one_more}
use Rattle.nomos_elaborate.specs.mirror.Checked.{found}
use Rattle.nomos_elaborate.proofs.name_table.NameTable.put.Goals as goal

pub returns : goal.returns
returns c =
    let seen = put-name_seen (λ k. k.items) c.self.inside.texts.keys c.in_ok-text.text _ c.args.self.now c.args.text.now
    c.in_ok-place.place c.in_ok-place.ensures.keys c.self.view_is c.in_ok-text.ensures.items
    c.in_ok-place.ensures.index in
    record {
      gives = ap (λ p. found p) (sym seen);
      within = seen-within c.args.self.now _ c.args.text.now c.in_ok-place.place seen;
      grows = seen-one_more c.args.self.now _ c.args.text.now c.in_ok-place.place seen;
    }
