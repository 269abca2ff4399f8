use Rattle.std.proofs.Common.{◌∙◌, ◌<◌, [], ◌∷◌, ◌++◌, set, FitsSigned, rules, ap, sym, subst}
use Rattle.std.specs.Int.{w64}
use Rattle.std.proofs.lemmas.Int.{to_z-of_z}
use Rattle.std.proofs.lemmas.List.{length-map, get_or-map}
use Rattle.std.proofs.Math.Seq.{map-set_same}
use Rattle.nomos_forms.specs.RowGroups.{row_of, rows_in}
use Rattle.nomos_forms.specs.declared.row_group.RowGroup.{RowGroup}
use Rattle.nomos_forms.specs.mirror.SameRows.{HasSame}
use Rattle.nomos_forms.proofs.CollectLemmas.{same-moved}
use Rattle.nomos_forms.proofs.GroupLemmas.{rows-more}
use Rattle.nomos_forms.proofs.collecting.add_least.Goals as goal

pub returns : goal.returns
returns c =
    let groups = c.args.groups.now.items in
    let own = c.index_mut.result.now in
    let place = c.args.place in
    let least = c.args.least in
    let value = c.index_mut.ensures.value in
    let fits : FitsSigned w64 least = search rules in
    let item = c.in_ok-push.ensures.items ∙ ap (λ l. own.leasts.items ++ l ∷ []) (to_z-of_z w64 least fits) in
    let below = subst (λ n. place < n) (length-map groups (λ (g : RowGroup). g.coefs)) c.requires in
    let same = ap (λ (g : RowGroup). g.coefs) value in
    let coefs = same ∙ sym (get_or-map (λ (g : RowGroup). g.coefs) groups place own [] below) in
    let more : RowGroup = record { coefs = own.coefs; leasts = c.push.new.self } in
    let new = rows_in (set groups place more) in
    let all = same-moved (row_of own.coefs least ∷ rows_in groups) new
    (rows-more groups place more own (least ∷ []) below same
    (item ∙ ap (λ (g : RowGroup). g.leasts.items ++ least ∷ []) value)) in
    record {
      coefs = map-set_same (λ (g : RowGroup). g.coefs) groups place more own same;
      rows = subst (λ cs. HasSame new (row_of cs least ∷ rows_in groups)) coefs all;
    }
