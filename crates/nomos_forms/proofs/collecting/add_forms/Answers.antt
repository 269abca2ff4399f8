use Rattle.std.proofs.Common.{◌∙◌, [], ◌∷◌, ◌++◌, map, length, take, get_or, All, ap, sym, subst}
use Rattle.std.proofs.lemmas.List.{append_assoc, map-append, take_more}
use Rattle.std.proofs.lemmas.List.Elements.{All-push}
use Rattle.nomos_forms.specs.Bounds.{IsRow}
use Rattle.nomos_forms.specs.RowsOf.{form_row}
use Rattle.nomos_forms.specs.RowGroups.{rows_in}
use Rattle.nomos_forms.specs.declared.form.Form.{Form}
use Rattle.nomos_forms.proofs.GroupLemmas.{rows-push}
use Rattle.nomos_forms.proofs.collecting.add_forms.Goals as goal

pub loop-form-preserved : goal.loop-form-preserved
loop-form-preserved c =
    let forms = c.args.forms.now in
    let i = c.loop-form.form-index in
    let own = c.form-item.result in
    let row = c.in_ok-row_of.field-0 in
    let groups = c.loop-form.groups.items in
    let before = rows_in c.args.groups.now.items in
    let added = ap rows_in c.in_ok-push.ensures.items ∙ rows-push groups c.in_ok-group_of.field-0
    ∙ ap (λ rows. rows_in groups ++ rows) c.in_ok-group_of.ensures in
    let more = ap (map form_row) (take_more forms i own c.loop-form-test.true) ∙ map-append form_row (take i forms)
    (get_or forms i own ∷ []) in
    let is = c.in_ok-row_of.ensures.row ∙ ap form_row c.form-item.is in
    record {
      rows = added ∙ (λ p. c.loop-form.invariant.rows p ++ is p ∷ [])
          ∙ append_assoc before (map form_row (take i forms)) (form_row (get_or forms i own) ∷ [])
          ∙ ap (λ rows. before ++ rows) (sym more);
      small = subst (All (IsRow c.args.stars)) (sym added) (All-push (IsRow c.args.stars) (rows_in groups) row
          c.loop-form.invariant.small (subst (λ n. IsRow n row) (ap (λ (f : Form). length f.coefs) c.form-item.is
          ∙ (c.requires.forms i own c.loop-form-test.true).width) c.in_ok-row_of.ensures.small));
    }
