use Rattle.std.proofs.Common.{◌≡◌, ◌∙◌, FitsSigned, rules, unsigned_abs, take, ap, sym}
use Rattle.std.specs.Int.{w128}
use Rattle.std.proofs.lemmas.Int.{to_z-of_z}
use Rattle.std.specs.Prelude.{slice_set}
use Rattle.nomos_forms.specs.declared.form.Form.{Form}
use Rattle.nomos_ir.specs.declared.ids.CodeId.{CodeId}
use Rattle.nomos_places.proofs.NotingLemmas.{noted-more}
use Rattle.nomos_places.specs.mirror.Noting.{noted, potential_in}
use Rattle.nomos_places.proofs.potentials.note_all.Goals as goal

pub loop-entry-preserved : goal.loop-entry-preserved
loop-entry-preserved c =
    let amounts = c.args.amounts.now in
    let forms = c.args.forms.now in
    let e : CodeId × Form = c.entry-item.result in
    let i = c.loop-entry.entry-index in
    let fits : FitsSigned w128 c.value_of.result = search rules in
    let back = to_z-of_z w128 c.value_of.result fits in
    let value : c.size_of-potential.result ≡ potential_in amounts e.1 =
    c.size_of-potential.ensures ∙ ap unsigned_abs (back ∙ c.value_of.ensures) in
    let so_far : c.loop-entry.potentials ≡ noted amounts (take i forms) c.args.potentials.now =
    c.loop-entry.invariant in
    c.note.ensures
    ∙ (λ k. slice_set (so_far k) e.0.0 (value k))
    ∙ sym (noted-more amounts forms i e c.args.potentials.now c.entry-item.is c.loop-entry-test.true)
