use Rattle.std.proofs.Common.{sym, ◌∙◌}
use Rattle.std.specs.Ordering.{int_eq}
use Rattle.std.proofs.lemmas.Bool.{false≢true}
use Rattle.std.proofs.lemmas.Bool.Decides.{Decides-int_eq}
use Rattle.std.proofs.lemmas.List.Elements.{contains_decides, Decides-contains}
use Rattle.std.proofs.lemmas.Slice.Eq.{slice_eq-Decides}
use Rattle.nomos_forms.proofs.GroupLemmas.{in-group}
use Rattle.nomos_forms.proofs.rows.is_in.Goals as goal

pub returns-then-is_same : goal.returns-then-is_same
returns-then-is_same c =
    let group = c.args.group.now in
    let row = c.args.row.now in
    let leasts = c.deref.result.now in
    let same = slice_eq-Decides Decides-int_eq group.coefs row.coefs c.is_same.result c.is_same.ensures in
    let among = Decides-contains leasts row.least c.contains.result
    (contains_decides int_eq Decides-int_eq leasts row.least c.contains.result c.contains.ensures.cases) in (
      λ e. (in-group group row).1 (same.0 c.if-is_same.true, rw (← c.deref.ensures.value) (among.0 e)),
      λ h. among.1 (rw c.deref.ensures.value (((in-group group row).0 h).1)),
    )

pub returns-else-is_same : goal.returns-else-is_same
returns-else-is_same c =
    let group = c.args.group.now in
    let row = c.args.row.now in
    let same = slice_eq-Decides Decides-int_eq group.coefs row.coefs c.is_same.result c.is_same.ensures in (
      λ e. absurd (false≢true (sym c.if-is_same.false ∙ e)),
      λ h. same.1 ((in-group group row).0 h).0,
    )
