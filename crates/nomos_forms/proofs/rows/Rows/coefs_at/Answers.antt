use Rattle.std.proofs.Common.{◌∙◌, ◌<◌, length, get_or, pos, ap, sym, subst}
use Rattle.nomos_forms.proofs.PlaceLemmas.{place-of, row-at}
use Rattle.nomos_forms.proofs.rows.Rows.coefs_at.Goals as goal

pub returns : goal.returns
returns c = λ row.
    let groups = c.self.inside.groups.items in
    let k = c.groups_before.result in
    let place = c.args.place in
    let own = c.index.result.now in
    let inside = subst (λ rows. place < length rows) (sym c.self.view_is) c.requires in
    let at = place-of groups place k (c.groups_before.ensures groups (c.deref.ensures.value ∙ c.self.invariant))
    inside in
    ap (λ g. g.coefs) c.index.ensures ∙ sym (ap (λ r. r.coefs) (row-at groups place k _ own (pos 0) row at).1)
    ∙ (λ p. (get_or (c.self.view_is p) place row).coefs)
