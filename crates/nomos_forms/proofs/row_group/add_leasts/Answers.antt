use Rattle.std.proofs.Common.{◌≡◌, ◌++◌, ◌∙◌, ◌+◌, ◌-◌, length, get_or, map, ap, sym, arith}
use Rattle.std.proofs.lemmas.List.{length-map, get_or-map}
use Rattle.std.proofs.Math.Seq.{map-set_same}
use Rattle.nomos_forms.specs.RowGroups.{row_of, rows_in}
use Rattle.nomos_forms.specs.mirror.Joining.{coefs_of}
use Rattle.nomos_forms.proofs.GroupLemmas.{rows-last}
use Rattle.nomos_forms.proofs.row_group.add_leasts.Goals as goal

pub returns-clause-rows : goal.returns-clause-rows
returns-clause-rows c = λ coefs ends.
    let groups = c.args.groups.now.items in
    let own = c.index_mut.result.now in
    let k = c.len-last.result - 1 in
    let value = c.index_mut.ensures.value in
    let item = c.in_ok-append.ensures.items in
    let last : k + 1 ≡ length groups = omega (arith, c.requires, c.len-last.ensures, c.args.groups.now.ok.0) in
    let place : length (coefs_of groups) - 1 ≡ k = omega (arith, length-map groups (λ group. group.coefs), last) in
    let same : own.coefs ≡ coefs =
    ap (λ group. group.coefs) value
    ∙ sym (get_or-map (λ group. group.coefs) groups k own coefs (omega (arith, last)))
    ∙ (λ p. get_or (coefs_of groups) (sym place p) coefs) ∙ ends.1 in
    rows-last groups k _ own c.args.leasts.items last (ap (λ group. group.coefs) value)
    (item ∙ ap (λ group. group.leasts.items ++ c.args.leasts.items) value)
    ∙ (λ p. rows_in groups ++ map (row_of (same p)) c.args.leasts.items)

pub returns-clause-coefs : goal.returns-clause-coefs
returns-clause-coefs c =
    map-set_same (λ group. group.coefs) c.args.groups.now.items _ _ c.index_mut.result.now
    (ap (λ group. group.coefs) c.index_mut.ensures.value)
