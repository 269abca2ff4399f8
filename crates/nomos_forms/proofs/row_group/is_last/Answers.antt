use Rattle.std.proofs.Common.{◌≡◌, ◌∙◌, ◌-◌, length, get_or, ap, sym, arith}
use Rattle.std.proofs.lemmas.Bool.Decides.{Decides-int_eq}
use Rattle.std.proofs.lemmas.List.{length-map, get_or-map}
use Rattle.std.proofs.lemmas.Slice.Eq.{slice_eq-Decides}
use Rattle.nomos_forms.specs.mirror.Joining.{coefs_of}
use Rattle.nomos_forms.proofs.row_group.is_last.Goals as goal

pub returns-in-Some : goal.returns-in-Some
returns-in-Some c =
    let groups = c.args.groups.now in
    let own = c.in-Some.group.now in
    let x = c.args.coefs.now in
    let item = c.in-Some.ensures.item in
    let long = length-map groups (λ group. group.coefs) in
    let last : get_or (coefs_of groups) (length (coefs_of groups) - 1) x ≡ own.coefs =
    (λ p. get_or (coefs_of groups) (long p - 1) x)
    ∙ get_or-map (λ group. group.coefs) groups (length groups - 1) own x (omega (arith, item.3.0))
    ∙ ap (λ group. group.coefs) (sym item.1) in
    let same = slice_eq-Decides Decides-int_eq own.coefs x c.is_same.result c.is_same.ensures in (
      λ e. (omega (arith, item.3.0, long), last ∙ same.0 e),
      λ ends. same.1 (sym last ∙ ends.1),
    )
