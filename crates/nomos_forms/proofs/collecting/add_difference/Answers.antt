use Rattle.std.proofs.Common.{◌∙◌, [], ◌∷◌, get_or, FitsSigned, rules, ap, subst}
use Rattle.std.specs.Int.{w64}
use Rattle.std.proofs.lemmas.Int.{to_z-of_z}
use Rattle.std.proofs.lemmas.List.Elements.{All-cons}
use Rattle.nomos_forms.specs.Bounds.{IsSmall, IsRow}
use Rattle.nomos_forms.specs.RowsOf.{difference_row}
use Rattle.nomos_forms.specs.RowGroups.{row_of, rows_in}
use Rattle.nomos_forms.specs.mirror.StarCounts.{counts}
use Rattle.nomos_forms.specs.mirror.SameRows.{HasSame}
use Rattle.nomos_forms.proofs.CollectLemmas.{all-same, difference-small}
use Rattle.nomos_forms.proofs.collecting.add_difference.Goals as goal

pub returns : goal.returns
returns c =
    let stars = c.args.stars in
    let row = difference_row stars c.args.more c.args.less in
    let old = rows_in c.args.groups.now.items in
    let place = c.place_of-place.result in
    let new = rows_in c.add_least.new.groups.items in
    let made = c.in_ok-add_least.ensures in
    let coefs = ap (λ cs. get_or cs place []) c.requires.groups.coefs ∙ c.place_of-place.ensures.counts
    ∙ (λ p. counts stars (c.star.ensures p) (c.star-2.ensures p)) in
    let fits : FitsSigned w64 c.units_between.result = search rules in
    let least = c.units_between.ensures.least in
    let own = to_z-of_z w64 c.units_between.result fits ∙ least in
    let same = subst (λ r. HasSame new (r ∷ old)) (λ p. row_of (coefs p) (own p)) made.rows in
    record {
      groups = record {
        coefs = made.coefs ∙ c.requires.groups.coefs;
        small = all-same (IsRow stars) new (row ∷ old) same (All-cons (IsRow stars) row old
            (difference-small stars c.args.more c.args.less (subst IsSmall least c.units_between.ensures.small))
            c.requires.groups.small);
      };
      rows = same;
    }
