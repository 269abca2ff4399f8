use Rattle.std.proofs.Common.{◌≡◌, ◌∙◌, ◌+◌, ◌*◌, ◌<◌, [], length, get_or, sym, subst}
use Rattle.nomos_forms.specs.mirror.StarCounts.{all_counts}
use Rattle.nomos_forms.proofs.CountLemmas.{counts-at, counts-alike}
use Rattle.nomos_forms.proofs.counts.place_of.Goals as goal

pub returns : goal.returns
returns c =
    let stars = c.args.stars in
    let more = c.star_among.result in
    let less = c.star_among-2.result in
    let at = counts-at stars more less c.star_among.ensures.among c.star_among-2.ensures.among in
    let place : more * (stars + 1) + less ≡ c.from-more.result * (c.from.result + 1) + c.from-less.result =
    λ p. sym c.from-more.ensures p * (sym c.from.ensures p + 1) + sym c.from-less.ensures p in
    record {
      within = subst (λ k. k < length (all_counts stars)) place at.0;
      counts = (λ p. get_or (all_counts stars) (sym place p) []) ∙ at.1
          ∙ counts-alike stars c.args.more c.args.less more less c.star_among.ensures.same c.star_among-2.ensures.same;
    }
