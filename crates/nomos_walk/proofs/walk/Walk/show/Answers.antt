use Rattle.std.proofs.Common.{◌≡◌, ◌∙◌, ◌+◌, None, ap, arith, length, refl}
use Rattle.nomos_legal.specs.Legal.{firings_in}
use Rattle.nomos_legal.specs.Passage.{Passage, still}
use Rattle.nomos_script.specs.declared.item.ScriptItem.TheVariants as item
use Rattle.nomos_walk.proofs.WalkLemmas.{show-passes, walk-more}
use Rattle.nomos_walk.specs.Papers.{papers_with}
use Rattle.nomos_walk.specs.WalkState.{WalkState}
use Rattle.nomos_walk.proofs.walk.Walk.show.Goals as goal

pub returns : goal.returns
returns g c =
    let view = c.self.view_is in
    let program : c.accepted.result.now ≡ c.args.self.now.accepted =
    c.accepted.ensures ∙ ap (λ (x : WalkState). x.accepted) view
    in
    let p : Passage = still (item.Show c.args.line) None c.args.ledger c.args.ledger in
    let made : c.self.inside.made ≡ c.args.self.now.made + length (firings_in p.entry) =
    let here = ap (λ (x : WalkState). x.made) view in
    omega (arith, here)
    in
    show-passes c.args.self.now _ c.args.ledger c.args.line (record { ledger = c.args.ledger; entry = None }) refl refl
    (walk-more c.args.self.now _ p
    (ap (λ (x : WalkState). x.accepted) view) (ap (λ (x : WalkState). x.limit) view) made
    (c.in_ok-show.ensures ∙ (λ j. papers_with (program j) p (view j).papers)))
