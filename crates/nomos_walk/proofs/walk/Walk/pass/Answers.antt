use Rattle.std.proofs.Common.{◌≡◌, ◌∙◌, ◌+◌, ap, arith, length}
use Rattle.nomos_types.specs.Acceptance.{Acceptance}
use Rattle.nomos_legal.specs.Legal.{firings_in}
use Rattle.nomos_legal.specs.Passage.{Passage, bare, still}
use Rattle.nomos_report.specs.Reported.{shown_lines}
use Rattle.nomos_walk.proofs.WalkLemmas.{walk-more}
use Rattle.nomos_walk.specs.Papers.{papers_with}
use Rattle.nomos_walk.specs.WalkState.{WalkState}
use Rattle.nomos_walk.proofs.walk.Walk.pass.Goals as goal

pub returns-clause-walk : goal.returns-clause-walk
returns-clause-walk g c = λ i before none.
    let view = c.self.view_is in
    let program : c.accepted.result.now ≡ c.args.self.now.accepted =
    c.accepted.ensures ∙ ap (λ (x : WalkState). x.accepted) view
    in
    let p : Passage = still i (bare c.args.line c.args.end) before c.args.ledger in
    let made : c.self.inside.made ≡ c.args.self.now.made + length (firings_in p.entry) =
    let here = ap (λ (x : WalkState). x.made) view in
    omega (arith, here)
    in
    walk-more c.args.self.now _ p
    (ap (λ (x : WalkState). x.accepted) view) (ap (λ (x : WalkState). x.limit) view) made
    (c.in_ok-still.ensures i before c.args.ledger (ap (λ (b : Acceptance). shown_lines b before i) program ∙ none)
    ∙ (λ j. papers_with (program j) p (view j).papers))
