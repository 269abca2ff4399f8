use Rattle.std.proofs.Common.{◌≡◌, ◌∙◌, ap}
use Rattle.nomos_types.specs.Acceptance.{Acceptance}
use Rattle.nomos_legal.specs.Leaving.{left_by, passage_of}
use Rattle.nomos_walk.proofs.WalkLemmas.{ok-map, walk-written}
use Rattle.nomos_walk.specs.Papers.{papers_with}
use Rattle.nomos_walk.specs.WalkState.{WalkState}
use Rattle.nomos_walk.specs.declared.papers.Papers.{Papers}
use Rattle.nomos_walk.proofs.walk.Walk.write.Goals as goal

pub returns : goal.returns
returns g c = λ batch same.
    let before : WalkState = c.args.self.now in
    let w = c.args.under.now.world in
    let e = c.args.end.now in
    let view = c.self.view_is in
    let program : c.accepted.result.now ≡ before.accepted =
    c.accepted.ensures ∙ ap (λ (x : WalkState). x.accepted) view
    in
    let Written : Acceptance → Papers → Papers = λ b papers. papers_with b (passage_of b batch w e) papers in
    ok-map c.batch.result (c.batch.ensures batch (left_by e w) same)
    (λ written.
    walk-written before _ (passage_of before.accepted batch w e) (ap (λ (x : WalkState). x.accepted) view)
    (ap (λ (x : WalkState). x.limit) view) (ap (λ (x : WalkState). x.made) view)
    (written ∙ (λ i. Written (program i) (view i).papers)))
