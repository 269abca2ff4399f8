use Rattle.std.proofs.Common.{◌≡◌, ◌∙◌, ap, refl, subst}
use Rattle.nomos_types.specs.Acceptance.{Acceptance}
use Rattle.nomos_script.specs.declared.item.ScriptItem.TheVariants as item
use Rattle.nomos_legal.specs.Batch.{OneRefuses}
use Rattle.nomos_legal.specs.Passage.{Passage, bare, still}
use Rattle.nomos_legal.specs.declared.journal.End.TheVariants as end
use Rattle.nomos_walk.proofs.WalkLemmas.{refusal-passes}
use Rattle.nomos_walk.specs.WalkState.{WalkState}
use Rattle.nomos_walk.specs.Walks.{walk_with}
use Rattle.nomos_walk.proofs.walk.Walk.begin.Goals as goal

pub returns-in-Refused : goal.returns-in-Refused
returns-in-Refused g c =
    let l = c.args.ledger in
    let batch = c.args.batch.now in
    let line = c.in-Refused.line in
    let cause = c.in-Refused.cause in
    let begins : OneRefuses c.self.inside.arguments l batch.starts line cause × (c.in-Refused.ledger ≡ l) =
    c.in-Refused.ensures.begins
    in
    let refuses : OneRefuses c.args.self.now.accepted l batch.starts line cause =
    subst (λ (b : Acceptance). OneRefuses b l batch.starts line cause)
    (ap (λ (x : WalkState). x.accepted) c.self.view_is) begins.0
    in
    let p : Passage = still (item.Batch batch) (bare batch.line (end.Refused line cause)) l c.in-Refused.ledger in
    let stays : c.begin_with.new.arguments ≡ c.self.inside.arguments = c.in-Refused.ensures.stays in
    let At : Acceptance → WalkState =
    λ b. record { accepted = b; limit = c.self.inside.limit; made = c.self.inside.made; papers = c.self.inside.papers }
    in
    let passed = c.in_ok-pass-in-Refused.ensures.passed in
    refusal-passes c.args.self.now c.pass.new.self l c.in-Refused.ledger batch line cause
    c.in_ok-pass-in-Refused.field-0 refuses begins.1 passed.0 passed.1
    (c.in_ok-pass-in-Refused.ensures.walk (item.Batch batch) l refl
    ∙ ap (walk_with p) (ap At stays ∙ c.self.view_is))
