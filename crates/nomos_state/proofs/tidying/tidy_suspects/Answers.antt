use Rattle.std.proofs.Common.{◌∙◌, sym}
use Rattle.nomos_state.proofs.TalliedTidyLemmas.{no-suspects-tidy}
use Rattle.nomos_state.proofs.tidying.tidy_suspects.Goals as goal

pub returns-clause-state : goal.returns-clause-state
returns-clause-state c =
    let t = c.loop-name.tallies in
    let is = c.loop-name.invariant in
    sym (no-suspects-tidy t.exact t.suspects t.names.now c.loop-name.inside.state is.says is.exact is.known
    c.in_default.ensures.1)
    ∙ is.state
