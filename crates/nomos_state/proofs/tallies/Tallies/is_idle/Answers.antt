use Rattle.std.proofs.Common.{◌∙◌, ap, sym}
use Rattle.nomos_state.specs.Tallying.{counted_in}
use Rattle.nomos_state.proofs.tallies.Tallies.is_idle.Goals as goal

pub returns-in-Some : goal.returns-in-Some
returns-in-Some c = (
  λ idle d. sym (ap (counted_in d) c.in-Some.ensures) ∙ c.is_idle.ensures.0 idle d,
  λ none. c.is_idle.ensures.1 (λ d. ap (counted_in d) c.in-Some.ensures ∙ none d),
)
