use Rattle.std.proofs.Common.{◌≡◌, ◌∙◌, ◌||◌, true, false, sym, ap}
use Rattle.std.specs.Option.{is_some}
use Rattle.nomos_state.specs.Indexed.{held_now}
use Rattle.nomos_state.proofs.UsingLemmas.{mention-is, mention-plain}
use Rattle.nomos_state.proofs.sought.is_mentioned.Goals as goal

pub returns-then-is_some : goal.returns-then-is_some
returns-then-is_some c =
    let found : is_some c.first.result ≡ true = sym c.is_some.ensures ∙ c.if-is_some.true in
    c.if-is_some.true
    ∙ sym (mention-plain (held_now c.args.contents.now) c.requires c.args.name c.first.result c.first.ensures found)

pub returns-else-is_some : goal.returns-else-is_some
returns-else-is_some c =
    let nothing : is_some c.first.result ≡ false = sym c.is_some.ensures ∙ c.if-is_some.false in
    c.is_some-else-is_some.ensures
    ∙ sym (ap (λ b. b || is_some c.lowest_user.result) nothing)
    ∙ mention-is (held_now c.args.contents.now) c.requires c.args.name c.first.result c.lowest_user.result
    c.first.ensures c.lowest_user.ensures
