use Rattle.std.proofs.Common.{◌∙◌, ◌++◌, ◌∷◌, [], ℕ, List, Option, Vec, Global, take, sym, ap, append-nil}
use Rattle.std.specs.Option.{option_to_list}
use Rattle.nomos_state.proofs.CopyLemmas.{taken-more}
use Rattle.nomos_state.proofs.plain_data.copy_balances.Goals as goal
use Rattle.nomos_state.proofs.plain_data.copy_balances.Goals.{in-Some+in_ok-push, in_default}

pub loop-account-preserved : goal.loop-account-preserved
loop-account-preserved c =
    let balances = c.args.contents.now.balances.now in
    let account = c.loop-account.account in
    let more = taken-more balances account
    ∙ ap (λ (o : Option ℕ). take account balances ++ option_to_list o) (sym c.get.ensures) in
    elim c.match-get.branch [
      | in-Some+in_ok-push w ↦
          ap (λ (v : Vec ℕ Global). v.items) w.made-is
          ∙ w.in_ok-push.ensures.items
          ∙ ap (λ (l : List ℕ). l ++ w.in-Some.dths ∷ []) c.loop-account.invariant
          ∙ sym (more ∙ ap (λ (o : Option ℕ). take account balances ++ option_to_list o) w.in-Some.is)
      | in_default w ↦
          ap (λ (v : Vec ℕ Global). v.items) w.made-is
          ∙ c.loop-account.invariant
          ∙ sym (append-nil (take account balances))
          ∙ sym (more ∙ ap (λ (o : Option ℕ). take account balances ++ option_to_list o) w.in_default.is)
    ]
