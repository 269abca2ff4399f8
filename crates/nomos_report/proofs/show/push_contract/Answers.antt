use Rattle.std.proofs.Common.{◌≡◌, ◌∙◌, ℕ, List, ◌++◌, OnOk, Some, None, ap, subst, sym, codes, decimal}
use Rattle.nomos_base.specs.Gas.{gas_text}
use Rattle.nomos_report.specs.ShownState.{held_text}
use Rattle.nomos_report.proofs.ContractLemmas.{contract-printed, keeper-stands}
use Rattle.nomos_report.proofs.show.push_contract.Goals as goal

pub returns-in_default-view : goal.returns-in_default-view
returns-in_default-view g c =
    let stands =
    keeper-stands c.requires c.args.contract.shared c.in-Some.pid (sym c.in-Some.ensures)
    in
    absurd (differ (c.in_default-view.ensures ∙ stands.shows))
  where
    differ : {X : Type 0} {x : X} → None ≡ Some x → ⊥
    differ e = cc

pub returns : goal.returns
returns g c =
    let view = c.in-Some-view.view in
    let unit : ℕ = c.args.unit in
    let tail : List ℕ =
    codes " process " ++ decimal c.in-Some.pid ++ codes " gas " ++ gas_text view.purse unit ++ codes " "
    ++ held_text view.base ++ codes "\n"
    in
    subst (λ (t : List ℕ). OnOk c.push_standing.result (c.push_standing.new.text.items ≡ t))
    (ap (λ (t : List ℕ). t ++ tail) c.in_ok-push_named.ensures
    ∙ contract-printed c.requires unit c.args.contract.shared c.in-Some.pid c.args.text.now.items
    c.args.contract.name.now
    view (sym c.in-Some.ensures) c.in-Some-view.ensures)
    c.push_standing.ensures
