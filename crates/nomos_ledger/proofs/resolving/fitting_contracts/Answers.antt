use Rattle.std.proofs.Common.{◌∙◌, [], List, ℕ, Option, MatchOption, get_or, refl, sym, subst, arith}
use Rattle.nomos_ir.specs.declared.ids.TypeId.{TypeId}
use Rattle.nomos_ir.specs.declared.ids.VarId.{VarId}
use Rattle.nomos_ir.specs.declared.mode.Mode.{Mode}
use Rattle.nomos_types.specs.Acceptance.{Acceptance}
use Rattle.nomos_types.specs.Modes.{HasMode}
use Rattle.nomos_legal.specs.LineStarts.{ContractFits, ContractsFit, none}
use Rattle.nomos_ledger.proofs.ContractsLemmas.{contracts-length, contracts-at, contracts-next}
use Rattle.nomos_ledger.proofs.resolving.fitting_contracts.Goals as goal

-- a parameter, for a place where none stands
abbrev no_par : VarId × TypeId
no_par = (record { 0 = 0 }, record { 0 = 0 })

pub returns-then-names-pars-clause-fit : goal.returns-then-names-pars-clause-fit
returns-then-names-pars-clause-fit g c = λ shared fit.
    let same = contracts-length c.args.arguments.now c.args.books.now.now fit in
    absurd (omega (arith, same))

pub loop-at-init : goal.loop-at-init
loop-at-init g c =
    let Fit : List ℕ → Type 0 = ContractsFit c.args.arguments.now c.args.books.now.now [] [] in
    (refl, subst Fit (sym c.new-found.ensures.items) none)

pub fitting_contract-requires-clause-parameter : goal.fitting_contract-requires-clause-parameter
fitting_contract-requires-clause-parameter g c =
    let t = (get_or c.args.pars.now c.loop-at.at no_par).1 in
    subst (λ (a : Acceptance). (x : Mode) × HasMode a.program t x) (sym c.loop-at.invariant.0)
    (c.requires.parameters c.loop-at.at no_par (omega arith))

pub returns-in-None-clause-fit : goal.returns-in-None-clause-fit
returns-in-None-clause-fit g c = λ shared fit.
    let l = c.args.books.now.now in
    let name = c.index-names-at.result in
    let par = get_or c.args.pars.now c.loop-at.at no_par in
    let Told : Option ℕ → Type 0 = λ found.
    MatchOption found ((s : ℕ) → ¬ (ContractFits c.loop-at.arguments l name par s))
    (ContractFits c.loop-at.arguments l name par)
    in
    let no : (s : ℕ) → ¬ (ContractFits c.loop-at.arguments l name par s) =
    subst Told c.in-None.is c.in_ok-shared.ensures.fits in
    let (s, fits) = contracts-at c.args.arguments.now l c.args.names.now c.args.pars.now shared c.loop-at.at name no_par
    c.index-names-at.is fit c.loop-at-test.true in
    no s (subst (λ (a : Acceptance). ContractFits a l name par s) (sym c.loop-at.invariant.0) fits)

pub loop-at-preserved : goal.loop-at-preserved
loop-at-preserved g c =
    let a = c.args.arguments.now in
    let l = c.args.books.now.now in
    let k = c.loop-at.at in
    let name = c.index-names-at.result in
    let par = get_or c.args.pars.now k no_par in
    let Told : Option ℕ → Type 0 = λ found.
    MatchOption found ((s : ℕ) → ¬ (ContractFits c.loop-at.arguments l name par s))
    (ContractFits c.loop-at.arguments l name par)
    in
    let fits : ContractFits c.loop-at.arguments l name par c.in-Some.shared =
    subst Told c.in-Some.is c.in_ok-shared.ensures.fits in
    let here = subst (λ (b : Acceptance). ContractFits b l name par c.in-Some.shared) c.loop-at.invariant.0 fits in (
      c.in_ok-shared.ensures.stays ∙ c.loop-at.invariant.0,
      contracts-next a l c.args.names.now c.args.pars.now c.loop-at.found.items c.push.new.self.items k name no_par
          c.in-Some.shared c.index-names-at.is c.in_ok-push-in-Some.ensures.items c.loop-at.invariant.1
          c.loop-at-test.true (omega arith) here,
    )
