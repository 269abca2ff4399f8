use Rattle.std.proofs.Common.{◌≡◌, ◌∙◌, ℕ, Bool, List, filter, true, false, refl, sym, ap, subst}
use Rattle.nomos_ir.specs.declared.declaration.ProcDecl.{ProcDecl}
use Rattle.nomos_ir.specs.declared.ids.TypeId.{TypeId}
use Rattle.nomos_ir.specs.declared.ids.VarId.{VarId}
use Rattle.nomos_ir.specs.Amounts.{star_count}
use Rattle.nomos_ir.specs.Bindings.{bindings_of}
use Rattle.nomos_types.specs.Judgement.{is_shared}
use Rattle.nomos_check.proofs.LimitLemmas.{proc-amount}
use Rattle.nomos_check.proofs.StartingLemmas.{channels-have, none-room, start-is}
use Rattle.nomos_check.specs.Account.{form_of, no_account}
use Rattle.nomos_check.specs.declared.standing.Standing.{Standing}
use Rattle.nomos_check.specs.Reaching.{outset_of}
use Rattle.nomos_check.specs.mirror.StartingWalk.{kinds_of, lists_of, picks, IsStartOf}
use Rattle.nomos_check.proofs.start.start.Goals as goal

pub bind_parameters-requires-clause-have : goal.bind_parameters-requires-clause-have
bind_parameters-requires-clause-have c =
    let d = c.proc-d.result.now in
    channels-have c.args.program.now c.args.p.0 d d.channels c.proc-d.ensures refl

pub gain-requires : goal.gain-requires
gain-requires c =
    let program = c.requires.formed.program in
    let d = c.proc-d.result.now in
    none-room c.args.checker.now.stars c.in_ok-potential.potential d.amount c.args.program.now c.in_ok-potential.ensures
    (proc-amount program c.args.p.0 d c.proc-d.ensures) c.requires.checker.stars

pub returns-in-Ok : goal.returns-in-Ok
returns-in-Ok c = λ d found.
    let lists = c.args.program.now in
    let n = star_count lists in
    let e = c.proc-d.result.now in
    let there = c.proc-d.ensures in
    let same : e ≡ d = cc in
    let picked : Bool → List (VarId × TypeId) = λ wanted.
    bindings_of (filter (λ par. picks wanted (is_shared lists par)) e.channels)
    in
    let bound : Standing → Standing =
    λ s. record s { kinds = kinds_of e; lists = lists_of e; shared = picked true; linear = picked false }
    in
    let begun : Standing = record {
      mode = e.mode;
      kinds = kinds_of e;
      lists = lists_of e;
      shared = picked true;
      linear = picked false;
      potential = c.gain.new.self;
      code = e.first;
      offers = e.offers;
    } in
    let is : c.bind_parameters.new.begun ≡ begun = c.in-Ok.ensures ∙ ap bound c.unbound-begun.ensures in
    subst (λ (s : Standing). IsStartOf n (outset_of lists d) s) (sym is)
    (subst (λ (k : ProcDecl). IsStartOf n (outset_of lists k) begun) same
    (start-is lists n e (kinds_of e) (lists_of e) (picked true) (picked false) c.in_ok-potential.potential
    c.gain.new.self refl refl refl refl
    (c.in_ok-potential.ensures ∙ ap (λ (m : ℕ). form_of m no_account) c.requires.checker.stars)
    c.gain.ensures))
