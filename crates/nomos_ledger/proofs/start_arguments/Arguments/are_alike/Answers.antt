use Rattle.std.proofs.Common.{◌≡◌, ◌∙◌, ◌<◌, ◌↔◌, ℕ, Bool, IfOk, IsTrue, length, ap, eqb-true, refl, sym, subst}
use Rattle.std.proofs.lemmas.Result.{IfOk-weaker}
use Rattle.nomos_ir.specs.declared.lists.ProgramLists.{ProgramLists}
use Rattle.nomos_types.specs.Acceptance.{Acceptance, IsAccepted}
use Rattle.nomos_types.specs.Alike.{AlikeTypes}
use Rattle.nomos_types.specs.Equality.{EqualTypes}
use Rattle.nomos_types.specs.Unfolding.{IsUnfolding}
use Rattle.nomos_types.proofs.EqualityLaws.{equal-same}
use Rattle.nomos_types.proofs.ModeLaws.{mode-in_range}
use Rattle.nomos_ledger.specs.mirror.StartArguments.{type_at}
use Rattle.nomos_ledger.proofs.AlikeLemmas.{alike-exact}
use Rattle.nomos_ledger.proofs.start_arguments.Arguments.are_alike.Goals as goal

pub unfold-left-requires-clause-in_range : goal.unfold-left-requires-clause-in_range
unfold-left-requires-clause-in_range c =
    let lists = c.program-program.ensures.program ∙ ap (λ (a : Acceptance). a.program) c.self.view_is in
    let accepted = subst (λ (a : Acceptance). IsAccepted a) c.self.view_is c.program-program.ensures.accepted in
    subst (λ (l : ProgramLists). c.args.own.0 < length l.types) (sym lists)
    (mode-in_range accepted.is_program c.requires.own)

pub unfold-right-requires-clause-in_range : goal.unfold-right-requires-clause-in_range
unfold-right-requires-clause-in_range c =
    let lists = c.program-program.ensures.program ∙ ap (λ (a : Acceptance). a.program) c.self.view_is in
    let accepted = subst (λ (a : Acceptance). IsAccepted a) c.self.view_is c.program-program.ensures.accepted in
    subst (λ (l : ProgramLists). c.args.wanted.0 < length l.types) (sym lists)
    (mode-in_range accepted.is_program c.requires.wanted.1)

pub returns-then-eq-clause-tells : goal.returns-then-eq-clause-tells
returns-then-eq-clause-tells c =
    let a = c.args.self.now in
    let lists = c.program-program.ensures.program ∙ ap (λ (b : Acceptance). b.program) c.self.view_is in
    let accepted = subst (λ (b : Acceptance). IsAccepted b) c.self.view_is c.program-program.ensures.accepted in
    let formed = accepted.typed.formed in
    let left = c.unfold-left.result in
    let right = c.unfold-right.result in
    let first : IsUnfolding a.program c.args.own.0 left.0 =
    subst (λ (l : ProgramLists). IsUnfolding l c.args.own.0 left.0) lists c.unfold-left.ensures.unfolds in
    let second : IsUnfolding a.program c.args.wanted.0 right.0 =
    subst (λ (l : ProgramLists). IsUnfolding l c.args.wanted.0 right.0) lists c.unfold-right.ensures.unfolds in
    let exact =
    alike-exact formed a.annotations c.args.own c.args.wanted left right c.requires.wanted.0 c.requires.own
    c.requires.wanted.1 first second in
    let numbers : left.0 ≡ right.0 = eqb-true left.0 right.0 (sym c.eq.ensures ∙ c.if-eq.true) in
    let inside = subst (λ (l : ProgramLists). left.0 < length l.types) lists c.unfold-left.ensures.in_range in
    let itself = equal-same a.program a.annotations left formed.program formed.contractive inside in
    let same = subst (λ (n : ℕ). EqualTypes a.program a.annotations left (type_at n)) numbers itself in
    (λ yes. exact.0 same, λ alike. refl)

pub returns-clause-tells : goal.returns-clause-tells
returns-clause-tells c =
    let a = c.args.self.now in
    let lists = c.program-program.ensures.program ∙ ap (λ (b : Acceptance). b.program) c.self.view_is in
    let accepted = subst (λ (b : Acceptance). IsAccepted b) c.self.view_is c.program-program.ensures.accepted in
    let formed = accepted.typed.formed in
    let left = c.unfold-left.result in
    let right = c.unfold-right.result in
    let first : IsUnfolding a.program c.args.own.0 left.0 =
    subst (λ (l : ProgramLists). IsUnfolding l c.args.own.0 left.0) lists c.unfold-left.ensures.unfolds in
    let second : IsUnfolding a.program c.args.wanted.0 right.0 =
    subst (λ (l : ProgramLists). IsUnfolding l c.args.wanted.0 right.0) lists c.unfold-right.ensures.unfolds in
    let exact =
    alike-exact formed a.annotations c.args.own c.args.wanted left right c.requires.wanted.0 c.requires.own
    c.requires.wanted.1 first second in
    let Equal : Acceptance → Bool → Type 0 = λ b same. IsTrue same ↔ EqualTypes b.program b.annotations left right in
    let Alike : Bool → Type 0 = λ alike. IsTrue alike ↔ AlikeTypes a.program a.annotations c.args.own c.args.wanted in
    let told : IfOk c.are_equal.result (Equal a) = c.are_equal.ensures.tells in
    IfOk-weaker c.are_equal.result (Equal a) Alike
    (λ (b : Bool) (says : Equal a b). (λ yes. exact.0 (says.0 yes), λ alike. says.1 (exact.1 alike))) told
