use Rattle.std.proofs.Common.{◌≡◌, ◌∙◌, List, ℕ, position, get_or, ap, sym, subst}
use Rattle.std.specs.Option.{option_map}
use Rattle.std.specs.Str.{bytes_eq}
use Rattle.nomos_ir.specs.declared.ids.ProcId.{ProcId}
use Rattle.nomos_ir.specs.declared.lists.ProgramLists.{ProgramLists}
use Rattle.nomos_types.specs.Acceptance.{Acceptance}
use Rattle.nomos_legal.specs.LineStarts.{has_mode}
use Rattle.nomos_ledger.proofs.DeclaredLemmas.{Differ, names_of, wanted-none, wanted-there, wanted-other}
use Rattle.nomos_ledger.proofs.start_arguments.Arguments.declaration.Goals as goal

pub returns-in_err-place : goal.returns-in_err-place
returns-in_err-place c =
    let procs = c.args.self.now.program.procs in
    let names_are : c.self.inside.names ≡ names_of procs =
    c.self.invariant.by_name ∙ ap (λ (a : Acceptance). names_of a.program.procs) c.self.view_is in
    let found = c.place_of.ensures
    ∙ (λ i. position (λ (n : List ℕ). bytes_eq n (c.as_bytes.ensures.bytes i)) (names_are i)) in
    ap (option_map (λ (p : ProcId). p.0)) c.from_residual.ensures
    ∙ sym (wanted-none c.args.start.now procs (sym found ∙ c.in_err-place.was))

pub returns-then-has_mode : goal.returns-then-has_mode
returns-then-has_mode c =
    let a = c.args.self.now in
    let names_are : c.self.inside.names ≡ names_of a.program.procs =
    c.self.invariant.by_name ∙ ap (λ (b : Acceptance). names_of b.program.procs) c.self.view_is in
    let found = sym (c.place_of.ensures
    ∙ (λ i. position (λ (n : List ℕ). bytes_eq n (c.as_bytes.ensures.bytes i)) (names_are i))) ∙ c.in_ok-place.was in
    let procs_are : c.as_slice-procs.result.now ≡ a.program.procs =
    c.as_slice-procs.ensures ∙ ap (λ (l : ProgramLists). l.procs) (c.lists.ensures.lists ∙ c.program.ensures.program)
    ∙ ap (λ (b : Acceptance). b.program.procs) c.self.view_is in
    let at = c.in_ok-place.place in
    let d = c.index-procs-place.result in
    let mode = sym (c.has_mode.ensures ∙ (λ i. has_mode (c.is_some.ensures i) (get_or (procs_are i) at d).mode)) in
    sym (wanted-there c.args.start.now a.program.procs at d found (mode ∙ c.if-has_mode.true))

pub returns-else-has_mode : goal.returns-else-has_mode
returns-else-has_mode c =
    let a = c.args.self.now in
    let names_are : c.self.inside.names ≡ names_of a.program.procs =
    c.self.invariant.by_name ∙ ap (λ (b : Acceptance). names_of b.program.procs) c.self.view_is in
    let found = sym (c.place_of.ensures
    ∙ (λ i. position (λ (n : List ℕ). bytes_eq n (c.as_bytes.ensures.bytes i)) (names_are i))) ∙ c.in_ok-place.was in
    let procs_are : c.as_slice-procs.result.now ≡ a.program.procs =
    c.as_slice-procs.ensures ∙ ap (λ (l : ProgramLists). l.procs) (c.lists.ensures.lists ∙ c.program.ensures.program)
    ∙ ap (λ (b : Acceptance). b.program.procs) c.self.view_is in
    let at = c.in_ok-place.place in
    let d = c.index-procs-place.result in
    let mode = sym (c.has_mode.ensures ∙ (λ i. has_mode (c.is_some.ensures i) (get_or (procs_are i) at d).mode)) in
    let differ = subst (λ (b : Acceptance). Differ b.program.procs) c.self.view_is
    c.program.ensures.accepted.is_program.spaces.procs in
    sym (wanted-other c.args.start.now a.program.procs at d found differ (mode ∙ c.if-has_mode.false))
