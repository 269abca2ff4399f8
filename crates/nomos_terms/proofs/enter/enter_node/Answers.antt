-- Each form of term leads to what its rule asks for.
use Rattle.std.proofs.Common.{◌≡◌, ◌∷◌, [], ◌++◌, length, OnOk, Some, slice_get, All, refl, sym, ap, subst, ◌∙◌, ⊎_elim}
use Rattle.std.specs.declared.result.Result.{Result}
use Rattle.std.specs.declared.result.Result.TheVariants.{Ok, Err}
use Rattle.std.proofs.lemmas.List.Elements.{All-head}
use Rattle.std.proofs.lemmas.Option.{none-some}
use Rattle.nomos_ir.specs.declared.or_no_memory.OrNoMemory.{OrNoMemory}
use Rattle.nomos_ir.specs.declared.term_node.TermNode.TheVariants as node
use Rattle.nomos_ir.specs.TermKind.{int_kind, bool_kind, list_kind}
use Rattle.nomos_ir.specs.TermKind as kind
use Rattle.nomos_ir.specs.Kinds.{IsShallow}
use Rattle.nomos_ir.specs.TermParts.{term_kinds}
use Rattle.nomos_ir.proofs.NodeLaws.{All-at}
use Rattle.nomos_terms.specs.declared.search.Task.TheVariants as task
use Rattle.nomos_terms.specs.declared.search.NoKind.{NoKind}
use Rattle.nomos_terms.specs.mirror.Left.{IsDone, argument_tasks}
use Rattle.nomos_terms.proofs.EnterLemmas.{found, vain, called, put_before, negated, chosen, taken_apart, operated, apart_variable, apart_call, same_length, apart_plus, apart_minus, apart_times, apart_quotient, apart_remainder, apart_less, apart_equal, apart_and, apart_or}
use Rattle.nomos_terms.proofs.enter.enter_node.Goals as goal

-- what follows from what holds at a success holds there
on_ok : {A B : Type 0} (result : Result (Unit {0}) (OrNoMemory NoKind)) → (A → B) → OnOk result A → OnOk result B
on_ok (Ok x) h holds = h holds
on_ok (Err e) h holds = tt

pub list_of-requires : goal.list_of-requires
list_of-requires c =
    let there : slice_get c.args.program.now.terms c.args.t.0
    ≡ Some (node.Nil c.in-Nil.field-0 c.in-Nil.kind) = c.requires.there ∙ ap Some c.in-Nil.is in
    All-head IsShallow c.in-Nil.kind []
    (All-at (λ n. All IsShallow (term_kinds n)) c.args.program.now.terms c.args.t.0
    (node.Nil c.in-Nil.field-0 c.in-Nil.kind) c.requires.program.kinds.terms there)

pub returns-in-Number-clause-done : goal.returns-in-Number-clause-done
returns-in-Number-clause-done c =
    let there : slice_get c.args.program.now.terms c.args.t.0
    ≡ Some (node.Number c.in-Number.field-0 c.in-Number.field-1) = c.requires.there ∙ ap Some c.in-Number.is in
    on_ok c.put_kind.result
    (found c.args.program.now c.args.outer.now c.args.t _ int_kind c.args.search.now _ there (kind.number _ _ _))
    c.put_kind.ensures.found

pub returns-in-Truth-clause-done : goal.returns-in-Truth-clause-done
returns-in-Truth-clause-done c =
    let there : slice_get c.args.program.now.terms c.args.t.0
    ≡ Some (node.Truth c.in-Truth.field-0 c.in-Truth.field-1) = c.requires.there ∙ ap Some c.in-Truth.is in
    on_ok c.put_kind-in-Truth.result
    (found c.args.program.now c.args.outer.now c.args.t _ bool_kind c.args.search.now _ there (kind.truth _ _ _))
    c.put_kind-in-Truth.ensures.found

pub returns-in-Var-clause-done : goal.returns-in-Var-clause-done
returns-in-Var-clause-done c =
    let there : slice_get c.args.program.now.terms c.args.t.0
    ≡ Some (node.Var c.in-Var.field-0 c.in-Var.v) = c.requires.there ∙ ap Some c.in-Var.is in
    let old = c.args.search.now in
    on_ok c.enter_variable.result
    (λ (k, is, same). subst (IsDone c.args.program.now c.args.outer.now (task.Term c.args.t) old) (sym same)
    (found c.args.program.now c.args.outer.now c.args.t _ k old (k ∷ old.kinds) there (kind.variable _ _ _ _ is) refl))
    c.enter_variable.ensures.found

pub returns-in-Var-clause-vain : goal.returns-in-Var-clause-vain
returns-in-Var-clause-vain c =
    let there : slice_get c.args.program.now.terms c.args.t.0
    ≡ Some (node.Var c.in-Var.field-0 c.in-Var.v) = c.requires.there ∙ ap Some c.in-Var.is in
    λ e. vain c.args.program.now c.args.outer.now c.args.t _ c.args.search.now there (λ k has.
    none-some k (sym (c.enter_variable.ensures.vain e) ∙ apart_variable _ _ c.in-Var.field-0 c.in-Var.v k has))

pub returns-in-Call-clause-done : goal.returns-in-Call-clause-done
returns-in-Call-clause-done c =
    let there : slice_get c.args.program.now.terms c.args.t.0
    ≡ Some (node.Call c.in-Call.field-0 c.in-Call.f c.in-Call.values) = c.requires.there ∙ ap Some c.in-Call.is in
    let old = c.args.search.now in
    on_ok c.enter_call.result
    (λ (d, declared, count, same). called c.args.program.now c.args.outer.now c.args.t _ c.in-Call.f c.in-Call.values d
    old _ c.requires.program there declared (ap length (sym c.as_slice.ensures) ∙ count)
    (same ∙ ap (λ values. argument_tasks values d.pars ++ task.Give d.gives ∷ old.todo) c.as_slice.ensures))
    c.enter_call.ensures.done

pub returns-in-Call-clause-vain : goal.returns-in-Call-clause-vain
returns-in-Call-clause-vain c =
    let there : slice_get c.args.program.now.terms c.args.t.0
    ≡ Some (node.Call c.in-Call.field-0 c.in-Call.f c.in-Call.values) = c.requires.there ∙ ap Some c.in-Call.is in
    λ e. vain c.args.program.now c.args.outer.now c.args.t _ c.args.search.now there (λ k has.
    let apart = apart_call _ _ c.in-Call.field-0 c.in-Call.f c.in-Call.values k has in
    c.enter_call.ensures.vain e apart.0 apart.1
    (ap length c.as_slice.ensures ∙ same_length _ _ c.in-Call.values apart.0.pars apart.2))

pub returns-in-Nil-clause-done : goal.returns-in-Nil-clause-done
returns-in-Nil-clause-done c =
    let there : slice_get c.args.program.now.terms c.args.t.0
    ≡ Some (node.Nil c.in-Nil.field-0 c.in-Nil.kind) = c.requires.there ∙ ap Some c.in-Nil.is in
    on_ok c.put_kind-in-Nil.result
    (λ same. found c.args.program.now c.args.outer.now c.args.t _ (list_kind c.in-Nil.kind) c.args.search.now _ there
    (kind.nil _ _ _) (same ∙ ap (λ k. k ∷ c.args.search.now.kinds) c.list_of.ensures))
    c.put_kind-in-Nil.ensures.found

pub returns-in-Cons-clause-done : goal.returns-in-Cons-clause-done
returns-in-Cons-clause-done c =
    let there : slice_get c.args.program.now.terms c.args.t.0
    ≡ Some (node.Cons c.in-Cons.field-0 c.in-Cons.a c.in-Cons.b) = c.requires.there ∙ ap Some c.in-Cons.is in
    on_ok c.lead_to.result
    (put_before c.args.program.now c.args.outer.now c.args.t _ c.in-Cons.a c.in-Cons.b c.args.search.now _
    c.requires.program there)
    c.lead_to.ensures.planned

pub returns-in-Not-clause-done : goal.returns-in-Not-clause-done
returns-in-Not-clause-done c =
    let there : slice_get c.args.program.now.terms c.args.t.0
    ≡ Some (node.Not c.in-Not.field-0 c.in-Not.a) = c.requires.there ∙ ap Some c.in-Not.is in
    on_ok c.lead_to-in-Not.result
    (negated c.args.program.now c.args.outer.now c.args.t _ c.in-Not.a c.args.search.now _ c.requires.program there)
    c.lead_to-in-Not.ensures.planned

pub returns-in-If-clause-done : goal.returns-in-If-clause-done
returns-in-If-clause-done c =
    let there : slice_get c.args.program.now.terms c.args.t.0
    ≡ Some (node.If c.in-If.field-0 c.in-If.test c.in-If.a c.in-If.b) = c.requires.there ∙ ap Some c.in-If.is in
    on_ok c.lead_to-in-If.result
    (chosen c.args.program.now c.args.outer.now c.args.t _ c.in-If.test c.in-If.a c.in-If.b
    c.args.search.now _ c.requires.program there)
    c.lead_to-in-If.ensures.planned

pub returns-in-Match-clause-done : goal.returns-in-Match-clause-done
returns-in-Match-clause-done c =
    let there : slice_get c.args.program.now.terms c.args.t.0
    ≡ Some (node.Match c.in-Match.field-0 c.in-Match.list c.in-Match.empty c.in-Match.head c.in-Match.tail
    c.in-Match.full) = c.requires.there ∙ ap Some c.in-Match.is in
    on_ok c.lead_to-in-Match.result
    (taken_apart c.args.program.now c.args.outer.now c.args.t _ c.in-Match.list c.in-Match.empty c.in-Match.full
    c.in-Match.head c.in-Match.tail c.args.search.now _ c.requires.program there)
    c.lead_to-in-Match.ensures.planned

pub returns-in-And-clause-done : goal.returns-in-And-clause-done
returns-in-And-clause-done c =
    on_ok c.operate.result
    (⊎_elim
    (λ (at, is). operated c.args.program.now c.args.outer.now c.args.t (node.And at c.in-And.a c.in-And.b) c.in-And.a
    c.in-And.b bool_kind bool_kind c.args.search.now _ c.requires.program (c.requires.there ∙ ap Some is) refl
    (apart_and _ _ at _ _) (kind.and _ at _ _))
    (λ (at, is). operated c.args.program.now c.args.outer.now c.args.t (node.Or at c.in-And.a c.in-And.b) c.in-And.a
    c.in-And.b bool_kind bool_kind c.args.search.now _ c.requires.program (c.requires.there ∙ ap Some is) refl
    (apart_or _ _ at _ _) (kind.or _ at _ _))
    c.in-And.is)
    c.operate.ensures.planned

pub returns-in-Less-clause-done : goal.returns-in-Less-clause-done
returns-in-Less-clause-done c =
    on_ok c.operate-in-Less.result
    (⊎_elim
    (λ (at, is). operated c.args.program.now c.args.outer.now c.args.t (node.Less at c.in-Less.a c.in-Less.b)
    c.in-Less.a c.in-Less.b int_kind bool_kind c.args.search.now _ c.requires.program
    (c.requires.there ∙ ap Some is) refl (apart_less _ _ at _ _) (kind.less _ at _ _))
    (λ (at, is). operated c.args.program.now c.args.outer.now c.args.t (node.Equal at c.in-Less.a c.in-Less.b)
    c.in-Less.a c.in-Less.b int_kind bool_kind c.args.search.now _ c.requires.program
    (c.requires.there ∙ ap Some is) refl (apart_equal _ _ at _ _) (kind.equal _ at _ _))
    c.in-Less.is)
    c.operate-in-Less.ensures.planned

pub returns-in-Add-clause-done : goal.returns-in-Add-clause-done
returns-in-Add-clause-done c =
    on_ok c.operate-in-Add.result
    (⊎_elim
    (λ (at, is). operated c.args.program.now c.args.outer.now c.args.t (node.Add at c.in-Add.a c.in-Add.b) c.in-Add.a
    c.in-Add.b int_kind int_kind c.args.search.now _ c.requires.program (c.requires.there ∙ ap Some is) refl
    (apart_plus _ _ at _ _) (kind.plus _ at _ _))
    (⊎_elim
    (λ (at, is). operated c.args.program.now c.args.outer.now c.args.t (node.Sub at c.in-Add.a c.in-Add.b) c.in-Add.a
    c.in-Add.b int_kind int_kind c.args.search.now _ c.requires.program (c.requires.there ∙ ap Some is) refl
    (apart_minus _ _ at _ _) (kind.minus _ at _ _))
    (⊎_elim
    (λ (at, is). operated c.args.program.now c.args.outer.now c.args.t (node.Mul at c.in-Add.a c.in-Add.b) c.in-Add.a
    c.in-Add.b int_kind int_kind c.args.search.now _ c.requires.program (c.requires.there ∙ ap Some is) refl
    (apart_times _ _ at _ _) (kind.times _ at _ _))
    (⊎_elim
    (λ (at, is). operated c.args.program.now c.args.outer.now c.args.t (node.Div at c.in-Add.a c.in-Add.b) c.in-Add.a
    c.in-Add.b int_kind int_kind c.args.search.now _ c.requires.program (c.requires.there ∙ ap Some is) refl
    (apart_quotient _ _ at _ _) (kind.quotient _ at _ _))
    (λ (at, is). operated c.args.program.now c.args.outer.now c.args.t (node.Rem at c.in-Add.a c.in-Add.b) c.in-Add.a
    c.in-Add.b int_kind int_kind c.args.search.now _ c.requires.program (c.requires.there ∙ ap Some is) refl
    (apart_remainder _ _ at _ _) (kind.remainder _ at _ _)))))
    c.in-Add.is)
    c.operate-in-Add.ensures.planned
