-- At each parameter, what follows those so far is what they had before it.
use Rattle.std.proofs.Common.{◌≡◌, ◌∷◌, Some, None, arith, sym, ap, ◌∙◌}
use Rattle.nomos_ir.specs.Bindings.{bound_to}
use Rattle.nomos_ir.specs.ValueNode.{value_of}
use Rattle.nomos_ir.specs.declared.declaration.Par.{Par}
use Rattle.nomos_ir.specs.declared.kind.Base.TheVariants as base
use Rattle.nomos_changes.proofs.BeginLemmas.{match-told}
use Rattle.nomos_changes.proofs.GivenLemmas.{unequal-values, gives-value, gives-list, gives-nothing}
use Rattle.nomos_changes.proofs.given.give_values.Goals as goal
use Rattle.nomos_changes.proofs.given.give_values.Goals.{in-Term+in_ok-node-in-Term+in-Some+in_ok-push-in-Some, in-List+in-Some-list_of+in_ok-copy_list-in-Some-list_of+in_ok-push-in-Some-list_of}

-- any parameter, where none is read
some_par : Par
some_par = record { var = record { 0 = 0 }; kind = record { lists = 0; base = base.Int }; amount = None }

pub returns-then-args-pars : goal.returns-then-args-pars
returns-then-args-pars g c p there =
    unequal-values p c.args.values c.args.start.0.now c.args.start.1.now c.if-args-pars.true

pub returns-in-None-list_of : goal.returns-in-None-list_of
returns-in-None-list_of g c p there =
    let made = c.loop-at.given in
    let w = c.in-List.w in
    let nowhere = c.in-None-list_of.ensures ∙ ap (bound_to w.0) (c.lists.ensures p there) in
    gives-nothing p made.values.items made.lists.items c.args.start.0.now c.args.start.1.now c.loop-at.at _ some_par
    (omega arith) (omega arith) c.loop-at.left w c.in-List.is nowhere
    ∙ c.loop-at.invariant p there

pub loop-at-preserved : goal.loop-at-preserved
loop-at-preserved g c p there =
    let made = c.loop-at.given in
    let args = c.args.start.0.now in
    let pars = c.args.start.1.now in
    let i = c.loop-at.at in
    let before = c.loop-at.left in
    elim c.match-args-at.branch [
      | in-Term+in_ok-node-in-Term+in-Some+in_ok-push-in-Some w ↦
          let told : before ≡ value_of w.in-Some.node ∷ w.in-Some.rest =
          match-told _ _ w.in_ok-node-in-Term.field-0 (w.in-Some.node, w.in-Some.rest) w.in-Some.is
          w.in_ok-node-in-Term.ensures in
          let first : before ≡ w.value_from.result ∷ w.in-Some.rest =
          told ∙ ap (λ v. v ∷ w.in-Some.rest) (sym w.value_from.ensures) in
          rw (w.given-is, w.left-is)
          (gives-value p made.values.items made.lists.items args pars i _ _ (omega arith) (omega arith)
          w.value_from.result w.in-Some.rest before w.push.new.self.items w.in-Term.field-0 w.in-Term.is first
          w.in_ok-push-in-Some.ensures.items
          ∙ c.loop-at.invariant p there)
      | in-List+in-Some-list_of+in_ok-copy_list-in-Some-list_of+in_ok-push-in-Some-list_of w ↦
          let copied = w.in_ok-copy_list-in-Some-list_of in
          let found = ap Some copied.ensures ∙ w.in-Some-list_of.ensures
          ∙ ap (bound_to w.in-List.w.0) (w.lists.ensures p there) in
          rw (w.given-is, w.left-is)
          (gives-list p made.values.items made.lists.items args pars i _ _ (omega arith) (omega arith) before
          w.in-List.w copied.field-0 w.push-in-Some-list_of.new.self.items w.in-List.is found
          w.in_ok-push-in-Some-list_of.ensures.items
          ∙ c.loop-at.invariant p there)
    ]
