-- Acts by which a process begins at a declaration, as changes.
use Rattle.std.proofs.Common.{◌≡◌, ◌∙◌, ◌≤◌, List, [], Option, Some, None, sym, ap, refl, arith, append-nil, slice_get, sum_by}
use Rattle.std.proofs.lemmas.List.Sums.{sum_by-cons, sum_by-append}
use Rattle.std.specs.Option.{option_to_list}
use Rattle.nomos_ir.specs.Value.{Value}
use Rattle.nomos_ir.specs.declared.code_node.Args.{Args}
use Rattle.nomos_ir.specs.declared.declaration.ProcDecl.{ProcDecl}
use Rattle.nomos_ir.specs.declared.ids.ProcId.{ProcId}
use Rattle.nomos_types.specs.Acceptance.{Acceptance}
use Rattle.nomos_deeds.specs.Acts.{args_of}
use Rattle.nomos_machine.specs.Change.{Change, made, changed, put_all}
use Rattle.nomos_machine.specs.Deeds.{spawns}
use Rattle.nomos_machine.specs.Given.{Given, given}
use Rattle.nomos_machine.specs.Objects.{purse_of}
use Rattle.nomos_machine.specs.Optional.{◌>>=◌}
use Rattle.nomos_machine.specs.State.{State, gas_of}
use Rattle.nomos_machine.specs.declared.object.Object.{Object}
use Rattle.nomos_machine.specs.declared.object.Process.{Process}
use Rattle.nomos_changes.specs.Beginnings.{Begins, spawned}
use Rattle.nomos_changes.specs.declared.spawning.Spawn.{Spawn}
use Rattle.nomos_changes.proofs.MadeLemmas.{one-some, same-state}

-- what comes by a change carries part of all gas after it
pub comes-in : (s : State) (c : Change) (o : Object) → c.comes ≡ Some o → purse_of o ≤ gas_of (changed s c)
comes-in s c o comes =
    let all = sum_by-append purse_of (put_all c.places s.objects) (option_to_list c.comes) in
    let one : sum_by purse_of (option_to_list c.comes) ≡ purse_of o =
    ap (λ (new : Option Object). sum_by purse_of (option_to_list new)) comes
    ∙ omega (arith, sum_by-cons purse_of o []) in
    omega (arith, all, one)

module _ (a : Acceptance) (s : State) (p : Process) (f : ProcId) (vs : List Value) (change : Change)
    (makes : ProcDecl → Args → Given → Change) where
  pub record IsBegun : Type 0 where
    pub declaration : ProcDecl
    pub args : Args
    pub gives : Given
    pub begins : Begins a p f vs declaration args gives
    pub is : change ≡ makes declaration args gives

  pub begun-change : (slice_get a.program.procs f.0 >>= λ d. (slice_get a.program.code p.code.0 >>= args_of) >>= λ args.
      given p vs args d >>= λ g. Some (makes d args g)) ≡ Some change → IsBegun
  begun-change is = declared (slice_get a.program.procs f.0) refl is
    where
      giving : (d : ProcDecl) → slice_get a.program.procs f.0 ≡ Some d → (args : Args)
          → (slice_get a.program.code p.code.0 >>= args_of) ≡ Some args → (o : Option Given) → given p vs args d ≡ o
          → (o >>= λ g. Some (makes d args g)) ≡ Some change → IsBegun
      giving d found args stands (Some g) gives is = record {
        declaration = d;
        args = args;
        gives = g;
        begins = record { declared = found; stands = stands; gives = gives };
        is = one-some change (makes d args g) (sym is);
      }
      giving d found args stands None gives is = absurd cc

      standing : (d : ProcDecl) → slice_get a.program.procs f.0 ≡ Some d → (o : Option Args)
          → (slice_get a.program.code p.code.0 >>= args_of) ≡ o
          → (o >>= λ args. given p vs args d >>= λ g. Some (makes d args g)) ≡ Some change → IsBegun
      standing d found (Some args) stands is = giving d found args stands (given p vs args d) refl is
      standing d found None stands is = absurd cc

      declared : (o : Option ProcDecl) → slice_get a.program.procs f.0 ≡ o
          → (o >>= λ d. (slice_get a.program.code p.code.0 >>= args_of) >>= λ args.
          given p vs args d >>= λ g. Some (makes d args g)) ≡ Some change → IsBegun
      declared (Some d) found is = standing d found (slice_get a.program.code p.code.0 >>= args_of) refl is
      declared None found is = absurd cc

-- the state after a spawn
pub spawn-made : (a : Acceptance) (s : State) (p : Process) (spawn : Spawn) (d : ProcDecl) (args : Args) (g : Given)
    (change : Change) → change ≡ spawns a s p spawn.variable d args g spawn.next
    → spawned a s p spawn d args g ≡ made s change
spawn-made a s p spawn d args g change is =
    same-state (spawned a s p spawn d args g) (made s (spawns a s p spawn.variable d args g spawn.next))
    refl refl refl refl refl (omega arith) (sym (append-nil s.results)) refl
    ∙ ap (made s) (sym is)
