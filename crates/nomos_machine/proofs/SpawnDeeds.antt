-- The instructions at which a process starts a declaration: `spawn`, beside itself, and `call`, in its own place.
use Rattle.std.proofs.Common.{◌≡◌, ◌∙◌, ◌≤◌, ℕ, true, List, [], ◌∷◌, Contains, Option, Some, None, slice_get, Ok, Err, refl, sym, subst, ap, arith}
use Rattle.nomos_ir.specs.CodeParts.{code_terms}
use Rattle.nomos_ir.specs.Value.{Value}
use Rattle.nomos_ir.specs.declared.code_node.Args.{Args}
use Rattle.nomos_ir.specs.declared.code_node.CodeNode.{CodeNode}
use Rattle.nomos_ir.specs.declared.code_node.CodeNode.TheVariants as code
use Rattle.nomos_ir.specs.declared.declaration.ProcDecl.{ProcDecl}
use Rattle.nomos_ir.specs.declared.ids.CodeId.{CodeId}
use Rattle.nomos_ir.specs.declared.ids.ProcId.{ProcId}
use Rattle.nomos_ir.specs.declared.ids.VarId.{VarId}
use Rattle.nomos_types.specs.Acceptance.{Acceptance, IsAccepted}
use Rattle.nomos_types.specs.Amount.{dths}
use Rattle.nomos_types.specs.Judgement.{Judgement}
use Rattle.nomos_types.proofs.RowLaws.{row-inverted}
use Rattle.nomos_machine.specs.Change.{Change}
use Rattle.nomos_machine.specs.Deeds.{Deed, changes, alone, does, where_it_has, spawns, calls}
use Rattle.nomos_ir.specs.TermsEvaluation.{TermsResult, terms_evaluation}
use Rattle.nomos_machine.specs.Given.{Given, given}
use Rattle.nomos_machine.specs.Optional.{◌>>=◌}
use Rattle.nomos_machine.specs.Revised.{standing_at, with_channel, poorer}
use Rattle.nomos_machine.specs.State.{State}
use Rattle.nomos_machine.specs.Step.{deed_by}
use Rattle.nomos_machine.specs.TypedState.{IsTyped}
use Rattle.nomos_machine.specs.declared.object.Object.TheVariants as object
use Rattle.nomos_machine.specs.declared.object.Process.{Process}
use Rattle.nomos_machine.proofs.AloneDeeds.{GoesAt}
use Rattle.nomos_machine.proofs.AloneLaws.{alone-replaces, alone-fits}
use Rattle.nomos_machine.proofs.BirthLaws.{birth, birth-fits}
use Rattle.nomos_machine.proofs.CallLaws.{caller, caller-names, caller-variables, caller-typed}
use Rattle.nomos_machine.proofs.GoesLaws.{Goes, acts, faulty, process-typed, own-row, own-stands, affords}
use Rattle.nomos_machine.proofs.HandedLaws.{Handed, arguments-given}
use Rattle.nomos_machine.proofs.ProcessLaws.{own_judgement}
use Rattle.nomos_machine.proofs.SpawnLaws.{child, parent, spawn-birth, spawn-keeps_gas}

module _ {a : Acceptance} (accepted : IsAccepted a) {s : State} (typed : IsTyped a s) {p : Process}
    (there : Contains s.objects (object.Process p)) where
  abbrev own : Judgement
  own = own_judgement p (process-typed typed there)

  -- what a process starts for which its purse has what the declaration wants, where it is given this
  starts-found : (f : ProcId) (d : ProcDecl) (args : Args) (vs : List Value) (left : Judgement)
      (change : ProcDecl → Given → Change) → slice_get a.program.procs f.0 ≡ Some d
      → (handed : Handed accepted typed there d args vs left) → dths a.annotations d.amount ≤ own.q
      → (slice_get a.program.procs f.0 >>= λ e. given p vs args e >>= λ g.
      does a s p (where_it_has (dths a.annotations e.amount) p (Some (change e g))))
      ≡ Some (changes (change d handed.g))
  starts-found f d args vs left change declared handed enough =
      let On : ProcDecl → Given → Option Deed = λ e g.
      does a s p (where_it_has (dths a.annotations e.amount) p (Some (change e g)))
      in
      ap (λ (o : Option ProcDecl). o >>= λ e. given p vs args e >>= On e) declared
      ∙ ap (λ (o : Option Given). o >>= On d) handed.gives
      ∙ ap (λ (o : Option Change). does a s p o)
      (affords (dths a.annotations d.amount) p (Some (change d handed.g)) (process-typed typed there).covered enough)

  pub spawn-goes : (at : ℕ) (v : VarId) (f : ProcId) (args : Args) (next : CodeId)
      → slice_get a.program.code p.code.0 ≡ Some (code.Spawn at v f args next)
      → GoesAt accepted typed there (code.Spawn at v f args next)
  spawn-goes at v f args next stands = come (terms_evaluation a.program p.values (code_terms n)) refl
    where
      n : CodeNode
      n = code.Spawn at v f args next

      come : (r : TermsResult) → terms_evaluation a.program p.values (code_terms n) ≡ r
          → Goes a s true (deed_by a s p n r)
      come (Err e) is = faulty e
      come (Ok vs) is =
          let (after, row) = own-row typed there accepted in
          let (d, left, says, goes_on) = row-inverted n (own-stands typed there n stands) row in
          let handed = arguments-given accepted typed there d args vs left says.arguments is in
          let its_child = child accepted typed there next says handed row goes_on in
          let spawned : Process → Change = λ rest.
          record (alone a s p (standing_at next (with_channel v s.next_name (poorer its_child.purse rest)))) {
            comes = Some (object.Process its_child);
            next_type = Some d.offers;
          } in
          let its_parent = parent accepted typed there next says handed row goes_on in
          let change : Change =
          birth s s.outside ((p.pid, Some (object.Process its_parent)) ∷ []) its_child d.offers None
          in
          let found : deed_by a s p n (Ok vs) ≡ Some (changes change) =
          starts-found f d args vs left (λ e g. spawns a s p v e args g next) says.declared handed says.enough
          ∙ ap (λ (rest : Process). Some (changes (spawned rest))) handed.rest
          in
          let is_birth = spawn-birth accepted typed there next says handed row goes_on in
          subst (λ (o : Option Deed). Goes a s true o) (sym found)
          (acts change (object.Process p ∷ []) is_birth.replaces (birth-fits accepted typed is_birth)
          (spawn-keeps_gas accepted typed there next says handed row goes_on))

  pub call-goes : (at : ℕ) (f : ProcId) (args : Args) → slice_get a.program.code p.code.0 ≡ Some (code.Call at f args)
      → GoesAt accepted typed there (code.Call at f args)
  call-goes at f args stands = come (terms_evaluation a.program p.values (code_terms n)) refl
    where
      n : CodeNode
      n = code.Call at f args

      come : (r : TermsResult) → terms_evaluation a.program p.values (code_terms n) ≡ r
          → Goes a s true (deed_by a s p n r)
      come (Err e) is = faulty e
      come (Ok vs) is =
          let (after, row) = own-row typed there accepted in
          let (says, nothing) = row-inverted n (own-stands typed there n stands) row in
          let handed = arguments-given accepted typed there says.d args vs says.left says.arguments is in
          let q : Process = caller accepted typed there says handed in
          let same = caller-names accepted typed there says handed in
          let found : deed_by a s p n (Ok vs) ≡ Some (changes (alone a s p q)) =
          starts-found f says.d args vs says.left (calls a s p) says.declared handed says.enough
          in
          subst (λ (o : Option Deed). Goes a s true o) (sym found)
          (acts (alone a s p q) (object.Process p ∷ []) (alone-replaces typed there q 0 [] same)
          (alone-fits typed there q 0 [] same (caller-typed accepted typed there says handed)
          (caller-variables accepted typed there says handed))
          (record { gives = tt; gets = tt; even = omega arith }))
