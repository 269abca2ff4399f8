-- What becomes of a state in which a process spawns another one.
use Rattle.std.proofs.Common.{◌≡◌, ◌∙◌, ℕ, List, Some, sym, ap, false, [], ◌∷◌, Option, None, refl}
use Rattle.nomos_ir.specs.declared.code_node.Args.{Args}
use Rattle.nomos_ir.specs.declared.code_node.ValueArg.{ValueArg}
use Rattle.nomos_ir.specs.declared.code_node.ValueArg.TheVariants as arg
use Rattle.nomos_ir.specs.declared.declaration.ProcDecl.{ProcDecl}
use Rattle.nomos_ir.specs.declared.ids.TypeId.{TypeId}
use Rattle.nomos_ir.specs.declared.ids.VarId.{VarId}
use Rattle.nomos_types.specs.Acceptance.{Acceptance}
use Rattle.nomos_types.specs.Amount.{dths}
use Rattle.nomos_deeds.specs.SeenObjects.{seen_process}
use Rattle.nomos_machine.specs.Deeds.{hands_over_all, hands_over_lists}
use Rattle.nomos_machine.specs.Given.{Given, begins}
use Rattle.nomos_machine.specs.Revised.{poorer, standing_at, with_channel}
use Rattle.nomos_machine.specs.State.{State, process_at}
use Rattle.nomos_machine.specs.declared.object.Object.TheVariants as object
use Rattle.nomos_machine.specs.declared.object.PotentialList.{PotentialList}
use Rattle.nomos_machine.specs.declared.object.Process.{Process}
use Rattle.nomos_machine.proofs.PreservationLaws.{process_at-there}
use Rattle.nomos_changes.specs.Beginnings.{has_list, spawned, with_born, with_lists_if_any}
use Rattle.nomos_changes.specs.SmallChanges.{with_name, with_object, with_process}
use Rattle.nomos_changes.specs.declared.spawning.Spawn.{Spawn}
use Rattle.nomos_changes.proofs.BecomesLemmas.{process-put, process-twice}
use Rattle.nomos_changes.proofs.BehindLemmas.{becomes-before, stays-before}

-- a process that became another one becomes the next one, of which the state tells something too
pub turns-then : (s t u : State) (pid : ℕ) (p q : Process) (g : State → Process → Process) → process_at s pid ≡ Some p
    → q.pid ≡ p.pid → t ≡ with_process pid q s
    → ((r : Process) → process_at t pid ≡ Some r → u ≡ with_process pid (g t r) t)
    → u ≡ with_process pid (g (with_process pid q s) q) s
turns-then s t u pid p q g there keeps is next =
    next q (ap (λ (t : State). process_at t pid) is ∙ process-put s pid p q there keeps)
    ∙ ap (λ (t : State). with_process pid (g t q) t) is
    ∙ process-twice s pid p q there keeps (g (with_process pid q s) q)

-- ---- lists that are handed over

-- where no list is among arguments none is handed over
pub hands-no_list : (a : Acceptance) (s : State) (p : Process) (args : List ValueArg) (q : Process)
    → has_list args ≡ false → q ≡ hands_over_lists a s p args q
hands-no_list a s p [] q none = refl
hands-no_list a s p (arg.Term e ∷ args) q none = hands-no_list a s p args q none
hands-no_list a s p (arg.List w ∷ args) q none = absurd cc

-- a process with other lists has the same plain fields
pub lists-seen : (lists : Option (List (VarId × PotentialList))) (p : Process)
    → seen_process (with_lists_if_any lists p) ≡ seen_process p
lists-seen (Some lists) p = refl
lists-seen None p = refl

-- ---- a parent and its child

-- how a parent goes on that has these lists left, hands over these channels and pays so many Dths
abbrev pub parting : Acceptance → State → Spawn → Option (List (VarId × PotentialList)) → List VarId → ℕ → Process
    → Process
parting a s spawn lists channels purse p =
    standing_at spawn.next (with_channel spawn.variable s.next_name (poorer purse
    (hands_over_all a s p channels (with_lists_if_any lists p))))

module _ (a : Acceptance) (s t : State) (p k : Process) (spawn : Spawn) (there : process_at s spawn.pid ≡ Some p)
    (came : t ≡ with_object (object.Process k) s) where
  -- the parent is there as before when its child has come
  pub parent-stays : process_at t spawn.pid ≡ Some p
  parent-stays =
      ap (λ (t : State). process_at t spawn.pid) came ∙ stays-before s spawn.pid p (object.Process k) there

  -- the child came, then its parent went on, then the name came
  pub spawned-is : (u v : State) (lists : Option (List (VarId × PotentialList))) (channels : List VarId) (purse : ℕ)
      (offers : TypeId) (d : ProcDecl) (args : Args) (g : Given)
      → u ≡ with_process spawn.pid (parting a t spawn lists channels purse p) t → v ≡ with_name offers u
      → with_lists_if_any lists p ≡ hands_over_lists a s p args.values p → channels ≡ args.channels → purse ≡ k.purse
      → k ≡ begins d g s.next_object s.next_name (dths a.annotations d.amount) p.payer → offers ≡ d.offers
      → v ≡ spawned a s p spawn d args g
  spawned-is u v lists channels purse offers d args g goes named left handed pays born offered =
      let child : Process = begins d g s.next_object s.next_name (dths a.annotations d.amount) p.payer in
      let after : ℕ → Process → Process =
      λ (n : ℕ) (q : Process). standing_at spawn.next (with_channel spawn.variable s.next_name (poorer n q)) in
      let parent : Process = parting a s spawn lists channels purse p in
      named
      ∙ ap (with_name offers) (goes
      ∙ ap (λ (t : State). with_process spawn.pid (parting a t spawn lists channels purse p) t) came
      ∙ becomes-before s spawn.pid p (object.Process k) there parent)
      ∙ ap (λ (n : ℕ). with_born s n parent k offers) (sym (process_at-there s spawn.pid p there).1)
      ∙ ap (λ (q : Process). with_born s p.pid (after purse (hands_over_all a s p channels q)) k offers) left
      ∙ ap (λ (vs : List VarId). with_born s p.pid (after purse (hands_over_all a s p vs
      (hands_over_lists a s p args.values p))) k offers) handed
      ∙ ap (λ (n : ℕ). with_born s p.pid (after n (hands_over_all a s p args.channels
      (hands_over_lists a s p args.values p))) k offers) pays
      ∙ ap (λ (k : Process). with_born s p.pid (after k.purse (hands_over_all a s p args.channels
      (hands_over_lists a s p args.values p))) k offers) born
      ∙ ap (λ (t : TypeId). with_born s p.pid (after child.purse (hands_over_all a s p args.channels
      (hands_over_lists a s p args.values p))) child t) offered
