-- Which processes stand at an instruction that is no `work`, and how their number changes.
use Rattle.std.proofs.Common.{if◌then◌else◌, ◌≡◌, ◌∙◌, ◌≤◌, ◌==◌, ℕ, ◌+◌, Bool, true, false, cond, List, [], ◌∷◌, map, find, All, Option, Some, None, IsFalse, slice_get, option_and_then, sum_by, refl, sym, subst, ap, arith}
use Rattle.std.proofs.lemmas.List.Elements.{All-head, All-tail}
use Rattle.std.proofs.lemmas.List.Sums.{sum_by-cons, sum_by-le-sum_by}
use Rattle.std.specs.Option.{option_map}
use Rattle.nomos_ir.specs.CodeParts.{code_next}
use Rattle.nomos_ir.specs.CostAll.{is_work, IsWorkAt, IsUnderCostAll}
use Rattle.nomos_ir.specs.declared.code_node.Arm.{Arm}
use Rattle.nomos_ir.specs.declared.code_node.CodeNode.{CodeNode}
use Rattle.nomos_ir.specs.declared.code_node.CodeNode.TheVariants as code
use Rattle.nomos_ir.specs.declared.declaration.ProcDecl.{ProcDecl}
use Rattle.nomos_ir.specs.declared.ids.CodeId.{CodeId}
use Rattle.nomos_ir.specs.declared.ids.Label.{Label}
use Rattle.nomos_ir.proofs.NodeLaws.{All-at}
use Rattle.nomos_types.specs.Acceptance.{Acceptance}
use Rattle.nomos_machine.specs.Change.{put_at}
use Rattle.nomos_machine.specs.Costs.{counts_process, process_count}
use Rattle.nomos_machine.specs.Deeds.{arm_for}
use Rattle.nomos_machine.specs.Objects.{object_at}
use Rattle.nomos_machine.specs.Revised.{uses_instead}
use Rattle.nomos_machine.specs.Sight.{accept_next, detach_next}
use Rattle.nomos_machine.specs.State.{State}
use Rattle.nomos_machine.specs.declared.object.Object.{Object}
use Rattle.nomos_machine.specs.declared.object.Object.TheVariants as object
use Rattle.nomos_machine.specs.declared.object.Process.{Process}
use Rattle.nomos_machine.proofs.ChangeLaws.{Replaces, further}

-- ---- who is idle

-- one where the instruction is there, and is no `work`
abbrev pub idle_at : Option CodeNode → ℕ
idle_at (Some n) = if is_work n then 0 else 1
idle_at None = 0

-- one for a process that stands at an instruction that is no `work`
abbrev pub idle : Acceptance → Object → ℕ
idle a (object.Process p) = idle_at (slice_get a.program.code p.code.0)
idle a (object.Message m) = 0

-- how many of the objects are so
abbrev pub idle_among : Acceptance → List Object → ℕ
idle_among a objects = sum_by (idle a) objects

pub idle_at-most : (o : Option CodeNode) → idle_at o ≤ 1
idle_at-most (Some n) = either (is_work n)
  where
    either : (b : Bool) → cond {A = ℕ} b 0 1 ≤ 1
    either true = omega arith
    either false = omega arith
idle_at-most None = omega arith

idle-one : (a : Acceptance) (o : Object) → idle a o ≤ counts_process o
idle-one a (object.Process p) = idle_at-most (slice_get a.program.code p.code.0)
idle-one a (object.Message m) = omega arith

-- no more than there are processes
pub idle-processes : (a : Acceptance) (s : State) → idle_among a s.objects ≤ process_count s
idle-processes a s = sum_by-le-sum_by (idle a) counts_process s.objects (idle-one a)

-- at a `work` none is, and at another instruction one is
pub idle-none : (a : Acceptance) (c : ℕ) → IsWorkAt a.program c → idle_at (slice_get a.program.code c) ≡ 0
idle-none a c (n, stands, works) = ap idle_at stands ∙ ap (λ (b : Bool). cond {A = ℕ} b 0 1) works

pub idle-own : (a : Acceptance) (c : ℕ) (n : CodeNode) → slice_get a.program.code c ≡ Some n → IsFalse (is_work n)
    → idle_at (slice_get a.program.code c) ≡ 1
idle-own a c n stands no_work = ap idle_at stands ∙ ap (λ (b : Bool). cond {A = ℕ} b 0 1) no_work

-- whoever uses another name instead stands where it stood
pub idle-instead : (a : Acceptance) (old new : ℕ) (o : Object) → idle a (uses_instead old new o) ≡ idle a o
idle-instead a old new (object.Process p) = refl
idle-instead a old new (object.Message m) = refl

-- ---- what stands behind an instruction, and where a declaration begins

module _ (a : Acceptance) (under : IsUnderCostAll a.program) where
  -- a declaration begins where nobody is idle
  pub idle-first : (k : ℕ) (d : ProcDecl) → slice_get a.program.procs k ≡ Some d
      → idle_at (slice_get a.program.code d.first.0) ≡ 0
  idle-first k d declared =
      idle-none a d.first.0 (All-at (λ e. IsWorkAt a.program e.first.0) a.program.procs k d under.first declared)

  module _ (c : ℕ) (n : CodeNode) (stands : slice_get a.program.code c ≡ Some n) (no_work : IsFalse (is_work n)) where
    abbrev AtWork : ℕ → Type 0
    AtWork k = IsWorkAt a.program k

    behind : All AtWork (code_next n)
    behind = under.behind c n stands no_work

    -- the first instruction behind it, and the second
    pub idle-next : (k : ℕ) (ks : List ℕ) → code_next n ≡ k ∷ ks → idle_at (slice_get a.program.code k) ≡ 0
    idle-next k ks is = idle-none a k (All-head AtWork k ks (subst (All AtWork) is behind))

    pub idle-second : (j k : ℕ) (ks : List ℕ) → code_next n ≡ j ∷ k ∷ ks → idle_at (slice_get a.program.code k) ≡ 0
    idle-second j k ks is =
        idle-none a k (All-head AtWork k ks (All-tail AtWork j (k ∷ ks) (subst (All AtWork) is behind)))

    -- the code that a label chooses
    pub idle-chosen : (l : Label) (arms : List Arm) → code_next n ≡ map (λ e. e.goes.0) arms → (next : CodeId)
        → arm_for arms l ≡ Some next → idle_at (slice_get a.program.code next.0) ≡ 0
    idle-chosen l arms is next found = idle-none a next.0 (chosen arms (subst (All AtWork) is behind) found)
      where
        among : (e : Arm) (arms : List Arm) (b : Bool) → All AtWork (map (λ d. d.goes.0) (e ∷ arms))
            → option_map (λ d. d.goes) (cond b (Some e) (find (λ d. d.label.0 == l.0) arms)) ≡ Some next
            → (arm_for arms l ≡ Some next → AtWork next.0) → AtWork next.0
        among e arms true all is rest =
            let same : e.goes ≡ next = cc in
            subst (λ (k : CodeId). AtWork k.0) same (All-head AtWork e.goes.0 (map (λ (d : Arm). d.goes.0) arms) all)
        among e arms false all is rest = rest is

        chosen : (arms : List Arm) → All AtWork (map (λ d. d.goes.0) arms) → arm_for arms l ≡ Some next → AtWork next.0
        chosen [] all is = absurd cc
        chosen (e ∷ arms) all is =
            among e arms (e.label.0 == l.0) all is
            (chosen arms (All-tail AtWork e.goes.0 (map (λ (d : Arm). d.goes.0) arms) all))

  -- who stands at `accept` or at `detach` goes on at a `work`
  pub idle-accepted : (c : ℕ) (n : CodeNode) → slice_get a.program.code c ≡ Some n → (onward : CodeId)
      → accept_next n ≡ Some onward → idle_at (slice_get a.program.code onward.0) ≡ 0
  idle-accepted c (code.Accept at next) stands onward is =
      let same : next ≡ onward = cc in
      subst (λ (k : CodeId). idle_at (slice_get a.program.code k.0) ≡ 0) same
      (idle-next c (code.Accept at next) stands refl next.0 [] refl)
  idle-accepted c n stands onward is = absurd cc

  pub idle-detached : (c : ℕ) (n : CodeNode) → slice_get a.program.code c ≡ Some n → (onward : CodeId)
      → detach_next n ≡ Some onward → idle_at (slice_get a.program.code onward.0) ≡ 0
  idle-detached c (code.Detach at next) stands onward is =
      let same : next ≡ onward = cc in
      subst (λ (k : CodeId). idle_at (slice_get a.program.code k.0) ≡ 0) same
      (idle-next c (code.Detach at next) stands refl next.0 [] refl)
  idle-detached c n stands onward is = absurd cc

module _ (a : Acceptance) where
  -- a process as which one goes on with what is there
  pub idle-found : {X : Type 0} (o : Option X) (goes : X → Process) (q : Process)
      → ((x : X) → o ≡ Some x → idle a (object.Process (goes x)) ≡ 0)
      → option_and_then (λ x. Some (goes x)) o ≡ Some q → idle a (object.Process q) ≡ 0
  idle-found None goes q none is = absurd cc
  idle-found (Some x) goes q none is = subst (λ (r : Process). idle a (object.Process r) ≡ 0) (same is) (none x refl)
    where
      same : Some (goes x) ≡ Some q → goes x ≡ q
      same is = cc

  -- one of two codes
  pub idle-either : (j k : CodeId) → idle_at (slice_get a.program.code j.0) ≡ 0
      → idle_at (slice_get a.program.code k.0) ≡ 0 → (b : Bool)
      → idle_at (slice_get a.program.code (cond b j k).0) ≡ 0
  idle-either j k first second true = first
  idle-either j k first second false = second

-- ---- what stood at the first place of a change

-- an object is there, and the other places follow
pub record StoodFirst (n : ℕ) (new : Option Object) (places : List (ℕ × Option Object)) (objects olds : List Object)
    : Type 0 where
  pub first : Object
  pub others : List Object
  pub are : olds ≡ first ∷ others
  pub found : object_at objects n ≡ Some first
  pub rest : Replaces places (put_at n new objects) others

pub placed-first : (n : ℕ) (new : Option Object) (places : List (ℕ × Option Object)) (objects olds : List Object)
    → Replaces ((n, new) ∷ places) objects olds → StoodFirst n new places objects olds
placed-first _ _ _ _ _ (further o new places objects olds found numbered rest) =
    record { first = o; others = olds; are = refl; found = found; rest = rest }

-- so who is found there is counted among those that are replaced
pub placed-weighs : (a : Acceptance) (o : Object) (new : Option Object) (n : ℕ) (places : List (ℕ × Option Object))
    (objects olds : List Object) → object_at objects n ≡ Some o → Replaces ((n, new) ∷ places) objects olds
    → idle a o ≤ idle_among a olds
placed-weighs a o new n places objects olds found replaces =
    let placed = placed-first n new places objects olds replaces in
    let same : placed.first ≡ o = one (sym placed.found ∙ found) in
    let all : idle_among a olds ≡ idle a placed.first + idle_among a placed.others =
    ap (idle_among a) placed.are ∙ sum_by-cons (idle a) placed.first placed.others
    in
    let first : idle a placed.first ≡ idle a o = ap (idle a) same in
    omega arith
  where
    one : {p q : Object} → Some p ≡ Some q → p ≡ q
    one is = cc
