-- At a place one judgement follows from a start.
use Rattle.std.proofs.Common.{◌≡◌, ◌≤◌, ◌+◌, ℕ, List, [], ◌∷◌, map, Contains, Some, slice_get, refl, subst, sym, ap, ◌∙◌, arith}
use Rattle.std.specs.List.{flat_map}
use Rattle.nomos_ir.specs.declared.code_node.Arm.{Arm}
use Rattle.nomos_ir.specs.declared.code_node.Chan.{Chan}
use Rattle.nomos_ir.specs.declared.code_node.Chan.TheVariants as chan
use Rattle.nomos_ir.specs.declared.code_node.CodeNode.{CodeNode}
use Rattle.nomos_ir.specs.declared.code_node.CodeNode.TheVariants as code
use Rattle.nomos_ir.specs.declared.declaration.ProcDecl.{ProcDecl}
use Rattle.nomos_ir.specs.declared.ids.CodeId.{CodeId}
use Rattle.nomos_ir.specs.declared.ids.TypeId.{TypeId}
use Rattle.nomos_ir.specs.declared.ids.VarId.{VarId}
use Rattle.nomos_ir.specs.declared.lists.ProgramLists.{ProgramLists}
use Rattle.nomos_ir.specs.declared.mode.Mode.{Mode}
use Rattle.nomos_ir.specs.declared.mode.Mode.TheVariants as mode
use Rattle.nomos_ir.specs.declared.type_node.Branch.{Branch}
use Rattle.nomos_ir.specs.CodeParts.{code_next}
use Rattle.nomos_ir.specs.Order.{count_of}
use Rattle.nomos_ir.specs.Program.{IsProgram}
use Rattle.nomos_types.proofs.OccurrenceLaws.{contains-map, contains-found, counted, count-append, count-part, one-part, one-place}
use Rattle.nomos_types.proofs.RowLaws.{RowAt, row-at}
use Rattle.nomos_types.proofs.UniqueRowLaws.{row-unique}
use Rattle.nomos_types.specs.Amount.{Annotations}
use Rattle.nomos_types.specs.Derivation.{Follows}
use Rattle.nomos_types.specs.Judgement.{Judgement, goes_on, binds_channel, start_of}
use Rattle.nomos_types.specs.Places.{IsCodeOf, IsPlace}
use Rattle.nomos_types.specs.Premises.{ArmsGoOn}
use Rattle.nomos_types.specs.TypingRule.{TypingRule}

-- the number of the instruction at which a judgement stands
abbrev pub place : Judgement → ℕ
place j = j.code.0

-- a channel that goes on leaves the process at the next instruction
goes_on-place : (j : Judgement) (c : Chan) (t : TypeId) (next : CodeId) → place (goes_on j c t next) ≡ next.0
goes_on-place j chan.Own t next = refl
goes_on-place j (chan.Var v) t next = refl

-- a channel that is bound leaves the process where it is
binds-place : (j : Judgement) (v : VarId) (m : Mode) (t : TypeId) → place (binds_channel j v m t) ≡ place j
binds-place j v mode.R t = refl
binds-place j v mode.S t = refl
binds-place j v mode.L t = refl
binds-place j v mode.T t = refl

-- the arms go on at their instructions
arms-places : (j : Judgement) (c : Chan) (branches : List Branch) (arms : List Arm) (after : List Judgement)
    → ArmsGoOn j c branches arms after → map place after ≡ map (λ a. a.goes.0) arms
arms-places j c branches [] [] ArmsGoOn.none = refl
arms-places j c branches [] (k ∷ after) goes = elim goes [ ]
arms-places j c branches (a ∷ arms) _ (ArmsGoOn.arm {after = after} t goes others) =
    ap (λ (n : ℕ). n ∷ map place after) (goes_on-place j c t a.goes)
    ∙ ap (λ (ns : List ℕ). a.goes.0 ∷ ns) (arms-places j c branches arms after others)

-- one judgement at one place
one-next : {after : List Judgement} (k : Judgement) (n : ℕ) → after ≡ k ∷ [] → place k ≡ n → map place after ≡ n ∷ []
one-next k n is at = ap (map place) is ∙ ap (λ (m : ℕ). m ∷ []) at

-- a row leads to the instructions with which the node goes on, in order
pub row-places : (lists : ProgramLists) (x : Annotations) (j : Judgement) (after : List Judgement) (n : CodeNode)
    → RowAt lists x j n after → map place after ≡ code_next n
row-places lists x j after (code.Label at c l next) (t, h, e) = one-next _ next.0 e (goes_on-place j c t next)
row-places lists x j after (code.Case at c arms) h = arms-places j c h.branches arms after h.each_arm
row-places lists x j after (code.Send at c y next) (left, t, h, e) = one-next _ next.0 e (goes_on-place left c t next)
row-places lists x j after (code.Recv at c y next) (m, a, t, h, e) =
    one-next _ next.0 e (binds-place (goes_on j c t next) y m a ∙ goes_on-place j c t next)
row-places lists x j after (code.Put at c e next) (t, h, eq) = one-next _ next.0 eq (goes_on-place j c t next)
row-places lists x j after (code.Take at c v next) (kind, t, h, e) = one-next _ next.0 e (goes_on-place j c t next)
row-places lists x j after (code.Pay at c r next) (t, h, e) = one-next _ next.0 e (goes_on-place j c t next)
row-places lists x j after (code.Get at c r next) (t, h, e) = one-next _ next.0 e (goes_on-place j c t next)
row-places lists x j after (code.Work at r next) (h, e) = one-next _ next.0 e refl
row-places lists x j after (code.Wait at v next) (h, e) = one-next _ next.0 e refl
row-places lists x j after (code.Accept at next) (t, h, e) = one-next _ next.0 e refl
row-places lists x j after (code.Detach at next) (t, h, e) = one-next _ next.0 e refl
row-places lists x j after (code.Acquire at a v next) (t, h, e) = one-next _ next.0 e refl
row-places lists x j after (code.Release at v a next) (t, h, e) = one-next _ next.0 e refl
row-places lists x j after (code.Spawn at v f args next) (d, left, h, e) =
    one-next _ next.0 e (binds-place _ v d.mode d.offers)
row-places lists x j after (code.Let at v e next) (kind, h, free, eq) = one-next _ next.0 eq refl
row-places lists x j after (code.Emit at e next) (kind, h, eq) = one-next _ next.0 eq refl
row-places lists x j after (code.If at e then_next else_next) (h, eq) = ap (map place) eq
row-places lists x j after (code.Close at) (h, e) = ap (map place) e
row-places lists x j after (code.Fwd at v) (h, e) = ap (map place) e
row-places lists x j after (code.Call at f args) (h, e) = ap (map place) e
row-places lists x j after (code.Empty at v r kind next) (h, e) = one-next _ next.0 e refl
row-places lists x j after (code.Add at v e w next) (l, h, eq) = one-next _ next.0 eq refl
row-places lists x j after (code.Match at w empty_next head tail full_next) (l, h, eq) = ap (map place) eq

-- where code nodes stand after code nodes, and first in declarations
abbrev nexts : ProgramLists → List ℕ
nexts lists = flat_map code_next lists.code

abbrev firsts : ProgramLists → List ℕ
firsts lists = map (λ d. d.first.0) lists.procs

-- the node with which one instruction goes on to another
record LedBy (lists : ProgramLists) (at next : ℕ) : Type 0 where
  node : CodeNode
  there : slice_get lists.code at ≡ Some node
  among : Contains (code_next node) next

led-by : {lists : ProgramLists} {x : Annotations} {j k : Judgement} (after : List Judgement)
    → TypingRule lists x j after
    → Contains after k → LedBy lists (place j) (place k)
led-by {lists} {x} {j} {k} after row among =
    let (n, there, says) = row-at row in
    let to : Contains (map place after) (place k) = contains-map place after k (place k) among refl in
    record {
      node = n;
      there = there;
      among = subst (λ (ns : List ℕ). Contains ns (place k)) (row-places lists x j after n says) to;
    }

-- so it stands after a code node
led-counted : {lists : ProgramLists} {at next : ℕ} → LedBy lists at next → 1 ≤ count_of next (nexts lists)
led-counted {lists} {at} {next} led =
    let here = counted next (code_next led.node) led.among in
    omega (arith, count-part code_next next lists.code at led.node led.there)

module _ {lists : ProgramLists} (is_program : IsProgram lists) where
  -- an instruction stands after one node at most, or begins one declaration
  once-placed : (at : ℕ) → count_of at (nexts lists) + count_of at (firsts lists) ≤ 1
  once-placed at = omega (arith, is_program.code at, count-append at (nexts lists) (firsts lists))

  -- no instruction goes on to where a declaration begins
  not-first : {at next : ℕ} (p : ℕ) (d : ProcDecl) → slice_get lists.procs p ≡ Some d → LedBy lists at next
      → next ≡ d.first.0 → ⊥
  not-first {at} {next} p d declared led same =
      let first : Contains (firsts lists) next = contains-map (λ (e : ProcDecl). e.first.0) lists.procs d next
      (contains-found lists.procs p d declared) (sym same) in
      omega (arith, once-placed next, counted next (firsts lists) first, led-counted led)

  -- instructions that go on to one are one
  same-place : {at other next later : ℕ} → LedBy lists at next → LedBy lists other later → next ≡ later → at ≡ other
  same-place {at} {other} {next} {later} led led_too same =
      let among_there : Contains (code_next led_too.node) next =
      subst (λ (c : ℕ). Contains (code_next led_too.node) c) (sym same) led_too.among in
      let few : count_of next (nexts lists) ≤ 1 = omega (arith, once-placed next) in
      one-part code_next next lists.code at other led.node led_too.node few led.there led_too.there
      (counted next (code_next led.node) led.among) (counted next (code_next led_too.node) among_there)

  -- an instruction is one of one declaration's
  pub one-code : (p q : ℕ) (d e : ProcDecl) {at other : ℕ} → slice_get lists.procs p ≡ Some d
      → slice_get lists.procs q ≡ Some e → IsCodeOf lists d at → IsCodeOf lists e other → at ≡ other → d ≡ e
  one-code p q d e declared declared_too IsCodeOf.begins IsCodeOf.begins same =
      let few : count_of d.first.0 (firsts lists) ≤ 1 = omega (arith, once-placed d.first.0) in
      one-place (λ (f : ProcDecl). f.first.0) d.first.0 lists.procs d e refl (sym same) few
      (contains-found lists.procs p d declared) (contains-found lists.procs q e declared_too)
  one-code p q d e declared declared_too IsCodeOf.begins (IsCodeOf.leads n before there among) same =
      absurd (not-first p d declared (record { node = n; there = there; among = among }) (sym same))
  one-code p q d e declared declared_too (IsCodeOf.leads n before there among) IsCodeOf.begins same =
      absurd (not-first q e declared_too (record { node = n; there = there; among = among }) same)
  one-code p q d e {at} {other} declared declared_too (IsCodeOf.leads {at = i} n before there among)
      (IsCodeOf.leads {at = j} m before_too there_too among_too) same =
      let led : LedBy lists i at = record { node = n; there = there; among = among } in
      let led_too : LedBy lists j other = record { node = m; there = there_too; among = among_too } in
      one-code p q d e declared declared_too before before_too (same-place led led_too same)

module _ {lists : ProgramLists} {x : Annotations} (is_program : IsProgram lists) where
  -- a row goes on to one judgement at a place
  same-next : {j k l : Judgement} (after : List Judgement) → TypingRule lists x j after → Contains after k
      → Contains after l
      → place k ≡ place l → k ≡ l
  same-next {j} {k} {l} after row among among_too same =
      let (n, there, says) = row-at row in
      let places = row-places lists x j after n says in
      let part : count_of (place k) (code_next n)
      ≤ count_of (place k) (nexts lists) = count-part code_next (place k) lists.code (place j) n there in
      let few : count_of (place k) (map place after)
      ≤ 1 = subst (λ (ns : List ℕ). count_of (place k) ns ≤ 1) (sym places)
      (omega (arith, once-placed is_program (place k))) in
      one-place place (place k) after k l refl (sym same) few among among_too

  -- at a place one judgement follows from the start of the declaration
  pub follows-unique : {first j k : Judgement} (p : ℕ) (d : ProcDecl) → slice_get lists.procs p ≡ Some d
      → first.code ≡ d.first → Follows lists x first j → Follows lists x first k → j.code ≡ k.code → j ≡ k
  follows-unique p d declared begins Follows.first Follows.first same = refl
  follows-unique p d declared begins Follows.first (Follows.next after follows row among) same =
      absurd (not-first is_program p d declared (led-by after row among) (ap (λ c. c.0) (sym same ∙ begins)))
  follows-unique p d declared begins (Follows.next after follows row among) Follows.first same =
      absurd (not-first is_program p d declared (led-by after row among) (ap (λ c. c.0) (same ∙ begins)))
  follows-unique {first} {j} {k} p d declared begins (Follows.next {j = i} after follows row among)
      (Follows.next {j = l} after_too follows_too row_too among_too) same =
      let places : place j ≡ place k = ap (λ c. c.0) same in
      let at_one : place i ≡ place l =
      same-place is_program (led-by after row among) (led-by after_too row_too among_too) places
      in
      let before : i ≡ l = follows-unique p d declared begins follows follows_too
      (ap (λ (c : ℕ). let id : CodeId = record { 0 = c } in id) at_one) in
      let row_there : TypingRule lists x i after_too = subst (λ (s : Judgement). TypingRule lists x s after_too)
      (sym before)
      row_too in
      let lists_same : after_too ≡ after = row-unique x is_program row_there row in
      same-next after row among (subst (λ (s : List Judgement). Contains s k) lists_same among_too) places

  -- the place of a judgement that follows from the start of a declaration is one of its instructions
  pub follows-code : {d : ProcDecl} {j : Judgement} → Follows lists x (start_of lists x d) j
      → IsCodeOf lists d (place j)
  follows-code Follows.first = IsCodeOf.begins
  follows-code (Follows.next after before row among) =
      let led = led-by after row among in
      IsCodeOf.leads led.node (follows-code before) led.there led.among

  -- judgements at one place follow from the start of one declaration
  pub one-declaration : {j k : Judgement} (p q : ℕ) (d e : ProcDecl) → slice_get lists.procs p ≡ Some d
      → slice_get lists.procs q ≡ Some e → Follows lists x (start_of lists x d) j
      → Follows lists x (start_of lists x e) k → j.code ≡ k.code → d ≡ e
  one-declaration p q d e declared declared_too follows follows_too same =
      one-code is_program p q d e declared declared_too (follows-code follows) (follows-code follows_too)
      (ap (λ (c : CodeId). c.0) same)

  -- at a place of the program one judgement stands
  pub one-judgement : {j k : Judgement} → IsPlace lists x j → IsPlace lists x k → j.code ≡ k.code → j ≡ k
  one-judgement {j} {k} left right same =
      let d = left.declaration in
      let e = right.declaration in
      let one : e ≡ d =
      one-declaration right.number left.number e d right.declared left.declared right.follows left.follows (sym same)
      in
      let too : Follows lists x (start_of lists x d) k =
      subst (λ (f : ProcDecl). Follows lists x (start_of lists x f) k) one right.follows
      in
      follows-unique left.number d left.declared refl left.follows too same
