-- Since each instruction stands at most once in a program, a place is led to from one place, and by one way.
use Rattle.std.proofs.Common.{◌≡◌, ◌≤◌, ℕ, List, [], ◌∷◌, map, Contains, refl, ap, sym, subst, ◌∙◌, arith}
use Rattle.std.specs.List.{flat_map}
use Rattle.nomos_ir.specs.declared.code_node.CodeNode.{CodeNode}
use Rattle.nomos_ir.specs.declared.declaration.ProcDecl.{ProcDecl}
use Rattle.nomos_ir.specs.declared.ids.CodeId.{CodeId}
use Rattle.nomos_ir.specs.declared.lists.ProgramLists.{ProgramLists}
use Rattle.nomos_ir.specs.CodeParts.{code_next}
use Rattle.nomos_ir.specs.Order.{count_of}
use Rattle.nomos_ir.specs.Program.{IsProgram}
use Rattle.nomos_types.specs.Amount.{Annotations}
use Rattle.nomos_types.specs.Judgement.{Judgement}
use Rattle.nomos_types.specs.TypingRule.{TypingRule, StandsAtCode}
use Rattle.nomos_types.proofs.FollowingLaws.{place, row-places}
use Rattle.nomos_types.proofs.OccurrenceLaws.{count-append, count-part, counted, one-part, one-place}
use Rattle.nomos_types.proofs.RowLaws.{row-at}
use Rattle.nomos_check.proofs.ListLemmas.{contains-map}

-- the node with which a row goes on to a judgement
record LedBy (lists : ProgramLists) (j k : Judgement) : Type 0 where
  node : CodeNode
  there : StandsAtCode lists j node
  among : Contains (code_next node) (place k)

led-by : {lists : ProgramLists} {x : Annotations} {j k : Judgement} (after : List Judgement)
    → TypingRule lists x j after
    → Contains after k → LedBy lists j k
led-by {lists} {x} {j} {k} after row among =
    let (n, there, says) = row-at row in
    let to : Contains (map place after) (place k) = contains-map place after k among in
    record {
      node = n;
      there = there;
      among = subst (λ (ns : List ℕ). Contains ns (place k)) (row-places lists x j after n says) to;
    }

-- the places of the judgements of which something is said
places-said : {X : Type 0} (f : X → Judgement) (said : List X) → map place (map f said) ≡ map (λ e. place (f e)) said
places-said f [] = refl
places-said f (s ∷ said) = ap (λ (ns : List ℕ). place (f s) ∷ ns) (places-said f said)

module _ {lists : ProgramLists} (is_program : IsProgram lists) where
  -- a place stands after instructions at most once
  next-once : (c : ℕ) → count_of c (flat_map code_next lists.code) ≤ 1
  next-once c =
      let both = count-append c (flat_map code_next lists.code) (map (λ (d : ProcDecl). d.first.0) lists.procs) in
      omega (arith, is_program.code c)

  -- rows that go on to one place stand at one place
  pub one-behind : {x : Annotations} {i j k l : Judgement} {after later : List Judgement} → TypingRule lists x i after
      → Contains after k → TypingRule lists x j later → Contains later l → k.code ≡ l.code → i.code ≡ j.code
  one-behind {x} {i} {j} {k} {l} {after} {later} row among row_too among_too same =
      let led = led-by after row among in
      let led_too = led-by later row_too among_too in
      let there : Contains (code_next led_too.node) (place k) =
      subst (λ (c : CodeId). Contains (code_next led_too.node) c.0) (sym same) led_too.among
      in
      let places : place i ≡ place j =
      one-part code_next (place k) lists.code (place i) (place j) led.node led_too.node (next-once (place k)) led.there
      led_too.there (counted (place k) (code_next led.node) led.among)
      (counted (place k) (code_next led_too.node) there)
      in
      ap (λ (c : ℕ). let id : CodeId = record { 0 = c } in id) places

  -- what is said of the judgements with which a row goes on, one thing of each, is one thing at a place
  pub one-at_place : {X : Type 0} {x : Annotations} {j : Judgement} (f : X → Judgement) (said : List X)
      (after : List Judgement) (s t : X) → TypingRule lists x j after → map f said ≡ after → Contains said s
      → Contains said t
      → (f s).code ≡ (f t).code → s ≡ t
  one-at_place {X} {x} {j} f said after s t row is among among_too same =
      let (n, there, says) = row-at row in
      let at : X → ℕ = λ e. place (f e) in
      let places : map at said ≡ code_next n =
      sym (places-said f said) ∙ ap (map place) is ∙ row-places lists x j after n says
      in
      let part = count-part code_next (at s) lists.code (place j) n there in
      let few : count_of (at s) (map at said) ≤ 1 =
      subst (λ (ns : List ℕ). count_of (at s) ns ≤ 1) (sym places) (omega (arith, part, next-once (at s)))
      in
      one-place at (at s) said s t refl (ap (λ (c : CodeId). c.0) (sym same)) few among among_too
