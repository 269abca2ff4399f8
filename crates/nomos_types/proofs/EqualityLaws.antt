-- Laws of type equality.
use Rattle.std.proofs.Common.{◌≡◌, ◌<◌, ℕ, zero, suc, List, length, All, map, Option, Some, None, sym, subst, refl, ◌∙◌, arith, mul-zero}
use Rattle.std.proofs.lemmas.List.{get_or-map, length-map}
use Rattle.nomos_ir.specs.declared.amount.Amount.{Amount}
use Rattle.nomos_ir.specs.declared.amount.Amount.TheVariants as amount
use Rattle.nomos_ir.specs.declared.ids.Label.{Label}
use Rattle.nomos_ir.specs.declared.ids.TypeId.{TypeId}
use Rattle.nomos_ir.specs.declared.kind.Kind.{Kind}
use Rattle.nomos_ir.specs.declared.lists.ProgramLists.{ProgramLists}
use Rattle.nomos_ir.specs.declared.type_node.Branch.{Branch}
use Rattle.nomos_ir.specs.declared.type_node.TypeNode.{TypeNode}
use Rattle.nomos_ir.specs.declared.type_node.TypeNode.TheVariants as node
use Rattle.nomos_ir.specs.Ids.{AllBelow}
use Rattle.nomos_ir.specs.Nodes.{type_node}
use Rattle.nomos_ir.specs.Program.{IsProgram}
use Rattle.nomos_ir.specs.TypeParts.{type_parts}
use Rattle.nomos_ir.specs.Unfold.{IsConstructor, IsContractive, Unfolds, constructor}
use Rattle.nomos_ir.proofs.UnfoldLaws.{Unfolds-unique}
use Rattle.nomos_types.specs.Amount.{Annotations, dths}
use Rattle.nomos_types.specs.Branches.{goes_by}
use Rattle.nomos_types.specs.Equality.{BothOrNeither, both, neither, SameBranches, SameHead, one, plus, with, tensor, lolli, value_out, value_in, pot_out, pot_in, up, down, SameUnfolding, Agree, EqualTypes, EqualShapes, no_amounts}
use Rattle.nomos_types.proofs.BranchLaws.{goes-all}
use Rattle.nomos_types.proofs.Nodes.{type_node-in_range, named-below, element-there, type_node-there, named-unfolds}

-- ---- both or neither

-- what is related stays so under a wider relation; relations go back and through
both-map : {X : Type 0} {R S : X → X → Type 0} {o r : Option X} → ((a b : X) → R a b → S a b) → BothOrNeither R o r
    → BothOrNeither S o r
both-map wider (both a b related) = both a b (wider a b related)
both-map wider neither = neither

both-back : {X : Type 0} {R S : X → X → Type 0} {o r : Option X} → ((a b : X) → R a b → S b a) → BothOrNeither R o r
    → BothOrNeither S r o
both-back back (both a b related) = both b a (back a b related)
both-back back neither = neither

both-through : {X : Type 0} {R : X → X → Type 0} {o r s : Option X} → ((a b c : X) → R a b → R b c → R a c)
    → BothOrNeither R o r → BothOrNeither R r s → BothOrNeither R o s
both-through through (both a b first) (both _ c second) = both a c (through a b c first second)
both-through through neither neither = neither

-- two that are there are related
both-related : {X : Type 0} {R : X → X → Type 0} {a b : X} → BothOrNeither R (Some a) (Some b) → R a b
both-related (both _ _ related) = related

-- what is related at every depth is related by all depths together
both-every : {X : Type 0} (R : ℕ → X → X → Type 0) (o r : Option X) → ((n : ℕ) → BothOrNeither (R n) o r)
    → BothOrNeither (λ a b. (n : ℕ) → R n a b) o r
both-every R (Some a) (Some b) every = both a b (λ n. both-related (every n))
both-every R (Some a) None every = elim (every 0) [ ]
both-every R None (Some b) every = elim (every 0) [ ]
both-every R None None every = neither

-- what is related to itself where it is there
both-same : {X : Type 0} (R : X → X → Type 0) (o : Option X) → ((a : X) → o ≡ Some a → R a a) → BothOrNeither R o o
both-same R (Some a) same = both a a (same a refl)
both-same R None same = neither

-- ---- heads

-- related heads stay related under other amounts that agree where the first ones do, and a wider relation of the parts
same_head-change : {x y : Annotations} {R S : TypeId → TypeId → Type 0} {p q : TypeNode}
    → ((q r : Amount) → dths x q ≡ dths x r → dths y q ≡ dths y r) → ((a b : TypeId) → R a b → S a b) → SameHead x R p q
    → SameHead y S p q
same_head-change amounts wider one = one
same_head-change amounts wider (plus bs cs same) = plus bs cs (λ l. both-map wider (same l))
same_head-change amounts wider (with bs cs same) = with bs cs (λ l. both-map wider (same l))
same_head-change amounts wider (tensor a b c d h k) = tensor a b c d (wider a c h) (wider b d k)
same_head-change amounts wider (lolli a b c d h k) = lolli a b c d (wider a c h) (wider b d k)
same_head-change amounts wider (value_out kind a b h) = value_out kind a b (wider a b h)
same_head-change amounts wider (value_in kind a b h) = value_in kind a b (wider a b h)
same_head-change amounts wider (pot_out q r a b e h) = pot_out q r a b (amounts q r e) (wider a b h)
same_head-change amounts wider (pot_in q r a b e h) = pot_in q r a b (amounts q r e) (wider a b h)
same_head-change amounts wider (up a b h) = up a b (wider a b h)
same_head-change amounts wider (down a b h) = down a b (wider a b h)

-- related heads stay related under a wider relation of the parts
pub same_head-map : {x : Annotations} {R S : TypeId → TypeId → Type 0} {p q : TypeNode}
    → ((a b : TypeId) → R a b → S a b) → SameHead x R p q → SameHead x S p q
same_head-map wider same = same_head-change (λ q r e. e) wider same

-- heads go back
same_head-back : {x : Annotations} {R S : TypeId → TypeId → Type 0} {p q : TypeNode} → ((a b : TypeId) → R a b → S b a)
    → SameHead x R p q → SameHead x S q p
same_head-back back one = one
same_head-back back (plus bs cs same) = plus cs bs (λ l. both-back back (same l))
same_head-back back (with bs cs same) = with cs bs (λ l. both-back back (same l))
same_head-back back (tensor a b c d h k) = tensor c d a b (back a c h) (back b d k)
same_head-back back (lolli a b c d h k) = lolli c d a b (back a c h) (back b d k)
same_head-back back (value_out kind a b h) = value_out kind b a (back a b h)
same_head-back back (value_in kind a b h) = value_in kind b a (back a b h)
same_head-back back (pot_out q r a b e h) = pot_out r q b a (sym e) (back a b h)
same_head-back back (pot_in q r a b e h) = pot_in r q b a (sym e) (back a b h)
same_head-back back (up a b h) = up b a (back a b h)
same_head-back back (down a b h) = down b a (back a b h)

-- heads go through
same_head-through : {x : Annotations} {R : TypeId → TypeId → Type 0} {p q r : TypeNode}
    → ((a b c : TypeId) → R a b → R b c → R a c) → SameHead x R p q → SameHead x R q r → SameHead x R p r
same_head-through through one one = one
same_head-through through (plus bs cs same) (plus _ ds same2) =
    plus bs ds (λ l. both-through through (same l) (same2 l))
same_head-through through (with bs cs same) (with _ ds same2) =
    with bs ds (λ l. both-through through (same l) (same2 l))
same_head-through through (tensor a b c d h k) (tensor _ _ e f i j) =
    tensor a b e f (through a c e h i) (through b d f k j)
same_head-through through (lolli a b c d h k) (lolli _ _ e f i j) =
    lolli a b e f (through a c e h i) (through b d f k j)
same_head-through through (value_out kind a b h) (value_out _ _ c i) = value_out kind a c (through a b c h i)
same_head-through through (value_in kind a b h) (value_in _ _ c i) = value_in kind a c (through a b c h i)
same_head-through through (pot_out q r a b e h) (pot_out _ s _ c f i) = pot_out q s a c (e ∙ f) (through a b c h i)
same_head-through through (pot_in q r a b e h) (pot_in _ s _ c f i) = pot_in q s a c (e ∙ f) (through a b c h i)
same_head-through through (up a b h) (up _ c i) = up a c (through a b c h i)
same_head-through through (down a b h) (down _ c i) = down a c (through a b c h i)

-- ---- the parts of related heads

module _ {x : Annotations} {R : TypeId → TypeId → Type 0} where
  plus-parts : {bs cs : List Branch} → SameHead x R (node.Plus bs) (node.Plus cs) → SameBranches R bs cs
  plus-parts (plus _ _ same) = same

  with-parts : {bs cs : List Branch} → SameHead x R (node.With bs) (node.With cs) → SameBranches R bs cs
  with-parts (with _ _ same) = same

  tensor-parts : {a b c d : TypeId} → SameHead x R (node.Tensor a b) (node.Tensor c d) → R a c × R b d
  tensor-parts (tensor _ _ _ _ h k) = (h, k)

  lolli-parts : {a b c d : TypeId} → SameHead x R (node.Lolli a b) (node.Lolli c d) → R a c × R b d
  lolli-parts (lolli _ _ _ _ h k) = (h, k)

  value_out-part : {k l : Kind} {a b : TypeId} → SameHead x R (node.ValueOut k a) (node.ValueOut l b) → R a b
  value_out-part (value_out _ _ _ h) = h

  value_in-part : {k l : Kind} {a b : TypeId} → SameHead x R (node.ValueIn k a) (node.ValueIn l b) → R a b
  value_in-part (value_in _ _ _ h) = h

  pot_out-part : {q r : Amount} {a b : TypeId} → SameHead x R (node.PotOut q a) (node.PotOut r b) → R a b
  pot_out-part (pot_out _ _ _ _ _ h) = h

  pot_in-part : {q r : Amount} {a b : TypeId} → SameHead x R (node.PotIn q a) (node.PotIn r b) → R a b
  pot_in-part (pot_in _ _ _ _ _ h) = h

  up-part : {a b : TypeId} → SameHead x R (node.Up a) (node.Up b) → R a b
  up-part (up _ _ h) = h

  down-part : {a b : TypeId} → SameHead x R (node.Down a) (node.Down b) → R a b
  down-part (down _ _ h) = h

-- heads that are related at every depth are related by all depths together
same_head-every : {x : Annotations} {S : TypeId → TypeId → Type 0} {p q : TypeNode} → (R : ℕ → TypeId → TypeId → Type 0)
    → SameHead x S p q → ((n : ℕ) → SameHead x (R n) p q) → SameHead x (λ a b. (n : ℕ) → R n a b) p q
same_head-every R one every = one
same_head-every R (plus bs cs _) every =
    plus bs cs (λ l. both-every R (goes_by bs l) (goes_by cs l) (λ n. plus-parts (every n) l))
same_head-every R (with bs cs _) every =
    with bs cs (λ l. both-every R (goes_by bs l) (goes_by cs l) (λ n. with-parts (every n) l))
same_head-every R (tensor a b c d _ _) every =
    tensor a b c d (λ n. (tensor-parts (every n)).0) (λ n. (tensor-parts (every n)).1)
same_head-every R (lolli a b c d _ _) every =
    lolli a b c d (λ n. (lolli-parts (every n)).0) (λ n. (lolli-parts (every n)).1)
same_head-every R (value_out kind a b _) every = value_out kind a b (λ n. value_out-part (every n))
same_head-every R (value_in kind a b _) every = value_in kind a b (λ n. value_in-part (every n))
same_head-every R (pot_out q r a b e _) every = pot_out q r a b e (λ n. pot_out-part (every n))
same_head-every R (pot_in q r a b e _) every = pot_in q r a b e (λ n. pot_in-part (every n))
same_head-every R (up a b _) every = up a b (λ n. up-part (every n))
same_head-every R (down a b _) every = down a b (λ n. down-part (every n))

-- ---- a type equals itself

-- a branch goes on at a type node
pub branch-below : (n : ℕ) (branches : List Branch) (l : Label) (t : TypeId) → AllBelow n (map (λ b. b.goes.0) branches)
    → goes_by branches l ≡ Some t → t.0 < n
branch-below n branches l t all found =
    let mapped : All (λ b. b.goes.0 < n) branches =
    λ k d inside.
    let there : k < length (map (λ (b : Branch). b.goes.0) branches) = rw length-map inside in
    subst (λ (i : ℕ). i < n) (get_or-map (λ (b : Branch). b.goes.0) branches k d 0 inside) (all k 0 there)
    in
    goes-all (λ u. u.0 < n) branches l t mapped found

-- a node is its own head, where its parts are related to themselves
same_head-same : (x : Annotations) (R : TypeId → TypeId → Type 0) (n : ℕ) (p : TypeNode)
    → ((t : TypeId) → t.0 < n → R t t) → AllBelow n (type_parts p) → IsConstructor p → SameHead x R p p
same_head-same x R n node.One same parts no_name = one
same_head-same x R n (node.Plus bs) same parts no_name =
    plus bs bs (λ l. both-same R (goes_by bs l) (λ t found. same t (branch-below n bs l t parts found)))
same_head-same x R n (node.With bs) same parts no_name =
    with bs bs (λ l. both-same R (goes_by bs l) (λ t found. same t (branch-below n bs l t parts found)))
same_head-same x R n (node.Tensor a b) same parts no_name =
    tensor a b a b (same a (parts 0 0 (omega arith))) (same b (parts 1 0 (omega arith)))
same_head-same x R n (node.Lolli a b) same parts no_name =
    lolli a b a b (same a (parts 0 0 (omega arith))) (same b (parts 1 0 (omega arith)))
same_head-same x R n (node.ValueOut kind a) same parts no_name = value_out kind a a (same a (parts 0 0 (omega arith)))
same_head-same x R n (node.ValueIn kind a) same parts no_name = value_in kind a a (same a (parts 0 0 (omega arith)))
same_head-same x R n (node.PotOut q a) same parts no_name = pot_out q q a a refl (same a (parts 0 0 (omega arith)))
same_head-same x R n (node.PotIn q a) same parts no_name = pot_in q q a a refl (same a (parts 0 0 (omega arith)))
same_head-same x R n (node.Up a) same parts no_name = up a a (same a (parts 0 0 (omega arith)))
same_head-same x R n (node.Down a) same parts no_name = down a a (same a (parts 0 0 (omega arith)))
same_head-same x R n (node.Named d) same parts no_name = absurd no_name

-- what a type unfolds to, with its parts in range
record UnfoldsInRange (lists : ProgramLists) (t : ℕ) : Type 0 where
  node : TypeNode
  unfolds : Unfolds lists t node
  no_name : IsConstructor node
  parts : AllBelow (length lists.types) (type_parts node)

-- a type unfolds, by the node that stands there
node-unfolds : (lists : ProgramLists) (t : ℕ) (n : TypeNode) → IsProgram lists → IsContractive lists
    → type_node lists t ≡ Some n → UnfoldsInRange lists t
node-unfolds lists t (node.Named id) is_program contractive there =
    let def = element-there lists.defs id.0 (named-below lists t id is_program there) in
    let body = named-unfolds lists t id def.0 is_program contractive there def.1 in
    record {
      node = body.node;
      unfolds = body.unfolds;
      no_name = body.no_name;
      parts = (type_node-in_range lists def.0.body.0 body.node is_program body.there).parts;
    }
node-unfolds lists t n is_program contractive there =
    record {
      node = n;
      unfolds = constructor t n there tt;
      no_name = tt;
      parts = (type_node-in_range lists t n is_program there).parts;
    }

-- each type unfolds
type-unfolds : (lists : ProgramLists) (t : ℕ) → IsProgram lists → IsContractive lists → t < length lists.types
    → UnfoldsInRange lists t
type-unfolds lists t is_program contractive inside =
    let there = type_node-there lists t inside in
    node-unfolds lists t there.0 is_program contractive there.1

-- a type agrees with itself to every depth
pub agree-same : (lists : ProgramLists) (x : Annotations) (n : ℕ) (t : TypeId) → IsProgram lists → IsContractive lists
    → t.0 < length lists.types → Agree lists x n t t
agree-same lists x zero t is_program contractive inside = tt
agree-same lists x (suc n) t is_program contractive inside =
    let u = type-unfolds lists t.0 is_program contractive inside in
    let same : (s : TypeId) → s.0 < length lists.types → Agree lists x n s s =
    λ s below. agree-same lists x n s is_program contractive below
    in
    record {
      left = u.node;
      right = u.node;
      left_unfolds = u.unfolds;
      right_unfolds = u.unfolds;
      same = same_head-same x (Agree lists x n) (length lists.types) u.node same u.parts u.no_name;
    }

-- a type equals itself
pub equal-same : (lists : ProgramLists) (x : Annotations) (t : TypeId) → IsProgram lists → IsContractive lists
    → t.0 < length lists.types → EqualTypes lists x t t
equal-same lists x t is_program contractive inside = λ n. agree-same lists x n t is_program contractive inside

-- ---- back and through

-- agreement to a depth goes back
pub agree-back : (lists : ProgramLists) (x : Annotations) (n : ℕ) (a b : TypeId) → Agree lists x n a b
    → Agree lists x n b a
agree-back lists x zero a b agree = tt
agree-back lists x (suc n) a b agree =
    record {
      left = agree.right;
      right = agree.left;
      left_unfolds = agree.right_unfolds;
      right_unfolds = agree.left_unfolds;
      same = same_head-back (λ c d. agree-back lists x n c d) agree.same;
    }

-- equality goes back
pub equal-back : (lists : ProgramLists) (x : Annotations) (a b : TypeId) → EqualTypes lists x a b
    → EqualTypes lists x b a
equal-back lists x a b equal = λ n. agree-back lists x n a b (equal n)

-- types whose unfoldings are known have the heads of these
head-at : {lists : ProgramLists} {x : Annotations} {R : TypeId → TypeId → Type 0} {a b : TypeId} {p q : TypeNode}
    → SameUnfolding lists x R a b → Unfolds lists a.0 p → Unfolds lists b.0 q → SameHead x R p q
head-at {lists = lists} {x = x} {R = R} {a = a} {b = b} {p = p} {q = q} u left right =
    let same_left : u.left ≡ p = Unfolds-unique lists a.0 u.left p u.left_unfolds left in
    let same_right : u.right ≡ q = Unfolds-unique lists b.0 u.right q u.right_unfolds right in
    let at_left : SameHead x R p u.right = subst (λ (m : TypeNode). SameHead x R m u.right) same_left u.same in
    subst (λ (m : TypeNode). SameHead x R p m) same_right at_left

-- agreement to a depth goes through
pub agree-through : (lists : ProgramLists) (x : Annotations) (n : ℕ) (a b c : TypeId) → Agree lists x n a b
    → Agree lists x n b c → Agree lists x n a c
agree-through lists x zero a b c first second = tt
agree-through lists x (suc n) a b c first second =
    let same = head-at second first.right_unfolds second.right_unfolds in
    record {
      left = first.left;
      right = second.right;
      left_unfolds = first.left_unfolds;
      right_unfolds = second.right_unfolds;
      same = same_head-through (λ d e f. agree-through lists x n d e f) first.same same;
    }

-- equality goes through
pub equal-through : (lists : ProgramLists) (x : Annotations) (a b c : TypeId) → EqualTypes lists x a b
    → EqualTypes lists x b c → EqualTypes lists x a c
equal-through lists x a b c first second = λ n. agree-through lists x n a b c (first n) (second n)

-- ---- one step of unfolding

-- types that are equal unfold to the same head, and the parts are equal
pub equal-unfolded : (lists : ProgramLists) (x : Annotations) (a b : TypeId) (p : TypeNode) → EqualTypes lists x a b
    → Unfolds lists a.0 p → (q : TypeNode) × Unfolds lists b.0 q × SameHead x (EqualTypes lists x) p q
equal-unfolded lists x a b p equal unfolds =
    let first : SameUnfolding lists x (Agree lists x zero) a b = equal (suc zero) in
    let q = first.right in
    let here : SameHead x (Agree lists x zero) p q = head-at first unfolds first.right_unfolds in
    let every : (n : ℕ) → SameHead x (Agree lists x n) p q = λ n. head-at (equal (suc n)) unfolds first.right_unfolds in
    (q, first.right_unfolds, same_head-every (λ n. Agree lists x n) here every)

-- types that unfold to the same head with equal parts agree to every depth
agree-from_unfolded : (lists : ProgramLists) (x : Annotations) (n : ℕ) (a b : TypeId) (p q : TypeNode)
    → Unfolds lists a.0 p → Unfolds lists b.0 q → SameHead x (EqualTypes lists x) p q → Agree lists x n a b
agree-from_unfolded lists x zero a b p q left right same = tt
agree-from_unfolded lists x (suc n) a b p q left right same =
    record { left = p; right = q; left_unfolds = left; right_unfolds = right; same = same_head-map (λ c d e. e n) same }

-- types that unfold to the same head with equal parts are equal
pub equal-from_unfolded : (lists : ProgramLists) (x : Annotations) (a b : TypeId) (p q : TypeNode) → Unfolds lists a.0 p
    → Unfolds lists b.0 q → SameHead x (EqualTypes lists x) p q → EqualTypes lists x a b
equal-from_unfolded lists x a b p q left right same = λ n. agree-from_unfolded lists x n a b p q left right same

-- ---- amounts ignored

-- where amounts are ignored each is 0
pub no_dths : (q : Amount) → dths no_amounts q ≡ 0
no_dths (amount.Written units) = mul-zero units
no_dths (amount.Star star) = refl

-- types that agree to a depth agree to it where amounts are ignored
agree-shapes : (lists : ProgramLists) (x : Annotations) (n : ℕ) (a b : TypeId) → Agree lists x n a b
    → Agree lists no_amounts n a b
agree-shapes lists x zero a b agree = tt
agree-shapes lists x (suc n) a b agree =
    record {
      left = agree.left;
      right = agree.right;
      left_unfolds = agree.left_unfolds;
      right_unfolds = agree.right_unfolds;
      same = same_head-change (λ q r e. no_dths q ∙ sym (no_dths r)) (λ c d. agree-shapes lists x n c d) agree.same;
    }

-- equal types have equal shapes
pub equal-shapes : (lists : ProgramLists) (x : Annotations) (a b : TypeId) → EqualTypes lists x a b
    → EqualShapes lists a b
equal-shapes lists x a b equal = λ n. agree-shapes lists x n a b (equal n)
