-- Type equality on small definitions: two that name one another are equal; eight choices in one another that end
-- otherwise agree to depth 8 and are not equal.
use Rattle.std.proofs.Common.{◌≡◌, ◌==◌, ℕ, zero, suc, Bool, true, false, cond, List, [], ◌∷◌, Option, Some, None, option_map, subst, refl}
use Rattle.std.specs.Prelude.{codes}
use Rattle.nomos_ir.specs.declared.ids.DefId.{DefId}
use Rattle.nomos_ir.specs.declared.ids.TypeId.{TypeId}
use Rattle.nomos_ir.specs.declared.lists.ProgramLists.{ProgramLists}
use Rattle.nomos_ir.specs.declared.mode.Mode.TheVariants as mode
use Rattle.nomos_ir.specs.declared.type_node.Branch.{Branch}
use Rattle.nomos_ir.specs.declared.type_node.Def.{Def}
use Rattle.nomos_ir.specs.declared.type_node.TypeAt.{TypeAt}
use Rattle.nomos_ir.specs.declared.type_node.TypeNode.{TypeNode}
use Rattle.nomos_ir.specs.declared.type_node.TypeNode.TheVariants as node
use Rattle.nomos_ir.specs.Nodes.{type_node}
use Rattle.nomos_ir.specs.Unfold.{Unfolds, constructor, name}
use Rattle.nomos_ir.proofs.UnfoldLaws.{Unfolds-unique}
use Rattle.nomos_types.specs.Equality.{BothOrNeither, both, neither, SameBranches, SameHead, plus, Agree, EqualTypes}
use Rattle.nomos_types.proofs.EqualityLaws.{equal-unfolded}
use Rattle.nomos_types.proofs.HeadLaws.{both-there}
use Rattle.nomos_types.proofs.RowExampleProgram.{type_id, label_id, units}

-- one branch, and a choice of it alone
abbrev one_branch : ℕ → List Branch
one_branch t = record { label = label_id 0; goes = type_id t } ∷ []

abbrev choice : ℕ → TypeNode
choice t = node.Plus (one_branch t)

abbrev type_of : TypeNode → TypeAt
type_of n = record { node = n; at = 0 }

abbrev types_alone : List Def → List TypeAt → ProgramLists
types_alone defs types =
    record { defs = defs; types = types; terms = []; code = []; fns = []; procs = []; labels = codes "x" ∷ [] }

-- what the one branch goes on at, where its label passes a test
abbrev goes_if : ℕ → Bool → Option TypeId
goes_if t passes =
    option_map (λ (b : Branch). b.goes) (cond passes (Some (record { label = label_id 0; goes = type_id t })) None)

-- choices of one branch go on in related ways where their branches do
branch-at : (R : TypeId → TypeId → Type 0) (t u : ℕ) (passes : Bool) → R (type_id t) (type_id u)
    → BothOrNeither R (goes_if t passes) (goes_if u passes)
branch-at R t u true related = both (type_id t) (type_id u) related
branch-at R t u false related = neither

same-branch : (R : TypeId → TypeId → Type 0) (t u : ℕ) → R (type_id t) (type_id u)
    → SameBranches R (one_branch t) (one_branch u)
same-branch R t u related = λ l. branch-at R t u (0 == l.0) related

-- ---- definitions that name one another

abbrev first_id : DefId
first_id = record { 0 = 0 }

abbrev second_id : DefId
second_id = record { 0 = 1 }

abbrev first_def : Def
first_def = record { name = codes "a"; mode = mode.R; body = type_id 0 }

abbrev second_def : Def
second_def = record { name = codes "b"; mode = mode.R; body = type_id 2 }

-- type R a = +{x : b}; type R b = +{x : a}
abbrev mutual_pair : ProgramLists
mutual_pair =
    types_alone (first_def ∷ second_def ∷ [])
    (type_of (choice 1) ∷ type_of (node.Named second_id) ∷ type_of (choice 3) ∷ type_of (node.Named first_id) ∷ [])

b-unfolds : Unfolds mutual_pair 1 (choice 3)
b-unfolds = name 1 second_id second_def (choice 3) refl refl (constructor 2 (choice 3) refl tt)

a-unfolds : Unfolds mutual_pair 3 (choice 1)
a-unfolds = name 3 first_id first_def (choice 1) refl refl (constructor 0 (choice 1) refl tt)

mutual
  first-second : (n : ℕ) (t u : TypeId) → Unfolds mutual_pair t.0 (choice 1) → Unfolds mutual_pair u.0 (choice 3)
      → Agree mutual_pair units n t u
  first-second zero t u left right = tt
  first-second (suc n) t u left right =
      let R : TypeId → TypeId → Type 0 = λ a b. Agree mutual_pair units n a b in
      let after = second-first n (type_id 1) (type_id 3) b-unfolds a-unfolds in
      record {
        left = choice 1;
        right = choice 3;
        left_unfolds = left;
        right_unfolds = right;
        same = plus (one_branch 1) (one_branch 3) (same-branch R 1 3 after);
      }

  second-first : (n : ℕ) (t u : TypeId) → Unfolds mutual_pair t.0 (choice 3) → Unfolds mutual_pair u.0 (choice 1)
      → Agree mutual_pair units n t u
  second-first zero t u left right = tt
  second-first (suc n) t u left right =
      let R : TypeId → TypeId → Type 0 = λ a b. Agree mutual_pair units n a b in
      let after = first-second n (type_id 3) (type_id 1) a-unfolds b-unfolds in
      record {
        left = choice 3;
        right = choice 1;
        left_unfolds = left;
        right_unfolds = right;
        same = plus (one_branch 3) (one_branch 1) (same-branch R 3 1 after);
      }

-- the bodies of the two definitions are equal
pair-equal : EqualTypes mutual_pair units (type_id 0) (type_id 2)
pair-equal =
    λ n. first-second n (type_id 0) (type_id 2) (constructor 0 (choice 1) refl tt) (constructor 2 (choice 3) refl tt)

-- ---- choices that end otherwise

-- `1` and `&{}`, and behind them 8 choices over each
abbrev towers : ProgramLists
towers =
    types_alone []
    (type_of node.One ∷ type_of (node.With [])
    ∷ type_of (choice 0) ∷ type_of (choice 1) ∷ type_of (choice 2) ∷ type_of (choice 3)
    ∷ type_of (choice 4) ∷ type_of (choice 5) ∷ type_of (choice 6) ∷ type_of (choice 7)
    ∷ type_of (choice 8) ∷ type_of (choice 9) ∷ type_of (choice 10) ∷ type_of (choice 11)
    ∷ type_of (choice 12) ∷ type_of (choice 13) ∷ type_of (choice 14) ∷ type_of (choice 15)
    ∷ [])

-- one more choice over types that agree agrees to one more depth
one-higher : (n t u c d : ℕ) → type_node towers t ≡ Some (choice c) → type_node towers u ≡ Some (choice d)
    → Agree towers units n (type_id c) (type_id d) → Agree towers units (suc n) (type_id t) (type_id u)
one-higher n t u c d t_there u_there agree =
    let R : TypeId → TypeId → Type 0 = λ a b. Agree towers units n a b in
    record {
      left = choice c;
      right = choice d;
      left_unfolds = constructor t (choice c) t_there tt;
      right_unfolds = constructor u (choice d) u_there tt;
      same = plus (one_branch c) (one_branch d) (same-branch R c d agree);
    }

-- the towers agree to depth 8
towers-agree : Agree towers units 8 (type_id 16) (type_id 17)
towers-agree =
    one-higher 7 16 17 14 15 refl refl
    (one-higher 6 14 15 12 13 refl refl (one-higher 5 12 13 10 11 refl refl (one-higher 4 10 11 8 9 refl refl
    (one-higher 3 8 9 6 7 refl refl
    (one-higher 2 6 7 4 5 refl refl (one-higher 1 4 5 2 3 refl refl (one-higher 0 2 3 0 1 refl refl tt)))))))

-- related choices have related branches
branches-of : {R : TypeId → TypeId → Type 0} {bs cs : List Branch} → SameHead units R (node.Plus bs) (node.Plus cs)
    → SameBranches R bs cs
branches-of (plus _ _ same) = same

-- where the choices are equal, so is what is one lower
one-lower : (t u c d : ℕ) → type_node towers t ≡ Some (choice c) → type_node towers u ≡ Some (choice d)
    → EqualTypes towers units (type_id t) (type_id u) → EqualTypes towers units (type_id c) (type_id d)
one-lower t u c d t_there u_there equal =
    let R : TypeId → TypeId → Type 0 = EqualTypes towers units in
    let (q, unfolds, heads) = equal-unfolded towers units (type_id t) (type_id u) (choice c) equal
    (constructor t (choice c) t_there tt) in
    let there : q ≡ choice d = Unfolds-unique towers u q (choice d) unfolds (constructor u (choice d) u_there tt) in
    let same : SameHead units R (choice c) (choice d) = subst (λ (p : TypeNode). SameHead units R (choice c) p) there
    heads in
    both-there (type_id c) (type_id d) (branches-of same (label_id 0)) refl refl

-- `1` is not `&{}`
ends-differ : EqualTypes towers units (type_id 0) (type_id 1) → ⊥
ends-differ equal =
    let (q, unfolds, heads) = equal-unfolded towers units (type_id 0) (type_id 1) node.One equal
    (constructor 0 node.One refl tt) in
    let there : q ≡ node.With [] = Unfolds-unique towers 1 q (node.With []) unfolds
    (constructor 1 (node.With []) refl tt) in
    let same : SameHead units (EqualTypes towers units) node.One (node.With []) =
    subst (λ (p : TypeNode). SameHead units (EqualTypes towers units) node.One p) there heads in
    elim same [ ]

-- so the towers are not equal
towers-differ : EqualTypes towers units (type_id 16) (type_id 17) → ⊥
towers-differ equal =
    ends-differ (one-lower 2 3 0 1 refl refl
    (one-lower 4 5 2 3 refl refl (one-lower 6 7 4 5 refl refl (one-lower 8 9 6 7 refl refl
    (one-lower 10 11 8 9 refl refl
    (one-lower 12 13 10 11 refl refl (one-lower 14 15 12 13 refl refl (one-lower 16 17 14 15 refl refl equal))))))))
