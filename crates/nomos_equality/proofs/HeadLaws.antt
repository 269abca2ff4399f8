-- Nodes of the same form: what the code compares, and the heads with related parts.
use Rattle.std.proofs.Common.{◌≡◌, ◌==◌, ℕ, Bool, true, false, cond, List, [], ◌∷◌, All, Contains, find, Option, Some, None, option_map, IsSome, refl, true≢false, sym, ap, subst, ◌∙◌, eq-eqb, eqb-true, arith}
use Rattle.std.proofs.lemmas.List.Elements.{All-cons, All-weaker, All-contains, All-nil, Contains-append_right, Contains-get_or}
use Rattle.nomos_ir.specs.declared.amount.Amount.{Amount}
use Rattle.nomos_ir.specs.declared.ids.Label.{Label}
use Rattle.nomos_ir.specs.declared.ids.TypeId.{TypeId}
use Rattle.nomos_ir.specs.declared.kind.Kind.{Kind}
use Rattle.nomos_ir.specs.declared.type_node.Branch.{Branch}
use Rattle.nomos_ir.specs.declared.type_node.TypeNode.{TypeNode}
use Rattle.nomos_ir.specs.declared.type_node.TypeNode.TheVariants as node
use Rattle.nomos_ir.specs.Unfold.{IsConstructor}
use Rattle.nomos_types.proofs.EqualityLaws.{no_dths}
use Rattle.nomos_types.specs.Amount.{Annotations, dths}
use Rattle.nomos_types.specs.Branches.{goes_by}
use Rattle.nomos_types.specs.Equality.{BothOrNeither, both, neither, SameBranches, SameHead, one, plus, with, tensor, lolli, value_out, value_in, pot_out, pot_in, up, down}
use Rattle.nomos_equality.specs.declared.hop.Hop.{Hop}
use Rattle.nomos_equality.specs.declared.hop.Hop.TheVariants as hop
use Rattle.nomos_equality.specs.Differences.{SameForm}
use Rattle.nomos_equality.specs.Paths.{choices_of, part_by, paid_by}
use Rattle.nomos_equality.specs.mirror.Heads.{constructor_of, kind_of}

-- each label of the first branches is one of the others
abbrev pub HasLabels : List Branch → List Branch → Type 0
HasLabels bs cs = All (λ b. IsSome (goes_by cs b.label)) bs

abbrev label_at : ℕ → Label
label_at n = record { 0 = n }

-- ---- labels

-- where the test of the first branch is known
first-label : (b : Branch) (bs : List Branch) (l : Label) (t : TypeId) (passes : Bool) → b.label.0 == l.0 ≡ passes
    → (option_map (λ c. c.goes) (find (λ c. c.label.0 == l.0) bs) ≡ Some t
    → (c : Branch) × Contains bs c × (c.label ≡ l) × (c.goes ≡ t))
    → option_map (λ c. c.goes) (cond passes (Some b) (find (λ c. c.label.0 == l.0) bs)) ≡ Some t
    → (c : Branch) × Contains (b ∷ bs) c × (c.label ≡ l) × (c.goes ≡ t)
first-label b bs l t true e rest found =
    let goes : b.goes ≡ t = cc in
    (b, Contains-get_or (b ∷ bs) 0 b (omega arith), ap label_at (eqb-true b.label.0 l.0 e), goes)
first-label b bs l t false e rest found =
    let r = rest found in
    (r.0, Contains-append_right (b ∷ []) bs r.0 r.1, r.2, r.3)

-- a choice goes on after a label as one of its branches does
pub goes-label : (bs : List Branch) (l : Label) (t : TypeId) → goes_by bs l ≡ Some t
    → (c : Branch) × Contains bs c × (c.label ≡ l) × (c.goes ≡ t)
goes-label [] l t found = absurd cc
goes-label (b ∷ bs) l t found = first-label b bs l t (b.label.0 == l.0) refl (goes-label bs l t) found

-- one more branch keeps what a choice goes on with
goes-more : (b : Branch) (found : Option Branch) (passes : Bool) → IsSome (option_map (λ c. c.goes) found)
    → IsSome (option_map (λ c. c.goes) (cond passes (Some b) found))
goes-more b found true some = refl
goes-more b found false some = some

own-first : (b : Branch) (found : Option Branch) (passes : Bool) → passes ≡ true
    → IsSome (option_map (λ c. c.goes) (cond passes (Some b) found))
own-first b found true e = refl
own-first b found false e = absurd cc

-- a choice goes on after each of its labels
own-labels : (bs : List Branch) → HasLabels bs bs
own-labels [] = All-nil (λ b. IsSome (goes_by [] b.label))
own-labels (b ∷ bs) =
    All-cons (λ c. IsSome (goes_by (b ∷ bs) c.label)) b bs
    (own-first b (find (λ c. c.label.0 == b.label.0) bs) (b.label.0 == b.label.0) (eq-eqb b.label.0 b.label.0 refl))
    (All-weaker (λ c. IsSome (goes_by bs c.label)) (λ c. IsSome (goes_by (b ∷ bs) c.label))
    (λ c some. goes-more b (find (λ e. e.label.0 == c.label.0) bs) (b.label.0 == c.label.0) some) bs (own-labels bs))

-- ---- the same labels

both-known : {X : Type 0} (o r : Option X) → ((x : X) → o ≡ Some x → IsSome r) → ((x : X) → r ≡ Some x → IsSome o)
    → BothOrNeither (λ a b. Unit {0}) o r
both-known (Some a) (Some b) right left = both a b tt
both-known (Some a) None right left = absurd (true≢false (sym (right a refl)))
both-known None (Some b) right left = absurd (true≢false (sym (left b refl)))
both-known None None right left = neither

-- after a label of the first, the other goes on
label-known : (bs cs : List Branch) (l : Label) (t : TypeId) → HasLabels bs cs → goes_by bs l ≡ Some t
    → IsSome (goes_by cs l)
label-known bs cs l t all found =
    let c = goes-label bs l t found in
    subst (λ (k : Label). IsSome (goes_by cs k)) c.2 (All-contains (λ b. IsSome (goes_by cs b.label)) bs c.0 all c.1)

-- two choices each of which has the labels of the other
labels-same : (bs cs : List Branch) → HasLabels bs cs → HasLabels cs bs → SameBranches (λ a b. Unit {0}) bs cs
labels-same bs cs right left =
    λ l. both-known (goes_by bs l) (goes_by cs l) (λ t found. label-known bs cs l t right found)
    (λ t found. label-known cs bs l t left found)

both-some : {X : Type 0} {R : X → X → Type 0} (o r : Option X) → BothOrNeither R o r → IsSome o → IsSome r
both-some (Some a) (Some b) (both _ _ related) some = refl
both-some (Some a) None same some = elim same [ ]
both-some None (Some b) same some = elim same [ ]
both-some None None neither some = some

both-some_back : {X : Type 0} {R : X → X → Type 0} (o r : Option X) → BothOrNeither R o r → IsSome r → IsSome o
both-some_back (Some a) (Some b) (both _ _ related) some = refl
both-some_back (Some a) None same some = elim same [ ]
both-some_back None (Some b) same some = elim same [ ]
both-some_back None None neither some = some

-- choices with the same labels each have those of the other
same-labels : {R : TypeId → TypeId → Type 0} (bs cs : List Branch) → SameBranches R bs cs → HasLabels bs cs
same-labels bs cs same =
    All-weaker (λ b. IsSome (goes_by bs b.label)) (λ b. IsSome (goes_by cs b.label))
    (λ b some. both-some (goes_by bs b.label) (goes_by cs b.label) (same b.label) some) bs (own-labels bs)

same-labels_back : {R : TypeId → TypeId → Type 0} (bs cs : List Branch) → SameBranches R bs cs → HasLabels cs bs
same-labels_back bs cs same =
    All-weaker (λ b. IsSome (goes_by cs b.label)) (λ b. IsSome (goes_by bs b.label))
    (λ b some. both-some_back (goes_by bs b.label) (goes_by cs b.label) (same b.label) some) cs (own-labels cs)

-- ---- the same form

-- what the code compares makes the same form
pub form-from : (p q : TypeNode) → IsConstructor p → constructor_of p ≡ constructor_of q → kind_of p ≡ kind_of q
    → HasLabels (choices_of p) (choices_of q) → HasLabels (choices_of q) (choices_of p) → SameForm p q
form-from (node.Named d) q no_name begins kinds right left = absurd no_name
form-from node.One node.One no_name begins kinds right left = one
form-from (node.Plus bs) (node.Plus cs) no_name begins kinds right left = plus bs cs (labels-same bs cs right left)
form-from (node.With bs) (node.With cs) no_name begins kinds right left = with bs cs (labels-same bs cs right left)
form-from (node.Tensor a b) (node.Tensor c d) no_name begins kinds right left = tensor a b c d tt tt
form-from (node.Lolli a b) (node.Lolli c d) no_name begins kinds right left = lolli a b c d tt tt
form-from (node.ValueOut k a) (node.ValueOut l b) no_name begins kinds right left =
    let same : k ≡ l = cc in
    subst (λ (m : Kind). SameForm (node.ValueOut k a) (node.ValueOut m b)) same (value_out k a b tt)
form-from (node.ValueIn k a) (node.ValueIn l b) no_name begins kinds right left =
    let same : k ≡ l = cc in
    subst (λ (m : Kind). SameForm (node.ValueIn k a) (node.ValueIn m b)) same (value_in k a b tt)
form-from (node.PotOut q a) (node.PotOut r b) no_name begins kinds right left =
    pot_out q r a b (no_dths q ∙ sym (no_dths r)) tt
form-from (node.PotIn q a) (node.PotIn r b) no_name begins kinds right left =
    pot_in q r a b (no_dths q ∙ sym (no_dths r)) tt
form-from (node.Up a) (node.Up b) no_name begins kinds right left = up a b tt
form-from (node.Down a) (node.Down b) no_name begins kinds right left = down a b tt
form-from p q no_name begins kinds right left = absurd cc

-- the same form makes what the code compares
pub form-begins : (p q : TypeNode) → SameForm p q → constructor_of p ≡ constructor_of q
form-begins p q one = refl
form-begins p q (plus _ _ _) = refl
form-begins p q (with _ _ _) = refl
form-begins p q (tensor _ _ _ _ _ _) = refl
form-begins p q (lolli _ _ _ _ _ _) = refl
form-begins p q (value_out _ _ _ _) = refl
form-begins p q (value_in _ _ _ _) = refl
form-begins p q (pot_out _ _ _ _ _ _) = refl
form-begins p q (pot_in _ _ _ _ _ _) = refl
form-begins p q (up _ _ _) = refl
form-begins p q (down _ _ _) = refl

pub form-kinds : (p q : TypeNode) → SameForm p q → kind_of p ≡ kind_of q
form-kinds p q one = refl
form-kinds p q (plus _ _ _) = refl
form-kinds p q (with _ _ _) = refl
form-kinds p q (tensor _ _ _ _ _ _) = refl
form-kinds p q (lolli _ _ _ _ _ _) = refl
form-kinds p q (value_out _ _ _ _) = refl
form-kinds p q (value_in _ _ _ _) = refl
form-kinds p q (pot_out _ _ _ _ _ _) = refl
form-kinds p q (pot_in _ _ _ _ _ _) = refl
form-kinds p q (up _ _ _) = refl
form-kinds p q (down _ _ _) = refl

no-labels : (bs : List Branch) → HasLabels [] bs
no-labels bs = All-nil (λ b. IsSome (goes_by bs b.label))

pub form-labels : (p q : TypeNode) → SameForm p q
    → HasLabels (choices_of p) (choices_of q) × HasLabels (choices_of q) (choices_of p)
form-labels p q (plus bs cs same) = (same-labels bs cs same, same-labels_back bs cs same)
form-labels p q (with bs cs same) = (same-labels bs cs same, same-labels_back bs cs same)
form-labels p q one = (no-labels [], no-labels [])
form-labels p q (tensor _ _ _ _ _ _) = (no-labels [], no-labels [])
form-labels p q (lolli _ _ _ _ _ _) = (no-labels [], no-labels [])
form-labels p q (value_out _ _ _ _) = (no-labels [], no-labels [])
form-labels p q (value_in _ _ _ _) = (no-labels [], no-labels [])
form-labels p q (pot_out _ _ _ _ _ _) = (no-labels [], no-labels [])
form-labels p q (pot_in _ _ _ _ _ _) = (no-labels [], no-labels [])
form-labels p q (up _ _ _) = (no-labels [], no-labels [])
form-labels p q (down _ _ _) = (no-labels [], no-labels [])

-- ---- parts

both-parts : {R : TypeId → TypeId → Type 0} (o r : Option TypeId) → BothOrNeither (λ a b. Unit {0}) o r
    → ((c d : TypeId) → o ≡ Some c → r ≡ Some d → R c d) → BothOrNeither R o r
both-parts (Some a) (Some b) (both _ _ _) parts = both a b (parts a b refl refl)
both-parts (Some a) None same parts = elim same [ ]
both-parts None (Some b) same parts = elim same [ ]
both-parts None None neither parts = neither

-- nodes of the same form, with related parts and amounts of the same worth
pub form-head : {x : Annotations} {R : TypeId → TypeId → Type 0} (p q : TypeNode) → SameForm p q
    → ((h : Hop) (c d : TypeId) → part_by p h ≡ Some c → part_by q h ≡ Some d → R c d)
    → ((m n : Amount) → paid_by p ≡ Some m → paid_by q ≡ Some n → dths x m ≡ dths x n) → SameHead x R p q
form-head p q one parts worth = one
form-head p q (plus bs cs same) parts worth =
    plus bs cs (λ l. both-parts (goes_by bs l) (goes_by cs l) (same l) (parts (hop.Label l)))
form-head p q (with bs cs same) parts worth =
    with bs cs (λ l. both-parts (goes_by bs l) (goes_by cs l) (same l) (parts (hop.Label l)))
form-head p q (tensor a b c d _ _) parts worth =
    tensor a b c d (parts hop.Carried a c refl refl) (parts hop.Next b d refl refl)
form-head p q (lolli a b c d _ _) parts worth =
    lolli a b c d (parts hop.Carried a c refl refl) (parts hop.Next b d refl refl)
form-head p q (value_out k a b _) parts worth = value_out k a b (parts hop.Next a b refl refl)
form-head p q (value_in k a b _) parts worth = value_in k a b (parts hop.Next a b refl refl)
form-head p q (pot_out m n a b _ _) parts worth = pot_out m n a b (worth m n refl refl) (parts hop.Next a b refl refl)
form-head p q (pot_in m n a b _ _) parts worth = pot_in m n a b (worth m n refl refl) (parts hop.Next a b refl refl)
form-head p q (up a b _) parts worth = up a b (parts hop.Next a b refl refl)
form-head p q (down a b _) parts worth = down a b (parts hop.Next a b refl refl)

-- the parts of related heads by one hop are related
same-parts : (R : TypeId → TypeId → Type 0) {a b c d : TypeId} → R a b → Some a ≡ Some c → Some b ≡ Some d → R c d
same-parts R {a = a} {b = b} {c = c} {d = d} related left right =
    let first : a ≡ c = cc in
    let second : b ≡ d = cc in
    subst (λ (e : TypeId). R c e) second (subst (λ (e : TypeId). R e b) first related)

both-same_parts : {R : TypeId → TypeId → Type 0} (o r : Option TypeId) (c d : TypeId) → BothOrNeither R o r → o ≡ Some c
    → r ≡ Some d → R c d
both-same_parts {R = R} (Some a) (Some b) c d (both _ _ related) left right = same-parts R related left right
both-same_parts (Some a) None c d same left right = elim same [ ]
both-same_parts None (Some b) c d same left right = elim same [ ]
both-same_parts None None c d neither left right = absurd cc

pub head-parts : {x : Annotations} {R : TypeId → TypeId → Type 0} (p q : TypeNode) (h : Hop) (c d : TypeId)
    → SameHead x R p q → part_by p h ≡ Some c → part_by q h ≡ Some d → R c d
head-parts {R = R} p q (hop.Label l) c d (plus bs cs same) left right =
    both-same_parts (goes_by bs l) (goes_by cs l) c d (same l) left right
head-parts {R = R} p q (hop.Label l) c d (with bs cs same) left right =
    both-same_parts (goes_by bs l) (goes_by cs l) c d (same l) left right
head-parts {R = R} p q hop.Carried c d (tensor _ _ _ _ h k) left right = same-parts R h left right
head-parts {R = R} p q hop.Carried c d (lolli _ _ _ _ h k) left right = same-parts R h left right
head-parts {R = R} p q hop.Next c d (tensor _ _ _ _ h k) left right = same-parts R k left right
head-parts {R = R} p q hop.Next c d (lolli _ _ _ _ h k) left right = same-parts R k left right
head-parts {R = R} p q hop.Next c d (value_out _ _ _ h) left right = same-parts R h left right
head-parts {R = R} p q hop.Next c d (value_in _ _ _ h) left right = same-parts R h left right
head-parts {R = R} p q hop.Next c d (pot_out _ _ _ _ _ h) left right = same-parts R h left right
head-parts {R = R} p q hop.Next c d (pot_in _ _ _ _ _ h) left right = same-parts R h left right
head-parts {R = R} p q hop.Next c d (up _ _ h) left right = same-parts R h left right
head-parts {R = R} p q hop.Next c d (down _ _ h) left right = same-parts R h left right
head-parts {R = R} p q h c d same left right = absurd cc

-- the amounts of related heads have the same worth
same-worth : (x : Annotations) (q r m n : Amount) → dths x q ≡ dths x r → Some q ≡ Some m → Some r ≡ Some n
    → dths x m ≡ dths x n
same-worth x q r m n same left right =
    let first : q ≡ m = cc in
    let second : r ≡ n = cc in
    cc

pub head-worth : (x : Annotations) {R : TypeId → TypeId → Type 0} (p q : TypeNode) (m n : Amount) → SameHead x R p q
    → paid_by p ≡ Some m → paid_by q ≡ Some n → dths x m ≡ dths x n
head-worth x p q m n (pot_out a b _ _ same _) left right = same-worth x a b m n same left right
head-worth x p q m n (pot_in a b _ _ same _) left right = same-worth x a b m n same left right
head-worth x p q m n same left right = absurd cc
