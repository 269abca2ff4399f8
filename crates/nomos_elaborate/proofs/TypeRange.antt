-- The ids in the nodes of a type and of a term are in range, where its claims hold.
use Rattle.std.proofs.Common.{ℕ, ◌<◌, Bool, List, [], ◌∷◌, ◌++◌, length, map, arith}
use Rattle.std.proofs.lemmas.List.Elements.{All-cons}
use Rattle.nomos_elaborate.proofs.BuiltRangeLaws.{TypeFits, TermFits, InRange, none_below, one_below, two_below, three_below, Made, TypeMade, TermMade, Made-then, Made-same, variable_made, amount_made, label_made, label_below, type_put, term_put}
use Rattle.nomos_elaborate.proofs.NameClaimLaws.{AllHold, first_holds, rest_hold, left_hold, right_hold}
use Rattle.nomos_elaborate.proofs.NumberLaws.{number_of-lt}
use Rattle.nomos_elaborate.specs.Built.{Built, with_label, with_variable, label_id, variable_id, amount_of, kind_of}
use Rattle.nomos_elaborate.specs.NameClaim.{declared, new_among, new_on_way}
use Rattle.nomos_elaborate.specs.Names.{Names, number_of, seen}
use Rattle.nomos_elaborate.specs.Scope.{Scope, bind}
use Rattle.nomos_elaborate.specs.TermBuild.{payer_id, operator_node, build_term, build_terms}
use Rattle.nomos_elaborate.specs.TermClaims.{matched_value, term_claims, terms_claims}
use Rattle.nomos_elaborate.specs.TypeBuild.{choice_node, channel_node, value_node, paying_node, build_type, build_branches}
use Rattle.nomos_elaborate.specs.TypeClaims.{type_claims, branch_claims}
use Rattle.nomos_elaborate.specs.declared.sort.Sort.TheVariants as sort
use Rattle.nomos_elaborate.specs.declared.spaces.Spaces.{Spaces}
use Rattle.nomos_ir.specs.Ids.{AllBelow}
use Rattle.nomos_ir.specs.declared.amount.Amount.{Amount}
use Rattle.nomos_ir.specs.declared.ids.TermId.{TermId}
use Rattle.nomos_ir.specs.declared.ids.TypeId.{TypeId}
use Rattle.nomos_ir.specs.declared.kind.Kind.{Kind}
use Rattle.nomos_ir.specs.declared.term_node.TermNode.TheVariants as node
use Rattle.nomos_ir.specs.declared.type_node.Branch.{Branch}
use Rattle.nomos_ir.specs.declared.type_node.TypeNode.TheVariants as form
use Rattle.nomos_surface.specs.declared.terms.Operator.{Operator}
use Rattle.nomos_surface.specs.declared.terms.Operator.TheVariants as op
use Rattle.nomos_surface.specs.declared.types.Sender.{Sender}
use Rattle.nomos_surface.specs.declared.types.Sender.TheVariants as side
use Rattle.nomos_surface.specs.Tree.{TypeTree, one, named, choice, channel, valued, paying, going_up, going_down, grouped, BranchTrees, no_branches, branch, TermTree, number, truth, me, variable, application, no_items, binary, negation, choosing, matching, parenthesized, TermTrees, no_terms, term}

-- the nodes of types whose parts, names and labels have lower numbers
module _ (d t l : ℕ) where
  choice-fits : (sender : Sender) (branches : List Branch) → AllBelow t (map (λ b. b.goes.0) branches)
      → AllBelow l (map (λ b. b.label.0) branches) → TypeFits d t l (choice_node sender branches)
  choice-fits side.Provider branches parts labels = record { parts = parts; names = none_below d; labels = labels }
  choice-fits side.Client branches parts labels = record { parts = parts; names = none_below d; labels = labels }

  channel-fits : (sender : Sender) (a b : TypeId) → a.0 < t → b.0 < t → TypeFits d t l (channel_node sender a b)
  channel-fits side.Provider a b h i =
      record { parts = two_below t a.0 b.0 h i; names = none_below d; labels = none_below l }
  channel-fits side.Client a b h i =
      record { parts = two_below t a.0 b.0 h i; names = none_below d; labels = none_below l }

  value-fits : (sender : Sender) (kind : Kind) (a : TypeId) → a.0 < t → TypeFits d t l (value_node sender kind a)
  value-fits side.Provider kind a h = record { parts = one_below t a.0 h; names = none_below d; labels = none_below l }
  value-fits side.Client kind a h = record { parts = one_below t a.0 h; names = none_below d; labels = none_below l }

  paying-fits : (sender : Sender) (amount : Amount) (a : TypeId) → a.0 < t
      → TypeFits d t l (paying_node sender amount a)
  paying-fits side.Provider amount a h =
      record { parts = one_below t a.0 h; names = none_below d; labels = none_below l }
  paying-fits side.Client amount a h =
      record { parts = one_below t a.0 h; names = none_below d; labels = none_below l }

-- the branches of a choice, with their labels
pub record BranchesMade (all : Spaces) (s : Built) (built : Built × List Branch) : Type 0 where
  pub made : Made all s built.0
  pub goes : AllBelow (length built.0.types) (map (λ b. b.goes.0) built.1)
  pub labels : AllBelow (length built.0.labels) (map (λ b. b.label.0) built.1)

mutual
  unfolding build_type build_branches type_claims branch_claims

  pub type_made : (all : Spaces) (s : Built) (t : TypeTree) → AllHold (type_claims all.types t) → InRange all s
      → TypeMade all s (build_type all.types s t)
  type_made all s (one at) hold r =
      type_put all s s form.One at (Made-same all s r)
      (record { parts = none_below _; names = none_below _; labels = none_below _ })
  type_made all s (named n) hold r =
      let known = first_holds (declared all.types n) [] hold in
      let below : number_of all.types n.name < length all.types = number_of-lt all.types n.name known in
      type_put all s s (form.Named (record { 0 = number_of all.types n.name })) n.at (Made-same all s r)
      (record { parts = none_below _; names = one_below _ _ below; labels = none_below _ })
  type_made all s (choice sender at branches) hold r =
      let built = build_branches all.types s branches in
      let h = branches_made all s [] branches hold r in
      type_put all s built.0 (choice_node sender built.1) at h.made (choice-fits _ _ _ sender built.1 h.goes h.labels)
  type_made all s (channel sender at carried goes) hold r =
      let a = build_type all.types s carried in
      let b = build_type all.types a.0 goes in
      let ones = type_claims all.types carried in
      let others = type_claims all.types goes in
      let h = type_made all s carried (left_hold ones others hold) r in
      let i = type_made all a.0 goes (right_hold ones others hold) h.made.range in
      let below : a.1.0 < length b.0.types = let below = h.below in let longer = i.made.longer.types in omega arith in
      type_put all s b.0 (channel_node sender a.1 b.1) at (Made-then all s a.0 b.0 h.made i.made)
      (channel-fits _ _ _ sender a.1 b.1 below i.below)
  type_made all s (valued sender at value goes) hold r =
      let a = build_type all.types s goes in
      let h = type_made all s goes hold r in
      type_put all s a.0 (value_node sender (kind_of value) a.1) at h.made
      (value-fits _ _ _ sender (kind_of value) a.1 h.below)
  type_made all s (paying sender at potential goes) hold r =
      let paid = amount_of s potential in
      let a = build_type all.types paid.0 goes in
      let p = amount_made all s potential r in
      let h = type_made all paid.0 goes hold p.range in
      type_put all s a.0 (paying_node sender paid.1 a.1) at (Made-then all s paid.0 a.0 p h.made)
      (paying-fits _ _ _ sender paid.1 a.1 h.below)
  type_made all s (going_up at goes) hold r =
      let a = build_type all.types s goes in
      let h = type_made all s goes hold r in
      type_put all s a.0 (form.Up a.1) at h.made
      (record { parts = one_below _ a.1.0 h.below; names = none_below _; labels = none_below _ })
  type_made all s (going_down at goes) hold r =
      let a = build_type all.types s goes in
      let h = type_made all s goes hold r in
      type_put all s a.0 (form.Down a.1) at h.made
      (record { parts = one_below _ a.1.0 h.below; names = none_below _; labels = none_below _ })
  type_made all s (grouped inner) hold r = type_made all s inner hold r

  pub branches_made : (all : Spaces) (s : Built) (before : Names) (branches : BranchTrees)
      → AllHold (branch_claims all.types before branches) → InRange all s
      → BranchesMade all s (build_branches all.types s branches)
  branches_made all s before no_branches hold r =
      record { made = Made-same all s r; goes = none_below _; labels = none_below _ }
  branches_made all s before (branch l goes branches) hold r =
      let named = with_label s l in
      let a = build_type all.types named goes in
      let b = build_branches all.types a.0 branches in
      let ones = type_claims all.types goes in
      let others = branch_claims all.types (seen before l.name) branches in
      let rest = rest_hold (new_among before l) (ones ++ others) hold in
      let m = label_made all s l r in
      let h = type_made all named goes (left_hold ones others rest) m.range in
      let i = branches_made all a.0 (seen before l.name) branches (right_hold ones others rest) h.made.range in
      let part : a.1.0 < length b.0.types = let below = h.below in let longer = i.made.longer.types in omega arith in
      let spelled = label_below all s l in
      let label : (label_id named l).0 < length b.0.labels =
      let first = h.made.longer.labels in let second = i.made.longer.labels in omega arith in
      record {
        made = Made-then all s a.0 b.0 (Made-then all s named a.0 m h.made) i.made;
        goes = All-cons (λ k. k < length b.0.types) a.1.0 (map (λ b. b.goes.0) b.1) part i.goes;
        labels = All-cons (λ k. k < length b.0.labels) (label_id named l).0 (map (λ b. b.label.0) b.1) label i.labels;
      }

-- the node of an operator between two terms
operator-fits : (f e : ℕ) (operator : Operator) (at : ℕ) (a b : TermId) → a.0 < e → b.0 < e
    → TermFits f e (operator_node operator at a b)
operator-fits f e op.Or at a b h i = record { parts = two_below e a.0 b.0 h i; calls = none_below f }
operator-fits f e op.And at a b h i = record { parts = two_below e a.0 b.0 h i; calls = none_below f }
operator-fits f e op.Less at a b h i = record { parts = two_below e a.0 b.0 h i; calls = none_below f }
operator-fits f e op.Equal at a b h i = record { parts = two_below e a.0 b.0 h i; calls = none_below f }
operator-fits f e op.Cons at a b h i = record { parts = two_below e a.0 b.0 h i; calls = none_below f }
operator-fits f e op.Add at a b h i = record { parts = two_below e a.0 b.0 h i; calls = none_below f }
operator-fits f e op.Sub at a b h i = record { parts = two_below e a.0 b.0 h i; calls = none_below f }
operator-fits f e op.Mul at a b h i = record { parts = two_below e a.0 b.0 h i; calls = none_below f }
operator-fits f e op.Div at a b h i = record { parts = two_below e a.0 b.0 h i; calls = none_below f }
operator-fits f e op.Rem at a b h i = record { parts = two_below e a.0 b.0 h i; calls = none_below f }

-- the arguments of a call
pub record TermsMade (all : Spaces) (s : Built) (built : Built × List TermId) : Type 0 where
  pub made : Made all s built.0
  pub below : AllBelow (length built.0.terms) (map (λ e. e.0) built.1)

mutual
  unfolding build_term build_terms term_claims terms_claims

  pub term_made : (all : Spaces) (inside : Bool) (scope : Scope) (s : Built) (t : TermTree)
      → AllHold (term_claims all.functions inside scope t) → InRange all s
      → TermMade all s (build_term all.functions s t)
  term_made all inside scope s (number at value) hold r =
      term_put all s s (node.Number at value) (Made-same all s r)
      (record { parts = none_below _; calls = none_below _ })
  term_made all inside scope s (truth at value) hold r =
      term_put all s s (node.Truth at value) (Made-same all s r)
      (record { parts = none_below _; calls = none_below _ })
  term_made all inside scope s (me at) hold r =
      term_put all s s (node.Var at (payer_id s)) (Made-same all s r)
      (record { parts = none_below _; calls = none_below _ })
  term_made all inside scope s (variable n) hold r =
      term_put all s s (node.Var n.at (variable_id s n)) (Made-same all s r)
      (record { parts = none_below _; calls = none_below _ })
  term_made all inside scope s (application f arguments) hold r =
      let built = build_terms all.functions s arguments in
      let claims = terms_claims all.functions inside scope arguments in
      let known = first_holds (declared all.functions f) claims hold in
      let below : number_of all.functions f.name < length all.functions = number_of-lt all.functions f.name known in
      let h = terms_made all inside scope s arguments (rest_hold (declared all.functions f) claims hold) r in
      term_put all s built.0 (node.Call f.at (record { 0 = number_of all.functions f.name }) built.1) h.made
      (record { parts = h.below; calls = one_below _ _ below })
  term_made all inside scope s (no_items at element) hold r =
      term_put all s s (node.Nil at (kind_of element)) (Made-same all s r)
      (record { parts = none_below _; calls = none_below _ })
  term_made all inside scope s (binary operator at left right) hold r =
      let a = build_term all.functions s left in
      let b = build_term all.functions a.0 right in
      let lefts = term_claims all.functions inside scope left in
      let rights = term_claims all.functions inside scope right in
      let h = term_made all inside scope s left (left_hold lefts rights hold) r in
      let i = term_made all inside scope a.0 right (right_hold lefts rights hold) h.made.range in
      let below : a.1.0 < length b.0.terms = let below = h.below in let longer = i.made.longer.terms in omega arith in
      term_put all s b.0 (operator_node operator at a.1 b.1) (Made-then all s a.0 b.0 h.made i.made)
      (operator-fits _ _ operator at a.1 b.1 below i.below)
  term_made all inside scope s (negation at inner) hold r =
      let a = build_term all.functions s inner in
      let h = term_made all inside scope s inner hold r in
      term_put all s a.0 (node.Not at a.1) h.made (record { parts = one_below _ a.1.0 h.below; calls = none_below _ })
  term_made all inside scope s (choosing at test holds fails) hold r =
      let t = build_term all.functions s test in
      let a = build_term all.functions t.0 holds in
      let b = build_term all.functions a.0 fails in
      let tests = term_claims all.functions inside scope test in
      let ones = term_claims all.functions inside scope holds in
      let others = term_claims all.functions inside scope fails in
      let front = left_hold (tests ++ ones) others hold in
      let h = term_made all inside scope s test (left_hold tests ones front) r in
      let i = term_made all inside scope t.0 holds (right_hold tests ones front) h.made.range in
      let j = term_made all inside scope a.0 fails (right_hold (tests ++ ones) others hold) i.made.range in
      let tested : t.1.0 < length b.0.terms =
      let below = h.below in let first = i.made.longer.terms in let second = j.made.longer.terms in omega arith in
      let below : a.1.0 < length b.0.terms = let below = i.below in let longer = j.made.longer.terms in omega arith in
      term_put all s b.0 (node.If at t.1 a.1 b.1)
      (Made-then all s a.0 b.0 (Made-then all s t.0 a.0 h.made i.made) j.made)
      (record { parts = three_below _ t.1.0 a.1.0 b.1.0 tested below j.below; calls = none_below _ })
  term_made all inside scope s (matching at matched empty head tail more) hold r =
      let l = build_term all.functions s matched in
      let a = build_term all.functions l.0 empty in
      let first = with_variable a.0 head in
      let second = with_variable first tail in
      let b = build_term all.functions second more in
      let lists = term_claims all.functions inside scope matched in
      let empties = term_claims all.functions inside scope empty in
      let mores = term_claims all.functions inside (matched_value scope head tail) more in
      let heads = new_on_way scope head in
      let tails = new_on_way (bind scope head sort.Value) tail in
      let front = left_hold (lists ++ empties) (heads ∷ tails ∷ mores) hold in
      let full = right_hold (lists ++ empties) (heads ∷ tails ∷ mores) hold in
      let last = rest_hold tails mores (rest_hold heads (tails ∷ mores) full) in
      let h = term_made all inside scope s matched (left_hold lists empties front) r in
      let i = term_made all inside scope l.0 empty (right_hold lists empties front) h.made.range in
      let v = variable_made all a.0 head i.made.range in
      let w = variable_made all first tail v.range in
      let j = term_made all inside (matched_value scope head tail) second more last w.range in
      let since = Made-then all a.0 second b.0 (Made-then all a.0 first second v w) j.made in
      let listed : l.1.0 < length b.0.terms =
      let below = h.below in let first = i.made.longer.terms in let second = since.longer.terms in omega arith in
      let below : a.1.0 < length b.0.terms = let below = i.below in let longer = since.longer.terms in omega arith in
      term_put all s b.0 (node.Match at l.1 a.1 (variable_id first head) (variable_id second tail) b.1)
      (Made-then all s a.0 b.0 (Made-then all s l.0 a.0 h.made i.made) since)
      (record { parts = three_below _ l.1.0 a.1.0 b.1.0 listed below j.below; calls = none_below _ })
  term_made all inside scope s (parenthesized inner) hold r = term_made all inside scope s inner hold r

  pub terms_made : (all : Spaces) (inside : Bool) (scope : Scope) (s : Built) (ts : TermTrees)
      → AllHold (terms_claims all.functions inside scope ts) → InRange all s
      → TermsMade all s (build_terms all.functions s ts)
  terms_made all inside scope s no_terms hold r = record { made = Made-same all s r; below = none_below _ }
  terms_made all inside scope s (term first rest) hold r =
      let a = build_term all.functions s first in
      let b = build_terms all.functions a.0 rest in
      let ones = term_claims all.functions inside scope first in
      let others = terms_claims all.functions inside scope rest in
      let h = term_made all inside scope s first (left_hold ones others hold) r in
      let i = terms_made all inside scope a.0 rest (right_hold ones others hold) h.made.range in
      let below : a.1.0 < length b.0.terms = let below = h.below in let longer = i.made.longer.terms in omega arith in
      record {
        made = Made-then all s a.0 b.0 h.made i.made;
        below = All-cons (λ k. k < length b.0.terms) a.1.0 (map (λ e. e.0) b.1) below i.below;
      }
