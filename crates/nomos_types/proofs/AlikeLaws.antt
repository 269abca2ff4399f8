-- Laws of types and judgements that may stand for one another.
use Rattle.std.proofs.Common.{◌≡◌, ◌⊎◌, inl, inr, arith, zero, suc, ℕ, ◌==◌, Bool, true, false, cond, List, [], ◌∷◌, All, Contains, Option, Some, None, Ordering, Less, Equal, Greater, subst, sym, refl, ◌∙◌}
use Rattle.std.proofs.lemmas.List.Elements.{All-head, All-tail}
use Rattle.std.specs.Ordering.{match_ordering}
use Rattle.nomos_ir.specs.declared.ids.TypeId.{TypeId}
use Rattle.nomos_ir.specs.declared.ids.VarId.{VarId}
use Rattle.nomos_ir.specs.declared.lists.ProgramLists.{ProgramLists}
use Rattle.nomos_ir.specs.declared.mode.Mode.{Mode}
use Rattle.nomos_ir.specs.declared.mode.Mode.TheVariants as mode
use Rattle.nomos_ir.specs.Bindings.{bound_to, bind, unbind, by_number}
use Rattle.nomos_ir.specs.Program.{IsProgram}
use Rattle.nomos_ir.specs.declared.type_node.TypeNode.{TypeNode}
use Rattle.nomos_ir.specs.Nodes.{type_node}
use Rattle.nomos_ir.specs.Unfold.{IsContractive, Unfolds}
use Rattle.nomos_ir.proofs.UnfoldLaws.{Unfolds-unique}
use Rattle.nomos_types.specs.Alike.{Alike, AlikeChannels, none, channel, AlikeTypes}
use Rattle.nomos_types.specs.Amount.{Annotations}
use Rattle.nomos_types.specs.Judgement.{Judgement, IsJudgement}
use Rattle.nomos_types.specs.Equality.{BothOrNeither, both, neither, SameHead, one, plus, with, tensor, lolli, value_out, value_in, pot_out, pot_in, up, down, SameUnfolding, Agree, EqualTypes}
use Rattle.nomos_types.specs.Modes.{HasMode, ObeysModes, Allows, IsLinearMode, as_carried, carried_mode, part_modes, head_mode}
use Rattle.nomos_types.proofs.EqualityLaws.{equal-same, equal-back, equal-through, equal-unfolded}
use Rattle.nomos_types.proofs.ModeLaws.{mode-unique, mode-in_range, unfolding-keeps_mode, part-has_mode, plus-branch-has_mode, with-branch-has_mode}

-- ---- types

-- a type that has a mode is like itself
pub alike_types-same : {lists : ProgramLists} {t : TypeId} {m : Mode} → (x : Annotations) → IsProgram lists
    → IsContractive lists → HasMode lists t m → AlikeTypes lists x t t
alike_types-same {lists = lists} {t = t} {m = m} x is_program contractive there =
    record {
      equal = equal-same lists x t is_program contractive (mode-in_range is_program there);
      mode = m;
      left_mode = there;
      right_mode = there;
    }

-- likeness goes back
pub alike_types-back : {lists : ProgramLists} {x : Annotations} {a b : TypeId} → AlikeTypes lists x a b
    → AlikeTypes lists x b a
alike_types-back {lists = lists} {x = x} {a = a} {b = b} alike =
    record {
      equal = equal-back lists x a b alike.equal;
      mode = alike.mode;
      left_mode = alike.right_mode;
      right_mode = alike.left_mode;
    }

-- likeness goes through
pub alike_types-through : {lists : ProgramLists} {x : Annotations} {a b c : TypeId} → IsProgram lists
    → AlikeTypes lists x a b → AlikeTypes lists x b c → AlikeTypes lists x a c
alike_types-through {lists = lists} {x = x} {a = a} {b = b} {c = c} is_program first second =
    let same : second.mode ≡ first.mode = mode-unique is_program second.left_mode first.right_mode in
    record {
      equal = equal-through lists x a b c first.equal second.equal;
      mode = first.mode;
      left_mode = first.left_mode;
      right_mode = subst (λ (m : Mode). HasMode lists c m) same second.right_mode;
    }

-- ---- channels

-- channels whose types have modes are like themselves
pub alike_channels-same : {lists : ProgramLists} → (x : Annotations) (cs : List (VarId × TypeId)) → IsProgram lists
    → IsContractive lists → All (λ b. (m : Mode) × HasMode lists b.1 m) cs → AlikeChannels lists x cs cs
alike_channels-same x [] is_program contractive modes = none
alike_channels-same {lists = lists} x (e ∷ cs) is_program contractive modes =
    let P : VarId × TypeId → Type 0 = λ b. (m : Mode) × HasMode lists b.1 m in
    let first : P e = All-head P e cs modes in
    let same : AlikeTypes lists x e.1 e.1 = alike_types-same x is_program contractive first.1 in
    channel e.0 e.1 e.1 cs cs same (alike_channels-same x cs is_program contractive (All-tail P e cs modes))

-- likeness of channels goes back
pub alike_channels-back : {lists : ProgramLists} {x : Annotations} {cs ds : List (VarId × TypeId)}
    → AlikeChannels lists x cs ds → AlikeChannels lists x ds cs
alike_channels-back none = none
alike_channels-back (channel v a b cs ds types rest) =
    channel v b a ds cs (alike_types-back types) (alike_channels-back rest)

-- likeness of channels goes through
pub alike_channels-through : {lists : ProgramLists} {x : Annotations} {bs cs ds : List (VarId × TypeId)}
    → IsProgram lists → AlikeChannels lists x bs cs → AlikeChannels lists x cs ds → AlikeChannels lists x bs ds
alike_channels-through is_program none none = none
alike_channels-through is_program (channel v a b bs cs first rest) (channel _ _ c _ ds second others) =
    channel v a c bs ds (alike_types-through is_program first second) (alike_channels-through is_program rest others)

-- the same, where the test of the first variable is known
bound-at : {lists : ProgramLists} {x : Annotations} {b c : TypeId} → (a : TypeId) (o r : Option TypeId) (t : Bool)
    → AlikeTypes lists x b c → (o ≡ Some a → (d : TypeId) × (r ≡ Some d) × AlikeTypes lists x a d)
    → cond t (Some b) o ≡ Some a → (d : TypeId) × (cond t (Some c) r ≡ Some d) × AlikeTypes lists x a d
bound-at {lists = lists} {x = x} {b = b} {c = c} a o r true types rest found =
    let same : b ≡ a = cc in
    (c, refl, subst (λ (e : TypeId). AlikeTypes lists x e c) same types)
bound-at a o r false types rest found = rest found

-- what a variable is bound to on the one side is like what it is bound to on the other
pub alike_channels-bound : {lists : ProgramLists} {x : Annotations} {cs ds : List (VarId × TypeId)}
    → (v : ℕ) (a : TypeId) → AlikeChannels lists x cs ds → bound_to v cs ≡ Some a
    → (b : TypeId) × (bound_to v ds ≡ Some b) × AlikeTypes lists x a b
alike_channels-bound v a none found = absurd cc
alike_channels-bound v a (channel w b c cs ds types rest) found =
    bound-at a (bound_to v cs) (bound_to v ds) (w.0 == v) types (alike_channels-bound v a rest) found

-- the same of what is bound to nothing
free-at : (b c : TypeId) (o r : Option TypeId) (t : Bool) → (o ≡ None → r ≡ None) → cond t (Some b) o ≡ None
    → cond t (Some c) r ≡ None
free-at b c o r true rest free = absurd cc
free-at b c o r false rest free = rest free

-- a variable that is bound to nothing on the one side is bound to nothing on the other
pub alike_channels-free : {lists : ProgramLists} {x : Annotations} {cs ds : List (VarId × TypeId)} → (v : ℕ)
    → AlikeChannels lists x cs ds → bound_to v cs ≡ None → bound_to v ds ≡ None
alike_channels-free v none free = refl
alike_channels-free v (channel w b c cs ds types rest) free =
    free-at b c (bound_to v cs) (bound_to v ds) (w.0 == v) (alike_channels-free v rest) free

module _ {lists : ProgramLists} {x : Annotations} (v w : VarId) (a b c d : TypeId) (cs ds : List (VarId × TypeId))
    (types : AlikeTypes lists x a b) (first : AlikeTypes lists x c d) (others : AlikeChannels lists x cs ds) where
  -- the same, by where the variable stands beside the first one
  placed-alike : (o : Ordering) → AlikeChannels lists x (bind v a cs) (bind v b ds)
      → AlikeChannels lists x (match_ordering o ((v, a) ∷ (w, c) ∷ cs) ((w, a) ∷ cs) ((w, c) ∷ bind v a cs))
      (match_ordering o ((v, b) ∷ (w, d) ∷ ds) ((w, b) ∷ ds) ((w, d) ∷ bind v b ds))
  placed-alike Less rest = channel v a b ((w, c) ∷ cs) ((w, d) ∷ ds) types (channel w c d cs ds first others)
  placed-alike Equal rest = channel w a b cs ds types others
  placed-alike Greater rest = channel w c d (bind v a cs) (bind v b ds) first rest

-- channels stay alike when a variable is bound to types that are alike
pub alike_channels-bind : {lists : ProgramLists} {x : Annotations} {a b : TypeId} {cs ds : List (VarId × TypeId)}
    → (v : VarId) → AlikeChannels lists x cs ds → AlikeTypes lists x a b
    → AlikeChannels lists x (bind v a cs) (bind v b ds)
alike_channels-bind {a = a} {b = b} v none types = channel v a b [] [] types none
alike_channels-bind {a = a} {b = b} v (channel w c d cs ds first rest) types =
    placed-alike v w a b c d cs ds types first rest (by_number v w) (alike_channels-bind v rest types)

-- the same, where the test of the first variable is known
dropped-alike : {lists : ProgramLists} {x : Annotations}
    → (v : ℕ) (w : VarId) (c d : TypeId) (cs ds : List (VarId × TypeId)) (t : Bool) → AlikeTypes lists x c d
    → AlikeChannels lists x cs ds → AlikeChannels lists x (unbind v cs) (unbind v ds)
    → AlikeChannels lists x (cond t cs ((w, c) ∷ unbind v cs)) (cond t ds ((w, d) ∷ unbind v ds))
dropped-alike v w c d cs ds true first others rest = others
dropped-alike v w c d cs ds false first others rest = channel w c d (unbind v cs) (unbind v ds) first rest

-- channels stay alike when a variable is unbound
pub alike_channels-unbind : {lists : ProgramLists} {x : Annotations} {cs ds : List (VarId × TypeId)} → (v : ℕ)
    → AlikeChannels lists x cs ds → AlikeChannels lists x (unbind v cs) (unbind v ds)
alike_channels-unbind v none = none
alike_channels-unbind v (channel w c d cs ds first rest) =
    dropped-alike v w c d cs ds (w.0 == v) first rest (alike_channels-unbind v rest)

-- only no channels are like no channels
pub alike_channels-empty : {lists : ProgramLists} {x : Annotations} {ds : List (VarId × TypeId)}
    → AlikeChannels lists x [] ds → ds ≡ []
alike_channels-empty none = refl

-- ---- judgements

-- a judgement is like itself, where what it offers has a mode
pub alike-same : {lists : ProgramLists} {j : Judgement} {m : Mode} → (x : Annotations) → IsProgram lists
    → IsContractive lists → IsJudgement lists j → HasMode lists j.offers m → Alike lists x j j
alike-same {lists = lists} {j = j} x is_program contractive is_judgement its_mode =
    record {
      mode = refl;
      kinds = refl;
      same_lists = refl;
      shared = alike_channels-same x j.shared is_program contractive
          (λ k d inside. (mode.S, is_judgement.shared_modes k d inside));
      linear = alike_channels-same x j.linear is_program contractive
          (λ k d inside. let there = is_judgement.linear_modes k d inside in (there.0, there.1));
      q = refl;
      code = refl;
      offers = alike_types-same x is_program contractive its_mode;
    }

-- likeness of judgements goes back
pub alike-back : {lists : ProgramLists} {x : Annotations} {j k : Judgement} → Alike lists x j k → Alike lists x k j
alike-back alike =
    record {
      mode = sym alike.mode;
      kinds = sym alike.kinds;
      same_lists = sym alike.same_lists;
      shared = alike_channels-back alike.shared;
      linear = alike_channels-back alike.linear;
      q = sym alike.q;
      code = sym alike.code;
      offers = alike_types-back alike.offers;
    }

-- likeness of judgements goes through
pub alike-through : {lists : ProgramLists} {x : Annotations} {i j k : Judgement} → IsProgram lists → Alike lists x i j
    → Alike lists x j k → Alike lists x i k
alike-through is_program first second =
    record {
      mode = first.mode ∙ second.mode;
      kinds = first.kinds ∙ second.kinds;
      same_lists = first.same_lists ∙ second.same_lists;
      shared = alike_channels-through is_program first.shared second.shared;
      linear = alike_channels-through is_program first.linear second.linear;
      q = first.q ∙ second.q;
      code = first.code ∙ second.code;
      offers = alike_types-through is_program first.offers second.offers;
    }

-- ---- unfolding

-- the modes at which something is carried
abbrev pub IsCarriedMode : Mode → Type 0
IsCarriedMode k = (k ≡ mode.S) ⊎ (k ≡ mode.R)

-- as what something is carried is such a mode
as_carried-is_carried : (o : Option Mode) → IsCarriedMode (as_carried o)
as_carried-is_carried (Some mode.S) = inl refl
as_carried-is_carried o = inr refl

-- so is the mode of what is carried
pub carried-is_carried : (lists : ProgramLists) (m : Mode) (a : TypeId) → IsCarriedMode (carried_mode lists m a)
carried-is_carried lists mode.R a = inr refl
carried-is_carried lists m a = as_carried-is_carried (head_mode lists (type_node lists a.0))

-- what stands at R or T and is carried stands at R
end-carried : (k : Mode) → (k ≡ mode.R) ⊎ (k ≡ mode.T) → IsCarriedMode k → k ≡ mode.R
end-carried k (inl at_r) carried = at_r
end-carried k (inr at_t) (inl at_s) = absurd cc
end-carried k (inr at_t) (inr at_r) = at_r

-- the same at R or L
linear-carried : (k : Mode) → IsLinearMode k → IsCarriedMode k → k ≡ mode.R
linear-carried k (inl at_r) carried = at_r
linear-carried k (inr at_l) (inl at_s) = absurd cc
linear-carried k (inr at_l) (inr at_r) = at_r

-- nothing that stands at L is carried
down-carried : (k : Mode) → k ≡ mode.L → IsCarriedMode k → ⊥
down-carried k at_l (inl at_s) = absurd cc
down-carried k at_l (inr at_r) = absurd cc

-- the modes of carried types show at their heads: an `up` is at S, every other head at R
heads-modes : {x : Annotations} {R : TypeId → TypeId → Type 0} {p q : TypeNode} → (lists : ProgramLists) (k i : Mode)
    → SameHead x R p q → Allows lists k p → Allows lists i q → IsCarriedMode k → IsCarriedMode i → k ≡ i
heads-modes lists k i one a b c d = end-carried k a c ∙ sym (end-carried i b d)
heads-modes lists k i (plus _ _ _) a b c d = linear-carried k a c ∙ sym (linear-carried i b d)
heads-modes lists k i (with _ _ _) a b c d = linear-carried k a c ∙ sym (linear-carried i b d)
heads-modes lists k i (tensor _ _ _ _ _ _) a b c d = linear-carried k a c ∙ sym (linear-carried i b d)
heads-modes lists k i (lolli _ _ _ _ _ _) a b c d = linear-carried k a c ∙ sym (linear-carried i b d)
heads-modes lists k i (value_out _ _ _ _) a b c d = linear-carried k a c ∙ sym (linear-carried i b d)
heads-modes lists k i (value_in _ _ _ _) a b c d = linear-carried k a c ∙ sym (linear-carried i b d)
heads-modes lists k i (pot_out _ _ _ _ _ _) a b c d = linear-carried k a c ∙ sym (linear-carried i b d)
heads-modes lists k i (pot_in _ _ _ _ _ _) a b c d = linear-carried k a c ∙ sym (linear-carried i b d)
heads-modes lists k i (up _ _ _) a b c d = a ∙ sym b
heads-modes lists k i (down _ _ _) a b c d = absurd (down-carried k a c)

-- types that are equal at the same mode are alike
alike-at : {lists : ProgramLists} {a b : TypeId} {k : Mode} → (x : Annotations) → EqualTypes lists x a b
    → HasMode lists a k → HasMode lists b k → AlikeTypes lists x a b
alike-at {k = k} x equal left right = record { equal = equal; mode = k; left_mode = left; right_mode = right }

-- the same of what stands after a label in two choices
both-alike : {lists : ProgramLists} {x : Annotations} {o r : Option TypeId} → (k : Mode)
    → ((a : TypeId) → o ≡ Some a → HasMode lists a k) → ((b : TypeId) → r ≡ Some b → HasMode lists b k)
    → BothOrNeither (EqualTypes lists x) o r → BothOrNeither (AlikeTypes lists x) o r
both-alike {x = x} k left right (both a b equal) = both a b (alike-at x equal (left a refl) (right b refl))
both-alike k left right neither = neither

module _ {lists : ProgramLists} (x : Annotations) (is_program : IsProgram lists) (contractive : IsContractive lists)
    (obeys : ObeysModes lists) where
  -- carried types that are equal have the same mode
  carried-same : (a b : TypeId) (k i : Mode) → EqualTypes lists x a b → HasMode lists a k → HasMode lists b i
      → IsCarriedMode k → IsCarriedMode i → k ≡ i
  carried-same a b k i equal a_mode b_mode k_carried i_carried =
      let first : SameUnfolding lists x (Agree lists x zero) a b = equal (suc zero) in
      let left = unfolding-keeps_mode is_program contractive obeys a_mode first.left_unfolds in
      let right = unfolding-keeps_mode is_program contractive obeys b_mode first.right_unfolds in
      let left_allowed = obeys.allowed left.0 k first.left left.2 left.1 in
      let right_allowed = obeys.allowed right.0 i first.right right.2 right.1 in
      heads-modes lists k i first.same left_allowed right_allowed k_carried i_carried

  -- so they are alike
  carried-alike : (m : Mode) (a b : TypeId) → EqualTypes lists x a b → HasMode lists a (carried_mode lists m a)
      → HasMode lists b (carried_mode lists m b) → AlikeTypes lists x a b
  carried-alike m a b equal a_mode b_mode =
      let a_carried = carried-is_carried lists m a in
      let b_carried = carried-is_carried lists m b in
      let same : carried_mode lists m b ≡ carried_mode lists m a =
      sym (carried-same a b (carried_mode lists m a) (carried_mode lists m b) equal a_mode b_mode a_carried b_carried)
      in
      alike-at x equal a_mode (subst (λ (k : Mode). HasMode lists b k) same b_mode)

  -- equal parts that stand at the same mode are alike
  part-alike : {t u a b : TypeId} {m : Mode} {p q : TypeNode} → (k : Mode) → HasMode lists t m → HasMode lists u m
      → Unfolds lists t.0 p → Unfolds lists u.0 q → Contains (part_modes lists m p) (a, k)
      → Contains (part_modes lists m q) (b, k) → EqualTypes lists x a b → AlikeTypes lists x a b
  part-alike k t_mode u_mode left right a_among b_among equal =
      alike-at x equal
      (part-has_mode {k = k} is_program contractive obeys t_mode left a_among)
      (part-has_mode {k = k} is_program contractive obeys u_mode right b_among)

  -- the same of parts that are carried
  carried-part : {t u a b : TypeId} {m : Mode} {p q : TypeNode} → HasMode lists t m → HasMode lists u m
      → Unfolds lists t.0 p → Unfolds lists u.0 q → Contains (part_modes lists m p) (a, carried_mode lists m a)
      → Contains (part_modes lists m q) (b, carried_mode lists m b) → EqualTypes lists x a b → AlikeTypes lists x a b
  carried-part {a = a} {b = b} {m = m} t_mode u_mode left right a_among b_among equal =
      carried-alike m a b equal
      (part-has_mode {k = carried_mode lists m a} is_program contractive obeys t_mode left a_among)
      (part-has_mode {k = carried_mode lists m b} is_program contractive obeys u_mode right b_among)

  -- the parts of heads that are equal, at types of the same mode, are alike
  heads-alike : {t u : TypeId} {p q : TypeNode} → (m : Mode) → HasMode lists t m → HasMode lists u m
      → Unfolds lists t.0 p → Unfolds lists u.0 q → SameHead x (EqualTypes lists x) p q
      → SameHead x (AlikeTypes lists x) p q
  heads-alike m t_mode u_mode left right one = one
  heads-alike m t_mode u_mode left right (plus bs cs same) =
      plus bs cs (λ l. both-alike m
      (λ a goes. plus-branch-has_mode bs l is_program contractive obeys t_mode left goes)
      (λ b goes. plus-branch-has_mode cs l is_program contractive obeys u_mode right goes)
      (same l))
  heads-alike m t_mode u_mode left right (with bs cs same) =
      with bs cs (λ l. both-alike m
      (λ a goes. with-branch-has_mode bs l is_program contractive obeys t_mode left goes)
      (λ b goes. with-branch-has_mode cs l is_program contractive obeys u_mode right goes)
      (same l))
  heads-alike m t_mode u_mode left right (tensor a b c d h k) =
      tensor a b c d (carried-part t_mode u_mode left right (0, omega arith, refl) (0, omega arith, refl) h)
      (part-alike m t_mode u_mode left right (1, omega arith, refl) (1, omega arith, refl) k)
  heads-alike m t_mode u_mode left right (lolli a b c d h k) =
      lolli a b c d (carried-part t_mode u_mode left right (0, omega arith, refl) (0, omega arith, refl) h)
      (part-alike m t_mode u_mode left right (1, omega arith, refl) (1, omega arith, refl) k)
  heads-alike m t_mode u_mode left right (value_out kind a b h) =
      value_out kind a b (part-alike m t_mode u_mode left right (0, omega arith, refl) (0, omega arith, refl) h)
  heads-alike m t_mode u_mode left right (value_in kind a b h) =
      value_in kind a b (part-alike m t_mode u_mode left right (0, omega arith, refl) (0, omega arith, refl) h)
  heads-alike m t_mode u_mode left right (pot_out q r a b e h) =
      pot_out q r a b e (part-alike m t_mode u_mode left right (0, omega arith, refl) (0, omega arith, refl) h)
  heads-alike m t_mode u_mode left right (pot_in q r a b e h) =
      pot_in q r a b e (part-alike m t_mode u_mode left right (0, omega arith, refl) (0, omega arith, refl) h)
  heads-alike m t_mode u_mode left right (up a b h) =
      up a b (part-alike mode.L t_mode u_mode left right (0, omega arith, refl) (0, omega arith, refl) h)
  heads-alike m t_mode u_mode left right (down a b h) =
      down a b (part-alike mode.S t_mode u_mode left right (0, omega arith, refl) (0, omega arith, refl) h)

-- types that are alike unfold to the same head, and the parts are alike
pub alike_types-unfolded : {lists : ProgramLists} {x : Annotations} {t u : TypeId} {p q : TypeNode} → IsProgram lists
    → IsContractive lists → ObeysModes lists → AlikeTypes lists x t u → Unfolds lists t.0 p → Unfolds lists u.0 q
    → SameHead x (AlikeTypes lists x) p q
alike_types-unfolded {lists = lists} {x = x} {t = t} {u = u} {p = p} {q = q} is_program contractive obeys alike left
    right =
    let unfolded = equal-unfolded lists x t u p alike.equal left in
    let same : unfolded.0 ≡ q = Unfolds-unique lists u.0 unfolded.0 q unfolded.1 right in
    let heads : SameHead x (EqualTypes lists x) p q =
    subst (λ (n : TypeNode). SameHead x (EqualTypes lists x) p n) same unfolded.2
    in
    heads-alike x is_program contractive obeys alike.mode alike.left_mode alike.right_mode left right heads
