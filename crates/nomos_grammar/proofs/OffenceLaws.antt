-- For the tokens of a text there is one answer.
use Rattle.std.proofs.Common.{
  ◌≡◌,
  ℕ,
  List,
  [],
  ◌∷◌,
  ◌++◌,
  Ok,
  Err,
  ◌⊎◌,
  inl,
  inr,
  refl,
  sym,
  ap,
  subst,
  ◌∙◌,
  append-nil,
  append_assoc,
}
use Rattle.nomos_syntax.specs.Lexeme.{Placed}
use Rattle.nomos_grammar.specs.declared.offence.GrammarError.{GrammarError}
use Rattle.nomos_grammar.specs.declared.offence.GrammarError.TheVariants.{Syntax, Limit, NoMemory}
use Rattle.nomos_grammar.specs.Offence.{
  Rule,
  rules,
  Keeps,
  KeepsAll,
  AllKeep,
  IsFirstOffence,
  error_of,
  Offends,
  Answers,
}

-- a token of those that keep to all rules
pub kept_at : (behind front after : List Placed) (x : Placed) → AllKeep behind (front ++ x ∷ after) →
    KeepsAll (behind ++ front) x rules
kept_at behind [] after x kept = subst (λ (ts : List Placed). KeepsAll ts x rules) (sym (append-nil behind)) kept.0
kept_at behind (y ∷ front) after x kept =
    subst (λ (ts : List Placed). KeepsAll ts x rules) (append_assoc behind (y ∷ []) front)
    (kept_at (behind ++ y ∷ []) front after x kept.1)

-- a rule of those that are kept
kept_rule : (front : List Placed) (x : Placed) (before after : List Rule) (rule : Rule) →
    KeepsAll front x (before ++ rule ∷ after) → Keeps front x rule
kept_rule front x [] after rule kept = kept.0
kept_rule front x (r ∷ before) after rule kept = kept_rule front x before after rule kept.1

-- where one list is cut twice: at the same place, or at one place before the other
Cuts : {A : Type 0} → List A → A → List A → A → Type 0
Cuts {A} a x b y = ((a ≡ b) × (x ≡ y)) ⊎ ((((m : List A) × (a ++ x ∷ m ≡ b)) ⊎ ((m : List A) × (b ++ y ∷ m ≡ a))))

cuts : {A : Type 0} (a more b others : List A) (x y : A) → a ++ x ∷ more ≡ b ++ y ∷ others → Cuts a x b y
unfolding Cuts
cuts [] more [] others x y e = let same : x ≡ y = cc in inl (refl, same)
cuts [] more (z ∷ b) others x y e = let same : x ≡ z = cc in inr (inl (b, ap (λ w. w ∷ b) same))
cuts (z ∷ a) more [] others x y e = let same : y ≡ z = cc in inr (inr (a, ap (λ w. w ∷ a) same))
cuts (z ∷ a) more (w ∷ b) others x y e =
    let head : z ≡ w = cc in
    let rest : a ++ x ∷ more ≡ b ++ y ∷ others = cc in
    elim (cuts a more b others x y rest) [
      | inl s ↦ let tails : a ≡ b = s.0 in let both : z ∷ a ≡ w ∷ b = cc in inl (both, s.1)
      | inr (inl (m, f)) ↦ let both : z ∷ (a ++ x ∷ m) ≡ w ∷ b = cc in inr (inl (m, both))
      | inr (inr (m, f)) ↦ let both : w ∷ (b ++ y ∷ m) ≡ z ∷ a = cc in inr (inr (m, both))
    ]

-- one token is the first offence, and by one rule
rule_once : (tokens front : List Placed) (x : Placed) (rule other : Rule) → IsFirstOffence tokens front x rule →
    IsFirstOffence tokens front x other → rule ≡ other
unfolding Cuts
rule_once tokens front x rule other a b =
    elim (cuts a.kept_rules a.other_rules b.kept_rules b.other_rules rule other (a.in_order ∙ sym b.in_order)) [
      | inl s ↦ s.1
      | inr (inl (m, f)) ↦ absurd (a.broken
          (kept_rule front x a.kept_rules m rule (subst (λ (rs : List Rule). KeepsAll front x rs) (sym f) b.keeps)))
      | inr (inr (m, f)) ↦ absurd (b.broken
          (kept_rule front x b.kept_rules m other (subst (λ (rs : List Rule). KeepsAll front x rs) (sym f) a.keeps)))
    ]

-- a token that breaks a rule is none of those that keep to all
rule_kept : (front : List Placed) (x : Placed) (kept_rules other_rules : List Rule) (rule : Rule) →
    kept_rules ++ rule ∷ other_rules ≡ rules → KeepsAll front x rules → Keeps front x rule
rule_kept front x kept_rules other_rules rule e k =
    kept_rule front x kept_rules other_rules rule (subst (λ (rs : List Rule). KeepsAll front x rs) (sym e) k)

no_offence : (tokens front : List Placed) (x : Placed) (rule : Rule) → AllKeep [] tokens →
    IsFirstOffence tokens front x rule → ⊥
no_offence tokens front x rule kept a =
    let all : AllKeep [] (front ++ x ∷ a.after) = subst (λ (ts : List Placed). AllKeep [] ts) (sym a.stands) kept in
    a.broken (rule_kept front x a.kept_rules a.other_rules rule a.in_order (kept_at [] front a.after x all))

offence_once : (tokens front : List Placed) (x : Placed) (rule : Rule) (back : List Placed) (y : Placed) (other : Rule)
    → IsFirstOffence tokens front x rule → IsFirstOffence tokens back y other
    → error_of front x rule ≡ error_of back y other
unfolding Cuts
offence_once tokens front x rule back y other a b =
    elim (cuts front a.after back b.after x y (a.stands ∙ sym b.stands)) [
      | inl s ↦
          let here : IsFirstOffence tokens front x other = subst (λ (z : Placed). IsFirstOffence tokens front z other)
          (sym s.1) (subst (λ (ts : List Placed). IsFirstOffence tokens ts y other) (sym s.0) b) in
          let rule_is = rule_once tokens front x rule other a here in
          ap (λ r. error_of front x r) rule_is
          ∙ (ap (λ z. error_of front z other) s.1 ∙ ap (λ ts. error_of ts y other) s.0)
      | inr (inl (m, f)) ↦ absurd (a.broken
          (rule_kept front x a.kept_rules a.other_rules rule a.in_order
          (kept_at [] front m x (subst (λ (ts : List Placed). AllKeep [] ts) (sym f) b.kept))))
      | inr (inr (m, f)) ↦ absurd (b.broken
          (rule_kept back y b.kept_rules b.other_rules other b.in_order
          (kept_at [] back m y (subst (λ (ts : List Placed). AllKeep [] ts) (sym f) a.kept))))
    ]

offends_once : (tokens : List Placed) (e f : GrammarError) → Offends tokens e → Offends tokens f → e ≡ f
offends_once tokens e f (front, x, rule, a, i) (back, y, other, b, j) =
    sym i ∙ (offence_once tokens front x rule back y other a b ∙ j)

never_kept : (tokens : List Placed) (e : GrammarError) → AllKeep [] tokens → Offends tokens e → ⊥
never_kept tokens e kept (front, x, rule, a, i) = no_offence tokens front x rule kept a

-- Two answers that are no want of memory are the same.
pub error_once : (T : Type 0) (tokens : List Placed) (size : ℕ) (e f : GrammarError) → (e ≡ NoMemory → ⊥) →
    (f ≡ NoMemory → ⊥) → Answers {T = T} tokens size (Err e) → Answers {T = T} tokens size (Err f) → e ≡ f
error_once T tokens size NoMemory f h k a b = absurd (h refl)
error_once T tokens size (Limit w at) NoMemory h k a b = absurd (k refl)
error_once T tokens size (Syntax at) NoMemory h k a b = absurd (k refl)
error_once T tokens size (Limit w at) (Limit v to) h k a b = offends_once tokens (Limit w at) (Limit v to) a b
error_once T tokens size (Limit w at) (Syntax to) h k a (inl b) = offends_once tokens (Limit w at) (Syntax to) a b
error_once T tokens size (Limit w at) (Syntax to) h k a (inr b) = absurd (never_kept tokens (Limit w at) b.0.0 a)
error_once T tokens size (Syntax at) (Limit v to) h k (inl a) b = offends_once tokens (Syntax at) (Limit v to) a b
error_once T tokens size (Syntax at) (Limit v to) h k (inr a) b = absurd (never_kept tokens (Limit v to) a.0.0 b)
error_once T tokens size (Syntax at) (Syntax to) h k (inl a) (inl b) = offends_once tokens (Syntax at) (Syntax to) a b
error_once T tokens size (Syntax at) (Syntax to) h k (inl a) (inr b) = absurd (never_kept tokens (Syntax at) b.0.0 a)
error_once T tokens size (Syntax at) (Syntax to) h k (inr a) (inl b) = absurd (never_kept tokens (Syntax to) a.0.0 b)
error_once T tokens size (Syntax at) (Syntax to) h k (inr a) (inr b) = ap (λ n. Syntax n) (a.1 ∙ sym b.1)

-- tokens that are passed are refused by no error
pub passed_once : {T : Type 0} (tokens : List Placed) (size : ℕ) (x : T) (e : GrammarError) → (e ≡ NoMemory →
    ⊥) → Answers tokens size (Ok x) → Answers {T = T} tokens size (Err e) → ⊥
passed_once tokens size x NoMemory h a b = h refl
passed_once tokens size x (Limit w at) h a b = never_kept tokens (Limit w at) a.0 b
passed_once tokens size x (Syntax at) h a (inl b) = never_kept tokens (Syntax at) a.0 b
passed_once tokens size x (Syntax at) h a (inr b) = b.0.1 a.1
