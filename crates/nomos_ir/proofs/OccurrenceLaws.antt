-- An evaluation looks at no variable that does not occur in the term.
use Rattle.std.proofs.Common.{◌≡◌, ◌+◌, ℕ, zero, suc, Bool, true, false, cond, ◌==◌, nat_lt, List, [], ◌∷◌, map, Some, slice_get, Contains, refl, arith}
use Rattle.std.specs.List.{AllByRecursion}
use Rattle.nomos_ir.proofs.EvaluationLaws.{counted-same}
use Rattle.nomos_ir.specs.declared.ids.TermId.{TermId}
use Rattle.nomos_ir.specs.declared.ids.VarId.{VarId}
use Rattle.nomos_ir.specs.declared.lists.ProgramLists.{ProgramLists}
use Rattle.nomos_ir.specs.declared.term_node.TermNode.{TermNode}
use Rattle.nomos_ir.specs.declared.term_node.TermNode.TheVariants as node
use Rattle.nomos_ir.specs.Bindings.{bound_to}
use Rattle.nomos_ir.specs.Evaluation.{Environment, max_nodes, bind_parts, entered, evaluation, term_evaluation}
use Rattle.nomos_ir.specs.Occurrence.{OccursIn, itself, in_part}
use Rattle.nomos_ir.specs.Value.{Value}
use Rattle.nomos_ir.proofs.AgreeLemmas.{rises, Needs, SameAt, entered-same}

-- the variables that occur have the same values
abbrev pub AgreeOn : ProgramLists → TermId → Environment → Environment → Type 0
AgreeOn lists t a b = (v : ℕ) → OccursIn lists v t → bound_to v a ≡ bound_to v b

-- one more variable on both sides
same-cons : (v : ℕ) (w : VarId) (x : Value) (a b : Environment) → bound_to v a ≡ bound_to v b
    → bound_to v ((w, x) ∷ a) ≡ bound_to v ((w, x) ∷ b)
same-cons v w x a b same = split (w.0 == v)
  where
    split : (c : Bool) → cond c (Some x) (bound_to v a) ≡ cond c (Some x) (bound_to v b)
    split true = refl
    split false = same

-- the first of a list, and those behind
here : (x : ℕ) (xs : List ℕ) → Contains (x ∷ xs) x
here x xs = (0, omega arith, refl)

behind : (x y : ℕ) (xs : List ℕ) → Contains xs x → Contains (y ∷ xs) x
behind x y xs (k, inside, is) = (suc k, omega arith, is)

module _ (lists : ProgramLists) (inside : ℕ)
    (same : (calls : ℕ) (a b : Environment) (t : TermId) (n : ℕ) → AgreeOn lists t a b
    → evaluation lists inside calls a t n ≡ evaluation lists inside calls b t n) where
  local-values : (calls : ℕ) (a b : Environment) (n : ℕ) (ts : List TermId)
      → ((t : TermId) → Contains (map (λ e. e.0) ts) t.0 → AgreeOn lists t a b)
      → AllByRecursion (SameAt lists (evaluation lists inside) (evaluation lists inside)
      (λ c e s m. rises lists inside c e s m) calls a b n) ts
  local-values calls a b n [] agree = tt
  local-values calls a b n (t ∷ ts) agree = (
    λ m _. same calls a b t m (agree t (here t.0 (map (λ e. e.0) ts))),
    local-values calls a b n ts (λ s among. agree s (behind s.0 t.0 (map (λ e. e.0) ts) among)),
  )

  local-node : (t : TermId) (calls : ℕ) (a b : Environment) (n : ℕ) (x : TermNode) → slice_get lists.terms t.0 ≡ Some x
      → AgreeOn lists t a b → Needs lists (evaluation lists inside) (evaluation lists inside)
      (λ c e s m. rises lists inside c e s m) calls a b n x
  local-node t calls a b n (node.Number at k) there agree = tt
  local-node t calls a b n (node.Truth at c) there agree = tt
  local-node t calls a b n (node.Var at w) there agree = agree w.0 (itself t at w there refl)
  local-node t calls a b n (node.Call at f values) there agree =
      local-values calls a b n values
      (λ s among v occurs. agree v (in_part t (node.Call at f values) s there among occurs))
  local-node t calls a b n (node.Nil at kind) there agree = tt
  local-node t calls a b n (node.Add at r s) there agree = (
    λ m _. same calls a b r m (λ v occurs.
        agree v (in_part t (node.Add at r s) r there (here r.0 (s.0 ∷ [])) occurs)),
    λ m _. same calls a b s m (λ v occurs.
        agree v (in_part t (node.Add at r s) s there (behind s.0 r.0 (s.0 ∷ []) (here s.0 [])) occurs)),
  )
  local-node t calls a b n (node.Sub at r s) there agree = (
    λ m _. same calls a b r m (λ v occurs.
        agree v (in_part t (node.Sub at r s) r there (here r.0 (s.0 ∷ [])) occurs)),
    λ m _. same calls a b s m (λ v occurs.
        agree v (in_part t (node.Sub at r s) s there (behind s.0 r.0 (s.0 ∷ []) (here s.0 [])) occurs)),
  )
  local-node t calls a b n (node.Mul at r s) there agree = (
    λ m _. same calls a b r m (λ v occurs.
        agree v (in_part t (node.Mul at r s) r there (here r.0 (s.0 ∷ [])) occurs)),
    λ m _. same calls a b s m (λ v occurs.
        agree v (in_part t (node.Mul at r s) s there (behind s.0 r.0 (s.0 ∷ []) (here s.0 [])) occurs)),
  )
  local-node t calls a b n (node.Div at r s) there agree = (
    λ m _. same calls a b r m (λ v occurs.
        agree v (in_part t (node.Div at r s) r there (here r.0 (s.0 ∷ [])) occurs)),
    λ m _. same calls a b s m (λ v occurs.
        agree v (in_part t (node.Div at r s) s there (behind s.0 r.0 (s.0 ∷ []) (here s.0 [])) occurs)),
  )
  local-node t calls a b n (node.Rem at r s) there agree = (
    λ m _. same calls a b r m (λ v occurs.
        agree v (in_part t (node.Rem at r s) r there (here r.0 (s.0 ∷ [])) occurs)),
    λ m _. same calls a b s m (λ v occurs.
        agree v (in_part t (node.Rem at r s) s there (behind s.0 r.0 (s.0 ∷ []) (here s.0 [])) occurs)),
  )
  local-node t calls a b n (node.Less at r s) there agree = (
    λ m _. same calls a b r m (λ v occurs.
        agree v (in_part t (node.Less at r s) r there (here r.0 (s.0 ∷ [])) occurs)),
    λ m _. same calls a b s m (λ v occurs.
        agree v (in_part t (node.Less at r s) s there (behind s.0 r.0 (s.0 ∷ []) (here s.0 [])) occurs)),
  )
  local-node t calls a b n (node.Equal at r s) there agree = (
    λ m _. same calls a b r m (λ v occurs.
        agree v (in_part t (node.Equal at r s) r there (here r.0 (s.0 ∷ [])) occurs)),
    λ m _. same calls a b s m (λ v occurs.
        agree v (in_part t (node.Equal at r s) s there (behind s.0 r.0 (s.0 ∷ []) (here s.0 [])) occurs)),
  )
  local-node t calls a b n (node.And at r s) there agree = (
    λ m _. same calls a b r m (λ v occurs.
        agree v (in_part t (node.And at r s) r there (here r.0 (s.0 ∷ [])) occurs)),
    λ m _. same calls a b s m (λ v occurs.
        agree v (in_part t (node.And at r s) s there (behind s.0 r.0 (s.0 ∷ []) (here s.0 [])) occurs)),
  )
  local-node t calls a b n (node.Or at r s) there agree = (
    λ m _. same calls a b r m (λ v occurs.
        agree v (in_part t (node.Or at r s) r there (here r.0 (s.0 ∷ [])) occurs)),
    λ m _. same calls a b s m (λ v occurs.
        agree v (in_part t (node.Or at r s) s there (behind s.0 r.0 (s.0 ∷ []) (here s.0 [])) occurs)),
  )
  local-node t calls a b n (node.Cons at r s) there agree = (
    λ m _. same calls a b r m (λ v occurs.
        agree v (in_part t (node.Cons at r s) r there (here r.0 (s.0 ∷ [])) occurs)),
    λ m _. same calls a b s m (λ v occurs.
        agree v (in_part t (node.Cons at r s) s there (behind s.0 r.0 (s.0 ∷ []) (here s.0 [])) occurs)),
  )
  local-node t calls a b n (node.Not at s) there agree =
      λ m _. same calls a b s m (λ v occurs. agree v (in_part t (node.Not at s) s there (here s.0 []) occurs))
  local-node t calls a b n (node.If at q r s) there agree =
      let x = node.If at q r s in (
        λ m _. same calls a b q m (λ v occurs. agree v (in_part t x q there (here q.0 (r.0 ∷ s.0 ∷ [])) occurs)),
        λ m _. same calls a b r m (λ v occurs.
            agree v (in_part t x r there (behind r.0 q.0 (r.0 ∷ s.0 ∷ []) (here r.0 (s.0 ∷ []))) occurs)),
        λ m _. same calls a b s m (λ v occurs.
            agree v (in_part t x s there (behind s.0 q.0 (r.0 ∷ s.0 ∷ []) (behind s.0 r.0 (s.0 ∷ []) (here s.0 [])))
            occurs)),
      )
  local-node t calls a b n (node.Match at q r head tail s) there agree =
      let x = node.Match at q r head tail s in
      let last : (v : ℕ) → OccursIn lists v s
      → bound_to v a ≡ bound_to v b = λ v occurs.
      agree v (in_part t x s there (behind s.0 q.0 (r.0 ∷ s.0 ∷ []) (behind s.0 r.0 (s.0 ∷ []) (here s.0 [])))
      occurs) in (
        λ m _. same calls a b q m (λ v occurs. agree v (in_part t x q there (here q.0 (r.0 ∷ s.0 ∷ [])) occurs)),
        λ m _. same calls a b r m (λ v occurs.
            agree v (in_part t x r there (behind r.0 q.0 (r.0 ∷ s.0 ∷ []) (here r.0 (s.0 ∷ []))) occurs)),
        λ m _. same calls a b s m last,
        λ y ys m _.
            same calls (bind_parts head tail y ys a) (bind_parts head tail y ys b) s m
            (λ v occurs. same-cons v tail ys ((head, y) ∷ a) ((head, y) ∷ b) (same-cons v head y a b (last v occurs))),
      )

-- two environments that agree on what occurs give the same evaluation
local-inside : (lists : ProgramLists) (inside calls : ℕ) (a b : Environment) (t : TermId) (n : ℕ) → AgreeOn lists t a b
    → evaluation lists inside calls a t n ≡ evaluation lists inside calls b t n
unfolding evaluation
local-inside lists zero calls a b t n agree = refl
local-inside lists (suc inside) calls a b t n agree =
    counted-same
    (nat_lt n max_nodes)
    (entered lists (evaluation lists inside) calls a (slice_get lists.terms t.0))
    (entered lists (evaluation lists inside) calls b (slice_get lists.terms t.0))
    n
    (entered-same lists (evaluation lists inside) (evaluation lists inside) (λ c e s m. rises lists inside c e s m)
    calls a b (n + 1) (slice_get lists.terms t.0)
    (λ x there. local-node lists inside (local-inside lists inside) t calls a b (n + 1) x there agree)
    (λ c e s m _. refl))

-- an evaluation looks at no variable that does not occur
pub evaluation-local : (lists : ProgramLists) (a b : Environment) (t : TermId) → AgreeOn lists t a b
    → term_evaluation lists a t ≡ term_evaluation lists b t
unfolding term_evaluation
evaluation-local lists a b t agree = local-inside lists (max_nodes + 1) 0 a b t 0 agree
