-- What each form of term leaves to do leads to its evaluation.
use Rattle.std.proofs.Common.{◌≡◌, ◌+◌, ◌<◌, ℕ, List, [], ◌∷◌, ◌++◌, length, reverse, slice_get, refl, sym, ap, ◌∙◌, arith, append_assoc}
use Rattle.std.proofs.lemmas.List.{append-nil, reverse-append, get_or_append_left}
use Rattle.std.specs.List.{AllByRecursion}
use Rattle.nomos_ir.specs.declared.ids.FnId.{FnId}
use Rattle.nomos_ir.specs.declared.ids.TermId.{TermId}
use Rattle.nomos_ir.specs.declared.lists.ProgramLists.{ProgramLists}
use Rattle.nomos_ir.specs.Evaluation.{Environment, Evaluation, ends, faults, Counted, Evaluator, go_on, on_numbers, put_before, both, either, as_truth, opposite, chosen, taken_apart, bind_parts, each_of, body_evaluation}
use Rattle.nomos_ir.specs.Value.{Value}
use Rattle.nomos_eval.specs.declared.pending.Pending.{Pending}
use Rattle.nomos_eval.specs.declared.pending.Pending.TheVariants as act
use Rattle.nomos_eval.specs.declared.pending.TermScope.{TermScope}
use Rattle.nomos_eval.specs.mirror.Operation.{operation}
use Rattle.nomos_eval.specs.mirror.Rest.{Variables, seen_in, top, below, arguments_on, below_by, follow, rest, argument_acts, ScopeIn}

-- one thing after another
pub go_on-assoc : (e : Evaluation) (f g : Value → Counted) → go_on (go_on e f) g ≡ go_on e (λ v n. go_on (f v n) g)
go_on-assoc (ends v n) f g = refl
go_on-assoc (faults why) f g = refl

-- equal next steps
pub go_on-next : (e : Evaluation) (f g : Value → Counted) → ((v : Value) (n : ℕ) → f v n ≡ g v n)
    → go_on e f ≡ go_on e g
go_on-next (ends v n) f g same = same v n
go_on-next (faults why) f g same = refl

-- values in front are the arguments, and those behind are below
arguments-seam : (before values : List Value) → arguments_on (length before) (before ++ values) ≡ reverse before
arguments-seam [] values = refl
arguments-seam (v ∷ before) values =
    ap (λ l. l ++ v ∷ []) (arguments-seam before values) ∙ sym (reverse-append (v ∷ []) before)

below-seam : (before values : List Value) → below_by (length before) (before ++ values) ≡ values
below-seam [] values = refl
below-seam (v ∷ before) values = below-seam before values

-- equal last steps after some terms
each_of-next : (part : TermId → Counted) (ts : List TermId) (f g : List Value → Counted) (n : ℕ)
    → ((vs : List Value) (m : ℕ) → f vs m ≡ g vs m) → each_of part ts f n ≡ each_of part ts g n
each_of-next part [] f g n same = same [] n
each_of-next part (t ∷ ts) f g n same =
    go_on-next (part t n) _ _ (λ v m.
    each_of-next part ts (λ vs. f (v ∷ vs)) (λ vs. g (v ∷ vs)) m (λ vs. same (v ∷ vs)))

module _ (from : Evaluator) (lists : ProgramLists) (scopes : Variables) where
  -- the arguments of a call
  pub leaves-arguments : (s : TermScope) (f : FnId) (count : ℕ) (ts : List TermId) (before : List Value)
      (todo : List Pending)
      (values : List Value) (n : ℕ) → count ≡ length before + length ts
      → go_on (each_of (follow from lists scopes s) ts
      (λ vs. body_evaluation from s.calls (slice_get lists.fns f.0) (reverse before ++ vs)) n)
      (λ v. rest from lists scopes todo (v ∷ values))
      ≡ rest from lists scopes (argument_acts s ts ++ act.Enter s.calls f count ∷ todo) (before ++ values) n
  leaves-arguments s f count [] before todo values n same =
      let count_is : length before ≡ count = omega arith in
      let F : List Value → List Value → Evaluation = λ vs ws.
      go_on (body_evaluation from s.calls (slice_get lists.fns f.0) vs n)
      (λ v. rest from lists scopes todo (v ∷ ws)) in
      let first : reverse before ++ [] ≡ arguments_on count (before ++ values) = append-nil (reverse before)
      ∙ sym (ap (λ k. arguments_on k (before ++ values)) (sym count_is) ∙ arguments-seam before values) in
      let second : values ≡ below_by count (before ++ values) = sym
      (ap (λ k. below_by k (before ++ values)) (sym count_is) ∙ below-seam before values) in
      ap (λ vs. F vs values) first ∙ ap (λ ws. F (arguments_on count (before ++ values)) ws) second
  leaves-arguments s f count (t ∷ ts) before todo values n same =
      go_on-assoc (follow from lists scopes s t n) _ _
      ∙ go_on-next (follow from lists scopes s t n) _ _ (λ v m.
      ap (λ e. go_on e (λ w. rest from lists scopes todo (w ∷ values)))
      (each_of-next (follow from lists scopes s) ts
      (λ vs. body_evaluation from s.calls (slice_get lists.fns f.0) (reverse before ++ v ∷ vs))
      (λ vs. body_evaluation from s.calls (slice_get lists.fns f.0) (reverse (v ∷ before) ++ vs)) m
      (λ vs k. ap (λ l. body_evaluation from s.calls (slice_get lists.fns f.0) l k)
      (sym (ap (λ l. l ++ vs) (reverse-append (v ∷ []) before) ∙ append_assoc (reverse before) (v ∷ []) vs))))
      ∙ leaves-arguments s f count ts (v ∷ before) todo values m (omega arith))

-- one more place changes nothing of what is left
module _ (from : Evaluator) (lists : ProgramLists) (scopes more : List Environment) (env : Environment) where
  follow-more : (s : TermScope) (t : TermId) → s.variables < length scopes
      → follow from lists (record { bound = scopes ++ more; around = env }) s t ≡ follow from lists (record {
        bound =
            scopes;
        around = env;
      }) s t
  follow-more s t inside =
      ap (λ e. from s.calls (e ++ seen_in s.calls env) t) (get_or_append_left scopes more [] s.variables inside)

  pub rest-more : (todo : List Pending) (values : List Value) (n : ℕ) → AllByRecursion (ScopeIn (length scopes)) todo
      → rest from lists (record { bound = scopes ++ more; around = env }) todo values n ≡ rest from lists (record {
        bound = scopes;
        around = env;
      }) todo values n
  rest-more [] values n inside = refl
  rest-more (act.Term s t ∷ todo) values n inside =
      ap (λ f. go_on (f n) (λ v. rest from lists (record { bound = scopes ++ more; around = env }) todo (v ∷
      values))) (follow-more s t inside.0)
      ∙ go_on-next (follow from lists (record { bound = scopes; around = env }) s t n) _ _ (λ v m. rest-more todo (v
      ∷ values) m inside.1)
  rest-more (act.Numbers operator ∷ todo) values n inside =
      go_on-next (on_numbers (operation operator) (top (below values)) (top values) n) _ _
      (λ v m. rest-more todo (v ∷ below (below values)) m inside.1)
  rest-more (act.PutBefore ∷ todo) values n inside =
      go_on-next (put_before (top (below values)) (top values) n) _ _
      (λ v m. rest-more todo (v ∷ below (below values)) m inside.1)
  rest-more (act.Both s t ∷ todo) values n inside =
      ap (λ f. go_on (both (top values) f n) (λ v. rest from lists (record { bound = scopes ++ more; around = env })
      todo (v ∷ below values)))
      (follow-more s t inside.0)
      ∙ go_on-next (both (top values) (follow from lists (record { bound = scopes; around = env }) s t) n) _ _
      (λ v m. rest-more todo (v ∷ below values) m inside.1)
  rest-more (act.Either s t ∷ todo) values n inside =
      ap (λ f. go_on (either (top values) f n) (λ v. rest from lists (record {
        bound = scopes ++ more;
        around = env;
      }) todo (v ∷ below values)))
      (follow-more s t inside.0)
      ∙ go_on-next (either (top values) (follow from lists (record { bound = scopes; around = env }) s t) n) _ _
      (λ v m. rest-more todo (v ∷ below values) m inside.1)
  rest-more (act.Truth ∷ todo) values n inside = rest-more todo (as_truth (top values) ∷ below values) n inside.1
  rest-more (act.Not ∷ todo) values n inside = rest-more todo (opposite (top values) ∷ below values) n inside.1
  rest-more (act.Choose s a b ∷ todo) values n inside =
      ap (λ f. go_on (chosen (top values) f (follow from lists (record { bound = scopes ++ more; around = env }) s b) n)
      (λ v. rest from lists (record { bound = scopes ++ more; around = env }) todo (v ∷ below values))) (follow-more
      s a inside.0)
      ∙ ap (λ f. go_on (chosen (top values) (follow from lists (record { bound = scopes; around = env }) s a) f n)
      (λ v. rest from lists (record { bound = scopes ++ more; around = env }) todo (v ∷ below values))) (follow-more
      s b inside.0)
      ∙ go_on-next (chosen (top values) (follow from lists (record { bound = scopes; around = env }) s a) (follow
      from lists (record { bound = scopes; around = env }) s b) n) _ _
      (λ v m. rest-more todo (v ∷ below values) m inside.1)
  rest-more (act.Open s c ∷ todo) values n inside =
      ap (λ e. go_on (taken_apart (top values) (from s.calls (e ++ seen_in s.calls env) c.empty)
      (λ x xs. from s.calls (bind_parts c.head c.tail x xs (e ++ seen_in s.calls env)) c.full)
      (from s.calls (e ++ seen_in s.calls env) c.full) n)
      (λ v. rest from lists (record { bound = scopes ++ more; around = env }) todo (v ∷ below values)))
      (get_or_append_left scopes more [] s.variables inside.0)
      ∙ go_on-next _ _ _ (λ v m. rest-more todo (v ∷ below values) m inside.1)
  rest-more (act.Enter calls f count ∷ todo) values n inside =
      go_on-next (body_evaluation from calls (slice_get lists.fns f.0) (arguments_on count values) n) _ _
      (λ v m. rest-more todo (v ∷ below_by count values) m inside.1)
