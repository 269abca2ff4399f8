-- Each instruction of the program of a text stands at its first token, and the tokens from there on tell its form, but
-- for the `work {1}` that a cost model puts in. No instruction begins where a function stands.
use Rattle.std.proofs.Common.{◌≡◌, ◌⊎◌, inl, inr, ℕ, Bool, true, false, List, [], ◌∷◌, ◌++◌, length, All, Contains, Option, Some, None, refl, sym, ap, subst, ◌∙◌}
use Rattle.std.specs.Prelude.{if◌then◌else◌}
use Rattle.std.proofs.lemmas.List.Elements.{All-nil, All-push, All-contains}
use Rattle.nomos_elaborate.proofs.KeptNodeLaws.{value_pars_kept, process_pars_kept, declared_amount_kept, type_puts_types, chan_pars_put_types, term_puts_terms, values_put_terms, step_puts_terms}
use Rattle.nomos_elaborate.proofs.PrintedLemmas.{EndsIn, ends-whole, further, type_passed, heading_passed, term_passed, step_passed, steps_passed, code_passed, head_passed, decl_passed, cost_passed}
use Rattle.nomos_elaborate.specs.Built.{Built, with_label, with_variable, put_type}
use Rattle.nomos_elaborate.specs.CodeBuild.{build_value, build_values, build_step, build_steps, build_code, build_last, build_arms}
use Rattle.nomos_elaborate.specs.CodeClaims.{scope_after, matched_list}
use Rattle.nomos_elaborate.specs.CostModel.{put_code, put_node, put_work, is_charged, model_of}
use Rattle.nomos_elaborate.specs.FileBuild.{Declared, nothing_declared, build_value_pars, build_process_pars, build_chan_pars, declared_amount, with_payer, add_decl, add_decls, program_of}
use Rattle.nomos_elaborate.specs.FileClaims.{pars_scope}
use Rattle.nomos_elaborate.specs.Scope.{Scope}
use Rattle.nomos_elaborate.specs.Spaces.{no_names, declaring_all}
use Rattle.nomos_elaborate.specs.TermBuild.{build_term}
use Rattle.nomos_elaborate.specs.TypeBuild.{build_type}
use Rattle.nomos_elaborate.specs.declared.spaces.Spaces.{Spaces}
use Rattle.nomos_ir.specs.declared.amount.Amount.TheVariants as amount
use Rattle.nomos_ir.specs.Instruction.{code_offset, code_form}
use Rattle.nomos_ir.specs.declared.code_form.CodeForm.{CodeForm}
use Rattle.nomos_ir.specs.declared.code_form.CodeForm.TheVariants as form
use Rattle.nomos_ir.specs.declared.code_node.CodeNode.{CodeNode}
use Rattle.nomos_ir.specs.declared.code_node.CodeNode.TheVariants as node
use Rattle.nomos_ir.specs.declared.declaration.FnDecl.{FnDecl}
use Rattle.nomos_ir.specs.declared.ids.CodeId.{CodeId}
use Rattle.nomos_ir.specs.declared.type_node.TypeNode.TheVariants as type_node
use Rattle.nomos_ir.specs.declared.word.Word.{Word}
use Rattle.nomos_ir.specs.declared.word.Word.TheVariants as word
use Rattle.nomos_surface.specs.declared.name_at.NameAt.{NameAt}
use Rattle.nomos_surface.specs.declared.steps.ChanAt.TheVariants as chan
use Rattle.nomos_surface.specs.declared.surface.CostModel.{CostModel}
use Rattle.nomos_surface.specs.Print.{truth_word, print_term, print_step, print_steps, print_code, print_last, print_arms, print_decl, print_decls, print_file}
use Rattle.nomos_surface.specs.Printed.{Shown, Spells, HasValue, at_offset, sign, sign_at, keyword, keyword_at, print_name, print_more}
use Rattle.nomos_surface.specs.Tree.{TermTree, number, truth, me, variable, application, no_items, binary, negation, choosing, matching, parenthesized, StepTree, label, send, recv, put, taking, pay, getting, work, wait, accept, detach, acquire, release, spawn, binding, empty_list, longer_list, emit, CodeTree, code, LastTree, close, fwd, calling, code_if, case, code_match, ArmTrees, no_arms, arm, DeclTree, definition, function, process, transaction, FileTree}
use Rattle.nomos_syntax.specs.declared.symbol.Symbol.{Symbol}
use Rattle.nomos_syntax.specs.declared.symbol.Symbol.TheVariants as sym
use Rattle.nomos_syntax.specs.Lexeme.{Lexeme, name, reserved, number as number_text, symbol, bad, Placed}

-- What a `let` binds is told by two tokens behind its `=`. It is a list where the first is the word `list`, and an
-- empty one where the second is `{`.
abbrev pub item_form : Lexeme → CodeForm
item_form (symbol sym.OpenBrace) = form.Empty
item_form _ = form.Add

abbrev pub list_form : List Placed → CodeForm
list_form [] = form.Add
list_form (first ∷ behind) = item_form first.lexeme

abbrev pub value_form : Lexeme → List Placed → CodeForm
value_form (reserved word.List) behind = list_form behind
value_form _ behind = form.Let

abbrev pub bound_form : List Placed → CodeForm
bound_form [] = form.Let
bound_form (first ∷ behind) = value_form first.lexeme behind

-- the form of a `let`, by the tokens behind that word
abbrev pub let_form : List Placed → CodeForm
let_form (bound ∷ equals ∷ behind) = bound_form behind
let_form _ = form.Let

-- A name begins an instruction where `.` stands behind it: a label is sent.
abbrev pub dot_form : Lexeme → Option CodeForm
dot_form (symbol sym.Dot) = Some form.Label
dot_form _ = None

abbrev pub name_form : List Placed → Option CodeForm
name_form [] = None
name_form (first ∷ behind) = dot_form first.lexeme

-- the form of the instruction that begins with this word, if one does
abbrev pub word_form : Word → List Placed → Option CodeForm
word_form word.SelfWord behind = Some form.Label
word_form word.Send behind = Some form.Send
word_form word.Recv behind = Some form.Recv
word_form word.Put behind = Some form.Put
word_form word.Take behind = Some form.Take
word_form word.Pay behind = Some form.Pay
word_form word.Get behind = Some form.Get
word_form word.Work behind = Some form.Work
word_form word.Wait behind = Some form.Wait
word_form word.Accept behind = Some form.Accept
word_form word.Detach behind = Some form.Detach
word_form word.Acquire behind = Some form.Acquire
word_form word.Release behind = Some form.Release
word_form word.Spawn behind = Some form.Spawn
word_form word.Let behind = Some (let_form behind)
word_form word.Emit behind = Some form.Emit
word_form word.If behind = Some form.If
word_form word.Case behind = Some form.Case
word_form word.Match behind = Some form.Match
word_form word.Close behind = Some form.Close
word_form word.Fwd behind = Some form.Fwd
word_form word.Call behind = Some form.Call
word_form _ behind = None

-- and with this token
abbrev pub lexeme_form : Lexeme → List Placed → Option CodeForm
lexeme_form (name text) behind = name_form behind
lexeme_form (reserved w) behind = word_form w behind
lexeme_form (number_text digits) behind = None
lexeme_form (symbol s) behind = None
lexeme_form (bad byte) behind = None

-- The form of the instruction that begins with these tokens, if one does.
abbrev pub form_at : List Placed → Option CodeForm
form_at [] = None
form_at (first ∷ behind) = lexeme_form first.lexeme behind

-- From an offset on, the tokens tell this form; or, with none, that no instruction begins there.
pub record Tells (tokens : List Placed) (at : ℕ) (told : Option CodeForm) : Type 0 where
  pub before : List Placed
  pub first : Placed
  pub behind : List Placed
  pub all : before ++ first ∷ behind ≡ tokens
  pub offset : first.at ≡ at
  pub form : form_at (first ∷ behind) ≡ told

-- The instruction is a `work {1}`, as a cost model puts it in.
abbrev pub IsPutIn : CodeNode → Type 0
IsPutIn n = (at : ℕ) × (next : CodeId) × (n ≡ node.Work at (amount.Written 1) next)

-- These tokens bind no list behind `let v =`, and no empty one behind `let v = list`.
abbrev IsTermFront : List Placed → Type 0
IsTermFront tokens = (bound_form tokens ≡ form.Let) × (list_form tokens ≡ form.Add)

-- so it is of tokens that begin with this one
abbrev BeginsTerm : Lexeme → Type 0
BeginsTerm lexeme = ((behind : List Placed) → value_form lexeme behind ≡ form.Let) × (item_form lexeme ≡ form.Add)

-- only the first of them counts
begun : (first : Placed) (behind : List Placed) → BeginsTerm first.lexeme → IsTermFront (first ∷ behind)
begun first behind begins = (begins.0 behind, begins.1)

begun_at : (at : ℕ) (lexeme : Lexeme) (first : Placed) (behind : List Placed) → BeginsTerm lexeme
    → first ≡ record { at = at; lexeme = lexeme }
    → IsTermFront (first ∷ behind)
begun_at at lexeme first behind begins same =
    begun first behind (subst (λ (x : Placed). BeginsTerm x.lexeme) (sym same) begins)

-- a number is such a token
value_begins : (value : ℕ) (lexeme : Lexeme) → HasValue value lexeme → BeginsTerm lexeme
value_begins value (name text) h = absurd h
value_begins value (reserved w) h = absurd h
value_begins value (number_text digits) h = ((λ behind. refl), refl)
value_begins value (symbol s) h = absurd h
value_begins value (bad byte) h = absurd h

-- and so is a word for truth
truth_begins : (value : Bool) → BeginsTerm (reserved (truth_word value))
truth_begins true = ((λ behind. refl), refl)
truth_begins false = ((λ behind. refl), refl)

-- no term is printed as nothing
no_term : (t : TermTree) (after : List Shown) → Spells (print_term t after) [] → ⊥
no_term (number at value) after h = h
no_term (truth at value) after h = h
no_term (me at) after h = h
no_term (variable n) after h = h
no_term (application f arguments) after h = h
no_term (no_items at element) after h = h
no_term (binary op at left right) after h = no_term left _ h
no_term (negation at inner) after h = h
no_term (choosing at test holds fails) after h = h
no_term (matching at matched empty head tail more) after h = h
no_term (parenthesized inner) after h = h

-- no term begins with the word `list`, nor with `{`
term_front : (t : TermTree) (after : List Shown) (tokens : List Placed) → Spells (print_term t after) tokens
    → IsTermFront tokens
term_front t after [] h = absurd (no_term t after h)
term_front (number at value) after (x ∷ tokens) h = begun x tokens (value_begins value x.lexeme h.0.1)
term_front (truth at value) after (x ∷ tokens) h = begun_at at _ x tokens (truth_begins value) h.0
term_front (me at) after (x ∷ tokens) h = begun_at at _ x tokens ((λ behind. refl), refl) h.0
term_front (variable n) after (x ∷ tokens) h = begun_at n.at _ x tokens ((λ behind. refl), refl) h.0
term_front (application f arguments) after (x ∷ tokens) h =
    begun_at f.at _ x tokens ((λ behind. refl), refl) h.0
term_front (no_items at element) after (x ∷ tokens) h = begun_at at _ x tokens ((λ behind. refl), refl) h.0
term_front (binary op at left right) after (x ∷ tokens) h = term_front left _ (x ∷ tokens) h
term_front (negation at inner) after (x ∷ tokens) h = begun_at at _ x tokens ((λ behind. refl), refl) h.0
term_front (choosing at test holds fails) after (x ∷ tokens) h =
    begun_at at _ x tokens ((λ behind. refl), refl) h.0
term_front (matching at matched empty head tail more) after (x ∷ tokens) h =
    begun_at at _ x tokens ((λ behind. refl), refl) h.0
term_front (parenthesized inner) after (x ∷ tokens) h =
    begun x tokens (subst BeginsTerm (sym h.0) ((λ behind. refl), refl))

module _ (tokens : List Placed) where
  -- a token tells, by what it says and what is printed behind it
  tells_at : (at : ℕ) (lexeme : Lexeme) (after : List Shown) (told : Option CodeForm)
      → ((behind : List Placed) → Spells after behind → lexeme_form lexeme behind ≡ told)
      → EndsIn tokens (at_offset at lexeme ∷ after) → Tells tokens at told
  tells_at at lexeme after told says ends = by ends.rest ends.all ends.spelled
    where
      by : (rest : List Placed) → ends.before ++ rest ≡ tokens → Spells (at_offset at lexeme ∷ after) rest
          → Tells tokens at told
      by [] all h = absurd h
      by (x ∷ rest) all h = record {
        before = ends.before;
        first = x;
        behind = rest;
        all = all;
        offset = ap (λ (y : Placed). y.at) h.0;
        form = ap (λ (y : Placed). lexeme_form y.lexeme rest) h.0 ∙ says rest h.1;
      }

  -- a word that tells by itself
  word_tells : (at : ℕ) (w : Word) (after : List Shown) (told : Option CodeForm)
      → ((behind : List Placed) → word_form w behind ≡ told) → EndsIn tokens (keyword_at at w ∷ after)
      → Tells tokens at told
  word_tells at w after told says ends = tells_at at (reserved w) after told (λ behind h. says behind) ends

  -- a name, by the symbol behind it
  name_tells : (n : NameAt) (s : Symbol) (after : List Shown) → EndsIn tokens (print_name n ∷ sign s ∷ after)
      → Tells tokens n.at (dot_form (symbol s))
  name_tells n s after ends = tells_at n.at (name n.name) (sign s ∷ after) (dot_form (symbol s)) says ends
    where
      says : (behind : List Placed) → Spells (sign s ∷ after) behind → name_form behind ≡ dot_form (symbol s)
      says [] h = absurd h
      says (x ∷ behind) h = ap dot_form h.0

  -- the word `let`, by what is bound
  let_tells : (at : ℕ) (v : NameAt) (after : List Shown) (f : CodeForm)
      → ((behind : List Placed) → Spells after behind → bound_form behind ≡ f)
      → EndsIn tokens (keyword_at at word.Let ∷ print_name v ∷ sign sym.Equals ∷ after)
      → Tells tokens at (Some f)
  let_tells at v after f bound ends =
      tells_at at (reserved word.Let) (print_name v ∷ sign sym.Equals ∷ after) (Some f) says ends
    where
      says : (behind : List Placed) → Spells (print_name v ∷ sign sym.Equals ∷ after) behind
          → Some (let_form behind) ≡ Some f
      says [] h = absurd h
      says (x ∷ []) h = absurd h.1
      says (x ∷ y ∷ behind) h = ap Some (bound behind h.1.1)

  -- as an empty list is
  empty_tells : (at : ℕ) (v : NameAt) (list_at brace_at : ℕ) (after : List Shown)
      → EndsIn tokens (keyword_at at word.Let ∷ print_name v ∷ sign sym.Equals ∷ keyword_at list_at word.List
      ∷ sign_at brace_at sym.OpenBrace ∷ after)
      → Tells tokens at (Some form.Empty)
  empty_tells at v list_at brace_at after ends =
      let_tells at v (keyword_at list_at word.List ∷ sign_at brace_at sym.OpenBrace ∷ after) form.Empty bound ends
    where
      bound : (behind : List Placed)
          → Spells (keyword_at list_at word.List ∷ sign_at brace_at sym.OpenBrace ∷ after) behind
          → bound_form behind ≡ form.Empty
      bound [] h = absurd h
      bound (x ∷ []) h = absurd h.1
      bound (x ∷ y ∷ behind) h =
          ap (λ (z : Placed). value_form z.lexeme (y ∷ behind)) h.0 ∙ ap (λ (z : Placed). item_form z.lexeme) h.1.0

  -- a longer list
  longer_tells : (at : ℕ) (v : NameAt) (e : TermTree) (after : List Shown)
      → EndsIn tokens
      (keyword_at at word.Let ∷ print_name v ∷ sign sym.Equals ∷ keyword word.List ∷ print_term e after)
      → Tells tokens at (Some form.Add)
  longer_tells at v e after ends = let_tells at v (keyword word.List ∷ print_term e after) form.Add bound ends
    where
      bound : (behind : List Placed) → Spells (keyword word.List ∷ print_term e after) behind
          → bound_form behind ≡ form.Add
      bound [] h = absurd h
      bound (x ∷ behind) h = ap (λ l. value_form l behind) h.0 ∙ (term_front e after behind h.1).1

  -- and a value
  value_tells : (at : ℕ) (v : NameAt) (e : TermTree) (after : List Shown)
      → EndsIn tokens (keyword_at at word.Let ∷ print_name v ∷ sign sym.Equals ∷ print_term e after)
      → Tells tokens at (Some form.Let)
  value_tells at v e after ends =
      let_tells at v (print_term e after) form.Let (λ behind h. (term_front e after behind h).0) ends

  -- the instruction is put in, or the tokens tell its form
  abbrev pub IsTold : CodeNode → Type 0
  IsTold n = IsPutIn n ⊎ Tells tokens (code_offset n) (Some (code_form n))

  -- the instruction that a step makes
  step_told : (spaces : Spaces) (scope : Scope) (s : Built) (step : StepTree) (next : CodeId) (after : List Shown)
      → EndsIn tokens (print_step step after) → IsTold ((build_step spaces scope s step).1 next)
  step_told spaces scope s (label (chan.Own at) l) next after h = inr (word_tells at _ _ _ (λ behind. refl) h)
  step_told spaces scope s (label (chan.Variable n) l) next after h =
      inr (name_tells n sym.Dot _ h)
  step_told spaces scope s (send at x y) next after h = inr (word_tells at _ _ _ (λ behind. refl) h)
  step_told spaces scope s (recv at x y) next after h = inr (word_tells at _ _ _ (λ behind. refl) h)
  step_told spaces scope s (put at x e) next after h = inr (word_tells at _ _ _ (λ behind. refl) h)
  step_told spaces scope s (taking at x v) next after h = inr (word_tells at _ _ _ (λ behind. refl) h)
  step_told spaces scope s (pay at x q) next after h = inr (word_tells at _ _ _ (λ behind. refl) h)
  step_told spaces scope s (getting at x q) next after h = inr (word_tells at _ _ _ (λ behind. refl) h)
  step_told spaces scope s (work at q) next after h = inr (word_tells at _ _ _ (λ behind. refl) h)
  step_told spaces scope s (wait at x) next after h = inr (word_tells at _ _ _ (λ behind. refl) h)
  step_told spaces scope s (accept at) next after h = inr (word_tells at _ _ _ (λ behind. refl) h)
  step_told spaces scope s (detach at) next after h = inr (word_tells at _ _ _ (λ behind. refl) h)
  step_told spaces scope s (acquire at a x) next after h = inr (word_tells at _ _ _ (λ behind. refl) h)
  step_told spaces scope s (release at x a) next after h = inr (word_tells at _ _ _ (λ behind. refl) h)
  step_told spaces scope s (spawn at x f arguments) next after h = inr (word_tells at _ _ _ (λ behind. refl) h)
  step_told spaces scope s (binding at v e) next after h = inr (value_tells at v e after h)
  step_told spaces scope s (empty_list at v list_at q t) next after h = inr (empty_tells at v list_at q.at _ h)
  step_told spaces scope s (longer_list at v e w) next after h = inr (longer_tells at v e _ h)
  step_told spaces scope s (emit at e) next after h = inr (word_tells at _ _ _ (λ behind. refl) h)

  -- one code node more, and the `work` before it
  put_code_told : (model : CostModel) (s : Built) (n : CodeNode) → All IsTold s.code → IsTold n
      → All IsTold (put_code model s n).0.code
  put_code_told model s n all told = by (is_charged model n)
    where
      pushed : All IsTold (s.code ++ n ∷ [])
      pushed = All-push IsTold s.code n all told

      by : (b : Bool)
          → All IsTold (if b then put_work (put_node s n) (code_offset n) else put_node s n).0.code
      by true = All-push IsTold (s.code ++ n ∷ []) _ pushed (inl (code_offset n, record { 0 = length s.code }, refl))
      by false = pushed

  -- where no code node was put
  code_kept : (s t : Built) → t.code ≡ s.code → All IsTold s.code → All IsTold t.code
  code_kept s t same all = subst (All IsTold) (sym same) all

  module _ (model : CostModel) (spaces : Spaces) where
    -- steps before a last instruction, if that and its branches are told
    steps_told : (scope : Scope) (s : Built) (steps : List StepTree) (last : Scope → Built → Built × CodeId)
        (after : List Shown)
        → ((inner : Scope) (made : Built) → All IsTold made.code → All IsTold (last inner made).0.code)
        → EndsIn tokens (print_steps steps after)
        → All IsTold s.code
        → All IsTold (build_steps model spaces scope s steps last).0.code
    steps_told scope s [] last after behind h all = behind scope s all
    steps_told scope s (step ∷ steps) last after behind h all =
        let made = build_step spaces scope s step in
        let rest = build_steps model spaces (scope_after scope step) made.0 steps last in
        let kept = code_kept s made.0 (step_puts_terms spaces scope s step).code all in
        let later = further tokens (step_passed tokens step _ h) in
        put_code_told model rest.0 (made.1 rest.1)
        (steps_told (scope_after scope step) made.0 steps last after behind later kept)
        (step_told spaces scope s step rest.1 _ h)

    -- all instructions of a code
    mutual
      unfolding build_code build_last build_arms

      code_told : (scope : Scope) (s : Built) (c : CodeTree) (after : List Shown)
          → EndsIn tokens (print_code c after) → All IsTold s.code
          → All IsTold (build_code model spaces scope s c).0.code
      code_told scope s (code steps last) after h all =
          steps_told scope s steps (λ inner made. build_last model spaces inner made last) (print_last last after)
          (λ inner made told. last_told inner made last after (steps_passed tokens steps _ h) told)
          h all

      last_told : (scope : Scope) (s : Built) (l : LastTree) (after : List Shown)
          → EndsIn tokens (print_last l after) → All IsTold s.code
          → All IsTold (build_last model spaces scope s l).0.code
      last_told scope s (close at) after h all =
          put_code_told model s _ all (inr (word_tells at _ _ _ (λ behind. refl) h))
      last_told scope s (fwd at x) after h all =
          put_code_told model s _ all (inr (word_tells at _ _ _ (λ behind. refl) h))
      last_told scope s (calling at f arguments) after h all =
          let t = (build_values spaces scope s arguments.values).0 in
          put_code_told model t _ (code_kept s t (values_put_terms spaces scope s arguments.values).code all)
          (inr (word_tells at _ _ _ (λ behind. refl) h))
      last_told scope s (code_if at test holds fails) after h all =
          let t = (build_value spaces s test).0 in
          let a = (build_code model spaces scope t holds).0 in
          let b = (build_code model spaces scope a fails).0 in
          let first = further tokens (term_passed tokens test _ (further tokens h)) in
          let second = further tokens (further tokens (further tokens (code_passed tokens holds _ first))) in
          let kept = code_kept s t (term_puts_terms spaces.functions s test).code all in
          put_code_told model b _ (code_told scope a fails _ second (code_told scope t holds _ first kept))
          (inr (word_tells at _ _ _ (λ behind. refl) h))
      last_told scope s (case at x no_arms) after h all =
          put_code_told model s _ all (inr (word_tells at _ _ _ (λ behind. refl) h))
      last_told scope s (case at x (arm l goes arms)) after h all =
          let a = (build_code model spaces scope (with_label s l) goes).0 in
          let b = (build_arms model spaces scope a arms).0 in
          let first = further tokens (further tokens (further tokens (further tokens (further tokens h)))) in
          let more = arms_told scope a arms _ (code_passed tokens goes _ first)
          (code_told scope (with_label s l) goes _ first all) in
          put_code_told model b _ more (inr (word_tells at _ _ _ (λ behind. refl) h))
      last_told scope s (code_match at w empty head tail more) after h all =
          let a = (build_code model spaces scope s empty).0 in
          let u = with_variable (with_variable a head) tail in
          let b = (build_code model spaces (matched_list scope head tail) u more).0 in
          let first = further tokens (further tokens (further tokens (further tokens (further tokens h)))) in
          let second = heading_passed tokens head tail _ (further tokens (code_passed tokens empty _ first)) in
          put_code_told model b _
          (code_told (matched_list scope head tail) u more _ second (code_told scope s empty _ first all))
          (inr (word_tells at _ _ _ (λ behind. refl) h))

      arms_told : (scope : Scope) (s : Built) (arms : ArmTrees) (after : List Shown)
          → EndsIn tokens (print_more sym.Bar (print_arms arms) after) → All IsTold s.code
          → All IsTold (build_arms model spaces scope s arms).0.code
      arms_told scope s no_arms after h all = all
      arms_told scope s (arm l goes arms) after h all =
          let a = (build_code model spaces scope (with_label s l) goes).0 in
          let first = further tokens (further tokens (further tokens h)) in
          arms_told scope a arms after (code_passed tokens goes _ first)
          (code_told scope (with_label s l) goes _ first all)

  -- a function stands at its name, where no instruction begins
  abbrev pub IsFunctionTold : FnDecl → Type 0
  IsFunctionTold f = Tells tokens f.at None

  -- all that was declared so far is told
  record DeclaredTold (d : Declared) : Type 0 where
    code : All IsTold d.built.code
    fns : All IsFunctionTold d.fns

  none_told : DeclaredTold nothing_declared
  none_told = record { code = All-nil IsTold; fns = All-nil IsFunctionTold }

  -- one declaration more
  decl_told : (model : CostModel) (all : Spaces) (d : Declared) (decl : DeclTree) (after : List Shown)
      → EndsIn tokens (print_decl decl after) → DeclaredTold d → DeclaredTold (add_decl model all d decl)
  decl_told model all d (definition at m n body) after h told =
      let t = (build_type all.types d.built body).0 in
      record { code = code_kept d.built t (type_puts_types all.types d.built body).code told.code; fns = told.fns }
  decl_told model all d (function at n pars gives body) after h told =
      let bound = (build_value_pars d.built pars).0 in
      let t = (build_term all.functions bound body).0 in
      let same = (term_puts_terms all.functions bound body).code ∙ (value_pars_kept d.built pars).code in
      record {
        code = code_kept d.built t same told.code;
        fns =
            All-push IsFunctionTold d.fns _ told.fns
            (name_tells n sym.OpenParen _ (further tokens h));
      }
  decl_told model all d (process at m n pars q offers body) after h told =
      let values = (build_process_pars d.built pars.values).0 in
      let channels = (build_chan_pars all.types values pars.channels).0 in
      let paid = (declared_amount channels q).0 in
      let offered = (build_type all.types paid offers).0 in
      let same =
      (type_puts_types all.types paid offers).code
      ∙ (declared_amount_kept channels q).code
      ∙ (chan_pars_put_types all.types values pars.channels).code
      ∙ (process_pars_kept d.built pars.values).code in
      let heads = head_passed tokens pars q _ (further tokens (further tokens (further tokens h))) in
      let ends = further tokens (type_passed tokens offers _ (further tokens heads)) in
      record {
        code =
            code_told model all (pars_scope pars) offered body _ ends (code_kept d.built offered same told.code);
        fns = told.fns;
      }
  decl_told model all d (transaction at n pars q body) after h told =
      let payer = with_payer d.built in
      let values = (build_process_pars payer pars.values).0 in
      let channels = (build_chan_pars all.types values pars.channels).0 in
      let offered = (put_type channels type_node.One at).0 in
      let paid = (declared_amount offered q).0 in
      let same =
      (declared_amount_kept offered q).code
      ∙ (chan_pars_put_types all.types values pars.channels).code
      ∙ (process_pars_kept payer pars.values).code in
      let heads = head_passed tokens pars q _ (further tokens (further tokens (further tokens h))) in
      record {
        code =
            code_told model all (pars_scope pars) paid body _ (further tokens heads)
            (code_kept d.built paid same told.code);
        fns = told.fns;
      }

  -- all declarations
  decls_told : (model : CostModel) (all : Spaces) (d : Declared) (decls : List DeclTree) (after : List Shown)
      → EndsIn tokens (print_decls decls after) → DeclaredTold d → DeclaredTold (add_decls model all d decls)
  decls_told model all d [] after h told = told
  decls_told model all d (decl ∷ decls) after h told =
      decls_told model all (add_decl model all d decl) decls after (decl_passed tokens decl _ h)
      (decl_told model all d decl _ h told)

  -- the whole text
  file_told : (tree : FileTree) → Spells (print_file tree) tokens
      → DeclaredTold
      (add_decls (model_of tree.cost) (declaring_all no_names tree.decls) nothing_declared tree.decls)
  file_told tree h =
      decls_told (model_of tree.cost) (declaring_all no_names tree.decls) nothing_declared tree.decls []
      (cost_passed tokens tree.cost _ (ends-whole tokens (print_file tree) h)) none_told

-- Each instruction of the program of a tree stands at its first token, whose tokens tell its form; or it is put in.
pub instructions-told : (tokens : List Placed) (tree : FileTree) → Spells (print_file tree) tokens
    → (n : CodeNode) → Contains (program_of tree).code n
    → IsPutIn n ⊎ Tells tokens (code_offset n) (Some (code_form n))
instructions-told tokens tree h n there =
    All-contains (IsTold tokens) (program_of tree).code n (file_told tokens tree h).code there

-- A function stands at its name, where no instruction begins.
pub functions-told : (tokens : List Placed) (tree : FileTree) → Spells (print_file tree) tokens
    → (f : FnDecl) → Contains (program_of tree).fns f → Tells tokens f.at None
functions-told tokens tree h f there =
    All-contains (IsFunctionTold tokens) (program_of tree).fns f (file_told tokens tree h).fns there
