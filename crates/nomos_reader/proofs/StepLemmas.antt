-- Steps one after another, as a loop reads them.
use Rattle.std.proofs.Common.{◌≡◌, ℕ, zero, suc, ◌+◌, ◌-◌, ◌<◌, ◌≤◌, true, false, List, [], ◌∷◌, ◌++◌, map, refl, sym, ap, ◌∙◌, arith}
use Rattle.nomos_reader.proofs.PartedLemmas.{mapped-end}
use Rattle.nomos_surface.specs.declared.steps.SurfaceStep.{SurfaceStep}
use Rattle.nomos_reader.specs.mirror.Codes.{code_of_tokens, is_last, read_close, read_code, read_last, read_step, read_steps}
use Rattle.nomos_surface.specs.declared.declarations.SurfaceDecl.{SurfaceDecl}
use Rattle.nomos_surface.specs.FileView.{decl_tree}
use Rattle.nomos_reader.specs.mirror.Files.{read_decl, read_decls}
use Rattle.nomos_reader.specs.mirror.Front.{Reader, front_kind, none_left, rest_of}
use Rattle.nomos_surface.specs.StepView.{step_tree}
use Rattle.nomos_surface.specs.Tree.{CodeTree, DeclTree, LastTree, StepTree, code}
use Rattle.nomos_syntax.specs.Lexeme.{Placed}

pub closed_code : (room : ℕ) (tokens : List Placed) → room ≡ 0
    → read_code room tokens ≡ (code [] (read_close tokens).0, rest_of tokens)
unfolding read_code
closed_code zero tokens e = refl
closed_code (suc room) tokens e = absurd (omega arith)

pub open_code : (room : ℕ) (tokens : List Placed) → 0 < room
    → read_code room tokens ≡ code_of_tokens (read_code (room - 1)) tokens
unfolding read_code
open_code zero tokens lt = absurd (omega arith)
open_code (suc room) tokens lt = let e : suc room - 1 ≡ room = omega arith in rw e refl

-- a code and the tokens behind it, of a last instruction and those
coded : (steps : List StepTree) (r q : LastTree × List Placed) → r ≡ q →
    ◌≡◌ {A = CodeTree × List Placed} (code steps r.0, r.1) (code steps q.0, q.1)
coded steps r q e = ap (λ (p : LastTree × List Placed). let c : CodeTree × List Placed = (code steps p.0, p.1) in c) e

module _ (inner : Reader CodeTree) (n i : ℕ) (xs : List SurfaceStep) (tokens : List Placed)
    (total : CodeTree × List Placed) where
  -- the last instruction is next
  pub last_step : (l : LastTree) (rest : List Placed) → i < n → is_last (front_kind tokens) ≡ true
      → (l, rest) ≡ read_last inner tokens →
      read_steps inner (n - i) (map step_tree xs) tokens ≡ total → (code (map step_tree xs) l, rest) ≡ total
  unfolding read_steps
  last_step l rest lt is read so_far =
      let k : n - i ≡ suc (n - (i + 1)) = omega arith in
      let step : read_steps inner (n - i) (map step_tree xs) tokens
      ≡ (code (map step_tree xs) (read_last inner tokens).0, (read_last inner tokens).1) = rw (k, is) refl in
      coded (map step_tree xs) (l, rest) (read_last inner tokens) read ∙ sym step ∙ so_far

  -- a step is next
  pub next_step : (x : SurfaceStep) (rest others : List Placed) (ys : List SurfaceStep) → i < n
      → is_last (front_kind tokens) ≡ false →
      (step_tree x, rest) ≡ read_step tokens → ys ≡ xs ++ x ∷ [] → others ≡ rest_of rest →
      read_steps inner (n - i) (map step_tree xs) tokens ≡ total
      → read_steps inner (n - (i + 1)) (map step_tree ys) others ≡ total
  unfolding read_steps
  next_step x rest others ys lt is read pushed left so_far =
      let k : n - i ≡ suc (n - (i + 1)) = omega arith in
      let step : read_steps inner (n - i) (map step_tree xs) tokens
      ≡ read_steps inner (n - (i + 1)) (map step_tree xs ++ (read_step tokens).0 ∷ []) (rest_of (read_step tokens).1) =
      rw (k, is) refl in
      let same : read_steps inner (n - (i + 1)) (map step_tree xs ++ step_tree x ∷ []) (rest_of rest)
      ≡ read_steps inner (n - (i + 1)) (map step_tree xs ++ (read_step tokens).0 ∷ []) (rest_of (read_step tokens).1) =
      ap (λ (p : StepTree × List Placed). read_steps inner (n - (i + 1)) (map step_tree xs ++ p.0 ∷ []) (rest_of p.1))
      read in
      rw (pushed, left, mapped-end step_tree xs x) (same ∙ sym step ∙ so_far)

  -- no turn is left
  pub no_step : (l : LastTree) (rest : List Placed) → n ≤ i → (l, rest) ≡ read_close tokens →
      read_steps inner (n - i) (map step_tree xs) tokens ≡ total → (code (map step_tree xs) l, rest) ≡ total
  unfolding read_steps
  no_step l rest le read so_far =
      let k : n - i ≡ 0 = omega arith in
      let step : read_steps inner (n - i) (map step_tree xs) tokens
      ≡ (code (map step_tree xs) (read_close tokens).0, rest_of tokens) = rw k refl in
      coded (map step_tree xs) (l, rest) (read_close tokens) read ∙ sym step ∙ so_far

decl_step : (n i : ℕ) (ds : List DeclTree) (d : DeclTree) (tokens rest : List Placed) → i < n → none_left tokens ≡ false
    → (d, rest) ≡ read_decl tokens →
    read_decls (n - i) ds tokens ≡ read_decls (n - (i + 1)) (ds ++ d ∷ []) rest
unfolding read_decls
decl_step n i ds d [] rest lt some read = cc
decl_step n i ds d (x ∷ others) rest lt some read =
    let k : n - i ≡ suc (n - (i + 1)) = omega arith in
    let step : read_decls (n - i) ds (x ∷ others)
    ≡ read_decls (n - (i + 1)) (ds ++ (read_decl (x ∷ others)).0 ∷ []) (read_decl (x ∷ others)).1 = rw k refl in
    step ∙ ap (λ (p : DeclTree × List Placed). read_decls (n - (i + 1)) (ds ++ p.0 ∷ []) p.1) (sym read)

decl_end : (k : ℕ) (ds : List DeclTree) (tokens : List Placed) → none_left tokens ≡ true → read_decls k ds tokens ≡ ds
unfolding read_decls
decl_end zero ds tokens none = refl
decl_end (suc k) ds [] none = refl
decl_end (suc k) ds (x ∷ others) none = cc

module _ (n i : ℕ) (xs : List SurfaceDecl) (tokens : List Placed) (total : List DeclTree) where
  -- a declaration is next
  pub next_decl : (x : SurfaceDecl) (rest : List Placed) (ys : List SurfaceDecl) → i < n → none_left tokens ≡ false →
      (decl_tree x, rest) ≡ read_decl tokens → ys ≡ xs ++ x ∷ [] →
      read_decls (n - i) (map decl_tree xs) tokens ≡ total → read_decls (n - (i + 1)) (map decl_tree ys) rest ≡ total
  next_decl x rest ys lt some read pushed so_far =
      rw (pushed, mapped-end decl_tree xs x)
      (sym (decl_step n i (map decl_tree xs) (decl_tree x) tokens rest lt some read) ∙ so_far)

  -- no token is left
  pub no_decl : none_left tokens ≡ true → read_decls (n - i) (map decl_tree xs) tokens ≡ total
      → map decl_tree xs ≡ total
  no_decl none so_far = sym (decl_end (n - i) (map decl_tree xs) tokens none) ∙ so_far

  -- no turn is left
  pub no_decl_turn : n ≤ i → read_decls (n - i) (map decl_tree xs) tokens ≡ total → map decl_tree xs ≡ total
  unfolding read_decls
  no_decl_turn le so_far =
      let k : n - i ≡ 0 = omega arith in
      let step : read_decls (n - i) (map decl_tree xs) tokens ≡ map decl_tree xs = rw k refl in
      sym step ∙ so_far
