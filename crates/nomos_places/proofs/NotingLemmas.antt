-- What is noted one after another in a table.
use Rattle.std.proofs.Common.{◌≡◌, ◌<◌, ◌+◌, inl, inr, ℕ, zero, suc, List, [], ◌∷◌, ◌++◌, Contains, Some, drop, take, length, get_or, slice_get, refl, sym, ap, subst, ◌∙◌, arith}
use Rattle.std.specs.Prelude.{slice_set}
use Rattle.std.proofs.Math.Seq.{take-append_seam}
use Rattle.std.proofs.lemmas.List.{take_more, length-set}
use Rattle.nomos_forms.specs.declared.form.Form.{Form}
use Rattle.nomos_forms.specs.declared.found.Found.{Found}
use Rattle.nomos_ir.specs.declared.ids.CodeId.{CodeId}
use Rattle.nomos_types.proofs.OccurrenceLaws.{contains-cases, contains-head, contains-tail}
use Rattle.nomos_places.specs.mirror.Noting.{noted, potential_in}

-- what is set stands there
set-there : (xs : List ℕ) (i v : ℕ) → i < length xs → slice_get (slice_set xs i v) i ≡ Some v
set-there [] i v inside = absurd (omega arith)
set-there (x ∷ xs) zero v inside = refl
set-there (x ∷ xs) (suc i) v inside = set-there xs i v (omega arith)

-- a number stays where the same one is set, or another place
set-beside : (xs : List ℕ) (i at w v : ℕ) → slice_get xs at ≡ Some v → (i ≡ at → w ≡ v)
    → slice_get (slice_set xs i w) at ≡ Some v
set-beside [] i at w v here same = absurd cc
set-beside (x ∷ xs) zero zero w v here same = ap (λ (k : ℕ). Some k) (same refl)
set-beside (x ∷ xs) zero (suc at) w v here same = here
set-beside (x ∷ xs) (suc i) zero w v here same = here
set-beside (x ∷ xs) (suc i) (suc at) w v here same = set-beside xs i at w v here (λ is. same (ap suc is))

module _ (amounts : Found) where
  pub length-noted : (es : List (CodeId × Form)) (table : List ℕ) → length (noted amounts es table) ≡ length table
  length-noted [] table = refl
  length-noted (e ∷ es) table =
      length-noted es (slice_set table e.0.0 (potential_in amounts e.1))
      ∙ length-set table e.0.0 (potential_in amounts e.1)

  noted-append : (es fs : List (CodeId × Form)) (table : List ℕ)
      → noted amounts (es ++ fs) table ≡ noted amounts fs (noted amounts es table)
  noted-append [] fs table = refl
  noted-append (e ∷ es) fs table = noted-append es fs (slice_set table e.0.0 (potential_in amounts e.1))

  -- one more
  pub noted-more : (es : List (CodeId × Form)) (i : ℕ) (e : CodeId × Form) (table : List ℕ) → e ≡ get_or es i e
      → i < length es → noted amounts (take (i + 1) es) table
      ≡ slice_set (noted amounts (take i es) table) e.0.0 (potential_in amounts e.1)
  noted-more es i e table is inside =
      ap (λ (fs : List (CodeId × Form)). noted amounts fs table) (take_more es i e inside)
      ∙ noted-append (take i es) (get_or es i e ∷ []) table
      ∙ ap (λ (f : CodeId × Form). noted amounts (f ∷ []) (noted amounts (take i es) table)) (sym is)

  module _ (at v : ℕ) where
    -- all that is noted at the place is the number
    abbrev pub NotesOnly : List (CodeId × Form) → Type 0
    NotesOnly es = (e : CodeId × Form) → Contains es e → e.0.0 ≡ at → potential_in amounts e.1 ≡ v

    -- a number stays where nothing else is noted
    pub noted-kept : (es : List (CodeId × Form)) (table : List ℕ) → NotesOnly es → slice_get table at ≡ Some v
        → slice_get (noted amounts es table) at ≡ Some v
    noted-kept [] table only here = here
    noted-kept (e ∷ es) table only here =
        noted-kept es (slice_set table e.0.0 (potential_in amounts e.1))
        (λ f among. only f (contains-tail e f es among))
        (set-beside table e.0.0 at (potential_in amounts e.1) v here (only e (contains-head e e es refl)))

    -- and is there where it is noted
    pub noted-there : (es : List (CodeId × Form)) (table : List ℕ) (e : CodeId × Form) → NotesOnly es
        → at < length table → Contains es e → e.0.0 ≡ at → slice_get (noted amounts es table) at ≡ Some v
    noted-there [] table e only inside among is = absurd (omega (arith, among.1))
    noted-there (f ∷ es) table e only inside among is =
        elim (contains-cases f e es among) [
          | inl first ↦
              let here : f.0.0 ≡ at = ap (λ (g : CodeId × Form). g.0.0) first ∙ is in
              let set : slice_get (slice_set table f.0.0 (potential_in amounts f.1)) f.0.0
              ≡ Some (potential_in amounts f.1) =
              set-there table f.0.0 (potential_in amounts f.1) (omega (arith, here, inside)) in
              let there : slice_get (slice_set table f.0.0 (potential_in amounts f.1)) at
              ≡ Some (potential_in amounts f.1) =
              subst (λ (k : ℕ). slice_get (slice_set table f.0.0 (potential_in amounts f.1)) k
              ≡ Some (potential_in amounts f.1)) here set in
              noted-kept es (slice_set table f.0.0 (potential_in amounts f.1))
              (λ g inside_es. only g (contains-tail f g es inside_es))
              (there ∙ ap (λ (k : ℕ). Some k) (only f (contains-head f f es refl) here))
          | inr rest ↦
              let long = length-set table f.0.0 (potential_in amounts f.1) in
              noted-there es (slice_set table f.0.0 (potential_in amounts f.1)) e
              (λ g inside_es. only g (contains-tail f g es inside_es)) (omega (arith, long, inside)) rest is
        ]

-- a table that is written back whole
pub written-back : (n : ℕ) (new old : List ℕ) → length new ≡ length old → n ≡ length old
    → take n (new ++ drop (length new) old) ≡ new
written-back n new old long width =
    let all : n ≡ length new = width ∙ sym long in
    ap (λ (k : ℕ). take k (new ++ drop (length new) old)) all ∙ take-append_seam new (drop (length new) old)
