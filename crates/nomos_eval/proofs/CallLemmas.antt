-- The arguments of a call are bound to ascending parameters all at once.
use Rattle.std.proofs.Common.{◌≡◌, ◌+◌, ◌-◌, ◌<◌, ◌≤◌, ℕ, zero, suc, List, [], ◌∷◌, ◌++◌, length, map, get_or, take, drop, reverse, refl, sym, ap, ◌∙◌, subst, arith, length-append}
use Rattle.std.specs.List.{AllByRecursion, zip}
use Rattle.std.proofs.Math.Seq.{get_or-append_seam}
use Rattle.std.proofs.lemmas.List.{get_or-map, length-drop, length-map, length-reverse, reverse-append, reverse-reverse, take-append-drop, take_at, take_more}
use Rattle.std.proofs.lemmas.Slice.Zip.{get_or-zip, length-zip}
use Rattle.nomos_ir.specs.declared.ids.VarId.{VarId}
use Rattle.nomos_ir.specs.declared.kind.Base.TheVariants as base
use Rattle.nomos_ir.specs.declared.kind.Kind.{Kind}
use Rattle.nomos_eval.specs.declared.datum.Datum.{Datum}
use Rattle.nomos_eval.specs.mirror.Ascending.{Rises}
use Rattle.nomos_eval.specs.mirror.Evaluator.{IsBinding, arguments_at, below_at, top_datum, below_top}
use Rattle.nomos_eval.specs.mirror.EvalTable.{reach}
use Rattle.nomos_eval.proofs.ActLemmas.{below-in, top-in}
use Rattle.nomos_eval.proofs.BindLemmas.{bound-whole}
use Rattle.nomos_eval.proofs.OpenLemmas.{scopes-in}

-- the variables of parameters
abbrev pub names_of : List (VarId × Kind) → List VarId
names_of pars = map (λ par. par.0) pars

-- one more parameter with its argument
pub paired-more : (pars : List (VarId × Kind)) (arguments : List Datum) (at : ℕ) (pairs more : List (VarId × Datum))
    (p : VarId × Kind) (d : Datum) → at < length pars → at < length arguments
    → pairs ≡ take at (zip (names_of pars) arguments)
    → more ≡ pairs ++ ((get_or pars at p).0, get_or arguments at d) ∷ []
    → more ≡ take (at + 1) (zip (names_of pars) arguments)
paired-more pars arguments at pairs more p d in_pars in_arguments before pushed =
    let names = names_of pars in
    let long : length names ≡ length pars = length-map pars (λ par. par.0) in
    let inside : at < length (zip names arguments) = omega (arith, length-zip names arguments, long) in
    let here : get_or (zip names arguments) at (p.0, d) ≡ ((get_or pars at p).0, get_or arguments at d) =
    get_or-zip names arguments at (p.0, d) (omega (arith, long)) in_arguments
    ∙ ap (λ v. (v, get_or arguments at d)) (get_or-map (λ par. par.0) pars at p p.0 in_pars) in
    pushed ∙ ap (λ l. l ++ ((get_or pars at p).0, get_or arguments at d) ∷ []) before
    ∙ sym (take_more (zip names arguments) at (p.0, d) inside
    ∙ ap (λ q. take at (zip names arguments) ++ q ∷ []) here)

-- parameters that ascend do so with their arguments
module _ (pars : List (VarId × Kind)) (arguments : List Datum) (rises : Rises pars (length pars)) where
  number-zip : (i : ℕ) (e : VarId × Datum) → i < length (zip (names_of pars) arguments)
      → (get_or (zip (names_of pars) arguments) i e).0.0
      ≡ (get_or pars i (e.0, record { lists = 0; base = base.Int })).0.0
  number-zip i e inside =
      let long : length (names_of pars) ≡ length pars = length-map pars (λ par. par.0) in
      let both = length-zip (names_of pars) arguments in
      ap (λ (p : VarId × Datum). p.0.0) (get_or-zip (names_of pars) arguments i e (omega arith) (omega arith))
      ∙ ap (λ (v : VarId). v.0) (get_or-map (λ par. par.0) pars i (e.0, record { lists = 0; base = base.Int }) e.0
      (omega arith))

  pub rises-zip : Rises (zip (names_of pars) arguments) (length (zip (names_of pars) arguments))
  rises-zip =
      record {
        within = omega arith;
        lower = λ i j e f below inside.
            (let long : length (names_of pars) ≡ length pars = length-map pars (λ par. par.0) in
            let both = length-zip (names_of pars) arguments in
            let lower = rises.lower i j (e.0, record { lists = 0; base = base.Int })
            (f.0, record { lists = 0; base = base.Int }) below (omega arith) in
            let at_i = number-zip i e (omega arith) in
            let at_j = number-zip j f inside in
            omega arith);
      }

-- the topmost data are the last ones of the stack's items
arguments-reversed : (k : ℕ) (ds : List Datum) → k ≤ length ds → arguments_at k ds ≡ reverse (take k ds)
arguments-reversed zero ds within = refl
arguments-reversed (suc k) [] within = absurd (omega arith)
arguments-reversed (suc k) (d ∷ ds) within =
    ap (λ l. l ++ d ∷ []) (arguments-reversed k ds (omega arith)) ∙ sym (reverse-append (d ∷ []) (take k ds))

take-reversed : (k : ℕ) (xs : List Datum) → k ≤ length xs → reverse (take k (reverse xs)) ≡ drop (length xs - k) xs
take-reversed k xs within =
    let n = length xs - k in
    let last = reverse (drop n xs) in
    let long : length last ≡ k = omega (arith, length-reverse (drop n xs), length-drop n xs) in
    ap (λ l. reverse (take k (reverse l))) (sym (take-append-drop n xs))
    ∙ ap (λ l. reverse (take k l)) (reverse-append (take n xs) (drop n xs))
    ∙ ap reverse (take_at last (reverse (take n xs)) k long)
    ∙ reverse-reverse (drop n xs)

pub arguments-last : (k : ℕ) (ds xs : List Datum) → reverse xs ≡ ds → k ≤ length ds
    → drop (length xs - k) xs ≡ arguments_at k ds
arguments-last k ds xs same within =
    let long : length xs ≡ length ds = sym (length-reverse xs) ∙ ap length same in
    sym (take-reversed k xs (omega arith)) ∙ ap (λ l. reverse (take k l)) same
    ∙ sym (arguments-reversed k ds within)

-- one more value is taken away
pub below-less : (k : ℕ) (ds : List Datum) → 0 < k → below_at k ds ≡ below_at (k - 1) (below_top ds)
below-less zero ds some = absurd (omega arith)
below-less (suc k) ds some =
    let same : k ≡ suc k - 1 = omega arith in
    ap (λ n. below_at n (below_top ds)) same

-- what is taken is there
all-push : (n : ℕ) (ds : List Datum) (d : Datum) → AllByRecursion (λ e. reach e ≤ n) ds → reach d ≤ n
    → AllByRecursion (λ e. reach e ≤ n) (ds ++ d ∷ [])
all-push n [] d all inside = (inside, tt)
all-push n (e ∷ ds) d all inside = (all.0, all-push n ds d all.1 inside)

arguments-in : (n k : ℕ) (ds : List Datum) → AllByRecursion (λ d. reach d ≤ n) ds
    → AllByRecursion (λ d. reach d ≤ n) (arguments_at k ds)
arguments-in n zero ds inside = tt
arguments-in n (suc k) ds inside =
    all-push n (arguments_at k (below_top ds)) (top_datum ds) (arguments-in n k (below_top ds) (below-in n ds inside))
    (top-in n ds inside)

below-all : (n k : ℕ) (ds : List Datum) → AllByRecursion (λ d. reach d ≤ n) ds
    → AllByRecursion (λ d. reach d ≤ n) (below_at k ds)
below-all n zero ds inside = inside
below-all n (suc k) ds inside = below-all n k (below_top ds) (below-in n ds inside)

zip-in : (n : ℕ) (names : List VarId) (ds : List Datum) → AllByRecursion (λ d. reach d ≤ n) ds
    → AllByRecursion (λ b. reach b.1 ≤ n) (zip names ds)
zip-in n [] ds inside = tt
zip-in n (v ∷ names) [] inside = tt
zip-in n (v ∷ names) (d ∷ ds) inside = (inside.0, zip-in n names ds inside.1)

-- all arguments are bound
pub bound-call : (names : List VarId) (count : ℕ) (first ds arguments : List Datum)
    (before scopes : List (List (VarId × Datum))) (place : ℕ) → arguments ≡ arguments_at count first
    → place ≡ length before → scopes ≡ before ++ zip names arguments ∷ [] → ds ≡ below_at count first
    → IsBinding names count first before 0 ds scopes place
bound-call names count first ds arguments before scopes place arguments_are place_is added dropped =
    let s = zip names (arguments_at count first) in
    let more = before ++ s ∷ [] in
    let whole : scopes ≡ more = added ∙ ap (λ l. before ++ zip names l ∷ []) arguments_are in
    let P : List Datum → Type 0 = λ l. IsBinding names count first before 0 l scopes place in
    let Q : List (List (VarId × Datum)) → Type 0 = λ l.
    IsBinding names count first before 0 (below_at count first) l place in
    let R : ℕ → Type 0 = λ p. IsBinding names count first before 0 (below_at count first) more p in
    subst
    P
    (sym dropped)
    (subst
    Q
    (sym whole)
    (subst
    R
    (sym place_is)
    (record {
      grown = (s ∷ [], refl);
      there = omega (arith, length-append before (s ∷ []));
      bound = get_or-append_seam before s [] [] ∙ sym (bound-whole names count first);
      under = refl;
      sound = λ n first_in before_in. (
        below-all n count first first_in,
        scopes-in n before s before_in
            (zip-in n names (arguments_at count first) (arguments-in n count first first_in)),
      );
    })))
