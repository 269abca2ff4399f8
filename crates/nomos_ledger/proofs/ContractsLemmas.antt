-- Names of a line that fit parameters, one by one.
use Rattle.std.proofs.Common.{◌≡◌, ◌<◌, ◌+◌, ℕ, zero, suc, List, [], ◌∷◌, ◌++◌, length, take, get_or, add-one, ap, arith, refl, subst, sym}
use Rattle.nomos_ir.specs.declared.ids.TypeId.{TypeId}
use Rattle.nomos_ir.specs.declared.ids.VarId.{VarId}
use Rattle.nomos_types.specs.Acceptance.{Acceptance}
use Rattle.nomos_legal.specs.Ledger.{LedgerState}
use Rattle.nomos_legal.specs.LineStarts.{ContractFits, ContractsFit, none, one}

module _ (a : Acceptance) (l : LedgerState) where
  -- as many names as parameters
  pub contracts-length : {names : List (List ℕ)} {pars : List (VarId × TypeId)} {shared : List ℕ}
      → ContractsFit a l names pars shared → length names ≡ length pars
  contracts-length none = refl
  contracts-length (one fits others) = ap suc (contracts-length others)

  -- at each place a name that fits
  at-place : (names : List (List ℕ)) (pars : List (VarId × TypeId)) (shared : List ℕ) (k : ℕ) (n : List ℕ)
      (p : VarId × TypeId) → ContractsFit a l names pars shared → k < length names
      → (s : ℕ) × ContractFits a l (get_or names k n) (get_or pars k p) s
  at-place [] pars shared k n p fit inside = absurd (omega (arith, inside))
  at-place (m ∷ names) [] shared k n p fit inside = elim fit [ ]
  at-place (m ∷ names) (q ∷ pars) [] k n p fit inside = elim fit [ ]
  at-place (m ∷ names) (q ∷ pars) (s ∷ shared) zero n p (one fits others) inside = (s, fits)
  at-place (m ∷ names) (q ∷ pars) (s ∷ shared) (suc k) n p (one fits others) inside =
      at-place names pars shared k n p others (omega (arith, inside))

  pub contracts-at : (names : List (List ℕ)) (pars : List (VarId × TypeId)) (shared : List ℕ) (k : ℕ) (n : List ℕ)
      (p : VarId × TypeId) → n ≡ get_or names k n → ContractsFit a l names pars shared → k < length names
      → (s : ℕ) × ContractFits a l n (get_or pars k p) s
  contracts-at names pars shared k n p there fit inside =
      let (s, fits) = at-place names pars shared k n p fit inside in
      (s, subst (λ (m : List ℕ). ContractFits a l m (get_or pars k p) s) (sym there) fits)

  -- those so far, and the next ones
  further : (names : List (List ℕ)) (pars : List (VarId × TypeId)) (shared : List ℕ) (k : ℕ) (n : List ℕ)
      (p : VarId × TypeId) (s : ℕ) → ContractsFit a l (take k names) (take k pars) shared → k < length names
      → k < length pars → ContractFits a l (get_or names k n) (get_or pars k p) s
      → ContractsFit a l (take (suc k) names) (take (suc k) pars) (shared ++ s ∷ [])
  further [] pars shared k n p s fit inside within next = absurd (omega (arith, inside))
  further (m ∷ names) [] shared k n p s fit inside within next = absurd (omega (arith, within))
  further (m ∷ names) (q ∷ pars) [] zero n p s fit inside within next = one next none
  further (m ∷ names) (q ∷ pars) (r ∷ shared) zero n p s fit inside within next = elim fit [ ]
  further (m ∷ names) (q ∷ pars) [] (suc k) n p s fit inside within next = elim fit [ ]
  further (m ∷ names) (q ∷ pars) (r ∷ shared) (suc k) n p s (one fits others) inside within next =
      one fits (further names pars shared k n p s others (omega (arith, inside)) (omega (arith, within)) next)

  pub contracts-next : (names : List (List ℕ)) (pars : List (VarId × TypeId)) (shared more : List ℕ) (k : ℕ)
      (n : List ℕ) (p : VarId × TypeId) (s : ℕ) → n ≡ get_or names k n → more ≡ shared ++ s ∷ []
      → ContractsFit a l (take k names) (take k pars) shared → k < length names → k < length pars
      → ContractFits a l n (get_or pars k p) s → ContractsFit a l (take (k + 1) names) (take (k + 1) pars) more
  contracts-next names pars shared more k n p s there is fit inside within next =
      let P : ℕ → Type 0 = λ i. ContractsFit a l (take i names) (take i pars) (shared ++ s ∷ []) in
      let Q : List ℕ → Type 0 = λ m. ContractFits a l m (get_or pars k p) s in
      subst (ContractsFit a l (take (k + 1) names) (take (k + 1) pars)) (sym is)
      (subst P (sym (add-one k)) (further names pars shared k n p s fit inside within (subst Q there next)))
