-- Names of contracts beside the texts that are kept.
use Rattle.std.proofs.Common.{◌≡◌, ◌∙◌, ℕ, Bool, true, false, List, [], ◌∷◌, ◌++◌, map, ap, refl}
use Rattle.std.specs.Map.{lookup}
use Rattle.std.specs.Str.{bytes_eq}
use Rattle.std.proofs.lemmas.Cmp.{nat_list_eq_equiv}
use Rattle.std.proofs.lemmas.List.{map-append}
use Rattle.nomos_legal.specs.Ledger.{shared_name}
use Rattle.nomos_ledger.specs.mirror.ContractNames.{contract_at}

module _ {X : Type 0} (text : X → List ℕ) (name : List ℕ) where
  -- the shared name of a contract stands beside the item whose text is its name
  pub found-contract : (es : List (X × ℕ)) → lookup (λ x. bytes_eq name (text x)) es
      ≡ shared_name (map (contract_at text) es) name
  found-contract [] = refl
  found-contract (e ∷ es) = by (bytes_eq (text e.0) name) refl (found-contract es)
    where
      by : (b : Bool) → bytes_eq (text e.0) name ≡ b
          → lookup (λ x. bytes_eq name (text x)) es ≡ shared_name (map (contract_at text) es) name
          → lookup (λ x. bytes_eq name (text x)) (e ∷ es) ≡ shared_name (map (contract_at text) (e ∷ es)) name
      by true is rest = rw (nat_list_eq_equiv.symm name (text e.0), is) refl
      by false is rest = rw (nat_list_eq_equiv.symm name (text e.0), is) rest

-- a contract whose name none has is put at the end
pub put-contract : {X : Type 0} (text : X → List ℕ) (es fs : List (X × ℕ)) (x : X) (shared : ℕ)
    (contracts : List (List ℕ × ℕ)) (name : List ℕ) → map (contract_at text) es ≡ contracts → text x ≡ name
    → fs ≡ es ++ (x, shared) ∷ [] → map (contract_at text) fs ≡ contracts ++ (name, shared) ∷ []
put-contract text es fs x shared contracts name view is put =
    ap (map (contract_at text)) put ∙ map-append (contract_at text) es ((x, shared) ∷ [])
    ∙ (λ i. view i ++ (is i, shared) ∷ [])
