-- Names of accounts and contracts stay different, and one account stays for each balance.
use Rattle.std.proofs.Common.{◌≡◌, ◌≢◌, ◌∙◌, ℕ, zero, suc, ◌+◌, ◌-◌, ◌*◌, ◌^◌, ◌<◌, ◌≤◌, not, Bool, true, false, cond, List, [], ◌∷◌, length, find, get_or, AllPairs, position, Option, Some, None, ltb, ap, refl, sym, arith, length-append, length-set}
use Rattle.std.specs.List.{position_or_len}
use Rattle.std.specs.Option.{option_map}
use Rattle.std.specs.Str.{bytes_eq}
use Rattle.std.proofs.lemmas.Bool.Decides.{Decides-ltb}
use Rattle.std.proofs.lemmas.List.Quantifiers.{all_pairs_push}
use Rattle.std.proofs.lemmas.Slice.Eq.{bytes_eq-Decides}
use Rattle.nomos_machine.specs.State.{State}
use Rattle.nomos_legal.specs.Batch.{named}
use Rattle.nomos_legal.specs.Ledger.{AreNamed, Contracts, IsLedger, LedgerState, account_of, accounts_with, deposited, shared_name, state_with}
use Rattle.nomos_legal.specs.LineStarts.{NameIsFree}

-- ---- accounts

-- what passes stands no earlier than the first that does
first-le : {X : Type 0} (p : X → Bool) (xs : List X) (k : ℕ) (d : X) → k < length xs → p (get_or xs k d) ≡ true
    → position_or_len p xs ≤ k
first-le p [] k d h e = absurd (omega arith)
first-le p (x ∷ xs) zero d h e = rw e (omega arith)
first-le p (x ∷ xs) (suc k) d h e =
    let le : position_or_len p xs ≤ k = first-le p xs k d (omega arith) e in
    elim (p x) as (λ b. cond (not b) (1 + position_or_len p xs) 0 ≤ suc k) [ true ↦ omega arith | false ↦ omega arith ]

-- where no place is found, nothing passes
none-passes : {X : Type 0} (p : X → Bool) (xs : List X) (k : ℕ) (d : X) → position p xs ≡ None → k < length xs
    → ¬ (p (get_or xs k d) ≡ true)
none-passes p xs k d e h passes =
    let le : position_or_len p xs ≤ k = first-le p xs k d h passes in
    let lt : position_or_len p xs < length xs = omega arith in
    let test : ltb (position_or_len p xs) (length xs) ≡ true = (Decides-ltb (position_or_len p xs) (length xs)).1 lt in
    let some : position p xs ≡ Some (position_or_len p xs) =
    ap (λ (b : Bool). cond b (Some (position_or_len p xs)) None) test in
    absurd (let f = e in let g = some in cc)

-- a name without an account is no account's
new-account : (accounts : List (List ℕ)) (name : List ℕ) (k : ℕ) (d : List ℕ) → account_of accounts name ≡ None
    → k < length accounts → get_or accounts k d ≢ name
new-account accounts name k d e h same =
    none-passes (λ a. bytes_eq a name) accounts k d e h ((bytes_eq-Decides (get_or accounts k d) name).1 same)

with-named : (accounts : List (List ℕ)) (contracts : Contracts) (s : State) (name : List ℕ) (dths : ℕ)
    (found : Option ℕ) → account_of accounts name ≡ found → length accounts < 2 ^ 32 - 1
    → AreNamed accounts contracts s.balances
    → AreNamed (accounts_with accounts name found) contracts (state_with s dths found).balances
with-named accounts contracts s name dths (Some n) e few are = record {
  few = are.few;
  each_account = omega (arith, are.each_account, length-set {A = ℕ});
  accounts_differ = are.accounts_differ;
  contracts_differ = are.contracts_differ;
}
with-named accounts contracts s name dths None e few are = record {
  few = omega (arith, length-append {A = List ℕ});
  each_account = omega (arith, are.each_account, length-append {A = List ℕ}, length-append {A = ℕ});
  accounts_differ =
      all_pairs_push (λ (m : List ℕ) (n : List ℕ). m ≢ n) accounts name are.accounts_differ
      (λ k d h. new-account accounts name k d e h);
  contracts_differ = are.contracts_differ;
}

-- accounts and contracts stay named in a deposit, where there is room for one more account
pub deposited-named : (unit : ℕ) (l : LedgerState) (name : List ℕ) (units : ℕ) → length l.accounts < 2 ^ 32 - 1
    → IsLedger l → IsLedger (deposited unit l name units)
deposited-named unit l name units few ledger =
    with-named l.accounts l.contracts l.state name (units * unit) (account_of l.accounts name) refl few ledger

-- ---- contracts

-- a name that is free is neither that of the first contract nor one of the others
free-further : (c : List ℕ × ℕ) (rest : Option (List ℕ × ℕ)) (t : Bool)
    → option_map (λ (d : List ℕ × ℕ). d.1) (cond t (Some c) rest) ≡ None
    → (t ≡ false) × (option_map (λ (d : List ℕ × ℕ). d.1) rest ≡ None)
free-further c rest true e = absurd cc
free-further c rest false e = (refl, e)

-- a name that is free is no contract's
not-taken : (contracts : Contracts) (name : List ℕ) (k : ℕ) (d : List ℕ × ℕ) → shared_name contracts name ≡ None
    → k < length contracts → (get_or contracts k d).0 ≢ name
not-taken [] name k d e h same = absurd (omega arith)
not-taken (c ∷ cs) name zero d e h same =
    let no = (free-further c (find (λ (x : List ℕ × ℕ). bytes_eq x.0 name) cs) (bytes_eq c.0 name) e).0 in
    let yes = (bytes_eq-Decides c.0 name).1 same in cc
not-taken (c ∷ cs) name (suc k) d e h same =
    not-taken cs name k d
    (free-further c (find (λ (x : List ℕ × ℕ). bytes_eq x.0 name) cs) (bytes_eq c.0 name) e).1 (omega arith) same

-- contracts differ with one more whose name is free
contracts-differ : (l : LedgerState) (name : Option (List ℕ)) (shared : ℕ) → NameIsFree l name
    → AllPairs (λ c d. c.0 ≢ d.0) l.contracts → AllPairs (λ c d. c.0 ≢ d.0) (named l.contracts name shared)
contracts-differ l None shared free differ = differ
contracts-differ l (Some name) shared free differ =
    all_pairs_push (λ (c : List ℕ × ℕ) (d : List ℕ × ℕ). c.0 ≢ d.0) l.contracts (name, shared) differ
    (λ k d h. not-taken l.contracts name k d free h)

-- accounts and contracts stay named where a name comes that is free, and accounts stay as many
pub contract-named : (l : LedgerState) (name : Option (List ℕ)) (shared : ℕ) (balances : List ℕ) → NameIsFree l name
    → length balances ≡ length l.state.balances → IsLedger l
    → AreNamed l.accounts (named l.contracts name shared) balances
contract-named l name shared balances free same ledger = record {
  few = ledger.few;
  each_account = ledger.each_account ∙ sym same;
  accounts_differ = ledger.accounts_differ;
  contracts_differ = contracts-differ l name shared free ledger.contracts_differ;
}
