-- Small ledgers, lines and batches, computed.
use Rattle.std.proofs.Common.{◌≡◌, ◌∙◌, ℕ, zero, suc, true, List, [], ◌∷◌, Option, Some, None, Ok, Err, codes, pos, refl, sym, subst, ap, arith}
use Rattle.std.proofs.lemmas.Option.{none-some, same_Some}
use Rattle.nomos_ir.specs.TermKind.{int_kind}
use Rattle.nomos_ir.specs.Unfold.{Unfolds}
use Rattle.nomos_ir.specs.Unfold as unfolds
use Rattle.nomos_ir.specs.Value.{Value, int, truth, list, no_values}
use Rattle.nomos_ir.specs.declared.amount.Amount.TheVariants.{Written}
use Rattle.nomos_ir.specs.declared.code_node.Chan.TheVariants as chan
use Rattle.nomos_ir.specs.declared.code_node.CodeNode.TheVariants as code
use Rattle.nomos_ir.specs.declared.declaration.Par.{Par}
use Rattle.nomos_ir.specs.declared.declaration.ProcDecl.{ProcDecl}
use Rattle.nomos_ir.specs.declared.ids.TypeId.{TypeId}
use Rattle.nomos_ir.specs.declared.ids.VarId.{VarId}
use Rattle.nomos_ir.specs.declared.kind.Kind.{Kind}
use Rattle.nomos_ir.specs.declared.mode.Mode.TheVariants as mode
use Rattle.nomos_ir.specs.declared.term_node.TermNode.TheVariants as term
use Rattle.nomos_ir.specs.declared.type_node.TypeAt.{TypeAt}
use Rattle.nomos_ir.specs.declared.type_node.TypeNode.{TypeNode}
use Rattle.nomos_ir.specs.declared.type_node.TypeNode.TheVariants as node
use Rattle.nomos_ir.proofs.UnfoldLaws.{Unfolds-unique}
use Rattle.nomos_types.specs.Acceptance.{Acceptance, acceptance}
use Rattle.nomos_types.specs.Equality.{Agree, EqualTypes, SameHead}
use Rattle.nomos_types.specs.Equality as equality
use Rattle.nomos_types.specs.Modes.{HasMode}
use Rattle.nomos_types.specs.Modes as modes
use Rattle.nomos_types.proofs.EqualityLaws.{equal-unfolded}
use Rattle.nomos_machine.specs.RowPrograms.{type_id, var_id, code_id}
use Rattle.nomos_machine.specs.State.{empty, type_of}
use Rattle.nomos_script.specs.declared.item.Start.{Start}
use Rattle.nomos_legal.specs.Batch.{AllStart, OneRefuses, after_start, after_starts}
use Rattle.nomos_legal.specs.Batch as batch
use Rattle.nomos_legal.specs.Ledger.{LedgerState, deposited, empty_ledger}
use Rattle.nomos_legal.specs.Legal.{batch_limit}
use Rattle.nomos_legal.specs.LineStarts.{OneEach, ValueFits, ContractFits, ContractsFit, Resolves}
use Rattle.nomos_legal.specs.LineStarts as line
use Rattle.nomos_legal.specs.declared.refusal.Refusal.TheVariants as refusal
use Rattle.nomos_legal.specs.declared.resolved.Resolved.{Resolved}

-- ---- a program of which a unit has 3 Dths
--
-- type S cheap = up |{1}> down cheap;
-- type S dear = up |{2}> down dear;
-- proc S cheap(n : int;) {1} : cheap = accept; pay self {1}; detach; call cheap(n;);
-- proc S dear(;) {2} : dear = accept; ..
-- proc T visit(; c : cheap) {2} = close;
-- proc T sums(xs : list {2} int;) = ..
-- proc T twice(; c : cheap, d : cheap) = acquire c as x; acquire d as y; ..
-- proc T again(;) = call again(;);
-- proc T faulty(;) = emit 1 / 0; close;

abbrev type_at : TypeNode → TypeAt
type_at n = record { node = n; at = 0 }

abbrev decl : List ℕ → ℕ → ℕ → ProcDecl
decl name amount first = record {
  name = name;
  mode = mode.T;
  me = Some (var_id 9);
  values = [];
  channels = [];
  amount = Written amount;
  offers = type_id 0;
  first = code_id first;
}

abbrev number_parameter : Par
number_parameter = record { var = var_id 0; kind = int_kind; amount = None }

abbrev list_parameter : Par
list_parameter = record { var = var_id 0; kind = int_kind; amount = Some (Written 2) }

abbrev cheap : ProcDecl
cheap =
    record (decl (codes "cheap") 1 1) { mode = mode.S; me = None; values = number_parameter ∷ []; offers = type_id 4 }

abbrev dear : ProcDecl
dear = record (decl (codes "dear") 2 1) { mode = mode.S; me = None; offers = type_id 8 }

abbrev pub visit : ProcDecl
visit = record (decl (codes "visit") 2 0) { channels = (var_id 1, type_id 4) ∷ [] }

abbrev sums : ProcDecl
sums = record (decl (codes "sums") 0 0) { values = list_parameter ∷ [] }

abbrev pub twice : ProcDecl
twice = record (decl (codes "twice") 0 5) { channels = (var_id 1, type_id 4) ∷ (var_id 2, type_id 4) ∷ [] }

abbrev pub program : Acceptance
program =
    acceptance
    (record {
      defs =
          record { name = codes "cheap"; mode = mode.S; body = type_id 1 }
          ∷ record { name = codes "dear"; mode = mode.S; body = type_id 5 }
          ∷ [];
      types =
          type_at node.One
          ∷ type_at (node.Up (type_id 2)) ∷ type_at (node.PotOut (Written 1) (type_id 3))
          ∷ type_at (node.Down (type_id 4)) ∷ type_at (node.Named (record { 0 = 0 }))
          ∷ type_at (node.Up (type_id 6)) ∷ type_at (node.PotOut (Written 2) (type_id 7))
          ∷ type_at (node.Down (type_id 8)) ∷ type_at (node.Named (record { 0 = 1 }))
          ∷ [];
      terms =
          term.Number 0 1 ∷ term.Number 0 0 ∷ term.Div 0 (record { 0 = 0 }) (record { 0 = 1 }) ∷ [];
      code =
          code.Close 0
          ∷ code.Accept 0 (code_id 2)
          ∷ code.Pay 0 chan.Own (Written 1) (code_id 3)
          ∷ code.Detach 0 (code_id 1)
          ∷ code.Acquire 0 (var_id 2) (var_id 4) (code_id 0)
          ∷ code.Acquire 0 (var_id 1) (var_id 3) (code_id 4)
          ∷ code.Call 0 (record { 0 = 5 }) (record { values = []; channels = [] })
          ∷ code.Emit 0 (record { 0 = 2 }) (code_id 0)
          ∷ [];
      fns = [];
      procs = cheap ∷ dear ∷ visit ∷ sums ∷ twice ∷ decl (codes "again") 0 6 ∷ decl (codes "faulty") 0 7 ∷ [];
      labels = [];
    })
    []
    3

-- ---- deposits

-- 10 units on the account u
abbrev pub ten_units : LedgerState
ten_units = deposited 3 empty_ledger (codes "u") 10

ten : ten_units
    ≡ record empty_ledger { accounts = codes "u" ∷ []; deposits = 10; state = record empty { balances = 30 ∷ [] } }
ten = refl

-- a second deposit goes to the account that the first one made, and one of nothing makes an account
two_deposits : deposited 3 ten_units (codes "u") 2
    ≡ record empty_ledger { accounts = codes "u" ∷ []; deposits = 12; state = record empty { balances = 36 ∷ [] } }
two_deposits = refl

nothing_deposited : deposited 3 ten_units (codes "v") 0
    ≡ record empty_ledger {
      accounts = codes "u" ∷ codes "v" ∷ [];
      deposits = 10;
      state = record empty { balances = 30 ∷ 0 ∷ [] };
    }
nothing_deposited = refl

-- ---- lines

-- `exec u NAME(..)` in this line
abbrev pub exec : ℕ → List ℕ → List Value → List (List ℕ) → Start
exec n proc values names =
    record { line = n; sender = codes "u"; proc = proc; values = values; names = names; contract = None }

-- `let CONTRACT = new u NAME(..)`
abbrev create : ℕ → List ℕ → List ℕ → List Value → Start
create n contract proc values = record (exec n proc values []) { contract = Some contract }

abbrev pub resolved : ℕ → List Value → List ℕ → Option (List ℕ) → Resolved
resolved number values names contract =
    record { proc = record { 0 = number }; values = values; names = names; payer = 0; contract = contract }

abbrev pub cheap_started : Resolved
cheap_started = resolved 0 (int (pos 5) ∷ []) [] (Some (codes "c"))

abbrev dear_started : Resolved
dear_started = resolved 1 [] [] (Some (codes "d"))

-- the contracts c and d
abbrev pub shops : LedgerState
shops = after_starts program ten_units (cheap_started ∷ dear_started ∷ [])

shops-contracts : shops.contracts ≡ (codes "c", 1) ∷ (codes "d", 2) ∷ []
shops-contracts = refl

shops-balances : shops.state.balances ≡ 21 ∷ []
shops-balances = refl

shops-types : shops.state.types ≡ (1, type_id 4) ∷ (2, type_id 8) ∷ []
shops-types = refl

-- the sender is missed before the process
no_account : (proc : List ℕ) → Resolves program empty_ledger (exec 1 proc [] []) (Err (refusal.NoAccount (codes "u")))
no_account proc = line.no_account refl

-- a contract's declaration is none of `exec`, and before that nothing is said of its arguments
no_process : Resolves program shops (exec 1 (codes "cheap") [] []) (Err (refusal.NoProcess (codes "cheap")))
no_process = line.no_process 0 refl refl

no_contract : Resolves program shops (create 1 (codes "e") (codes "visit") [])
    (Err (refusal.NoProcess (codes "visit")))
no_contract = line.no_process 0 refl refl

-- ---- arguments that do not fit

abbrev Bad : Start → List ℕ → Type 0
Bad start proc = Resolves program shops start (Err (refusal.BadArguments proc))

-- a value is missing, is too many, or has another kind
value_missing : Bad (create 1 (codes "e") (codes "cheap") []) (codes "cheap")
value_missing = line.bad_arguments 0 0 cheap refl (record { first = refl; there = refl })
    (λ shared fits. no fits.values)
  where
    no : OneEach ValueFits [] (number_parameter ∷ []) → ⊥
    no fits = elim fits [ ]

value_more : Bad (create 1 (codes "e") (codes "dear") (int (pos 5) ∷ [])) (codes "dear")
value_more = line.bad_arguments 0 1 dear refl (record { first = refl; there = refl }) (λ shared fits. no fits.values)
  where
    no : OneEach ValueFits (int (pos 5) ∷ []) [] → ⊥
    no fits = elim fits [ ]

value_other : Bad (create 1 (codes "e") (codes "cheap") (truth true ∷ [])) (codes "cheap")
value_other = line.bad_arguments 0 0 cheap refl (record { first = refl; there = refl }) (λ shared fits. no fits.values)
  where
    no : OneEach ValueFits (truth true ∷ []) (number_parameter ∷ []) → ⊥
    no (line.one fits others) = let is = ap (λ (k : Kind). k.base) fits.kind in cc

-- no value fits a list that carries potential, not even an empty list
value_for_list : Bad (exec 1 (codes "sums") (list no_values ∷ []) []) (codes "sums")
value_for_list = line.bad_arguments 0 3 sums refl (record { first = refl; there = refl })
    (λ shared fits. no fits.values)
  where
    no : OneEach ValueFits (list no_values ∷ []) (list_parameter ∷ []) → ⊥
    no (line.one fits others) = let is = fits.no_list in cc

-- a name is missing, or is no contract's
name_missing : Bad (exec 1 (codes "visit") [] []) (codes "visit")
name_missing = line.bad_arguments 0 2 visit refl (record { first = refl; there = refl }) (λ shared fits. no fits.names)
  where
    no : {shared : List ℕ} → ContractsFit program shops [] ((var_id 1, type_id 4) ∷ []) shared → ⊥
    no fits = elim fits [ ]

name_unknown : Bad (exec 1 (codes "visit") [] (codes "e" ∷ [])) (codes "visit")
name_unknown = line.bad_arguments 0 2 visit refl (record { first = refl; there = refl }) (λ shared fits. no fits.names)
  where
    no : {shared : List ℕ} → ContractsFit program shops (codes "e" ∷ []) ((var_id 1, type_id 4) ∷ []) shared → ⊥
    no (line.one {shared = shared} fits others) = none-some shared fits.found

-- ---- types of contracts: of equal shape, and of other amounts

-- a type of this program agrees with itself
abbrev Same : ℕ → ℕ → Type 0
Same n t = Agree program.program program.annotations n (type_id t) (type_id t)

cheap-agrees : (n : ℕ) → Same n 4 × Same n 2 × Same n 3
cheap-agrees zero = (tt, tt, tt)
cheap-agrees (suc n) =
    let (name, paying, going_back) = cheap-agrees n in (
      record {
        left = node.Up (type_id 2);
        right = node.Up (type_id 2);
        left_unfolds = cheap-unfolds;
        right_unfolds = cheap-unfolds;
        same = equality.up (type_id 2) (type_id 2) paying;
      },
      record {
        left = node.PotOut (Written 1) (type_id 3);
        right = node.PotOut (Written 1) (type_id 3);
        left_unfolds = unfolds.constructor 2 _ refl tt;
        right_unfolds = unfolds.constructor 2 _ refl tt;
        same = equality.pot_out (Written 1) (Written 1) (type_id 3) (type_id 3) refl going_back;
      },
      record {
        left = node.Down (type_id 4);
        right = node.Down (type_id 4);
        left_unfolds = unfolds.constructor 3 _ refl tt;
        right_unfolds = unfolds.constructor 3 _ refl tt;
        same = equality.down (type_id 4) (type_id 4) name;
      },
    )
  where
    cheap-unfolds : Unfolds program.program 4 (node.Up (type_id 2))
    cheap-unfolds = unfolds.name 4 _ _ _ refl refl (unfolds.constructor 1 _ refl tt)

cheap-shared : HasMode program.program (type_id 4) mode.S
cheap-shared = modes.whole (2, omega arith, refl)

-- so the contract c fits
pub c_fits : (v : VarId) → ContractFits program shops (codes "c") (v, type_id 4) 1
c_fits v = record {
  found = refl;
  alike = record {
    own = type_id 4;
    found = refl;
    alike = record {
      equal = λ n. (cheap-agrees n).0;
      mode = mode.S;
      left_mode = cheap-shared;
      right_mode = cheap-shared;
    };
  };
}

pub visit-starts : Resolves program shops (exec 1 (codes "visit") [] (codes "c" ∷ []))
    (Ok (resolved 2 [] (1 ∷ []) None))
visit-starts =
    line.starts 0 2 visit (1 ∷ []) refl (record { first = refl; there = refl })
    (record { values = line.none; names = line.one (c_fits (var_id 1)) line.none }) tt (omega arith)

-- The contract d has a type of the same shape, which pays 2 in place of 1: it does not fit.
abbrev Equal : TypeId → TypeId → Type 0
Equal t u = EqualTypes program.program program.annotations t u

dear-rest : (n : TypeNode) → Unfolds program.program 4 n
    → SameHead program.annotations Equal (node.Up (type_id 6)) n → Equal (type_id 6) (type_id 2)
dear-rest n is same =
    let only : n ≡ node.Up (type_id 2) =
    Unfolds-unique program.program 4 n _ is (unfolds.name 4 _ _ _ refl refl (unfolds.constructor 1 _ refl tt))
    in
    rest (subst (λ (m : TypeNode). SameHead program.annotations Equal (node.Up (type_id 6)) m) only same)
  where
    rest : SameHead program.annotations Equal (node.Up (type_id 6)) (node.Up (type_id 2))
        → Equal (type_id 6) (type_id 2)
    rest (equality.up a b parts) = parts

dear-pays : (n : TypeNode) → Unfolds program.program 2 n
    → SameHead program.annotations Equal (node.PotOut (Written 2) (type_id 7)) n → ⊥
dear-pays n is same =
    let only : n ≡ node.PotOut (Written 1) (type_id 3) =
    Unfolds-unique program.program 2 n _ is (unfolds.constructor 2 _ refl tt)
    in
    none
    (subst (λ (m : TypeNode). SameHead program.annotations Equal (node.PotOut (Written 2) (type_id 7)) m) only same)
  where
    none : SameHead program.annotations Equal (node.PotOut (Written 2) (type_id 7))
        (node.PotOut (Written 1) (type_id 3)) → ⊥
    none (equality.pot_out q r a b pays parts) = omega (arith, pays)

dear-not_cheap : Equal (type_id 8) (type_id 4) → ⊥
dear-not_cheap equal =
    let (n, is, same) =
    equal-unfolded program.program program.annotations (type_id 8) (type_id 4) (node.Up (type_id 6)) equal
    (unfolds.name 8 _ _ _ refl refl (unfolds.constructor 5 _ refl tt))
    in
    let (m, pays, head) =
    equal-unfolded program.program program.annotations (type_id 6) (type_id 2) (node.PotOut (Written 2) (type_id 7))
    (dear-rest n is same) (unfolds.constructor 6 _ refl tt)
    in
    dear-pays m pays head

d_never_fits : (shared : ℕ) → ContractFits program shops (codes "d") (var_id 1, type_id 4) shared → ⊥
d_never_fits shared fits =
    let second : 2 ≡ shared = same_Some 2 shared fits.found in
    let own : Some (type_id 8) ≡ Some fits.alike.own = ap (type_of shops.state.types) second ∙ fits.alike.found in
    let same : fits.alike.own ≡ type_id 8 = sym (same_Some (type_id 8) fits.alike.own own) in
    dear-not_cheap (subst (λ (t : TypeId). Equal t (type_id 4)) same fits.alike.alike.equal)

other_amounts : Bad (exec 1 (codes "visit") [] (codes "d" ∷ [])) (codes "visit")
other_amounts = line.bad_arguments 0 2 visit refl (record { first = refl; there = refl }) (λ shared fits. no fits.names)
  where
    no : {shared : List ℕ} → ContractsFit program shops (codes "d" ∷ []) ((var_id 1, type_id 4) ∷ []) shared → ⊥
    no (line.one {shared = shared} fits others) = d_never_fits shared fits

-- ---- names and gas

-- the name c is taken, though the arguments fit and there is too little gas
name_taken : Resolves program (deposited 3 shops (codes "v") 0)
    (record (create 1 (codes "c") (codes "dear") []) { sender = codes "v" }) (Err (refusal.NameTaken (codes "c")))
name_taken =
    line.name_taken 1 1 dear [] (codes "c") 1 refl (record { first = refl; there = refl })
    (record { values = line.none; names = line.none }) refl refl

-- an account with less than the potential; 6 Dths are 2 units
no_gas : Resolves program (deposited 3 shops (codes "v") 1)
    (record (create 1 (codes "e") (codes "dear") []) { sender = codes "v" }) (Err (refusal.NoGas (codes "v") 3 6))
no_gas =
    line.no_gas 1 1 dear [] refl (record { first = refl; there = refl })
    (record { values = line.none; names = line.none }) refl (omega arith)

-- and one with exactly that
enough_gas : Resolves program (deposited 3 shops (codes "v") 2)
    (record (create 1 (codes "e") (codes "dear") []) { sender = codes "v" })
    (Ok (record (resolved 1 [] [] (Some (codes "e"))) { payer = 1 }))
enough_gas =
    line.starts 1 1 dear [] refl (record { first = refl; there = refl })
    (record { values = line.none; names = line.none }) refl (omega arith)

-- ---- batches

-- a line finds the contracts and the balances as the lines before it left them
abbrev pub new_cheap : Start
new_cheap = create 2 (codes "c") (codes "cheap") (int (pos 5) ∷ [])

abbrev new_dear : Start
new_dear = create 3 (codes "d") (codes "dear") []

pub cheap-starts : Resolves program ten_units new_cheap (Ok cheap_started)
cheap-starts =
    line.starts 0 0 cheap [] refl (record { first = refl; there = refl })
    (record { values = line.one (record { no_list = refl; kind = refl }) line.none; names = line.none }) refl
    (omega arith)

abbrev pub after_cheap : LedgerState
after_cheap = after_start program ten_units cheap_started

dear-starts : Resolves program after_cheap new_dear (Ok dear_started)
dear-starts =
    line.starts 0 1 dear [] refl (record { first = refl; there = refl })
    (record { values = line.none; names = line.none }) refl (omega arith)

both-start : AllStart program ten_units (new_cheap ∷ new_dear ∷ []) (cheap_started ∷ dear_started ∷ [])
both-start =
    batch.line ten_units new_cheap cheap_started _ _ cheap-starts
    (batch.line after_cheap new_dear dear_started _ _ dear-starts (batch.none shops))

-- the name of a contract of the same batch is taken, and the line that refuses is the second one
taken-later : OneRefuses program ten_units (new_cheap ∷ create 3 (codes "c") (codes "dear") [] ∷ []) 3
    (refusal.NameTaken (codes "c"))
taken-later =
    batch.later ten_units new_cheap cheap_started _ 3 _ cheap-starts
    (batch.this after_cheap (create 3 (codes "c") (codes "dear") []) [] _
    (line.name_taken 0 1 dear [] (codes "c") 1 refl (record { first = refl; there = refl })
    (record { values = line.none; names = line.none }) refl refl))

-- the firings of a script are limited as well
last_firing : batch_limit 1000000 19999999 ≡ 1
last_firing = refl

no_firing_left : batch_limit 10 20000000 ≡ 0
no_firing_left = refl
