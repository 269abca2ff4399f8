-- A table of terms with a function is a program.
use Rattle.std.proofs.Common.{◌≡◌, ◌<◌, ◌≤◌, ◌==◌, ◌&&◌, ℕ, zero, suc, Bool, true, false, cond, nat_lt, List, [], ◌∷◌, length, get_or, map, All, Some, slice_get, refl, subst, arith, tests, rules}
use Rattle.std.proofs.lemmas.List.Elements.{All-nil, All-cons}
use Rattle.std.proofs.lemmas.Option.{slice_get-get_or}
use Rattle.std.specs.Prelude.{IsTrue}
use Rattle.nomos_ir.specs.declared.code_node.CodeNode.{CodeNode}
use Rattle.nomos_ir.specs.declared.code_node.CodeNode.TheVariants as code
use Rattle.nomos_ir.specs.declared.ids.TermId.{TermId}
use Rattle.nomos_ir.specs.declared.lists.ProgramLists.{ProgramLists}
use Rattle.nomos_ir.specs.declared.term_node.TermNode.{TermNode}
use Rattle.nomos_ir.specs.declared.term_node.TermNode.TheVariants as node
use Rattle.nomos_ir.specs.CodeParts.{code_next, code_kinds, code_labels}
use Rattle.nomos_ir.specs.Naming.{AllDiffer}
use Rattle.nomos_ir.specs.Parameters.{fn_parameters}
use Rattle.nomos_ir.specs.Order.{count_of}
use Rattle.nomos_ir.specs.Ids.{CodeInRange, AllBelow}
use Rattle.nomos_ir.specs.Kinds.{FnIsShallow, IsShallow}
use Rattle.nomos_ir.specs.Name.{IsReserved, IsShortName, is_word_byte}
use Rattle.nomos_ir.specs.Program.{IsProgram}
use Rattle.nomos_ir.specs.TermParts.{term_parts, term_calls, term_kinds}
use Rattle.nomos_ir.specs.Word.{reserved_word}
use Rattle.nomos_syntax.proofs.WordLemmas.{not_reserved}
use Rattle.nomos_contract_tests.specs.TermTable.{IsTermTable, fits_at, function_with, is_one_before, keeps, number, two_instructions}

-- `f` is not reserved
f-free : ¬ IsReserved (102 ∷ [])
unfolding reserved_word
f-free = not_reserved (102 ∷ []) refl

f-short : IsShortName (102 ∷ [])
f-short = record {
  name = record {
    word = record {
      first = (omega arith, refl);
      each = All-cons (λ byte. IsTrue (is_word_byte byte)) 102 [] refl (All-nil _);
    };
    free = f-free;
  };
  short = omega arith;
}

-- ---- what a node that fits has in it

below : (a place : ℕ) → nat_lt a place ≡ true → a < place
below a place is = search (tests, rules, is)

left-true : (x y : Bool) → (x && y) ≡ true → x ≡ true
left-true true y is = refl
left-true false y is = is

right-true : (x y : Bool) → (x && y) ≡ true → y ≡ true
right-true true y is = is
right-true false y is = absurd cc

one-below : (place a : ℕ) → nat_lt a place ≡ true → AllBelow place (a ∷ [])
one-below place a is = All-cons (λ k. k < place) a [] (below a place is) (All-nil _)

two-below : (place a b : ℕ) → (nat_lt a place && nat_lt b place) ≡ true → AllBelow place (a ∷ b ∷ [])
two-below place a b is =
    All-cons (λ k. k < place) a (b ∷ []) (below a place (left-true _ _ is)) (one-below place b (right-true _ _ is))

three-below : (place a b c : ℕ) → (nat_lt a place && (nat_lt b place && nat_lt c place)) ≡ true
    → AllBelow place (a ∷ b ∷ c ∷ [])
three-below place a b c is =
    All-cons (λ k. k < place) a (b ∷ c ∷ []) (below a place (left-true _ _ is))
    (two-below place b c (right-true _ _ is))

argument-below : (place : ℕ) (values : List TermId) → is_one_before place values ≡ true
    → AllBelow place (map (λ e. e.0) values)
argument-below place [] is = absurd cc
argument-below place (a ∷ []) is = one-below place a.0 is
argument-below place (a ∷ b ∷ others) is = absurd cc

record Fits (place : ℕ) (n : TermNode) : Type 0 where
  parts : AllBelow place (term_parts n)
  calls : AllBelow 1 (term_calls n)
  kinds : All IsShallow (term_kinds n)

plain : (place : ℕ) (n : TermNode) → AllBelow place (term_parts n) → term_calls n ≡ [] → term_kinds n ≡ []
    → Fits place n
plain place n parts no_calls no_kinds =
    record {
      parts = parts;
      calls = rw no_calls (All-nil _);
      kinds = rw no_kinds (All-nil _);
    }

fitting : (place : ℕ) (n : TermNode) → fits_at place n ≡ true → Fits place n
fitting place (node.Number at k) is = plain place (node.Number at k) (All-nil _) refl refl
fitting place (node.Var at v) is = plain place (node.Var at v) (All-nil _) refl refl
fitting place (node.Not at a) is = plain place (node.Not at a) (one-below place a.0 is) refl refl
fitting place (node.Add at a b) is = plain place (node.Add at a b) (two-below place a.0 b.0 is) refl refl
fitting place (node.Sub at a b) is = plain place (node.Sub at a b) (two-below place a.0 b.0 is) refl refl
fitting place (node.Div at a b) is = plain place (node.Div at a b) (two-below place a.0 b.0 is) refl refl
fitting place (node.Rem at a b) is = plain place (node.Rem at a b) (two-below place a.0 b.0 is) refl refl
fitting place (node.Less at a b) is = plain place (node.Less at a b) (two-below place a.0 b.0 is) refl refl
fitting place (node.Cons at a b) is = plain place (node.Cons at a b) (two-below place a.0 b.0 is) refl refl
fitting place (node.If at test a b) is =
    plain place (node.If at test a b) (three-below place test.0 a.0 b.0 is) refl refl
fitting place (node.Match at taken empty head tail full) is =
    plain place (node.Match at taken empty head tail full) (three-below place taken.0 empty.0 full.0 is) refl refl
fitting place (node.Call at f values) is =
    record {
      parts = argument-below place values (right-true _ _ is);
      calls =
          (let first : (f.0 == 0) ≡ true = left-true _ _ is in
          All-cons (λ k. k < 1) f.0 [] (let zero_is : f.0 ≡ 0 = search (tests, rules, first) in omega arith)
          (All-nil _));
      kinds = All-nil _;
    }
fitting place (node.Truth at b) is = absurd cc
fitting place (node.Nil at k) is = absurd cc
fitting place (node.Mul at a b) is = absurd cc
fitting place (node.Equal at a b) is = absurd cc
fitting place (node.And at a b) is = absurd cc
fitting place (node.Or at a b) is = absurd cc

-- ---- the program

code-lower : (body : TermId) (c : ℕ) (n : CodeNode) → slice_get (two_instructions body) c ≡ Some n
    → AllBelow c (code_next n)
code-lower body zero n found =
    let P : CodeNode → Type 0 = λ m. AllBelow 0 (code_next m) in
    let same : code.Close 0 ≡ n = cc found in subst P same (All-nil _)
code-lower body (suc zero) n found =
    let P : CodeNode → Type 0 = λ m. AllBelow 1 (code_next m) in
    let same : keeps body ≡ n = cc found in
    subst P same (All-cons (λ k. k < 1) 0 [] (omega arith) (All-nil _))
code-lower body (suc (suc c)) n found = absurd cc

code-once : (c : ℕ) → count_of c (0 ∷ []) ≤ 1
code-once c = omega (arith, at-most (0 == c))
  where
    at-most : (b : Bool) → cond b 1 0 ≤ 1
    at-most true = omega arith
    at-most false = omega arith

abbrev pub table_program : List TermNode → TermId → ProgramLists
table_program terms body = record {
  defs = [];
  types = [];
  terms = terms;
  code = two_instructions body;
  fns = function_with body ∷ [];
  procs = [];
  labels = [];
}

higher : (n m : ℕ) (numbers : List ℕ) → n ≤ m → AllBelow n numbers → AllBelow m numbers
higher n m numbers less all = λ k d inside. omega (arith, all k d inside)

pub table-is_program : (terms : List TermNode) (body : TermId) → IsTermTable terms → body.0 < length terms
    → IsProgram (table_program terms body)
table-is_program terms body table inside =
    let fit : (k : ℕ) (d : TermNode) → k < length terms → Fits k (get_or terms k d) = λ k d there.
    fitting k (get_or terms k d) (table.each k _ (slice_get-get_or terms k d there)) in
    record {
      ids =
          record {
            defs = All-nil _;
            types = All-nil _;
            terms = λ k d there. record {
              parts = higher k (length terms) (term_parts (get_or terms k d)) (omega arith) (fit k d there).parts;
              calls = (fit k d there).calls;
            };
            code =
                All-cons (CodeInRange (table_program terms body)) (code.Close 0) (keeps body ∷ [])
                (record { next = All-nil _; terms = All-nil _; calls = All-nil _; labels = All-nil _ })
                (All-cons (CodeInRange (table_program terms body)) (keeps body) []
                (record {
                  next = All-cons (λ k. k < 2) 0 [] (omega arith) (All-nil _);
                  terms = All-cons (λ k. k < length terms) body.0 [] inside (All-nil _);
                  calls = All-nil _;
                  labels = All-nil _;
                }) (All-nil _));
            fns = All-cons (λ f. f.body.0 < length terms) (function_with body) [] inside (All-nil _);
            procs = All-nil _;
          };
      parts =
          record {
            types = λ t at found. absurd cc;
            terms = λ e n found. (fitting e n (table.each e n found)).parts;
            code = code-lower body;
          };
      code = code-once;
      types = λ t there. absurd (omega arith);
      kinds =
          record {
            code =
                All-cons (λ n. All IsShallow (code_kinds n)) (code.Close 0) (keeps body ∷ []) (All-nil _)
                (All-cons (λ n. All IsShallow (code_kinds n)) (keeps body) [] (All-nil _) (All-nil _));
            types = All-nil _;
            terms = λ k d there. (fit k d there).kinds;
            fns =
                All-cons FnIsShallow (function_with body) []
                (record {
                  pars = All-cons (λ par. IsShallow par.1) (record { 0 = 0 }, number) [] (omega arith) (All-nil _);
                  gives = omega arith;
                }) (All-nil _);
            procs = All-nil _;
          };
      names =
          record {
            defs = All-nil _;
            fns = All-cons (λ f. IsShortName f.name) (function_with body) [] f-short (All-nil _);
            procs = All-nil _;
            labels = All-nil _;
          };
      spaces =
          record {
            defs = λ i j d before there. absurd (omega arith);
            fns = λ i j d before there. absurd (omega arith);
            procs = λ i j d before there. absurd (omega arith);
            labels = λ i j d before there. absurd (omega arith);
          };
      labels =
          record {
            choices = All-nil _;
            cases =
                All-cons (λ n. AllDiffer (code_labels n)) (code.Close 0) (keeps body ∷ [])
                (λ i j d before there. absurd (omega arith))
                (All-cons (λ n. AllDiffer (code_labels n)) (keeps body) [] (λ i j d before there. absurd (omega arith))
                (All-nil _));
          };
      parameters =
          record {
            fns =
                All-cons (λ f. AllDiffer (fn_parameters f)) (function_with body) []
                (λ i j d before there. absurd (omega arith)) (All-nil _);
            procs = All-nil _;
          };
      payers = All-nil _;
      amounts = All-nil _;
      size = record { code = omega arith; declarations = omega arith };
    }
