-- The small program is one.
use Rattle.std.proofs.Common.{◌≡◌, ◌≢◌, ◌↔◌, IsSome, true, ◌==◌, ◌<◌, ℕ, zero, suc, List, [], ◌∷◌, All, AllPairs, Some, slice_get, codes, refl, subst, lit<, lit≤, arith}
use Rattle.std.specs.Bool.{⊤}
use Rattle.std.specs.Str.{bytes_eq}
use Rattle.std.proofs.lemmas.Slice.Eq.{bytes_eq-Decides}
use Rattle.std.specs.List.{AllByRecursion}
use Rattle.std.proofs.lemmas.List.Elements.{All-cons, All-nil}
use Rattle.std.proofs.lemmas.List.Kept.{AllPairs-cons}
use Rattle.std.proofs.lemmas.List.Sums.{count_by-le-length}
use Rattle.nomos_ir.specs.declared.ids.VarId.{VarId}
use Rattle.nomos_ir.specs.declared.kind.Kind.{Kind}
use Rattle.nomos_ir.specs.declared.kind.Base.TheVariants as base
use Rattle.nomos_ir.specs.declared.mode.Mode.TheVariants as mode
use Rattle.nomos_ir.specs.declared.type_node.TypeAt.{TypeAt}
use Rattle.nomos_ir.specs.declared.term_node.TermNode.{TermNode}
use Rattle.nomos_ir.specs.declared.code_node.CodeNode.{CodeNode}
use Rattle.nomos_ir.specs.TypeParts.{type_parts, type_labels, type_kinds}
use Rattle.nomos_ir.specs.TermParts.{term_parts, term_kinds}
use Rattle.nomos_ir.specs.CodeParts.{code_next, code_labels, code_kinds}
use Rattle.nomos_ir.specs.Parameters.{fn_parameters, proc_parameters}
use Rattle.nomos_ir.specs.Name.{IsShortName}
use Rattle.nomos_ir.specs.Ids.{AllBelow, TypeInRange, TermInRange, CodeInRange, ProcInRange, IdsInRange}
use Rattle.nomos_ir.specs.Order.{count_of, type_places, code_places}
use Rattle.nomos_ir.specs.Kinds.{IsShallow, FnIsShallow, KindsAreShallow}
use Rattle.nomos_ir.specs.Naming.{AllDiffer, NamesAreShort, NamesDiffer}
use Rattle.nomos_ir.specs.Amounts.{IsAmount, amounts_of}
use Rattle.nomos_ir.specs.Program.{IsProgram}
use Rattle.nomos_ir.specs.Example.{example}
use Rattle.nomos_ir.proofs.NameLemmas.{short_name}

-- what holds of each element one by one holds of all
each : {X : Type 0} (P : X → Type 0) (xs : List X) → AllByRecursion P xs → All P xs
each P [] _ = All-nil P
each P (x ∷ xs) (first, others) = All-cons P x xs first (each P xs others)

-- each element is related to all later ones
abbrev RelatesLater : {X : Type 0} → (X → X → Type 0) → List X → Type 0
RelatesLater R [] = ⊤
RelatesLater R (x ∷ xs) = AllByRecursion (R x) xs × RelatesLater R xs

-- what relates each to the later ones relates all pairs
pairs : {X : Type 0} (R : X → X → Type 0) (xs : List X) → RelatesLater R xs → AllPairs R xs
pairs R [] _ = λ i j d before inside. absurd (omega arith)
pairs R (x ∷ xs) (first, others) = AllPairs-cons R x xs (each (R x) xs first) (pairs R xs others)

-- the ids have their places
ids : IdsInRange example
ids =
    record {
      defs = each (λ d. d.body.0 < 4) example.defs (lit< tt, (lit< tt, tt));
      types =
          each
          (λ t. TypeInRange example t.node)
          example.types (
            record { parts = All-nil _; names = All-nil _; labels = All-nil _ },
            (
              record { parts = All-nil _; names = each (λ k. k < 2) (0 ∷ []) (lit< tt, tt); labels = All-nil _ },
              (
                record {
                  parts = each (λ k. k < 4) (1 ∷ []) (lit< tt, tt);
                  names = All-nil _;
                  labels =
                      each (λ k. k < 1) (0 ∷ []) (lit< tt, tt);
                },
                (
                  record { parts = All-nil _; names = each (λ k. k < 2) (0 ∷ []) (lit< tt, tt); labels = All-nil _ },
                  tt,
                ),
              ),
            ),
          );
      terms = each (TermInRange example) example.terms (record { parts = All-nil _; calls = All-nil _ }, tt);
      code =
          each
          (CodeInRange example)
          example.code
          (record { next = All-nil _; terms = All-nil _; calls = All-nil _; labels = All-nil _ }, tt);
      fns = each (λ f. f.body.0 < 1) example.fns (lit< tt, tt);
      procs =
          each
          (ProcInRange example)
          example.procs
          (record { channels = All-nil _; offers = lit< tt; first = lit< tt }, tt);
    }

-- equal options have equal values
same_value : {X : Type 0} {x y : X} → Some x ≡ Some y → x ≡ y
same_value same = cc

-- the parts of its type nodes are lower
lower_types : (t : ℕ) (at : TypeAt) → slice_get example.types t ≡ Some at → AllBelow t (type_parts at.node)
lower_types zero at found =
    let P : TypeAt → Type 0 = λ a. AllBelow 0 (type_parts a.node) in subst P (same_value found) (All-nil _)
lower_types (suc zero) at found =
    let P : TypeAt → Type 0 = λ a. AllBelow 1 (type_parts a.node) in subst P (same_value found) (All-nil _)
lower_types (suc (suc zero)) at found =
    let P : TypeAt → Type 0 = λ a. AllBelow 2 (type_parts a.node) in
    subst P (same_value found) (each (λ k. k < 2) (1 ∷ []) (lit< tt, tt))
lower_types (suc (suc (suc zero))) at found =
    let P : TypeAt → Type 0 = λ a. AllBelow 3 (type_parts a.node) in subst P (same_value found) (All-nil _)
lower_types (suc (suc (suc (suc t)))) at found = absurd cc

-- its term has no parts
lower_terms : (e : ℕ) (node : TermNode) → slice_get example.terms e ≡ Some node → AllBelow e (term_parts node)
lower_terms zero node found =
    let P : TermNode → Type 0 = λ n. AllBelow 0 (term_parts n) in subst P (same_value found) (All-nil _)
lower_terms (suc e) node found = absurd cc

-- its code does not go on
lower_code : (c : ℕ) (node : CodeNode) → slice_get example.code c ≡ Some node → AllBelow c (code_next node)
lower_code zero node found =
    let P : CodeNode → Type 0 = λ n. AllBelow 0 (code_next n) in subst P (same_value found) (All-nil _)
lower_code (suc c) node found = absurd cc

-- each type stands once
types_once : (t : ℕ) → t < 4 → count_of t (type_places example) ≡ 1
types_once zero _ = refl
types_once (suc zero) _ = refl
types_once (suc (suc zero)) _ = refl
types_once (suc (suc (suc zero))) _ = refl
types_once (suc (suc (suc (suc t)))) inside = absurd (omega arith)

-- the parameter of its function
abbrev parameter : VarId × Kind
parameter = (record { 0 = 0 }, record { lists = 0; base = base.Int })

-- all kinds are numbers
kinds : KindsAreShallow example
kinds =
    record {
      types =
          each
          (λ t. All IsShallow (type_kinds t.node))
          example.types
          (All-nil _, (All-nil _, (All-nil _, (All-nil _, tt))));
      terms = each (λ node. All IsShallow (term_kinds node)) example.terms (All-nil _, tt);
      fns =
          each
          FnIsShallow
          example.fns
          (record { pars = each (λ par. IsShallow par.1) (parameter ∷ []) (lit≤ tt, tt); gives = lit≤ tt }, tt);
      code = each (λ node. All IsShallow (code_kinds node)) example.code (All-nil _, tt);
      procs = each (λ d. All (λ par. IsShallow par.kind) d.values) example.procs (All-nil _, tt);
    }

-- the names are names
names : NamesAreShort example
names =
    record {
      defs =
          each
          (λ d. IsShortName d.name)
          example.defs (
            short_name (codes "a") (lit< tt, refl) refl refl (lit≤ tt),
            (short_name (codes "b") (lit< tt, refl) refl refl (lit≤ tt), tt),
          );
      fns =
          each (λ f. IsShortName f.name) example.fns (short_name (codes "f") (lit< tt, refl) refl refl (lit≤ tt), tt);
      procs =
          each (λ d. IsShortName d.name) example.procs (short_name (codes "p") (lit< tt, refl) refl refl (lit≤ tt), tt);
      labels = each IsShortName example.labels (short_name (codes "ok") (lit< tt, refl) refl refl (lit≤ tt), tt);
    }

-- its two definitions have two names
different : codes "a" ≢ codes "b"
different same =
    let clash : bytes_eq (codes "a") (codes "b") ≡ true = (bytes_eq-Decides (codes "a") (codes "b")).1 same in cc

-- the names of each space differ
spaces : NamesDiffer example
spaces =
    record {
      defs = pairs (λ d e. d.name ≢ e.name) example.defs ((different, tt), (tt, tt));
      fns = pairs (λ f g. f.name ≢ g.name) example.fns (tt, tt);
      procs = pairs (λ d e. d.name ≢ e.name) example.procs (tt, tt);
      labels = pairs (λ k l. k ≢ l) example.labels (tt, tt);
    }

-- no list of numbers with at most one number has one twice
none_twice : AllDiffer []
none_twice = pairs (λ k l. k ≢ l) [] tt

-- the same of one number
one_once : (n : ℕ) → AllDiffer (n ∷ [])
one_once n = pairs (λ k l. k ≢ l) (n ∷ []) (tt, tt)

-- the small program is a program
pub example-is_program : IsProgram example
example-is_program =
    record {
      ids = ids;
      parts = record { types = lower_types; terms = lower_terms; code = lower_code };
      code = λ c. count_by-le-length (λ k. k == c) (code_places example);
      types = types_once;
      kinds = kinds;
      names = names;
      spaces = spaces;
      labels =
          record {
            choices =
                each
                (λ t. AllDiffer (type_labels t.node))
                example.types
                (none_twice, (none_twice, (one_once 0, (none_twice, tt))));
            cases = each (λ node. AllDiffer (code_labels node)) example.code (none_twice, tt);
          };
      parameters =
          record {
            fns = each (λ f. AllDiffer (fn_parameters f)) example.fns (one_once 0, tt);
            procs = each (λ d. AllDiffer (proc_parameters d)) example.procs (none_twice, tt);
          };
      payers = each (λ d. IsSome d.me ↔ (d.mode ≡ mode.T)) example.procs ((λ there. cc, λ same. cc), tt);
      amounts = each IsAmount (amounts_of example) ((lit≤ tt, lit≤ tt), tt);
      size = record { code = lit≤ tt; declarations = lit≤ tt };
    }
