-- What it is for all ids of what was built so far to be in range, and that they stay so when nodes are put.
use Rattle.std.proofs.Common.{◌≡◌, ℕ, ◌+◌, ◌<◌, ◌≤◌, Bool, true, false, List, [], ◌∷◌, ◌++◌, length, get_or, All, refl, arith}
use Rattle.std.specs.Prelude.{if◌then◌else◌}
use Rattle.std.proofs.lemmas.List.Elements.{All-nil, All-cons, All-push}
use Rattle.nomos_elaborate.specs.Built.{Built, nothing_built, with_label, with_variable, label_id, put_type, put_term, quantity_amount, amount_of}
use Rattle.nomos_elaborate.specs.CostModel.{is_charged, put_node, put_work, put_code}
use Rattle.nomos_ir.specs.Instruction.{code_offset}
use Rattle.nomos_elaborate.specs.Names.{Names, is_among, seen}
use Rattle.nomos_elaborate.specs.declared.spaces.Spaces.{Spaces}
use Rattle.nomos_elaborate.proofs.NumberLaws.{number_of-lt, is_among-seen}
use Rattle.nomos_ir.specs.CodeParts.{code_next, code_terms, code_calls, code_labels}
use Rattle.nomos_ir.specs.Ids.{AllBelow}
use Rattle.nomos_ir.specs.TermParts.{term_parts, term_calls}
use Rattle.nomos_ir.specs.TypeParts.{type_parts, type_names, type_labels}
use Rattle.nomos_ir.specs.declared.amount.Amount.TheVariants as amount
use Rattle.nomos_ir.specs.declared.code_node.CodeNode.{CodeNode}
use Rattle.nomos_ir.specs.declared.code_node.CodeNode.TheVariants as node
use Rattle.nomos_ir.specs.declared.ids.CodeId.{CodeId}
use Rattle.nomos_ir.specs.declared.ids.TermId.{TermId}
use Rattle.nomos_ir.specs.declared.ids.TypeId.{TypeId}
use Rattle.nomos_ir.specs.declared.term_node.TermNode.{TermNode}
use Rattle.nomos_ir.specs.declared.type_node.TypeAt.{TypeAt}
use Rattle.nomos_ir.specs.declared.type_node.TypeNode.{TypeNode}
use Rattle.nomos_surface.specs.declared.name_at.NameAt.{NameAt}
use Rattle.nomos_surface.specs.declared.potential.Potential.{Potential}
use Rattle.nomos_surface.specs.declared.potential.Quantity.{Quantity}
use Rattle.nomos_surface.specs.declared.potential.Quantity.TheVariants as quantity
use Rattle.nomos_surface.specs.declared.surface.CostModel.{CostModel}

-- a type node beside d definitions, t type nodes and l labels
pub record TypeFits (d t l : ℕ) (node : TypeNode) : Type 0 where
  pub parts : AllBelow t (type_parts node)
  pub names : AllBelow d (type_names node)
  pub labels : AllBelow l (type_labels node)

-- a term node beside f functions and e term nodes
pub record TermFits (f e : ℕ) (node : TermNode) : Type 0 where
  pub parts : AllBelow e (term_parts node)
  pub calls : AllBelow f (term_calls node)

-- a code node beside p processes, c code nodes, e term nodes and l labels
pub record CodeFits (p c e l : ℕ) (node : CodeNode) : Type 0 where
  pub next : AllBelow c (code_next node)
  pub terms : AllBelow e (code_terms node)
  pub calls : AllBelow p (code_calls node)
  pub labels : AllBelow l (code_labels node)

-- What was built has no id out of range, beside these declared names.
pub record InRange (all : Spaces) (s : Built) : Type 0 where
  pub types : All (λ at. TypeFits (length all.types) (length s.types) (length s.labels) at.node) s.types
  pub terms : All (TermFits (length all.functions) (length s.terms)) s.terms
  pub code : All (CodeFits (length all.processes) (length s.code) (length s.terms) (length s.labels)) s.code

-- no list is shorter
pub record Longer (s t : Built) : Type 0 where
  pub types : length s.types ≤ length t.types
  pub terms : length s.terms ≤ length t.terms
  pub code : length s.code ≤ length t.code
  pub labels : length s.labels ≤ length t.labels

pub Longer-same : (s : Built) → Longer s s
Longer-same s = record { types = omega arith; terms = omega arith; code = omega arith; labels = omega arith }

pub Longer-then : (s t u : Built) → Longer s t → Longer t u → Longer s u
Longer-then s t u f g = record { types = omega arith; terms = omega arith; code = omega arith; labels = omega arith }

-- numbers below a number are below a greater one
pub AllBelow-le : (n m : ℕ) (xs : List ℕ) → n ≤ m → AllBelow n xs → AllBelow m xs
AllBelow-le n m xs le below = λ k d within. let b = below k d within in omega arith

pub none_below : (n : ℕ) → AllBelow n []
none_below n = All-nil (λ k. k < n)

pub one_below : (n a : ℕ) → a < n → AllBelow n (a ∷ [])
one_below n a h = All-cons (λ k. k < n) a [] h (none_below n)

pub two_below : (n a b : ℕ) → a < n → b < n → AllBelow n (a ∷ b ∷ [])
two_below n a b h i = All-cons (λ k. k < n) a (b ∷ []) h (one_below n b i)

pub three_below : (n a b c : ℕ) → a < n → b < n → c < n → AllBelow n (a ∷ b ∷ c ∷ [])
three_below n a b c h i j = All-cons (λ k. k < n) a (b ∷ c ∷ []) h (two_below n b c i j)

-- longer lists change nothing
TypeFits-more : (d t u l m : ℕ) → t ≤ u → l ≤ m → (node : TypeNode) → TypeFits d t l node → TypeFits d u m node
TypeFits-more d t u l m types labels node h = record {
  parts = AllBelow-le t u (type_parts node) types h.parts;
  names = h.names;
  labels = AllBelow-le l m (type_labels node) labels h.labels;
}

TermFits-more : (f e g : ℕ) → e ≤ g → (node : TermNode) → TermFits f e node → TermFits f g node
TermFits-more f e g terms node h = record { parts = AllBelow-le e g (term_parts node) terms h.parts; calls = h.calls }

pub CodeFits-more : (p c d e f l m : ℕ) → c ≤ d → e ≤ f → l ≤ m → (node : CodeNode) → CodeFits p c e l node
    → CodeFits p d f m node
CodeFits-more p c d e f l m codes terms labels node h = record {
  next = AllBelow-le c d (code_next node) codes h.next;
  terms = AllBelow-le e f (code_terms node) terms h.terms;
  calls = h.calls;
  labels = AllBelow-le l m (code_labels node) labels h.labels;
}

-- neither do they for many nodes
types_more : (d t u l m : ℕ) → t ≤ u → l ≤ m → (nodes : List TypeAt) → All (λ at. TypeFits d t l at.node) nodes
    → All (λ at. TypeFits d u m at.node) nodes
types_more d t u l m types labels nodes h = λ k x within.
    TypeFits-more d t u l m types labels (get_or nodes k x).node (h k x within)

terms_more : (f e g : ℕ) → e ≤ g → (nodes : List TermNode) → All (TermFits f e) nodes → All (TermFits f g) nodes
terms_more f e g terms nodes h = λ k x within. TermFits-more f e g terms (get_or nodes k x) (h k x within)

code_more : (p c d e f l m : ℕ) → c ≤ d → e ≤ f → l ≤ m → (nodes : List CodeNode) → All (CodeFits p c e l) nodes
    → All (CodeFits p d f m) nodes
code_more p c d e f l m codes terms labels nodes h = λ k x within.
    CodeFits-more p c d e f l m codes terms labels (get_or nodes k x) (h k x within)

-- What was made of something that was in range is in range, and no list is shorter.
pub record Made (all : Spaces) (s t : Built) : Type 0 where
  pub range : InRange all t
  pub longer : Longer s t

-- a type, a term, a code: its node was made
pub record TypeMade (all : Spaces) (s : Built) (built : Built × TypeId) : Type 0 where
  pub made : Made all s built.0
  pub below : built.1.0 < length built.0.types

pub record TermMade (all : Spaces) (s : Built) (built : Built × TermId) : Type 0 where
  pub made : Made all s built.0
  pub below : built.1.0 < length built.0.terms

pub record CodeMade (all : Spaces) (s : Built) (built : Built × CodeId) : Type 0 where
  pub made : Made all s built.0
  pub below : built.1.0 < length built.0.code

pub one_more : {A : Type 0} (xs : List A) (x : A) → length (xs ++ x ∷ []) ≡ length xs + 1
one_more [] x = refl
one_more (y ∷ xs) x = let h = one_more xs x in omega arith

-- as many labels as before, or one more
seen_longer : (names : Names) (n : List ℕ) → length names ≤ length (seen names n)
seen_longer names n = by (is_among names n)
  where
    by : (b : Bool) → length names ≤ length (if b then names else names ++ n ∷ [])
    by true = omega arith
    by false = let h = one_more names n in omega arith

pub InRange-nothing : (all : Spaces) → InRange all nothing_built
InRange-nothing all = record {
  types = All-nil (λ at. TypeFits (length all.types) 0 0 at.node);
  terms = All-nil (TermFits (length all.functions) 0);
  code = All-nil (CodeFits (length all.processes) 0 0 0);
}

module _ (all : Spaces) where
  -- one after the other
  pub Made-then : (s t u : Built) → Made all s t → Made all t u → Made all s u
  Made-then s t u f g = record { range = g.range; longer = Longer-then s t u f.longer g.longer }

  pub Made-same : (s : Built) → InRange all s → Made all s s
  Made-same s h = record { range = h; longer = Longer-same s }

  -- variables and stars are in no list
  pub aside_made : (s : Built) (variables : Names) (stars : ℕ) → InRange all s
      → Made all s (record s { variables = variables; stars = stars })
  aside_made s variables stars h = record {
    range = record { types = h.types; terms = h.terms; code = h.code };
    longer = record { types = omega arith; terms = omega arith; code = omega arith; labels = omega arith };
  }

  pub variable_made : (s : Built) (v : NameAt) → InRange all s → Made all s (with_variable s v)
  variable_made s v h = aside_made s (seen s.variables v.name) s.stars h

  pub amount_made : (s : Built) (q : Potential) → InRange all s → Made all s (amount_of s q).0
  amount_made s q h = by q.quantity
    where
      by : (q : Quantity) → Made all s (quantity_amount s q).0
      by (quantity.Number units) = Made-same s h
      by quantity.Star = aside_made s s.variables (s.stars + 1) h

  pub label_made : (s : Built) (l : NameAt) → InRange all s → Made all s (with_label s l)
  label_made s l h =
      let more = seen_longer s.labels l.name in
      let m = length (seen s.labels l.name) in
      let t = length s.types in
      let e = length s.terms in
      let c = length s.code in
      record {
        range = record {
          types = types_more (length all.types) t t (length s.labels) m (omega arith) more s.types h.types;
          terms = h.terms;
          code =
              code_more (length all.processes) c c e e (length s.labels) m (omega arith) (omega arith) more s.code
              h.code;
        };
        longer = record { types = omega arith; terms = omega arith; code = omega arith; labels = more };
      }

  -- a label that was seen
  pub label_below : (s : Built) (l : NameAt) → (label_id (with_label s l) l).0 < length (with_label s l).labels
  label_below s l = number_of-lt (seen s.labels l.name) l.name (is_among-seen s.labels l.name)

  -- a type node whose parts were made
  pub type_put : (s t : Built) (node : TypeNode) (at : ℕ) → Made all s t
      → TypeFits (length all.types) (length t.types) (length t.labels) node → TypeMade all s (put_type t node at)
  type_put s t node at h fits =
      let new : TypeAt = record { node = node; at = at } in
      let d = length all.types in
      let l = length t.labels in
      let u = length (t.types ++ new ∷ []) in
      let one = one_more t.types new in
      let more : length t.types ≤ u = omega arith in
      let before : length s.types ≤ length t.types = h.longer.types in
      record {
        made = record {
          range = record {
            types =
                All-push (λ at. TypeFits d u l at.node) t.types new
                (types_more d (length t.types) u l l more (omega arith) t.types h.range.types)
                (TypeFits-more d (length t.types) u l l more (omega arith) node fits);
            terms = h.range.terms;
            code = h.range.code;
          };
          longer = record {
            types = omega arith;
            terms = h.longer.terms;
            code = h.longer.code;
            labels = h.longer.labels;
          };
        };
        below = omega arith;
      }

  -- a term node
  pub term_put : (s t : Built) (node : TermNode) → Made all s t
      → TermFits (length all.functions) (length t.terms) node → TermMade all s (put_term t node)
  term_put s t node h fits =
      let f = length all.functions in
      let c = length t.code in
      let l = length t.labels in
      let u = length (t.terms ++ node ∷ []) in
      let one = one_more t.terms node in
      let more : length t.terms ≤ u = omega arith in
      let before : length s.terms ≤ length t.terms = h.longer.terms in
      record {
        made = record {
          range = record {
            types = h.range.types;
            terms =
                All-push (TermFits f u) t.terms node (terms_more f (length t.terms) u more t.terms h.range.terms)
                (TermFits-more f (length t.terms) u more node fits);
            code =
                code_more (length all.processes) c c (length t.terms) u l l (omega arith) more (omega arith) t.code
                h.range.code;
          };
          longer = record {
            types = h.longer.types;
            terms = omega arith;
            code = h.longer.code;
            labels = h.longer.labels;
          };
        };
        below = omega arith;
      }

  -- a code node
  node_put : (s t : Built) (n : CodeNode) → Made all s t
      → CodeFits (length all.processes) (length t.code) (length t.terms) (length t.labels) n
      → CodeMade all s (put_node t n)
  node_put s t n h fits =
      let p = length all.processes in
      let e = length t.terms in
      let l = length t.labels in
      let u = length (t.code ++ n ∷ []) in
      let one = one_more t.code n in
      let more : length t.code ≤ u = omega arith in
      let before : length s.code ≤ length t.code = h.longer.code in
      record {
        made = record {
          range = record {
            types = h.range.types;
            terms = h.range.terms;
            code =
                All-push (CodeFits p u e l) t.code n
                (code_more p (length t.code) u e e l l more (omega arith) (omega arith) t.code h.range.code)
                (CodeFits-more p (length t.code) u e e l l more (omega arith) (omega arith) n fits);
          };
          longer = record {
            types = h.longer.types;
            terms = h.longer.terms;
            code = omega arith;
            labels = h.longer.labels;
          };
        };
        below = omega arith;
      }

  -- and `work` before it
  work_put : (s : Built) (built : Built × CodeId) (at : ℕ) → CodeMade all s built → CodeMade all s (put_work built at)
  work_put s built at h =
      node_put s built.0 (node.Work at (amount.Written 1) built.1) h.made
      (record {
        next = one_below _ built.1.0 h.below;
        terms = none_below _;
        calls = none_below _;
        labels = none_below _;
      })

  pub code_put : (model : CostModel) (s t : Built) (n : CodeNode) → Made all s t
      → CodeFits (length all.processes) (length t.code) (length t.terms) (length t.labels) n
      → CodeMade all s (put_code model t n)
  code_put model s t n h fits = by (is_charged model n)
    where
      by : (b : Bool) → CodeMade all s (if b then put_work (put_node t n) (code_offset n) else put_node t n)
      by true = work_put s (put_node t n) (code_offset n) (node_put s t n h fits)
      by false = node_put s t n h fits
