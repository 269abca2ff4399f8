-- What is made of a part of a tree: no more nodes and stars than count in it, and only small amounts, shallow kinds and
-- short labels where the part is within the limits.
use Rattle.std.proofs.Common.{◌≡◌, ℕ, ◌+◌, ◌≤◌, Bool, true, false, List, [], ◌∷◌, ◌++◌, length, All, sym, subst, arith}
use Rattle.std.specs.Prelude.{if◌then◌else◌}
use Rattle.std.proofs.lemmas.List.{length_push}
use Rattle.std.proofs.lemmas.List.Elements.{All-nil, All-cons, All-push}
use Rattle.nomos_elaborate.specs.Built.{Built, with_label, with_variable, put_type, put_term, quantity_amount, amount_of}
use Rattle.nomos_elaborate.specs.CostModel.{put_code, put_node, put_work, is_charged}
use Rattle.nomos_ir.specs.Instruction.{code_offset}
use Rattle.nomos_elaborate.specs.Names.{Names, is_among, seen}
use Rattle.nomos_grammar.specs.Offence.{star_limit}
use Rattle.nomos_ir.specs.Amounts.{IsAmount}
use Rattle.nomos_ir.specs.CodeParts.{code_amounts, code_kinds}
use Rattle.nomos_ir.specs.Kinds.{IsShallow}
use Rattle.nomos_ir.specs.Name.{IsShortName}
use Rattle.nomos_ir.specs.TermParts.{term_kinds}
use Rattle.nomos_ir.specs.TypeParts.{type_amounts, type_kinds}
use Rattle.nomos_ir.specs.declared.amount.Amount.TheVariants as amount
use Rattle.nomos_ir.specs.declared.code_node.CodeNode.{CodeNode}
use Rattle.nomos_ir.specs.declared.code_node.CodeNode.TheVariants as form
use Rattle.nomos_ir.specs.declared.ids.CodeId.{CodeId}
use Rattle.nomos_ir.specs.declared.term_node.TermNode.{TermNode}
use Rattle.nomos_ir.specs.declared.type_node.TypeAt.{TypeAt}
use Rattle.nomos_ir.specs.declared.type_node.TypeNode.{TypeNode}
use Rattle.nomos_surface.specs.TreeBounds.{KeepsName, KeepsQuantity, KeepsPotential}
use Rattle.nomos_surface.specs.Counts.{Count, nothing, ◌⊕◌, in_quantity, in_potential}
use Rattle.nomos_surface.specs.declared.name_at.NameAt.{NameAt}
use Rattle.nomos_surface.specs.declared.potential.Potential.{Potential}
use Rattle.nomos_surface.specs.declared.potential.Quantity.{Quantity}
use Rattle.nomos_surface.specs.declared.potential.Quantity.TheVariants as quantity
use Rattle.nomos_surface.specs.declared.surface.CostModel.{CostModel}

-- the amount and the kind of a node are within the limits
pub record TypeKeeps (n : TypeNode) : Type 0 where
  pub kinds : All IsShallow (type_kinds n)
  pub amounts : All IsAmount (type_amounts n)

abbrev pub TermKeeps : TermNode → Type 0
TermKeeps n = All IsShallow (term_kinds n)

pub record CodeKeeps (n : CodeNode) : Type 0 where
  pub kinds : All IsShallow (code_kinds n)
  pub amounts : All IsAmount (code_amounts n)

-- and so are those of all nodes, and the labels
pub record BuiltKeeps (s : Built) : Type 0 where
  pub types : All (λ t. TypeKeeps t.node) s.types
  pub terms : All TermKeeps s.terms
  pub code : All CodeKeeps s.code
  pub labels : All IsShortName s.labels

-- the type and term nodes so far
abbrev pub size : Built → ℕ
size s = length s.types + length s.terms

-- from one state to the other no more was made than what counts, and nothing beyond the limits where these are kept
pub record Makes (Kept : Type 0) (s : Built) (c : Count) (t : Built) : Type 0 where
  pub nodes : size t ≤ size s + c.nodes
  pub code : length t.code ≤ length s.code + (c.nodes + c.nodes)
  pub stars : t.stars ≤ s.stars + c.stars
  pub more : s.stars ≤ t.stars
  pub keeps : Kept → t.stars ≤ star_limit → BuiltKeeps s → BuiltKeeps t

-- nothing was made
pub makes-nothing : (K : Type 0) (s : Built) → Makes K s nothing s
makes-nothing K s = record {
  nodes = omega arith;
  code = omega arith;
  stars = omega arith;
  more = omega arith;
  keeps = λ k few h. h;
}

-- one part was made, and then the other
pub makes-both : {K L : Type 0} {s t u : Built} {c d : Count} → Makes K s c t → Makes L t d u
    → Makes (K × L) s (c ⊕ d) u
makes-both a b = record {
  nodes = omega arith;
  code = omega arith;
  stars = omega arith;
  more = omega arith;
  keeps = λ k few h. b.keeps k.1 few (a.keeps k.0 (omega arith) h);
}

-- what is kept in more than the part is kept in the part
pub makes-under : {K J : Type 0} {s t : Built} {c : Count} → (J → K) → Makes K s c t → Makes J s c t
makes-under f m = record {
  nodes = m.nodes;
  code = m.code;
  stars = m.stars;
  more = m.more;
  keeps = λ k few h. m.keeps (f k) few h;
}

-- no more was made than counts in more
pub makes-within : {K : Type 0} {s t : Built} {c d : Count} → c.nodes ≤ d.nodes → c.stars ≤ d.stars → Makes K s c t
    → Makes K s d t
makes-within n q m = record {
  nodes = omega arith;
  code = omega arith;
  stars = omega arith;
  more = m.more;
  keeps = m.keeps;
}

-- a type node behind its parts
pub makes-type : {K : Type 0} {s t : Built} {c d : Count} → c.nodes + 1 ≤ d.nodes → c.stars ≤ d.stars → Makes K s c t
    → (n : TypeNode) (at : ℕ) → (K → t.stars ≤ star_limit → TypeKeeps n) → Makes K s d (put_type t n at).0
makes-type {K} {s} {t} {c} {d} more_nodes more_stars m n at holds =
    let e = length_push t.types (record { node = n; at = at }) in
    record {
      nodes = omega arith;
      code = omega arith;
      stars = omega arith;
      more = m.more;
      keeps = λ k few h.
          let g = m.keeps k few h in
          record {
            types =
                All-push (λ (x : TypeAt). TypeKeeps x.node) t.types (record { node = n; at = at }) g.types
                (holds k few);
            terms = g.terms;
            code = g.code;
            labels = g.labels;
          };
    }

-- a term node behind its parts
pub makes-term : {K : Type 0} {s t : Built} {c d : Count} → c.nodes + 1 ≤ d.nodes → c.stars ≤ d.stars → Makes K s c t
    → (n : TermNode) → (K → TermKeeps n) → Makes K s d (put_term t n).0
makes-term {K} {s} {t} {c} {d} more_nodes more_stars m n holds =
    let e = length_push t.terms n in
    record {
      nodes = omega arith;
      code = omega arith;
      stars = omega arith;
      more = m.more;
      keeps = λ k few h.
          let g = m.keeps k few h in
          record {
            types = g.types;
            terms = All-push TermKeeps t.terms n g.terms (holds k);
            code = g.code;
            labels = g.labels;
          };
    }

-- `work {1}` is within the limits
work-keeps : (at : ℕ) (next : CodeId) → CodeKeeps (form.Work at (amount.Written 1) next)
work-keeps at next = record {
  kinds = All-nil IsShallow;
  amounts = All-cons IsAmount (amount.Written 1) [] (omega arith) (All-nil IsAmount);
}

-- a code node behind its parts, and the `work` before it
pub makes-code : {K : Type 0} {s t : Built} {c d : Count} (model : CostModel) → c.nodes + 1 ≤ d.nodes
    → c.stars ≤ d.stars → Makes K s c t → (n : CodeNode) → (K → t.stars ≤ star_limit → CodeKeeps n)
    → Makes K s d (put_code model t n).0
makes-code {K} {s} {t} {c} {d} model more_nodes more_stars m n holds = by (is_charged model n)
  where
    one : length (t.code ++ n ∷ []) ≡ length t.code + 1
    one = length_push t.code n

    charge : CodeNode
    charge = form.Work (code_offset n) (amount.Written 1) (put_node t n).1

    two : length ((t.code ++ n ∷ []) ++ charge ∷ []) ≡ length (t.code ++ n ∷ []) + 1
    two = length_push (t.code ++ n ∷ []) charge

    with_node : K → t.stars ≤ star_limit → BuiltKeeps s → All CodeKeeps (t.code ++ n ∷ [])
    with_node k few h = All-push CodeKeeps t.code n (m.keeps k few h).code (holds k few)

    by : (b : Bool) → Makes K s d (if b then put_work (put_node t n) (code_offset n) else put_node t n).0
    by true = record {
      nodes = omega arith;
      code = omega (arith, one, two);
      stars = omega arith;
      more = m.more;
      keeps = λ k few h.
          let g = m.keeps k few h in
          record {
            types = g.types;
            terms = g.terms;
            code =
                All-push CodeKeeps (t.code ++ n ∷ []) charge (with_node k few h)
                (work-keeps (code_offset n) (put_node t n).1);
            labels = g.labels;
          };
    }
    by false = record {
      nodes = omega arith;
      code = omega (arith, one);
      stars = omega arith;
      more = m.more;
      keeps = λ k few h.
          let g = m.keeps k few h in
          record { types = g.types; terms = g.terms; code = with_node k few h; labels = g.labels };
    }

-- names that were seen
all-seen : (P : List ℕ → Type 0) (names : Names) (n : List ℕ) → All P names → P n → All P (seen names n)
all-seen P names n each here = by (is_among names n)
  where
    by : (b : Bool) → All P (if b then names else names ++ n ∷ [])
    by true = each
    by false = All-push P names n each here

pub makes-label : (s : Built) (l : NameAt) → Makes (KeepsName l) s nothing (with_label s l)
makes-label s l = record {
  nodes = omega arith;
  code = omega arith;
  stars = omega arith;
  more = omega arith;
  keeps = λ k few h. record {
    types = h.types;
    terms = h.terms;
    code = h.code;
    labels = all-seen IsShortName s.labels l.name h.labels k;
  };
}

-- variables are in no node's text
pub makes-names : (K : Type 0) (s : Built) (names : Names) → Makes K s nothing (record s { variables = names })
makes-names K s names = record {
  nodes = omega arith;
  code = omega arith;
  stars = omega arith;
  more = omega arith;
  keeps = λ k few h. record { types = h.types; terms = h.terms; code = h.code; labels = h.labels };
}

pub makes-variable : (K : Type 0) (s : Built) (v : NameAt) → Makes K s nothing (with_variable s v)
makes-variable K s v = makes-names K s (seen s.variables v.name)

-- an amount
makes-quantity : (s : Built) (q : Quantity) → Makes (KeepsQuantity q) s (in_quantity q) (quantity_amount s q).0
makes-quantity s (quantity.Number units) = makes-nothing _ s
makes-quantity s quantity.Star = record {
  nodes = omega arith;
  code = omega arith;
  stars = omega arith;
  more = omega arith;
  keeps = λ k few h. record { types = h.types; terms = h.terms; code = h.code; labels = h.labels };
}

pub makes-amount : (s : Built) (q : Potential) → Makes (KeepsPotential q) s (in_potential q) (amount_of s q).0
makes-amount s q = makes-quantity s q.quantity

quantity-small : (s : Built) (q : Quantity) → KeepsQuantity q → (quantity_amount s q).0.stars ≤ star_limit
    → IsAmount (quantity_amount s q).1
quantity-small s (quantity.Number units) k few = k
quantity-small s quantity.Star k few = (omega arith, few)

pub amount-small : (s : Built) (q : Potential) → KeepsPotential q → (amount_of s q).0.stars ≤ star_limit
    → IsAmount (amount_of s q).1
amount-small s q k few = quantity-small s q.quantity k few

-- each of one
pub all-one : {X : Type 0} (P : X → Type 0) (x : X) → P x → All P (x ∷ [])
all-one P x h = All-cons P x [] h (All-nil P)

none : {X : Type 0} (P : X → Type 0) (xs : List X) → xs ≡ [] → All P xs
none P xs e = subst (All P) (sym e) (All-nil P)

-- nodes with neither amount nor kind
pub plain-type : (n : TypeNode) → type_kinds n ≡ [] → type_amounts n ≡ [] → TypeKeeps n
plain-type n k a = record { kinds = none IsShallow (type_kinds n) k; amounts = none IsAmount (type_amounts n) a }

pub plain-code : (n : CodeNode) → code_kinds n ≡ [] → code_amounts n ≡ [] → CodeKeeps n
plain-code n k a = record { kinds = none IsShallow (code_kinds n) k; amounts = none IsAmount (code_amounts n) a }
