-- What a reader finds in tokens that are what something prints.
use Rattle.std.proofs.Common.{◌≡◌, ℕ, zero, suc, ◌≤◌, Bool, true, false, List, [], ◌∷◌, ◌++◌, length, Option, Some, refl, sym, ap, ◌∙◌, subst, arith}
use Rattle.nomos_ir.specs.declared.kind.Base.{Base}
use Rattle.nomos_ir.specs.declared.kind.Base.TheVariants as base
use Rattle.nomos_ir.specs.declared.word.Word.TheVariants as word
use Rattle.nomos_reader.proofs.PartedLemmas.{until_some, until_none}
use Rattle.nomos_surface.specs.declared.name_at.NameAt.{NameAt}
use Rattle.nomos_surface.specs.declared.potential.Potential.{Potential}
use Rattle.nomos_surface.specs.declared.potential.Quantity.{Quantity}
use Rattle.nomos_surface.specs.declared.potential.Quantity.TheVariants as quantity
use Rattle.nomos_surface.specs.declared.value_type.ValueType.{ValueType}
use Rattle.nomos_reader.specs.mirror.Front.{Reader, base_from, front_kind, front_quantity, is_comma, is_list_end, kind_of, number_of, quantity_from, read_lists, read_name, read_parted, read_potential, read_until, read_value_type}
use Rattle.nomos_surface.specs.Print.{base_word, print_lists, print_potential, print_quantity, print_value_type}
use Rattle.nomos_surface.specs.Printed.{Shown, HasValue, Meets, Printer, Spells, sign, keyword_at, print_name, print_parted}
use Rattle.nomos_syntax.specs.declared.symbol.Symbol.{Symbol}
use Rattle.nomos_syntax.specs.declared.symbol.Symbol.TheVariants as sym
use Rattle.nomos_syntax.specs.declared.token.TokenKind.{TokenKind}
use Rattle.nomos_syntax.specs.declared.token.TokenKind.TheVariants as kind
use Rattle.nomos_syntax.specs.Lexeme.{Lexeme, name, reserved, number, symbol, bad, Placed}

-- the reader finds this, and behind it what is printed after it
pub record Found (A : Type 0) (reader : Reader A) (value : A) (after : List Shown) (tokens : List Placed) : Type 0 where
  pub rest : List Placed
  pub read : reader tokens ≡ (value, rest)
  pub spelled : Spells after rest
  pub shorter : length rest ≤ length tokens

-- what is asked of a token, of one that says it
pub at_this : (P : Placed → Type 0) (at : ℕ) (lexeme : Lexeme) (x : Placed) → x ≡ record { at = at; lexeme = lexeme } →
    P (record { at = at; lexeme = lexeme }) → P x
at_this P at lexeme x m h = subst P (sym m) h

pub with_this : (P : Placed → Type 0) (lexeme : Lexeme) (x : Placed) → x.lexeme ≡ lexeme
    → P (record { at = x.at; lexeme = lexeme }) → P x
with_this P lexeme x m h = subst (λ l. P (record { at = x.at; lexeme = l })) (sym m) h

-- the first token, where something is shown
pub record First (s : Shown) (after : List Shown) (tokens : List Placed) : Type 0 where
  pub first : Placed
  pub others : List Placed
  pub whole : tokens ≡ first ∷ others
  pub meets : Meets s first
  pub spelled : Spells after others

pub first_of_shown : (s : Shown) (after : List Shown) (tokens : List Placed) → Spells (s ∷ after) tokens
    → First s after tokens
first_of_shown s after [] h = absurd h
first_of_shown s after (x ∷ tokens) h = record { first = x; others = tokens; whole = refl; meets = h.0; spelled = h.1 }

-- a name
pub name_found : (n : NameAt) (after : List Shown) (tokens : List Placed) → Spells (print_name n ∷ after) tokens →
    Found NameAt read_name n after tokens
name_found n after [] h = absurd h
name_found n after (x ∷ tokens) h =
    at_this (λ y. Found NameAt read_name n after (y ∷ tokens)) n.at (name n.name) x h.0
    (record { rest = tokens; read = refl; spelled = h.1; shorter = omega arith })

-- potentials

number_said : (at value : ℕ) (lexeme : Lexeme) (tokens : List Placed) → HasValue value lexeme →
    quantity_from (Some (kind_of lexeme)) (number_of lexeme) ≡ quantity.Number value
number_said at value (name text) tokens h = absurd h
number_said at value (reserved w) tokens h = absurd h
number_said at value (number digits) tokens h = ap quantity.Number h
number_said at value (symbol s) tokens h = absurd h
number_said at value (bad byte) tokens h = absurd h

quantity_said : (at : ℕ) (q : Quantity) (x : Placed) (tokens : List Placed) → Meets (print_quantity at q) x →
    (front_quantity (x ∷ tokens) ≡ q) × (x.at ≡ at)
quantity_said at (quantity.Number value) x tokens m = (number_said at value x.lexeme tokens m.1, m.0)
quantity_said at quantity.Star x tokens m =
    at_this (λ y. (front_quantity (y ∷ tokens) ≡ quantity.Star) × (y.at ≡ at)) at (symbol sym.Star) x m (refl, refl)

pub potential_found : (q : Potential) (after : List Shown) (tokens : List Placed)
    → Spells (print_potential q after) tokens →
    Found Potential read_potential q after tokens
potential_found q after [] h = absurd h
potential_found q after (x ∷ []) h = absurd h.1
potential_found q after (x ∷ y ∷ []) h = absurd h.1.1
potential_found q after (x ∷ y ∷ z ∷ tokens) h =
    let s = quantity_said q.quantity_at q.quantity y (z ∷ tokens) h.1.0 in
    at_this (λ v. Found Potential read_potential q after (v ∷ y ∷ z ∷ tokens)) q.at (symbol sym.OpenBrace) x h.0
    (record { rest = tokens; read = rw (s.0, s.1) refl; spelled = h.1.1.1; shorter = omega arith })

-- the types of values

-- words `list` and what the innermost lists hold
record FoundLists (lists before : List ℕ) (at : ℕ) (b : Base) (after : List Shown) (tokens : List Placed) : Type 0 where
  inner : Placed
  rest : List Placed
  read : read_lists before tokens ≡ (before ++ lists, inner ∷ rest)
  meets : Meets (keyword_at at (base_word b)) inner
  spelled : Spells after rest
  shorter : suc (length rest) ≤ length tokens

append_nil : {A : Type 0} (xs : List A) → xs ++ [] ≡ xs
append_nil [] = refl
append_nil (x ∷ xs) = ap (λ l. x ∷ l) (append_nil xs)

pub append_more : {A : Type 0} (xs : List A) (y : A) (ys : List A) → (xs ++ y ∷ []) ++ ys ≡ xs ++ (y ∷ ys)
append_more [] y ys = refl
append_more (x ∷ xs) y ys = ap (λ l. x ∷ l) (append_more xs y ys)

base_read : (before : List ℕ) (at : ℕ) (b : Base) (x : Placed) (rest : List Placed)
    → Meets (keyword_at at (base_word b)) x →
    read_lists before (x ∷ rest) ≡ (before ++ [], x ∷ rest)
unfolding read_lists
base_read before at base.Int x rest m =
    at_this (λ y. read_lists before (y ∷ rest) ≡ (before ++ [], y ∷ rest)) at (reserved word.Int) x m
    (rw (append_nil before) refl)
base_read before at base.Bool x rest m =
    at_this (λ y. read_lists before (y ∷ rest) ≡ (before ++ [], y ∷ rest)) at (reserved word.Bool) x m
    (rw (append_nil before) refl)

list_read : (before : List ℕ) (at : ℕ) (x : Placed) (rest : List Placed) → Meets (keyword_at at word.List) x →
    read_lists before (x ∷ rest) ≡ read_lists (before ++ at ∷ []) rest
unfolding read_lists
list_read before at x rest m =
    at_this (λ y. read_lists before (y ∷ rest) ≡ read_lists (before ++ at ∷ []) rest) at (reserved word.List) x m refl

lists_found : (lists before : List ℕ) (at : ℕ) (b : Base) (after : List Shown) (tokens : List Placed) →
    Spells (print_lists lists (keyword_at at (base_word b)) after) tokens → FoundLists lists before at b after tokens
lists_found [] before at b after [] h = absurd h
lists_found [] before at b after (x ∷ rest) h =
    record {
      inner = x;
      rest = rest;
      read = base_read before at b x rest h.0;
      meets = h.0;
      spelled = h.1;
      shorter = omega arith;
    }
lists_found (l ∷ lists) before at b after [] h = absurd h
lists_found (l ∷ lists) before at b after (x ∷ tokens) h =
    let f = lists_found lists (before ++ l ∷ []) at b after tokens h.1 in
    record {
      inner = f.inner;
      rest = f.rest;
      read =
          list_read before l x tokens h.0 ∙ f.read
          ∙ ap (λ (ls : List ℕ). let p : List ℕ × List Placed = (ls, f.inner ∷ f.rest) in p)
          (append_more before l lists);
      meets = f.meets;
      spelled = f.spelled;
      shorter = omega (arith, f.shorter);
    }

-- the base type and the offset of a word
base_said : (at : ℕ) (b : Base) (x : Placed) → Meets (keyword_at at (base_word b)) x
    → (base_from (Some (kind_of x.lexeme)) ≡ b) × (x.at ≡ at)
base_said at base.Int x m =
    at_this (λ y. (base_from (Some (kind_of y.lexeme)) ≡ base.Int) × (y.at ≡ at)) at (reserved word.Int) x m
    (refl, refl)
base_said at base.Bool x m =
    at_this (λ y. (base_from (Some (kind_of y.lexeme)) ≡ base.Bool) × (y.at ≡ at)) at (reserved word.Bool) x m
    (refl, refl)

pub value_type_found : (t : ValueType) (after : List Shown) (tokens : List Placed)
    → Spells (print_value_type t after) tokens →
    Found ValueType read_value_type t after tokens
value_type_found t after tokens h =
    let f = lists_found t.lists [] t.base_at t.base after tokens h in
    let s = base_said t.base_at t.base f.inner f.meets in
    record { rest = f.rest; read = rw (f.read, s.0, s.1) refl; spelled = f.spelled; shorter = omega (arith, f.shorter) }

-- what was found behind other tokens
pub behind : (A B : Type 0) (reader : Reader A) (value : A) (part : Reader B) (v : B) (after : List Shown)
    (tokens us : List Placed)
    (f : Found B part v after us) → reader tokens ≡ (value, f.rest) → length us ≤ length tokens
    → Found A reader value after tokens
behind A B reader value part v after tokens us f e le =
    record { rest = f.rest; read = e; spelled = f.spelled; shorter = omega (arith, f.shorter) }

-- lists

-- the reader finds the item in what the printer prints, in so much room, before what ends an item
pub record Finds (A : Type 0) (item : Reader A) (Ends : List Shown → Type 0) (room : ℕ) (value : A)
    (printer : Printer) : Type 0 where
  pub some : (after : List Shown) → Spells (printer after) [] → ⊥
  pub find : (after : List Shown) (tokens : List Placed) → Ends after → length tokens ≤ room
      → Spells (printer after) tokens →
      Found A item value after tokens

abbrev pub FindsAll : (A : Type 0) → Reader A → (List Shown → Type 0) → ℕ → List A → List Printer → Type 0
FindsAll A item Ends room [] [] = Unit {0}
FindsAll A item Ends room [] (p ∷ ps) = ⊥
FindsAll A item Ends room (v ∷ vs) [] = ⊥
FindsAll A item Ends room (v ∷ vs) (p ∷ ps) = Finds A item Ends room v p × FindsAll A item Ends room vs ps

pub last_read : {A : Type 0} (item : Reader A) (between : Option TokenKind → Bool) (m : ℕ) (before : List A) (b : A)
    (tokens us : List Placed) →
    item tokens ≡ (b, us) → between (front_kind us) ≡ false
    → read_parted item between (suc m) before tokens ≡ (before ++ b ∷ [], us)
unfolding read_parted
last_read item between m before b tokens us e ended = rw (e, ended) refl

pub more_read : {A : Type 0} (item : Reader A) (between : Option TokenKind → Bool) (m : ℕ) (before : List A) (b : A)
    (tokens us : List Placed) (z : Placed) (vs : List Placed) →
    item tokens ≡ (b, us) → us ≡ z ∷ vs → between (front_kind (z ∷ vs)) ≡ true →
    read_parted item between (suc m) before tokens ≡ read_parted item between m (before ++ b ∷ []) vs
unfolding read_parted
more_read item between m before b tokens us z vs e w again = rw (e, w, again) refl

-- what ends a list is not what stands between its items
abbrev pub EndsList : (Option TokenKind → Bool) → List Shown → Type 0
EndsList between after = (tokens : List Placed) → Spells after tokens → between (front_kind tokens) ≡ false

pub sign_ends_list : (between : Option TokenKind → Bool) (s : Symbol) (after : List Shown)
    → between (Some (kind.Symbol s)) ≡ false → EndsList between (sign s ∷ after)
sign_ends_list between s after e [] h = absurd h
sign_ends_list between s after e (x ∷ tokens) h =
    with_this (λ y. between (front_kind (y ∷ tokens)) ≡ false) (symbol s) x h.0 e

module _ (A : Type 0) (item : Reader A) (between : Option TokenKind → Bool) (sep : Symbol) (Ends : List Shown → Type 0)
    (room : ℕ)
    (is_sep : between (Some (kind.Symbol sep)) ≡ true) (ends_sep : (after : List Shown) → Ends (sign sep ∷ after)) where
  pub parted_found : (v : A) (vs : List A) (p : Printer) (ps : List Printer) (n : ℕ) (before : List A)
      (after : List Shown) (tokens : List Placed) →
      FindsAll A item Ends room (v ∷ vs) (p ∷ ps) → Ends after → EndsList between after → length tokens ≤ n
      → length tokens ≤ room →
      Spells (print_parted sep (p ∷ ps) after) tokens
      → Found (List A) (read_parted item between n before) (before ++ v ∷ vs) after tokens
  parted_found v vs p ps n before after [] all ends ended le in_room h = absurd (all.0.some _ h)
  parted_found v vs p ps zero before after (x ∷ tokens) all ends ended le in_room h = absurd (omega (arith, le))
  parted_found v [] p [] (suc m) before after (x ∷ tokens) all ends ended le in_room h =
      let f = all.0.find after (x ∷ tokens) ends in_room h in
      record {
        rest = f.rest;
        read = last_read item between m before v (x ∷ tokens) f.rest f.read (ended f.rest f.spelled);
        spelled = f.spelled;
        shorter = f.shorter;
      }
  parted_found v [] p (q ∷ ps) (suc m) before after (x ∷ tokens) all ends ended le in_room h = absurd all.1
  parted_found v (w ∷ vs) p [] (suc m) before after (x ∷ tokens) all ends ended le in_room h = absurd all.1
  parted_found v (w ∷ vs) p (q ∷ ps) (suc m) before after (x ∷ tokens) all ends ended le in_room h =
      let f = all.0.find (sign sep ∷ print_parted sep (q ∷ ps) after) (x ∷ tokens) (ends_sep _) in_room h in
      let s = first_of_shown (sign sep) (print_parted sep (q ∷ ps) after) f.rest f.spelled in
      let len : suc (length s.others) ≤ suc (length tokens) = omega (arith, f.shorter, ap length s.whole) in
      let again : between (front_kind (s.first ∷ s.others)) ≡ true =
      with_this (λ y. between (front_kind (y ∷ s.others)) ≡ true) (symbol sep) s.first s.meets is_sep in
      let g = parted_found w vs q ps m (before ++ v ∷ []) after s.others all.1 ends ended (omega (arith, le, len))
      (omega (arith, in_room, len)) s.spelled in
      record {
        rest = g.rest;
        read = more_read item between m before v (x ∷ tokens) f.rest s.first s.others f.read s.whole again
            ∙ g.read ∙ ap (λ (l : List A). let r : List A × List Placed = (l, g.rest) in r)
            (append_more before v (w ∷ vs));
        spelled = g.spelled;
        shorter = omega (arith, g.shorter, len);
      }

-- a list that may be empty, up to its end

-- what is printed of an item is not the end of a list
abbrev pub Begins : Printer → Type 0
Begins p =
    (after : List Shown) (tokens : List Placed) → Spells (p after) tokens → is_list_end (front_kind tokens) ≡ false

abbrev pub AllBegin : List Printer → Type 0
AllBegin [] = Unit {0}
AllBegin (p ∷ ps) = Begins p × AllBegin ps

pub until_found : (A : Type 0) (item : Reader A) (Ends : List Shown → Type 0) (room : ℕ)
    → ((after : List Shown) → Ends (sign sym.Comma ∷ after)) →
    (vs : List A) (ps : List Printer) (n : ℕ) (s : Symbol) (after : List Shown) (tokens : List Placed) →
    FindsAll A item Ends room vs ps → AllBegin ps → Ends (sign s ∷ after) → is_list_end (Some (kind.Symbol s)) ≡ true
    → is_comma (Some (kind.Symbol s)) ≡ false →
    length tokens ≤ n → length tokens ≤ room → Spells (print_parted sym.Comma ps (sign s ∷ after)) tokens →
    Found (List A) (read_until item n) vs (sign s ∷ after) tokens
until_found A item Ends room commas [] [] n s after [] all begin ends is_end ended le in_room h = absurd h
until_found A item Ends room commas [] [] n s after (x ∷ tokens) all begin ends is_end ended le in_room h =
    let e : is_list_end (front_kind (x ∷ tokens))
    ≡ true = with_this (λ y. is_list_end (front_kind (y ∷ tokens)) ≡ true) (symbol s) x h.0 is_end in
    record { rest = x ∷ tokens; read = until_none item n (x ∷ tokens) e; spelled = h; shorter = omega arith }
until_found A item Ends room commas [] (p ∷ ps) n s after tokens all begin ends is_end ended le in_room h = absurd all
until_found A item Ends room commas (v ∷ vs) [] n s after tokens all begin ends is_end ended le in_room h = absurd all
until_found A item Ends room commas (v ∷ vs) (p ∷ ps) n s after tokens all begin ends is_end ended le in_room h =
    let f = parted_found A item is_comma sym.Comma Ends room refl commas v vs p ps n [] (sign s ∷ after) tokens all ends
    (sign_ends_list is_comma s after ended) le in_room h in
    record {
      rest = f.rest;
      read = until_some item n tokens (begin.0 _ tokens h) ∙ f.read;
      spelled = f.spelled;
      shorter = f.shorter;
    }
