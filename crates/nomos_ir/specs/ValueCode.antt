-- Values as lists of marks, by which two of them are told apart.
use Rattle.std.specs.Prelude.{◌≡◌, ◌⊎◌, ℤ, Bool, true, false, List, [], ◌∷◌, refl}
use Rattle.std.specs.Coded.{Coded, code_by, coded_list, coded⊎, coded_ℤ, coded_bool}
use Rattle.std.proofs.Common.{ap, ◌∙◌, inl, inr}
use Rattle.nomos_ir.specs.Value.{Value, int, truth, list, ValueList, no_values, value}

-- a number, a truth value, or the begin (true) or the end (false) of a list
abbrev pub Mark : Type 0
Mark = ℤ ⊎ (Bool ⊎ Bool)

-- the marks of a value, before others
abbrev mutual
  pub marks : Value → List Mark → List Mark
  marks (int n) rest = inl n ∷ rest
  marks (truth b) rest = inr (inl b) ∷ rest
  marks (list vs) rest = inr (inr true) ∷ list_marks vs rest

  pub list_marks : ValueList → List Mark → List Mark
  list_marks no_values rest = inr (inr false) ∷ rest
  list_marks (value v vs) rest = marks v (list_marks vs rest)

-- the values of the innermost open list, and those of the lists round it
abbrev pub Open : Type 0
Open = ValueList × List ValueList

-- a value before the values of the innermost list
abbrev pub put_first : Value → Open → Open
put_first v lists = (value v lists.0, lists.1)

-- the innermost list becomes a value of the one round it
abbrev pub shut : ValueList → List ValueList → Open
shut inner [] = (inner, [])
shut inner (outer ∷ others) = (value (list inner) outer, others)

-- what a mark does, read from the last to the first
abbrev pub read_mark : Mark → Open → Open
read_mark (inl n) lists = put_first (int n) lists
read_mark (inr (inl b)) lists = put_first (truth b) lists
read_mark (inr (inr true)) lists = shut lists.0 lists.1
read_mark (inr (inr false)) lists = (no_values, lists.0 ∷ lists.1)

-- the values that marks stand for
abbrev pub read : List Mark → Open
read [] = (no_values, [])
read (mark ∷ rest) = read_mark mark (read rest)

-- the first of the values
abbrev pub first_value : ValueList → Value
first_value no_values = truth false
first_value (value v vs) = v

-- marks read as what was marked
mutual
  pub read-marks : (v : Value) (rest : List Mark) → read (marks v rest) ≡ put_first v (read rest)
  read-marks (int n) rest = refl
  read-marks (truth b) rest = refl
  read-marks (list vs) rest = ap (read_mark (inr (inr true))) (read-list_marks vs rest)

  pub read-list_marks : (vs : ValueList) (rest : List Mark)
      → read (list_marks vs rest) ≡ (vs, (read rest).0 ∷ (read rest).1)
  read-list_marks no_values rest = refl
  read-list_marks (value v vs) rest =
      read-marks v (list_marks vs rest) ∙ ap (put_first v) (read-list_marks vs rest)

-- the value that marks stand for
abbrev pub marked_value : List Mark → Value
marked_value all = first_value (read all).0

-- a value is its marks
abbrev pub value_code : Coded Value
value_code =
    code_by
    (List Mark)
    (coded_list (coded⊎ coded_ℤ (coded⊎ coded_bool coded_bool)))
    (λ v. marks v [])
    marked_value
    (λ v. ap (λ (lists : Open). first_value lists.0) (read-marks v []))
