-- What a line of a talk says is determined by its tokens.
use Rattle.std.proofs.Common.{◌≡◌, ◌≢◌, ℕ, true, false, List, [], ◌∷◌, ◌++◌, Some, codes, if◌then◌else◌, refl, sym, ◌∙◌, ap, arith}
use Rattle.std.proofs.lemmas.List.{append_cancel_right}
use Rattle.std.specs.Str.{bytes_eq}
use Rattle.nomos_ir.specs.Value.{Value}
use Rattle.nomos_script.specs.declared.talk_line.TalkLine.TheVariants as said
use Rattle.nomos_script.specs.ScriptNames.{IsScriptName}
use Rattle.nomos_script.specs.ScriptScan.{Token, word, number, mark}
use Rattle.nomos_script.specs.TalkForm.{TalkForm, blank, label, value, pay, hear, print_talk_form, TalkTokensReadAs}
use Rattle.nomos_script.specs.TalkReading.{talk_said}
use Rattle.nomos_script.specs.ValueTree.{ValueTree, written_number, written_truth, written_list, ValueTrees, no_trees, tree, print_value, print_values, print_more_values, value_at, values_at, IsValidValue, AreValidValues}
use Rattle.nomos_script.specs.mirror.TalkSaying.{SaysTalkLine}
use Rattle.nomos_script.specs.mirror.ValueReading.{nothing_read, read_values}
use Rattle.nomos_script.proofs.CompleteLemmas.{values_are_read}
use Rattle.nomos_script.proofs.SoundLemmas.{read_are_written, written_once}

-- the tokens of values before others, and more behind them
mutual
  print_value-append : (v : ValueTree) (xs ys : List Token) → print_value v (xs ++ ys) ≡ print_value v xs ++ ys
  print_value-append (written_number true digits) xs ys = refl
  print_value-append (written_number false digits) xs ys = refl
  print_value-append (written_truth true) xs ys = refl
  print_value-append (written_truth false) xs ys = refl
  print_value-append (written_list vs) xs ys =
      ap (λ t. mark (codes "[") ∷ t) (print_values-append vs (mark (codes "]") ∷ xs) ys)

  print_values-append : (vs : ValueTrees) (xs ys : List Token) → print_values vs (xs ++ ys) ≡ print_values vs xs ++ ys
  print_values-append no_trees xs ys = refl
  print_values-append (tree v vs) xs ys =
      ap (print_value v) (print_more_values-append vs xs ys) ∙ print_value-append v (print_more_values vs xs) ys

  print_more_values-append : (vs : ValueTrees) (xs ys : List Token)
      → print_more_values vs (xs ++ ys) ≡ print_more_values vs xs ++ ys
  print_more_values-append no_trees xs ys = refl
  print_more_values-append (tree v vs) xs ys =
      ap (λ t. mark (codes ",") ∷ t)
      (ap (print_value v) (print_more_values-append vs xs ys) ∙ print_value-append v (print_more_values vs xs) ys)

-- the end of values behind the tokens of a line
abbrev pub ended : List Token → List Token
ended tokens = tokens ++ mark (codes ";") ∷ []

-- values that are written as one and nothing else
one_written : (tokens : List Token) (v : Value) (trees : ValueTrees)
    → ended tokens ≡ print_values trees (mark (codes ";") ∷ []) → AreValidValues trees → values_at trees ≡ v ∷ []
    → SaysTalkLine (word (codes "value") ∷ tokens) (Some (said.Value v))
one_written tokens v no_trees printed valid are = absurd (cc)
one_written tokens v (tree t no_trees) printed valid are =
    let alone = append_cancel_right tokens (print_value t []) (mark (codes ";") ∷ [])
    (printed ∙ print_value-append t [] (mark (codes ";") ∷ [])) in
    let is : value_at t ≡ v = cc are in (
      value t,
      record { printed = ap (λ ts. word (codes "value") ∷ ts) alone; valid = valid.0 },
      ap (λ x. Some (said.Value x)) is,
    )
one_written tokens v (tree t (tree u us)) printed valid are = absurd (cc)

-- a value that is read up to the end of the line
pub value_read : (tokens : List Token) (v : Value) → read_values nothing_read (ended tokens) ≡ Some (v ∷ [], [])
    → SaysTalkLine (word (codes "value") ∷ tokens) (Some (said.Value v))
value_read tokens v is =
    let w = read_are_written (v ∷ []) [] (ended tokens) is in
    one_written tokens v w.trees w.printed w.valid w.are

-- the kinds of lines
abbrev talk_kind : TalkForm → ℕ
talk_kind blank = 0
talk_kind (label name) = 1
talk_kind (value v) = 2
talk_kind pay = 3
talk_kind hear = 4

abbrev talk_kind_by_word : List ℕ → ℕ
talk_kind_by_word text =
    if bytes_eq text (codes "label") then 1
    else (if bytes_eq text (codes "value") then 2
    else (if bytes_eq text (codes "pay") then 3
    else 4))

abbrev talk_kind_by_tokens : List Token → ℕ
talk_kind_by_tokens [] = 0
talk_kind_by_tokens (word text ∷ tokens) = talk_kind_by_word text
talk_kind_by_tokens (number digits ∷ tokens) = 5
talk_kind_by_tokens (mark text ∷ tokens) = 5

talk_kind_printed : (f : TalkForm) → talk_kind_by_tokens (print_talk_form f) ≡ talk_kind f
talk_kind_printed blank = refl
talk_kind_printed (label name) = refl
talk_kind_printed (value v) = refl
talk_kind_printed pay = refl
talk_kind_printed hear = refl

same_talk_kind : (tokens : List Token) (f g : TalkForm) → TalkTokensReadAs tokens f → TalkTokensReadAs tokens g
    → talk_kind f ≡ talk_kind g
same_talk_kind tokens f g h k =
    sym (talk_kind_printed f) ∙ ap talk_kind_by_tokens (sym h.printed ∙ k.printed) ∙ talk_kind_printed g

-- the form of a line that begins with a word is one of its kind
talk_kind_of_line : (text : List ℕ) (tokens : List Token) (f : TalkForm) → TalkTokensReadAs (word text ∷ tokens) f
    → talk_kind f ≡ talk_kind_by_word text
talk_kind_of_line text tokens f h = sym (talk_kind_printed f) ∙ ap talk_kind_by_tokens (sym h.printed)

-- where no value is read up to the end of the line, the line has no form
pub value_none : (tokens : List Token)
    → ((v : Value) → read_values nothing_read (ended tokens) ≢ Some (v ∷ [], [])) → (form : TalkForm)
    → ¬ TalkTokensReadAs (word (codes "value") ∷ tokens) form
value_none tokens none (value v) = λ h.
    let printed = h.printed in
    let alone : tokens ≡ print_value v [] = cc printed in
    none (value_at v) (ap (λ ts. read_values nothing_read (ended ts)) alone
    ∙ ap (read_values nothing_read) (sym (print_value-append v [] (mark (codes ";") ∷ [])))
    ∙ values_are_read (tree v no_trees) [] (h.valid, tt))
value_none tokens none form = λ h.
    let kinds = talk_kind_of_line (codes "value") tokens form h in absurd (omega (arith, kinds))

-- a value is written in one way
value_once : (v w : ValueTree) → IsValidValue v → IsValidValue w → print_value v [] ≡ print_value w []
    → value_at v ≡ value_at w
value_once v w valid sound same =
    let ends : print_values (tree v no_trees) (mark (codes ";") ∷ []) ≡ print_values (tree w no_trees)
    (mark (codes ";") ∷ []) =
    print_value-append v [] (mark (codes ";") ∷ []) ∙ ap ended same
    ∙ sym (print_value-append w [] (mark (codes ";") ∷ [])) in
    let both = (written_once (tree v no_trees) (tree w no_trees) [] [] (valid, tt) (sound, tt) ends).0 in
    cc both

-- what a line says is determined by its tokens
pub talk_said_once : (tokens : List Token) (f g : TalkForm) → TalkTokensReadAs tokens f → TalkTokensReadAs tokens g
    → talk_said f ≡ talk_said g
talk_said_once tokens blank blank h k = refl
talk_said_once tokens (label m) (label n) h k =
    let same = sym h.printed ∙ k.printed in
    let name : m ≡ n = cc same in
    ap (λ x. Some (said.Label x)) name
talk_said_once tokens (value v) (value w) h k =
    let same = sym h.printed ∙ k.printed in
    ap (λ x. Some (said.Value x)) (value_once v w h.valid k.valid (cc same))
talk_said_once tokens pay pay h k = refl
talk_said_once tokens hear hear h k = refl
talk_said_once tokens blank g h k = absurd (let kinds = same_talk_kind tokens blank g h k in omega (arith, kinds))
talk_said_once tokens (label m) g h k =
    absurd (let kinds = same_talk_kind tokens (label m) g h k in omega (arith, kinds))
talk_said_once tokens (value v) g h k =
    absurd (let kinds = same_talk_kind tokens (value v) g h k in omega (arith, kinds))
talk_said_once tokens pay g h k = absurd (let kinds = same_talk_kind tokens pay g h k in omega (arith, kinds))
talk_said_once tokens hear g h k = absurd (let kinds = same_talk_kind tokens hear g h k in omega (arith, kinds))

-- a name and nothing else make a label
pub label_read : (name : List ℕ) (tokens rest : List Token) → tokens ≡ word name ∷ rest → IsScriptName name
    → rest ≡ [] → SaysTalkLine (word (codes "label") ∷ tokens) (Some (said.Label name))
label_read name tokens rest first named last =
    (label name, record { printed = cc; valid = named }, refl)
