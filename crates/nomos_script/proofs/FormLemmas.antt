-- What a line says is determined by its tokens.
use Rattle.std.proofs.Common.{◌≡◌, ◌≢◌, ℕ, List, [], ◌∷◌, Option, Some, None, Result, Ok, Err, IfOk, codes, if◌then◌else◌, refl, sym, ◌∙◌, ap, arith}
use Rattle.std.specs.Str.{bytes_eq}
use Rattle.nomos_ir.specs.Value.{Value}
use Rattle.nomos_script.specs.declared.item.Start.{Start}
use Rattle.nomos_script.specs.declared.line.Line.{Line}
use Rattle.nomos_script.specs.declared.line.Line.TheVariants as line
use Rattle.nomos_script.specs.declared.stop.LineStop.{LineStop}
use Rattle.nomos_script.specs.Form.{Form, Invocation, blank, deposit, create, exec, begin, end, show, TokensReadAs, IsValid, IsValidInvocation, print_form, print_invocation, print_names, units_of}
use Rattle.nomos_script.specs.Item.{start_at}
use Rattle.nomos_script.specs.ScriptNames.{IsScriptName}
use Rattle.nomos_script.specs.ScriptScan.{Token, word, number, mark}
use Rattle.nomos_script.specs.mirror.ReaderSeen.{AreArguments, BeginsWithName, BeginsWithUnits, SaysLine, Starts}
use Rattle.nomos_script.specs.ValueTree.{print_values, values_at}
use Rattle.nomos_script.specs.mirror.Assembling.{line_said}
use Rattle.nomos_script.proofs.NamesLemmas.{names_once}
use Rattle.nomos_script.proofs.SoundLemmas.{written_once}

-- the kinds of lines
abbrev kind_of : Form → ℕ
kind_of blank = 0
kind_of (deposit name digits) = 1
kind_of (create contract i) = 2
kind_of (exec i) = 3
kind_of begin = 4
kind_of end = 5
kind_of show = 6

abbrev kind_by_word : List ℕ → ℕ
kind_by_word text =
    if bytes_eq text (codes "deposit") then 1
    else (if bytes_eq text (codes "let") then 2
    else (if bytes_eq text (codes "exec") then 3
    else (if bytes_eq text (codes "begin") then 4
    else (if bytes_eq text (codes "end") then 5
    else 6))))

abbrev kind_by_tokens : List Token → ℕ
kind_by_tokens [] = 0
kind_by_tokens (word text ∷ tokens) = kind_by_word text
kind_by_tokens (number digits ∷ tokens) = 7
kind_by_tokens (mark text ∷ tokens) = 7

kind_printed : (f : Form) → kind_by_tokens (print_form f) ≡ kind_of f
kind_printed blank = refl
kind_printed (deposit name digits) = refl
kind_printed (create contract i) = refl
kind_printed (exec i) = refl
kind_printed begin = refl
kind_printed end = refl
kind_printed show = refl

same_kind : (tokens : List Token) (f g : Form) → TokensReadAs tokens f → TokensReadAs tokens g
    → kind_of f ≡ kind_of g
same_kind tokens f g h k =
    sym (kind_printed f) ∙ ap kind_by_tokens (sym h.printed ∙ k.printed) ∙ kind_printed g

start_alike : (n : ℕ) (contract : Option (List ℕ)) (s t p q : List ℕ) (vs ws : List Value) (ns ms : List (List ℕ))
    → s ≡ t → p ≡ q → vs ≡ ws → ns ≡ ms
    → (let one : Start = record { line = n; sender = s; proc = p; values = vs; names = ns; contract = contract } in
    one ≡ record { line = n; sender = t; proc = q; values = ws; names = ms; contract = contract })
start_alike n contract s t p q vs ws ns ms st pq vw nm = rw (st, pq, vw, nm) refl

-- who starts what is determined by the tokens
starts_once : (n : ℕ) (contract : Option (List ℕ)) (i j : Invocation) → IsValidInvocation i → IsValidInvocation j
    → print_invocation i ≡ print_invocation j → start_at n contract i ≡ start_at n contract j
starts_once n contract i j h k same =
    let sender : i.sender ≡ j.sender = cc in
    let proc : i.proc ≡ j.proc = cc in
    let rest : print_values i.values (mark (codes ";") ∷ print_names i.names (mark (codes ")") ∷ []))
    ≡ print_values j.values (mark (codes ";") ∷ print_names j.names (mark (codes ")") ∷ [])) = cc in
    let both = written_once i.values j.values (print_names i.names (mark (codes ")") ∷ []))
    (print_names j.names (mark (codes ")") ∷ [])) h.values k.values rest in
    let values = both.0 in
    let names = (names_once i.names j.names [] [] both.1).0 in
    start_alike n contract i.sender j.sender i.proc j.proc (values_at i.values) (values_at j.values) i.names j.names
    sender proc values names

-- what a line says is determined by its tokens
pub said_once : (n : ℕ) (tokens : List Token) (f g : Form) → TokensReadAs tokens f → TokensReadAs tokens g
    → line_said n f ≡ line_said n g
said_once n tokens blank blank h k = refl
said_once n tokens (deposit m d) (deposit p e) h k =
    let same = sym h.printed ∙ k.printed in
    let name : m ≡ p = cc same in
    let digits : d ≡ e = cc same in
    rw (name, digits) refl
said_once n tokens (create c i) (create d j) h k =
    let same = sym h.printed ∙ k.printed in
    let contract : c ≡ d = cc same in
    let started = starts_once n (Some c) i j h.valid.1 k.valid.1 (cc same) in
    ap line.Start started ∙ rw contract refl
said_once n tokens (exec i) (exec j) h k =
    let same = sym h.printed ∙ k.printed in ap line.Start (starts_once n None i j h.valid k.valid (cc same))
said_once n tokens begin begin h k = refl
said_once n tokens end end h k = refl
said_once n tokens show show h k = refl
said_once n tokens blank g h k = absurd (let kinds = same_kind tokens blank g h k in omega (arith, kinds))
said_once n tokens (deposit m d) g h k =
    absurd (let kinds = same_kind tokens (deposit m d) g h k in omega (arith, kinds))
said_once n tokens (create c i) g h k =
    absurd (let kinds = same_kind tokens (create c i) g h k in omega (arith, kinds))
said_once n tokens (exec i) g h k = absurd (let kinds = same_kind tokens (exec i) g h k in omega (arith, kinds))
said_once n tokens begin g h k = absurd (let kinds = same_kind tokens begin g h k in omega (arith, kinds))
said_once n tokens end g h k = absurd (let kinds = same_kind tokens end g h k in omega (arith, kinds))
said_once n tokens show g h k = absurd (let kinds = same_kind tokens show g h k in omega (arith, kinds))

-- the form of a line that begins with a word is one of its kind
pub kind_of_line : (text : List ℕ) (tokens : List Token) (f : Form) → TokensReadAs (word text ∷ tokens) f
    → kind_of f ≡ kind_by_word text
kind_of_line text tokens f h = sym (kind_printed f) ∙ ap kind_by_tokens (sym h.printed)

-- a name, units and nothing else make a deposit
pub deposit_read : (n units : ℕ) (name : List ℕ) (tokens behind rest : List Token) → tokens ≡ word name ∷ behind
    → IsScriptName name → BeginsWithUnits units behind rest → rest ≡ []
    → SaysLine n (word (codes "deposit") ∷ tokens) (line.Deposit name units)
deposit_read n units name tokens behind rest first named (digits, second, is, small) last =
    let form : TokensReadAs (word (codes "deposit") ∷ tokens) (deposit name digits) =
    record { printed = cc; valid = (named, omega (arith, is, small)) } in
    (deposit name digits, form, ap (λ n. line.Deposit name n) (sym is))

-- a name without units behind it makes none
pub deposit_none : (name : List ℕ) (tokens behind : List Token) → tokens ≡ word name ∷ behind
    → ((n : ℕ) (rest : List Token) → ¬ BeginsWithUnits n behind rest) → (form : Form)
    → ¬ TokensReadAs (word (codes "deposit") ∷ tokens) form
deposit_none name tokens behind first none (deposit n digits) = λ h.
    let printed = h.printed in
    let second : behind ≡ number digits ∷ [] = cc in
    none (units_of digits) [] (digits, second, refl, h.valid.1)
deposit_none name tokens behind first none form = λ h.
    let kinds = kind_of_line (codes "deposit") tokens form h in absurd (omega (arith, kinds))

-- two names and arguments say what is started
pub start_read : (n : ℕ) (contract : Option (List ℕ)) (sender proc : List ℕ) (tokens behind after : List Token)
    (values : List Value) (names : List (List ℕ)) → tokens ≡ word sender ∷ behind → IsScriptName sender
    → behind ≡ word proc ∷ after → IsScriptName proc → AreArguments after values names
    → Starts tokens n contract
    (record { line = n; sender = sender; proc = proc; values = values; names = names; contract = contract })
start_read n contract sender proc tokens behind after values names first sends second runs h = record {
  i = record { sender = sender; proc = proc; values = h.trees; names = names };
  printed = first ∙ ap (λ t. word sender ∷ t) (second ∙ ap (λ t. word proc ∷ t) h.printed);
  valid = record { sender = sends; proc = runs; values = h.valid; names = h.each };
  is = rw h.are refl;
}

-- without the first name, the second, or the arguments they say nothing
pub start_nameless : (tokens : List Token) → ¬ BeginsWithName tokens → (i : Invocation) → IsValidInvocation i
    → tokens ≢ print_invocation i
start_nameless tokens none i valid = λ is.
    none (
      i.sender,
      word i.proc ∷ mark (codes "(") ∷
          print_values i.values (mark (codes ";") ∷ print_names i.names (mark (codes ")") ∷ [])),
      is,
      valid.sender,
    )

pub start_procless : (sender : List ℕ) (tokens behind : List Token) → tokens ≡ word sender ∷ behind
    → ¬ BeginsWithName behind → (i : Invocation) → IsValidInvocation i → tokens ≢ print_invocation i
start_procless sender tokens behind first none i valid = λ is.
    let second : behind ≡ word i.proc ∷ mark (codes "(") ∷
    print_values i.values (mark (codes ";") ∷ print_names i.names (mark (codes ")") ∷ [])) = cc in
    none (
      i.proc,
      mark (codes "(") ∷
          print_values i.values (mark (codes ";") ∷ print_names i.names (mark (codes ")") ∷ [])),
      second,
      valid.proc,
    )

pub start_bare : (sender proc : List ℕ) (tokens behind after : List Token) → tokens ≡ word sender ∷ behind
    → behind ≡ word proc ∷ after
    → ((values : List Value) (names : List (List ℕ)) → ¬ AreArguments after values names)
    → (i : Invocation) → IsValidInvocation i → tokens ≢ print_invocation i
start_bare sender proc tokens behind after first second none i valid = λ is.
    let third : after ≡ mark (codes "(") ∷
    print_values i.values (mark (codes ";") ∷ print_names i.names (mark (codes ")") ∷ [])) = cc in
    none (values_at i.values) i.names
    (record { trees = i.values; printed = third; valid = valid.values; each = valid.names; are = refl })

-- a transaction
pub exec_read : (n : ℕ) (tokens : List Token) (start : Start) → Starts tokens n None start
    → SaysLine n (word (codes "exec") ∷ tokens) (line.Start start)
exec_read n tokens start h = (
  exec h.i,
  record { printed = ap (λ t. word (codes "exec") ∷ t) h.printed; valid = h.valid },
  ap line.Start h.is,
)

-- a contract that is made
pub create_read : (n : ℕ) (contract : List ℕ) (tokens behind after rest : List Token) (start : Start)
    → tokens ≡ word contract ∷ behind → IsScriptName contract → behind ≡ mark (codes "=") ∷ after
    → after ≡ word (codes "new") ∷ rest → Starts rest n (Some contract) start
    → SaysLine n (word (codes "let") ∷ tokens) (line.Start start)
create_read n contract tokens behind after rest start first named second third h = (
  create contract h.i,
  record {
    printed = ap (λ t. word (codes "let") ∷ t) (first ∙ ap (λ t. word contract ∷ t)
        (second ∙ ap (λ t. mark (codes "=") ∷ t) (third ∙ ap (λ t. word (codes "new") ∷ t) h.printed)));
    valid = (named, h.valid);
  },
  ap line.Start h.is,
)

-- a line of one word says what its form says
pub bare_read : (n : ℕ) (text : List ℕ) (tokens : List Token) (f : Form) (r : Result Line LineStop) → IsValid f
    → word text ∷ [] ≡ print_form f → IfOk r (λ said. (tokens ≡ []) × (said ≡ line_said n f))
    → IfOk r (λ said. SaysLine n (word text ∷ tokens) said)
bare_read n text tokens f (Ok said) valid printed h =
    (f, record { printed = ap (λ t. word text ∷ t) h.0 ∙ printed; valid = valid }, sym h.1)
bare_read n text tokens f (Err e) valid printed h = tt
