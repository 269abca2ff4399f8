-- A mirror of the code: how steps and codes are read.
use Rattle.std.specs.Prelude.{ℕ, zero, suc, Bool, true, false, List, [], ◌∷◌, ◌++◌, length, Option, Some, if◌then◌else◌}
use Rattle.nomos_ir.specs.declared.word.Word.TheVariants as word
use Rattle.nomos_surface.specs.CodeView.{Arm, arm_trees}
use Rattle.nomos_surface.specs.declared.name_at.NameAt.{NameAt}
use Rattle.nomos_surface.specs.declared.steps.ChanAt.{ChanAt}
use Rattle.nomos_surface.specs.declared.steps.ChanAt.TheVariants as chan
use Rattle.nomos_reader.specs.mirror.Front.{Reader, front_at, front_kind, is_bar, is_list, is_open_brace, read_name, read_parted, read_potential, read_until, read_value_type, rest_of}
use Rattle.nomos_reader.specs.mirror.Terms.{read_term}
use Rattle.nomos_surface.specs.Tree.{TermTree, ArgTrees, StepTree, label, send, recv, put, taking, pay, getting, work, wait, accept, detach, acquire, release, spawn, binding, empty_list, longer_list, emit, CodeTree, code, LastTree, close, fwd, calling, code_if, case, code_match}
use Rattle.nomos_syntax.specs.declared.token.TokenKind.{TokenKind}
use Rattle.nomos_syntax.specs.declared.token.TokenKind.TheVariants as kind

-- a term with as much room as there are tokens
abbrev pub whole_term : Reader TermTree
whole_term tokens = read_term (length tokens) tokens

abbrev pub chan_from : Option TokenKind → Reader ChanAt
chan_from (Some (kind.Reserved word.SelfWord)) tokens = (chan.Own (front_at tokens), rest_of tokens)
chan_from _ tokens = (chan.Variable (read_name tokens).0, rest_of tokens)

abbrev pub read_chan : Reader ChanAt
read_chan tokens = chan_from (front_kind tokens) tokens

abbrev pub read_names : Reader (List NameAt)
read_names tokens = read_until read_name (length tokens) tokens

abbrev pub read_values : Reader (List TermTree)
read_values tokens = read_until (read_term (length tokens)) (length tokens) tokens

unfoldable pub read_args : Reader ArgTrees
read_args tokens =
    let values = read_values (rest_of tokens) in
    let channels = read_names (rest_of values.1) in
    (record { values = values.0; channels = channels.0 }, rest_of channels.1)

-- `x.l`
unfoldable pub read_label : Reader StepTree
read_label tokens =
    let x = read_chan tokens in
    let l = read_name (rest_of x.1) in
    (label x.0 l.0, l.1)

-- a word, a channel and a name
unfoldable pub read_named_step : (ℕ → ChanAt → NameAt → StepTree) → Reader StepTree
read_named_step form tokens =
    let x = read_chan (rest_of tokens) in
    let y = read_name x.1 in
    (form (front_at tokens) x.0 y.0, y.1)

unfoldable pub read_put : Reader StepTree
read_put tokens =
    let x = read_chan (rest_of tokens) in
    let e = whole_term x.1 in
    (put (front_at tokens) x.0 e.0, e.1)

unfoldable pub read_pay : Reader StepTree
read_pay tokens =
    let x = read_chan (rest_of tokens) in
    let q = read_potential x.1 in
    (pay (front_at tokens) x.0 q.0, q.1)

unfoldable pub read_get : Reader StepTree
read_get tokens =
    let x = read_chan (rest_of tokens) in
    let q = read_potential x.1 in
    (getting (front_at tokens) x.0 q.0, q.1)

unfoldable pub read_work : Reader StepTree
read_work tokens = let q = read_potential (rest_of tokens) in (work (front_at tokens) q.0, q.1)

unfoldable pub read_wait : Reader StepTree
read_wait tokens = let x = read_name (rest_of tokens) in (wait (front_at tokens) x.0, x.1)

-- a word, a name, `as` and a name
unfoldable pub read_as : (ℕ → NameAt → NameAt → StepTree) → Reader StepTree
read_as form tokens =
    let x = read_name (rest_of tokens) in
    let y = read_name (rest_of x.1) in
    (form (front_at tokens) x.0 y.0, y.1)

unfoldable pub read_spawn : Reader StepTree
read_spawn tokens =
    let x = read_name (rest_of tokens) in
    let f = read_name (rest_of x.1) in
    let a = read_args f.1 in
    (spawn (front_at tokens) x.0 f.0 a.0, a.1)

-- what stands behind `let NAME = list`, of a `let` at an offset
unfoldable pub list_from : ℕ → NameAt → ℕ → Bool → Reader StepTree
list_from at v list_at true tokens =
    let q = read_potential tokens in
    let t = read_value_type q.1 in
    (empty_list at v list_at q.0 t.0, t.1)
list_from at v list_at false tokens =
    let e = whole_term tokens in
    let w = read_name (rest_of e.1) in
    (longer_list at v e.0 w.0, w.1)

-- what stands behind `let NAME =`, of a `let` at an offset
unfoldable pub bound_from : ℕ → NameAt → Bool → Reader StepTree
bound_from at v true tokens =
    list_from at v (front_at tokens) (is_open_brace (front_kind (rest_of tokens))) (rest_of tokens)
bound_from at v false tokens = let e = whole_term tokens in (binding at v e.0, e.1)

unfoldable pub read_let : Reader StepTree
read_let tokens =
    let v = read_name (rest_of tokens) in
    let inside = rest_of v.1 in
    bound_from (front_at tokens) v.0 (is_list (front_kind inside)) inside

unfoldable pub read_emit : Reader StepTree
read_emit tokens = let e = whole_term (rest_of tokens) in (emit (front_at tokens) e.0, e.1)

-- a step that begins with such a token
unfoldable pub step_from : Option TokenKind → Reader StepTree
step_from (Some (kind.Reserved word.Send)) tokens = read_named_step send tokens
step_from (Some (kind.Reserved word.Recv)) tokens = read_named_step recv tokens
step_from (Some (kind.Reserved word.Put)) tokens = read_put tokens
step_from (Some (kind.Reserved word.Take)) tokens = read_named_step taking tokens
step_from (Some (kind.Reserved word.Pay)) tokens = read_pay tokens
step_from (Some (kind.Reserved word.Get)) tokens = read_get tokens
step_from (Some (kind.Reserved word.Work)) tokens = read_work tokens
step_from (Some (kind.Reserved word.Wait)) tokens = read_wait tokens
step_from (Some (kind.Reserved word.Accept)) tokens = (accept (front_at tokens), rest_of tokens)
step_from (Some (kind.Reserved word.Detach)) tokens = (detach (front_at tokens), rest_of tokens)
step_from (Some (kind.Reserved word.Acquire)) tokens = read_as acquire tokens
step_from (Some (kind.Reserved word.Release)) tokens = read_as release tokens
step_from (Some (kind.Reserved word.Spawn)) tokens = read_spawn tokens
step_from (Some (kind.Reserved word.Let)) tokens = read_let tokens
step_from (Some (kind.Reserved word.Emit)) tokens = read_emit tokens
step_from _ tokens = read_label tokens

abbrev pub read_step : Reader StepTree
read_step tokens = step_from (front_kind tokens) tokens

-- whether the last instruction of a code begins with such a token
abbrev pub is_last : Option TokenKind → Bool
is_last (Some (kind.Reserved word.Close)) = true
is_last (Some (kind.Reserved word.Fwd)) = true
is_last (Some (kind.Reserved word.Call)) = true
is_last (Some (kind.Reserved word.If)) = true
is_last (Some (kind.Reserved word.Case)) = true
is_last (Some (kind.Reserved word.Match)) = true
is_last _ = false

-- `close`
abbrev pub read_close : Reader LastTree
read_close tokens = (close (front_at tokens), rest_of tokens)

unfoldable pub read_fwd : Reader LastTree
read_fwd tokens = let x = read_name (rest_of tokens) in (fwd (front_at tokens) x.0, x.1)

unfoldable pub read_call : Reader LastTree
read_call tokens =
    let f = read_name (rest_of tokens) in
    let a = read_args f.1 in
    (calling (front_at tokens) f.0 a.0, a.1)

-- `{`, a code and `}`
unfoldable pub read_braced : Reader CodeTree → Reader CodeTree
read_braced inner tokens = let c = inner (rest_of tokens) in (c.0, rest_of c.1)

unfoldable pub read_code_if : Reader CodeTree → Reader LastTree
read_code_if inner tokens =
    let test = whole_term (rest_of tokens) in
    let holds = read_braced inner test.1 in
    let fails = read_braced inner (rest_of holds.1) in
    (code_if (front_at tokens) test.0 holds.0 fails.0, fails.1)

-- a label, `=>` and a code
unfoldable pub read_arm : Reader CodeTree → Reader Arm
read_arm inner tokens =
    let c = inner (rest_of (rest_of tokens)) in
    (((read_name tokens).0, c.0), c.1)

unfoldable pub read_case : Reader CodeTree → Reader LastTree
read_case inner tokens =
    let x = read_chan (rest_of tokens) in
    let inside = rest_of x.1 in
    let arms = read_parted (read_arm inner) is_bar (length inside) [] inside in
    (case (front_at tokens) x.0 (arm_trees arms.0), rest_of arms.1)

-- `match NAME { nil =>`, a code, `| NAME :: NAME =>`, a code and `}`
unfoldable pub read_code_match : Reader CodeTree → Reader LastTree
read_code_match inner tokens =
    let w = read_name (rest_of tokens) in
    let empty = inner (rest_of (rest_of (rest_of w.1))) in
    let head = rest_of empty.1 in
    let tail = rest_of (rest_of head) in
    let more = inner (rest_of (rest_of tail)) in
    (code_match (front_at tokens) w.0 empty.0 (read_name head).0 (read_name tail).0 more.0, rest_of more.1)

-- the last instruction of a code, which begins with such a token
unfoldable pub last_from : Reader CodeTree → Option TokenKind → Reader LastTree
last_from inner (Some (kind.Reserved word.Fwd)) tokens = read_fwd tokens
last_from inner (Some (kind.Reserved word.Call)) tokens = read_call tokens
last_from inner (Some (kind.Reserved word.If)) tokens = read_code_if inner tokens
last_from inner (Some (kind.Reserved word.Case)) tokens = read_case inner tokens
last_from inner (Some (kind.Reserved word.Match)) tokens = read_code_match inner tokens
last_from inner _ tokens = read_close tokens

abbrev pub read_last : Reader CodeTree → Reader LastTree
read_last inner tokens = last_from inner (front_kind tokens) tokens

-- steps behind those that were read, at most n of them, and the last instruction
unfoldable pub read_steps : Reader CodeTree → ℕ → List StepTree → Reader CodeTree
read_steps inner zero steps tokens = (code steps (read_close tokens).0, rest_of tokens)
read_steps inner (suc n) steps tokens =
    if is_last (front_kind tokens) then (code steps (read_last inner tokens).0, (read_last inner tokens).1)
    else read_steps inner n (steps ++ (read_step tokens).0 ∷ []) (rest_of (read_step tokens).1)

abbrev pub code_of_tokens : Reader CodeTree → Reader CodeTree
code_of_tokens inner tokens = read_steps inner (length tokens) [] tokens

-- a code in which no more than so many are open
unfoldable pub read_code : ℕ → Reader CodeTree
read_code zero tokens = (code [] (read_close tokens).0, rest_of tokens)
read_code (suc room) tokens = code_of_tokens (read_code room) tokens
