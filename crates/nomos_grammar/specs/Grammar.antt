-- The grammar of contract texts: each production has its alternatives, and each alternative is a list of parts.
use Rattle.std.specs.Prelude.{List, [], ◌∷◌}
use Rattle.nomos_ir.specs.declared.word.Word.{Word}
use Rattle.nomos_ir.specs.declared.word.Word.TheVariants as word
use Rattle.nomos_syntax.specs.declared.symbol.Symbol.{Symbol}
use Rattle.nomos_syntax.specs.declared.symbol.Symbol.TheVariants as sym
use Rattle.nomos_grammar.specs.declared.part.Terminal.TheVariants as terminal
use Rattle.nomos_grammar.specs.declared.part.Nonterminal.{Nonterminal}
use Rattle.nomos_grammar.specs.declared.part.Nonterminal.TheVariants.{
  File,
  CostModel,
  Declarations,
  Declaration,
  DefinitionMode,
  Process,
  FunctionParameters,
  MoreFunctionParameters,
  FunctionParameter,
  Parameters,
  ValueParameters,
  MoreValueParameters,
  ValueParameter,
  ParameterKind,
  AfterParameterList,
  ChannelParameters,
  MoreChannelParameters,
  ChannelParameter,
  OptionalPotential,
  Potential,
  Amount,
  ValueType,
  SessionType,
  ValueArrow,
  AfterAtom,
  Atom,
  Labels,
  MoreLabels,
  LabelledType,
  Channel,
  Arguments,
  ValueArguments,
  MoreValueArguments,
  ChannelArguments,
  MoreChannelArguments,
  Code,
  Step,
  BoundValue,
  AfterList,
  Last,
  BracedCode,
  Branches,
  MoreBranches,
  Branch,
  Term,
  Disjunction,
  MoreDisjuncts,
  Conjunction,
  MoreConjuncts,
  Negation,
  Comparison,
  MoreComparison,
  ListTerm,
  MoreListTerm,
  Sum,
  MoreSummands,
  Product,
  MoreFactors,
  Primary,
  CallArguments,
}
use Rattle.nomos_grammar.specs.declared.part.Mark.TheVariants as mark
use Rattle.nomos_grammar.specs.declared.part.Part.{Part}
use Rattle.nomos_grammar.specs.declared.part.Part.TheVariants as part

-- a name, a number, the number `1`, a reserved word, a symbol
abbrev pub NAME : Part
NAME = part.Terminal terminal.Name

-- A number, in decimal digits.
abbrev pub NUMBER : Part
NUMBER = part.Terminal terminal.Number

-- The number `1` where it stands for the type of a channel that is closed.
abbrev pub ONE : Part
ONE = part.Terminal terminal.One

-- A reserved word, which no name may be.
abbrev pub keyword : Word → Part
keyword w = part.Terminal (terminal.Reserved w)

-- A symbol of punctuation or of an operator.
abbrev pub sign : Symbol → Part
sign s = part.Terminal (terminal.Symbol s)

-- what a production derives
abbrev pub the : Nonterminal → Part
the n = part.Nonterminal n

-- what is counted: see `CountedPlaces`
abbrev pub OPEN : Part
OPEN = part.Mark mark.OpenPart

-- Here a part that was opened, and that counted for the nesting, ends.
abbrev pub CLOSE : Part
CLOSE = part.Mark mark.ClosePart

-- Here a term begins, which counts for the nesting as long as it is open.
abbrev pub OPEN_TERM : Part
OPEN_TERM = part.Mark mark.OpenTerm

-- Here the innermost open term ends, and with it what its operators counted.
abbrev pub CLOSE_TERM : Part
CLOSE_TERM = part.Mark mark.CloseTerm

-- Here an infix operator of the innermost open term is read, which counts for the nesting.
abbrev pub OPERATOR : Part
OPERATOR = part.Mark mark.Operator

-- Here the next token makes one node more.
abbrev pub NODE : Part
NODE = part.Mark mark.Node

-- Here the token before turns out to have made one node more, as the word `list` does.
abbrev pub NODE_BEFORE : Part
NODE_BEFORE = part.Mark mark.NodeBefore

-- Here the next token is a star, an amount that the checker is to find.
abbrev pub STAR : Part
STAR = part.Mark mark.Star

-- A production derives any one of its alternatives, and an empty alternative derives nothing.
abbrev pub alternatives : Nonterminal → List (List Part)
-- file = [ "cost" ("ticks" | "sends" | "all") ";" ] { decl }
alternatives File =
    (keyword word.Cost ∷ the CostModel ∷ sign sym.Semicolon ∷ the Declarations ∷ []) ∷
    (the Declaration ∷ the Declarations ∷ []) ∷ [] ∷ []
alternatives CostModel = (keyword word.Ticks ∷ []) ∷ (keyword word.Sends ∷ []) ∷ (keyword word.All ∷ []) ∷ []
alternatives Declarations = (the Declaration ∷ the Declarations ∷ []) ∷ [] ∷ []
-- decl = "type" ("R" | "S" | "L") NAME "=" type ";"
--      | "fn" NAME "(" [ vpar { "," vpar } ] ")" ":" vtype "=" term ";"
--      | "proc" ("R" | "S" | "L") NAME pars [ pot ] ":" type "=" code ";"
--      | "proc" "T" NAME pars [ pot ] "=" code ";"
alternatives Declaration =
    (NODE ∷ keyword word.«Type» ∷ the DefinitionMode ∷ NAME ∷ sign sym.Equals ∷ the SessionType ∷
    sign sym.Semicolon ∷ []) ∷
    (NODE ∷ keyword word.Fn ∷ NAME ∷ sign sym.OpenParen ∷ the FunctionParameters ∷ sign sym.CloseParen ∷
    sign sym.Colon ∷ the ValueType ∷ sign sym.Equals ∷ the Term ∷ sign sym.Semicolon ∷ []) ∷
    (NODE ∷ keyword word.Proc ∷ the Process ∷ []) ∷ []
alternatives DefinitionMode = (keyword word.R ∷ []) ∷ (keyword word.S ∷ []) ∷ (keyword word.L ∷ []) ∷ []
alternatives Process =
    (keyword word.T ∷ NAME ∷ the Parameters ∷ the OptionalPotential ∷ sign sym.Equals ∷ the Code ∷
    sign sym.Semicolon ∷ []) ∷
    (the DefinitionMode ∷ NAME ∷ the Parameters ∷ the OptionalPotential ∷ sign sym.Colon ∷ the SessionType ∷
    sign sym.Equals ∷ the Code ∷ sign sym.Semicolon ∷ []) ∷ []
-- [ vpar { "," vpar } ], where vpar = NAME ":" vtype
alternatives FunctionParameters = (the FunctionParameter ∷ the MoreFunctionParameters ∷ []) ∷ [] ∷ []
alternatives MoreFunctionParameters =
    (sign sym.Comma ∷ the FunctionParameter ∷ the MoreFunctionParameters ∷ []) ∷ [] ∷ []
alternatives FunctionParameter = (NAME ∷ sign sym.Colon ∷ the ValueType ∷ []) ∷ []
-- pars = "(" [ par { "," par } ] ";" [ cpar { "," cpar } ] ")"
-- par = NAME ":" vtype | NAME ":" "list" pot vtype
-- cpar = NAME ":" type
alternatives Parameters =
    (sign sym.OpenParen ∷ the ValueParameters ∷ sign sym.Semicolon ∷ the ChannelParameters ∷ sign sym.CloseParen ∷
    []) ∷ []
alternatives ValueParameters = (the ValueParameter ∷ the MoreValueParameters ∷ []) ∷ [] ∷ []
alternatives MoreValueParameters = (sign sym.Comma ∷ the ValueParameter ∷ the MoreValueParameters ∷ []) ∷ [] ∷ []
alternatives ValueParameter = (NAME ∷ sign sym.Colon ∷ the ParameterKind ∷ []) ∷ []
alternatives ChannelParameters = (the ChannelParameter ∷ the MoreChannelParameters ∷ []) ∷ [] ∷ []
alternatives MoreChannelParameters =
    (sign sym.Comma ∷ the ChannelParameter ∷ the MoreChannelParameters ∷ []) ∷ [] ∷ []
alternatives ChannelParameter = (NAME ∷ sign sym.Colon ∷ the SessionType ∷ []) ∷ []
-- What stands behind the `:` of a value parameter. Where no potential follows, its word `list` begins a value type,
-- which counts from the next token on: nothing else is open at the word.
alternatives ParameterKind =
    (NODE ∷ keyword word.List ∷ the AfterParameterList ∷ []) ∷
    (OPEN ∷ NODE ∷ keyword word.Int ∷ CLOSE ∷ []) ∷
    (OPEN ∷ NODE ∷ keyword word.Bool ∷ CLOSE ∷ []) ∷ []
alternatives AfterParameterList =
    (the Potential ∷ the ValueType ∷ []) ∷
    (OPEN ∷ the ValueType ∷ CLOSE ∷ []) ∷ []
-- pot = "{" amount "}"
-- amount = NUMBER | "*"
alternatives OptionalPotential = (the Potential ∷ []) ∷ [] ∷ []
alternatives Potential = (sign sym.OpenBrace ∷ the Amount ∷ sign sym.CloseBrace ∷ []) ∷ []
alternatives Amount = (STAR ∷ sign sym.Star ∷ []) ∷ (NUMBER ∷ []) ∷ []
-- vtype = "int" | "bool" | "list" vtype
alternatives ValueType =
    (OPEN ∷ NODE ∷ keyword word.List ∷ the ValueType ∷ CLOSE ∷ []) ∷
    (OPEN ∷ NODE ∷ keyword word.Int ∷ CLOSE ∷ []) ∷
    (OPEN ∷ NODE ∷ keyword word.Bool ∷ CLOSE ∷ []) ∷ []
-- type = "up" type | "down" type
--      | "|" pot ">" type | "<" pot "|" type
--      | vtype ("/\" | "->") type
--      | atom [ ("*" | "-o") type ]
alternatives SessionType =
    (OPEN ∷ NODE ∷ keyword word.Up ∷ the SessionType ∷ CLOSE ∷ []) ∷
    (OPEN ∷ NODE ∷ keyword word.Down ∷ the SessionType ∷ CLOSE ∷ []) ∷
    (OPEN ∷ NODE ∷ sign sym.Bar ∷ the Potential ∷ sign sym.Greater ∷ the SessionType ∷ CLOSE ∷ []) ∷
    (OPEN ∷ NODE ∷ sign sym.Less ∷ the Potential ∷ sign sym.Bar ∷ the SessionType ∷ CLOSE ∷ []) ∷
    (OPEN ∷ the ValueType ∷ the ValueArrow ∷ the SessionType ∷ CLOSE ∷ []) ∷
    (OPEN ∷ the Atom ∷ the AfterAtom ∷ CLOSE ∷ []) ∷ []
alternatives ValueArrow = (NODE ∷ sign sym.Wedge ∷ []) ∷ (NODE ∷ sign sym.Arrow ∷ []) ∷ []
alternatives AfterAtom =
    (NODE ∷ sign sym.Star ∷ the SessionType ∷ []) ∷
    (NODE ∷ sign sym.Lollipop ∷ the SessionType ∷ []) ∷ [] ∷ []
-- atom = "1" | NAME | ("+" | "&") "{" lab { "|" lab } "}" | "(" type ")"
-- lab = NAME ":" type
alternatives Atom =
    (sign sym.OpenParen ∷ the SessionType ∷ sign sym.CloseParen ∷ []) ∷
    (NODE ∷ sign sym.Plus ∷ sign sym.OpenBrace ∷ the Labels ∷ sign sym.CloseBrace ∷ []) ∷
    (NODE ∷ sign sym.Ampersand ∷ sign sym.OpenBrace ∷ the Labels ∷ sign sym.CloseBrace ∷ []) ∷
    (NODE ∷ NAME ∷ []) ∷ (NODE ∷ ONE ∷ []) ∷ []
alternatives Labels = (the LabelledType ∷ the MoreLabels ∷ []) ∷ []
alternatives MoreLabels = (sign sym.Bar ∷ the LabelledType ∷ the MoreLabels ∷ []) ∷ [] ∷ []
alternatives LabelledType = (NAME ∷ sign sym.Colon ∷ the SessionType ∷ []) ∷ []
-- chan = "self" | NAME
alternatives Channel = (keyword word.SelfWord ∷ []) ∷ (NAME ∷ []) ∷ []
-- args = "(" [ term { "," term } ] ";" [ NAME { "," NAME } ] ")"
alternatives Arguments =
    (sign sym.OpenParen ∷ the ValueArguments ∷ sign sym.Semicolon ∷ the ChannelArguments ∷ sign sym.CloseParen ∷
    []) ∷ []
alternatives ValueArguments = (the Term ∷ the MoreValueArguments ∷ []) ∷ [] ∷ []
alternatives MoreValueArguments = (sign sym.Comma ∷ the Term ∷ the MoreValueArguments ∷ []) ∷ [] ∷ []
alternatives ChannelArguments = (NAME ∷ the MoreChannelArguments ∷ []) ∷ [] ∷ []
alternatives MoreChannelArguments = (sign sym.Comma ∷ NAME ∷ the MoreChannelArguments ∷ []) ∷ [] ∷ []
-- code = { step ";" } last
alternatives Code = (the Last ∷ []) ∷ (the Step ∷ sign sym.Semicolon ∷ the Code ∷ []) ∷ []
-- step = chan "." NAME | "send" chan NAME | "recv" chan NAME
--      | "put" chan term | "take" chan NAME
--      | "pay" chan pot | "get" chan pot | "work" pot
--      | "wait" NAME | "accept" | "detach"
--      | "acquire" NAME "as" NAME | "release" NAME "as" NAME
--      | "spawn" NAME "=" NAME args | "let" NAME "=" bound | "emit" term
alternatives Step =
    (NODE ∷ keyword word.Send ∷ the Channel ∷ NAME ∷ []) ∷
    (NODE ∷ keyword word.Recv ∷ the Channel ∷ NAME ∷ []) ∷
    (NODE ∷ keyword word.Put ∷ the Channel ∷ the Term ∷ []) ∷
    (NODE ∷ keyword word.Take ∷ the Channel ∷ NAME ∷ []) ∷
    (NODE ∷ keyword word.Pay ∷ the Channel ∷ the Potential ∷ []) ∷
    (NODE ∷ keyword word.Get ∷ the Channel ∷ the Potential ∷ []) ∷
    (NODE ∷ keyword word.Work ∷ the Potential ∷ []) ∷
    (NODE ∷ keyword word.Wait ∷ NAME ∷ []) ∷
    (NODE ∷ keyword word.Accept ∷ []) ∷
    (NODE ∷ keyword word.Detach ∷ []) ∷
    (NODE ∷ keyword word.Acquire ∷ NAME ∷ keyword word.As ∷ NAME ∷ []) ∷
    (NODE ∷ keyword word.Release ∷ NAME ∷ keyword word.As ∷ NAME ∷ []) ∷
    (NODE ∷ keyword word.Spawn ∷ NAME ∷ sign sym.Equals ∷ NAME ∷ the Arguments ∷ []) ∷
    (NODE ∷ keyword word.Let ∷ NAME ∷ sign sym.Equals ∷ the BoundValue ∷ []) ∷
    (NODE ∷ keyword word.Emit ∷ the Term ∷ []) ∷
    (NODE ∷ the Channel ∷ sign sym.Dot ∷ NAME ∷ []) ∷ []
-- bound = term | "list" pot vtype | "list" term "," NAME
-- The word `list` is a value type word, and so a node, where a potential follows.
alternatives BoundValue = (keyword word.List ∷ the AfterList ∷ []) ∷ (the Term ∷ []) ∷ []
alternatives AfterList =
    (NODE_BEFORE ∷ the Potential ∷ the ValueType ∷ []) ∷
    (the Term ∷ sign sym.Comma ∷ NAME ∷ []) ∷ []
-- last = "close" | "fwd" NAME | "call" NAME args
--      | "if" term "{" code "}" "else" "{" code "}"
--      | "case" chan "{" branch { "|" branch } "}"
--      | "match" NAME "{" "nil" "=>" code "|" NAME "::" NAME "=>" code "}"
alternatives Last =
    (NODE ∷ keyword word.Fwd ∷ NAME ∷ []) ∷
    (NODE ∷ keyword word.Call ∷ NAME ∷ the Arguments ∷ []) ∷
    (NODE ∷ keyword word.If ∷ the Term ∷ the BracedCode ∷ keyword word.Else ∷ the BracedCode ∷ []) ∷
    (NODE ∷ keyword word.Case ∷ the Channel ∷ sign sym.OpenBrace ∷ the Branches ∷ sign sym.CloseBrace ∷ []) ∷
    (NODE ∷ keyword word.Match ∷ NAME ∷ sign sym.OpenBrace ∷
    OPEN ∷ keyword word.Nil ∷ sign sym.FatArrow ∷ the Code ∷ CLOSE ∷ sign sym.Bar ∷
    OPEN ∷ NAME ∷ sign sym.DoubleColon ∷ NAME ∷ sign sym.FatArrow ∷ the Code ∷ CLOSE ∷ sign sym.CloseBrace ∷ []) ∷
    (NODE ∷ keyword word.Close ∷ []) ∷ []
-- a braced code is open at its `{` and up to its `}`
alternatives BracedCode = (OPEN ∷ sign sym.OpenBrace ∷ the Code ∷ sign sym.CloseBrace ∷ CLOSE ∷ []) ∷ []
-- branch = NAME "=>" code
alternatives Branches = (the Branch ∷ the MoreBranches ∷ []) ∷ []
alternatives MoreBranches = (sign sym.Bar ∷ the Branch ∷ the MoreBranches ∷ []) ∷ [] ∷ []
alternatives Branch = (OPEN ∷ NODE ∷ NAME ∷ sign sym.FatArrow ∷ the Code ∷ CLOSE ∷ []) ∷ []
-- term = "if" term "then" term "else" term
--      | "match" term "{" "nil" "=>" term "|" NAME "::" NAME "=>" term "}"
--      | orx
alternatives Term =
    (OPEN_TERM ∷ NODE ∷ keyword word.If ∷ the Term ∷ keyword word.Then ∷ the Term ∷ keyword word.Else ∷ the Term ∷
    CLOSE_TERM ∷ []) ∷
    (OPEN_TERM ∷ NODE ∷ keyword word.Match ∷ the Term ∷ sign sym.OpenBrace ∷
    keyword word.Nil ∷ sign sym.FatArrow ∷ the Term ∷ sign sym.Bar ∷
    NAME ∷ sign sym.DoubleColon ∷ NAME ∷ sign sym.FatArrow ∷ the Term ∷ sign sym.CloseBrace ∷ CLOSE_TERM ∷ []) ∷
    (OPEN_TERM ∷ the Disjunction ∷ CLOSE_TERM ∷ []) ∷ []
-- orx = andx { "or" andx }
alternatives Disjunction = (the Conjunction ∷ the MoreDisjuncts ∷ []) ∷ []
alternatives MoreDisjuncts = (NODE ∷ keyword word.Or ∷ OPERATOR ∷ the Conjunction ∷ the MoreDisjuncts ∷ []) ∷ [] ∷ []
-- andx = notx { "and" notx }
alternatives Conjunction = (the Negation ∷ the MoreConjuncts ∷ []) ∷ []
alternatives MoreConjuncts = (NODE ∷ keyword word.And ∷ OPERATOR ∷ the Negation ∷ the MoreConjuncts ∷ []) ∷ [] ∷ []
-- notx = "not" notx | cmp
alternatives Negation =
    (OPEN ∷ NODE ∷ keyword word.Not ∷ the Negation ∷ CLOSE ∷ []) ∷
    (OPEN ∷ the Comparison ∷ CLOSE ∷ []) ∷ []
-- cmp = cons [ ("<" | "=") cons ]
alternatives Comparison = (the ListTerm ∷ the MoreComparison ∷ []) ∷ []
alternatives MoreComparison =
    (NODE ∷ sign sym.Less ∷ OPERATOR ∷ the ListTerm ∷ []) ∷
    (NODE ∷ sign sym.Equals ∷ OPERATOR ∷ the ListTerm ∷ []) ∷ [] ∷ []
-- cons = sum [ "::" cons ]
alternatives ListTerm = (the Sum ∷ the MoreListTerm ∷ []) ∷ []
alternatives MoreListTerm = (NODE ∷ sign sym.DoubleColon ∷ OPERATOR ∷ the ListTerm ∷ []) ∷ [] ∷ []
-- sum = prod { ("+" | "-") prod }
alternatives Sum = (the Product ∷ the MoreSummands ∷ []) ∷ []
alternatives MoreSummands =
    (NODE ∷ sign sym.Plus ∷ OPERATOR ∷ the Product ∷ the MoreSummands ∷ []) ∷
    (NODE ∷ sign sym.Minus ∷ OPERATOR ∷ the Product ∷ the MoreSummands ∷ []) ∷ [] ∷ []
-- prod = prim { ("*" | "/" | "%") prim }
alternatives Product = (the Primary ∷ the MoreFactors ∷ []) ∷ []
alternatives MoreFactors =
    (NODE ∷ sign sym.Star ∷ OPERATOR ∷ the Primary ∷ the MoreFactors ∷ []) ∷
    (NODE ∷ sign sym.Slash ∷ OPERATOR ∷ the Primary ∷ the MoreFactors ∷ []) ∷
    (NODE ∷ sign sym.Percent ∷ OPERATOR ∷ the Primary ∷ the MoreFactors ∷ []) ∷ [] ∷ []
-- prim = NUMBER | "true" | "false" | "me" | NAME [ "(" [ term { "," term } ] ")" ] | "nil" vtype | "(" term ")"
alternatives Primary =
    (NODE ∷ NAME ∷ the CallArguments ∷ []) ∷
    (NODE ∷ keyword word.Nil ∷ the ValueType ∷ []) ∷
    (sign sym.OpenParen ∷ the Term ∷ sign sym.CloseParen ∷ []) ∷
    (NODE ∷ keyword word.True ∷ []) ∷ (NODE ∷ keyword word.False ∷ []) ∷ (NODE ∷ keyword word.Me ∷ []) ∷
    (NODE ∷ NUMBER ∷ []) ∷ []
alternatives CallArguments = (sign sym.OpenParen ∷ the ValueArguments ∷ sign sym.CloseParen ∷ []) ∷ [] ∷ []
