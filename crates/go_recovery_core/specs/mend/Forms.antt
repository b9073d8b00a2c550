-- The forms of Go that the grammar of govisd lacks.
use denote.Enum.Bare.{sameb}
use Rattle.std.specs.Prelude.{ℕ, Bool, false, true, not, ◌&&◌, ◌||◌, ◌+◌, List, codes, Option, None, Some, is_none, is_some, if◌then◌else◌}
use Rattle.go_tree_nodes.specs.token_core.contracts.kind.Keyword as keyword_contracts
use Rattle.go_tree_nodes.specs.token_core.contracts.kind.Operator as operator_contracts
use Rattle.go_tree_nodes.specs.token_core.declared.token.Token.{Token}
use Rattle.go_tree_nodes.specs.token_core.declared.kind.TokenKind.{TokenKind}
use Rattle.go_tree_nodes.specs.token_core.declared.kind.TokenKind.TheVariants as kinds
use Rattle.go_tree_nodes.specs.token_core.declared.kind.Operator.{Operator}
use Rattle.go_tree_nodes.specs.token_core.declared.kind.Operator.TheVariants as operators
use Rattle.go_tree_nodes.specs.token_core.declared.kind.Keyword.{Keyword}
use Rattle.go_tree_nodes.specs.token_core.declared.kind.Keyword.TheVariants as keywords
use Rattle.go_recovery_core.specs.declared.mend.around.Around.{Around}
use Rattle.go_recovery_core.specs.declared.mend.forms.FormOfGo.{FormOfGo}
use Rattle.go_recovery_core.specs.declared.mend.forms.FormOfGo.TheVariants as forms
use Rattle.go_recovery_core.specs.mend.Tokens.{kind_at, kind_before, line_before, open_before, opener_of}

abbrev pub form_words : FormOfGo → List ℕ
form_words forms.Slices = codes "slices, arrays and indexing"
form_words forms.TypeSets = codes "type sets in interfaces"
form_words forms.TypeParameters = codes "type parameters"
form_words forms.Switch = codes "switch statements"
form_words forms.Select = codes "select statements"
form_words forms.Defer = codes "defer statements"
form_words forms.Go = codes "go statements"
form_words forms.Goto = codes "goto statements"
form_words forms.Fallthrough = codes "fallthrough statements"
form_words forms.Map = codes "maps"
form_words forms.Channel = codes "channels"
form_words forms.Range = codes "range clauses"
form_words forms.Variadic = codes "variadic parameters"
form_words forms.FunctionValue = codes "functions as values"
form_words forms.TypeAssertion = codes "type assertions and type switches"
form_words forms.Alias = codes "aliases of anything but the name of a type"
form_words forms.EmbeddedInterface = codes "interfaces embedded in interfaces"
form_words forms.RepeatedConstants = codes "constants without an expression of their own"
form_words forms.FunctionWithoutBody = codes "functions without a body"
form_words forms.LocalType = codes "types declared in functions"
form_words forms.Label = codes "labels"
form_words forms.LabelledJump = codes "labels behind break and continue"

-- the tokens around the one of a number
abbrev pub around_of : List Token → ℕ → Around
around_of tokens n = record {
  met = kind_at tokens n;
  after = kind_at tokens (n + 1);
  before = kind_before tokens n 1;
  second = kind_before tokens n 2;
  third = kind_before tokens n 3;
  first = kind_at tokens (line_before tokens n);
  opener = opener_of tokens (open_before tokens n 0);
  is_open = is_some (open_before tokens n 0);
}

abbrev pub is_name : Option TokenKind → Bool
is_name (Some kinds.Identifier) = true
is_name _ = false

abbrev pub is_mark : Option TokenKind → Operator → Bool
is_mark (Some (kinds.Operator found)) mark = sameb operator_contracts.the_type found mark
is_mark _ mark = false

abbrev pub is_word : Option TokenKind → Keyword → Bool
is_word (Some (kinds.Keyword found)) word = sameb keyword_contracts.the_type found word
is_word _ word = false

-- the place stands behind `type NAME =`, or behind `NAME =` in the parentheses of `type`
abbrev pub is_alias : Around → Bool
is_alias a = is_mark a.before operators.Assign && is_name a.second && (is_word a.third keywords.Type || is_word a.opener keywords.Type)

-- `[`
abbrev pub bracket_form : Around → FormOfGo
bracket_form a =
    if is_word a.opener keywords.Interface then forms.TypeSets
    else if is_name a.before && (is_word a.second keywords.Func || is_word a.second keywords.Type) then forms.TypeParameters
    else forms.Slices

-- an interface's name ends at the place among the methods of another one
abbrev pub is_embedded : Around → Bool
is_embedded a =
    is_word a.opener keywords.Interface
    && (is_mark a.met operators.Dot || (is_name a.before && (is_mark a.met operators.Semicolon || is_mark a.met operators.CloseBrace)))

-- a constant's name ends at the place, in parentheses, with nothing behind it
abbrev pub is_repeated : Around → Bool
is_repeated a = is_word a.opener keywords.Const && is_name a.before && (is_mark a.met operators.Semicolon || is_mark a.met operators.CloseParen)

abbrev pub bare_form : Around → Option FormOfGo
bare_form a = if is_embedded a then Some forms.EmbeddedInterface else if is_repeated a then Some forms.RepeatedConstants else None

-- `(`
abbrev pub paren_form : Option TokenKind → Option FormOfGo
paren_form before = if is_mark before operators.Dot then Some forms.TypeAssertion else None

-- `~` or `|`
abbrev pub set_form : Option TokenKind → Option FormOfGo
set_form opener = if is_word opener keywords.Interface then Some forms.TypeSets else None

abbrev pub mark_form : Operator → Around → Option FormOfGo
mark_form operators.OpenBracket a = Some (bracket_form a)
mark_form operators.Arrow a = Some forms.Channel
mark_form operators.Ellipsis a = Some forms.Variadic
mark_form operators.OpenParen a = paren_form a.before
mark_form operators.Tilde a = set_form a.opener
mark_form operators.Or a = set_form a.opener
mark_form _ a = bare_form a

-- a declaration or a statement may begin behind this token
abbrev pub is_start : Option TokenKind → Bool
is_start before = is_none before || is_mark before operators.Semicolon || is_mark before operators.OpenBrace || is_mark before operators.CloseBrace

-- `func`
abbrev pub func_form : Option TokenKind → Option FormOfGo
func_form before = if is_start before then None else Some forms.FunctionValue

abbrev pub keyword_form : Keyword → Option TokenKind → Option FormOfGo
keyword_form keywords.Switch before = Some forms.Switch
keyword_form keywords.Select before = Some forms.Select
keyword_form keywords.Defer before = Some forms.Defer
keyword_form keywords.Go before = Some forms.Go
keyword_form keywords.Goto before = Some forms.Goto
keyword_form keywords.Fallthrough before = Some forms.Fallthrough
keyword_form keywords.Map before = Some forms.Map
keyword_form keywords.Chan before = Some forms.Channel
keyword_form keywords.Range before = Some forms.Range
keyword_form keywords.Func before = func_form before
keyword_form _ before = None

-- a name behind `break` or `continue`
abbrev pub name_form : Option TokenKind → Option FormOfGo
name_form before = if is_word before keywords.Break || is_word before keywords.Continue then Some forms.LabelledJump else None

-- the form that the token at the place begins
abbrev pub form_of : Option TokenKind → Around → Option FormOfGo
form_of (Some (kinds.Keyword word)) a = keyword_form word a.before
form_of (Some (kinds.Operator mark)) a = mark_form mark a
form_of (Some kinds.Identifier) a = name_form a.before
form_of _ a = None

abbrev pub met_form : Around → Option FormOfGo
met_form a = form_of a.met a

abbrev pub or_alias : Option FormOfGo → Around → Option FormOfGo
or_alias (Some form) a = Some form
or_alias None a = if is_alias a then Some forms.Alias else None

-- the form that is told whatever change would give the text a tree
abbrev pub sure_form : Around → Option FormOfGo
sure_form a = or_alias (met_form a) a

-- a function's header ends at the place with no body behind it
abbrev pub is_header : Around → Bool
is_header a = is_mark a.met operators.Semicolon && not a.is_open && is_word a.first keywords.Func && not (is_mark a.after operators.OpenBrace)

-- the form that is told only where no change gives the text a tree
abbrev pub late_form : Around → Option FormOfGo
late_form a =
    if is_word a.met keywords.Type && a.is_open then Some forms.LocalType
    else if is_mark a.met operators.Colon && is_name a.before then Some forms.Label
    else if is_header a then Some forms.FunctionWithoutBody
    else None
