-- The words of what is said of a fault of the grammar.
use Rattle.std.specs.Prelude.{ℕ, Bool, true, false, not, ◌&&◌, nat_eq, nat_le, nat_lt, List, ◌++◌, length, codes, Option, None, Some, is_none, is_some, if◌then◌else◌}
use Rattle.std.specs.List.{list_any}
use Rattle.go_tree_nodes.specs.text_core.Slices.{slice_of}
use Rattle.go_tree_nodes.specs.token_core.declared.token.Token.{Token}
use Rattle.go_tree_nodes.specs.token_core.declared.kind.TokenKind.{TokenKind}
use Rattle.go_tree_nodes.specs.token_core.declared.kind.TokenKind.TheVariants as kinds
use Rattle.go_tree_nodes.specs.token_core.declared.kind.Operator.{Operator}
use Rattle.go_tree_nodes.specs.token_core.declared.kind.Operator.TheVariants as operators
use Rattle.go_tree_nodes.specs.token_core.declared.kind.Keyword.{Keyword}
use Rattle.go_tree_nodes.specs.token_core.declared.kind.Keyword.TheVariants as keywords
use Rattle.go_recovery_core.specs.declared.mend.foreign.ForeignWord.{ForeignWord}
use Rattle.go_recovery_core.specs.declared.mend.forms.FormOfGo.{FormOfGo}
use Rattle.go_recovery_core.specs.declared.mend.mending.Mark.{Mark}
use Rattle.go_recovery_core.specs.declared.mend.mending.Mark.TheVariants as marks
use Rattle.go_recovery_core.specs.declared.mend.mending.Mending.{Mending}
use Rattle.go_recovery_core.specs.declared.mend.mending.Mending.TheVariants as mendings
use Rattle.go_recovery_core.specs.declared.mend.outcome.Mend.{Mend}
use Rattle.go_recovery_core.specs.mend.Candidates.{is_word_kind}
use Rattle.go_recovery_core.specs.mend.Foreign.{foreign_advice}
use Rattle.go_recovery_core.specs.mend.Forms.{form_words}
use Rattle.go_recovery_core.specs.mend.Mended.{mark_text}

abbrev pub too_high_text : List ℕ
too_high_text = codes "nested more than 200 deep, where each operator in a row counts as one level: Go has no such limit"

abbrev pub is_control : ℕ → Bool
is_control b = nat_lt b 32

-- at most 40 bytes, and of one line
abbrev pub is_shown : List ℕ → Bool
is_shown spelled = nat_le (length spelled) 40 && not (list_any is_control spelled)

abbrev pub kind_words : TokenKind → List ℕ
kind_words kinds.Identifier = codes "unexpected name"
kind_words kinds.Integer = codes "unexpected number"
kind_words kinds.String = codes "unexpected string"
kind_words (kinds.Keyword k) = codes "unexpected keyword"
kind_words (kinds.Operator o) = codes "unexpected mark"

-- marks stand between quotation marks
abbrev pub opening_quote : TokenKind → List ℕ
opening_quote kind = if is_word_kind kind then codes "unexpected " else codes "unexpected \""

abbrev pub closing_quote : TokenKind → List ℕ
closing_quote kind = if is_word_kind kind then codes "" else codes "\""

abbrev pub spelled_text : TokenKind → List ℕ → List ℕ
spelled_text kind spelled = if is_shown spelled then opening_quote kind ++ (spelled ++ closing_quote kind) else kind_words kind

abbrev pub token_text : TokenKind → Option (List ℕ) → List ℕ
token_text kind (Some spelled) = spelled_text kind spelled
token_text kind None = kind_words kind

-- the end of a line, which may be the last one
abbrev pub end_words : List ℕ → ℕ → List ℕ
end_words text end = if nat_eq end (length text) then codes "unexpected end of the file" else codes "unexpected end of the line"

-- what is said of the token met
abbrev pub met_text : List ℕ → Option Token → List ℕ
met_text text (Some t) = if nat_eq t.span.start t.span.end then end_words text t.span.end else token_text t.kind (slice_of text t.span)
met_text text None = codes "unexpected end of the file"

abbrev pub form_said : List ℕ → Option Token → Option FormOfGo → List ℕ
form_said text met (Some form) = form_words form ++ (codes ": Go has them, govisd does not support them yet" ++ codes "")
form_said text met None = met_text text met

abbrev pub headline_text : List ℕ → Mend → List ℕ
headline_text text m = if m.too_high then too_high_text else form_said text m.met m.form

abbrev pub put_in_text : Mark → List ℕ
put_in_text marks.Equal = codes "write == in place of =" ++ (codes "" ++ codes "")
put_in_text mark = codes "put in " ++ (mark_text mark ++ codes "")

abbrev pub take_away_words : Option Token → List ℕ
take_away_words (Some t) = if nat_eq t.span.start t.span.end then codes "put the { on this line" else codes "take it away"
take_away_words None = codes "take it away"

abbrev pub mending_said : Option Mending → Option Token → Option (List ℕ)
mending_said (Some (mendings.PutIn mark at)) met = Some (put_in_text mark)
mending_said (Some (mendings.TakeAway from to)) met = Some (take_away_words met)
mending_said None met = None

abbrev pub or_mending : Option ForeignWord → Option Mending → Option Token → Option (List ℕ)
or_mending (Some word) mending met = Some (foreign_advice word)
or_mending None mending met = mending_said mending met

-- what helps
abbrev pub help_text : Mend → Option (List ℕ)
help_text m = or_mending m.foreign m.mending m.met

abbrev pub begins_declaration : Keyword → Bool
begins_declaration keywords.Func = true
begins_declaration keywords.Type = true
begins_declaration keywords.Var = true
begins_declaration keywords.Const = true
begins_declaration keywords.Import = true
begins_declaration _ = false

abbrev pub closes : Operator → Bool
closes operators.CloseParen = true
closes operators.CloseBrace = true
closes _ = false

abbrev pub is_boundary_kind : TokenKind → Bool
is_boundary_kind (kinds.Keyword k) = begins_declaration k
is_boundary_kind (kinds.Operator o) = closes o
is_boundary_kind _ = false

-- the end of the text, what begins a declaration, or a closing bracket
abbrev pub is_boundary_word : Option Token → Bool
is_boundary_word None = true
is_boundary_word (Some t) = is_boundary_kind t.kind

abbrev pub is_opened : Mend → Bool
is_opened m = is_some m.«open» && is_none m.form && is_none m.foreign && is_boundary_word m.met
