-- What each answer of reading means.
use Rattle.std.proofs.Common.{◌≡◌, ℕ, ◌+◌, ◌≤◌, ◌∙◌, List, Result, Ok, Err, subst, sym, arith, inl, inr}
use Rattle.go_tree_nodes.specs.text_core.declared.rule.Rule.{Rule}
use Rattle.go_parse_reader.proofs.TypesMarks.{ok_same}
use Rattle.go_tree_nodes.specs.token_core.declared.token.LexFault.{LexFault}
use Rattle.go_tree_nodes.specs.token_core.declared.token.Token.{Token}
use Rattle.go_scan_core.specs.Tokens.{IsAnswer}
use Rattle.go_scan_core.proofs.Answered.{one_list, not_both}
use Rattle.go_tree_nodes.specs.Terminals.{Terminal, terminals}
use Rattle.go_tree_nodes.specs.Trees.{FileTree}
use Rattle.go_tree_nodes.specs.Heights.{file_height}
use Rattle.go_parse_reader.specs.types.mirrors.Marks.{Stuck, Grammar, TooHigh}
use Rattle.go_parse_core.specs.Correct.{IsTreeOf, HasTree, HasOneTree, HasNoTree, HasNoLowTree, max_height}
use Rattle.go_parse_core.specs.Refusing.{HasOneRule, IsRuleOf}
use Rattle.go_parse_core.specs.mirrors.FileReading.{file_at}
use Rattle.go_parse_core.proofs.FileFound.{file_complete}
use Rattle.go_parse_core.proofs.FileSound.{file_sound}

pub ok_not_err : {A E : Type 0} (x : A) (y : E) (r : Result A E) → r ≡ Ok x → r ≡ Err y → ⊥
ok_not_err x y r e d = cc

grammar_not_high : {A : Type 0} (r : Result A Stuck) → r ≡ Err Grammar → r ≡ Err TooHigh → ⊥
grammar_not_high r e d = cc

-- terminals have at most one tree
pub one_tree_of : (ts : List Terminal) (f g : FileTree) → IsTreeOf f ts → IsTreeOf g ts → f ≡ g
one_tree_of ts f g is it =
    let b = file_height f + file_height g in
    elim (file_complete b ts f is) [
      | inr h ↦ absurd (omega (arith, h.1))
      | inl e ↦ (elim (file_complete b ts g it) [ inr h ↦ absurd (omega (arith, h.1)) | inl d ↦ ok_same f g (file_at b ts) e d ])
    ]

-- terminals that are refused have no tree of any height
pub grammar_means : (b : ℕ) (ts : List Terminal) → file_at b ts ≡ Err Grammar → (f : FileTree) → IsTreeOf f ts → ⊥
grammar_means b ts e f is =
    elim (file_complete b ts f is) [ inl d ↦ ok_not_err f Grammar (file_at b ts) d e | inr h ↦ grammar_not_high (file_at b ts) e h.0 ]

-- terminals that are read as too high have no tree that is low enough
pub too_high_means : (b : ℕ) (ts : List Terminal) → file_at b ts ≡ Err TooHigh → (f : FileTree) → IsTreeOf f ts → file_height f ≤ b + 1 → ⊥
too_high_means b ts e f is low =
    elim (file_complete b ts f is) [ inl d ↦ ok_not_err f TooHigh (file_at b ts) d e | inr h ↦ absurd (omega (arith, h.1)) ]

-- a tree of a text is one of the terminals of its tokens
pub tree_of_tokens : (text : List ℕ) (tokens : List Token) (f : FileTree) → IsAnswer text (Ok tokens) → HasTree text f → IsTreeOf f (terminals text tokens)
tree_of_tokens text tokens f scanned has =
    subst (λ ts. IsTreeOf f (terminals text ts)) (one_list text has.tokens tokens has.scanned scanned) has.tree

-- a text has at most one tree
pub has_one_tree : HasOneTree
has_one_tree text f g has it = one_tree_of (terminals text it.tokens) f g (tree_of_tokens text it.tokens f it.scanned has) it.tree

-- a text without tokens has no tree
pub no_tokens : (text : List ℕ) (fault : LexFault) → IsAnswer text (Err fault) → HasNoTree text
no_tokens text fault refused f has = not_both text has.tokens fault has.scanned refused

-- what a text that is refused lacks
pub no_tree : (text : List ℕ) (tokens : List Token) → IsAnswer text (Ok tokens) → file_at 199 (terminals text tokens) ≡ Err Grammar → HasNoTree text
no_tree text tokens scanned e f has = grammar_means 199 (terminals text tokens) e f (tree_of_tokens text tokens f scanned has)

pub no_low_tree : (text : List ℕ) (tokens : List Token) → IsAnswer text (Ok tokens) → file_at 199 (terminals text tokens) ≡ Err TooHigh → HasNoLowTree text
no_low_tree text tokens scanned e f has low = too_high_means 199 (terminals text tokens) e f (tree_of_tokens text tokens f scanned has) low

-- a tree that is read is that of the text, and low enough
pub found : (text : List ℕ) (tokens : List Token) (f : FileTree) → IsAnswer text (Ok tokens) → file_at 199 (terminals text tokens) ≡ Ok f → HasTree text f × (file_height f ≤ max_height)
found text tokens f scanned e =
    let w = file_sound 199 (terminals text tokens) f e in
    (record { tokens = tokens; scanned = scanned; tree = w.0 }, w.1)

-- reading stops by one rule at most
one_rule_of : (r : Result FileTree Stuck) (one other : Rule) → IsRuleOf r one → IsRuleOf r other → one ≡ other
one_rule_of (Ok f) one other is it = absurd is
one_rule_of (Err Grammar) one other is it = is ∙ sym it
one_rule_of (Err TooHigh) one other is it = is ∙ sym it

pub has_one_rule : HasOneRule
has_one_rule text tokens scanned one other is it = one_rule_of (file_at 199 (terminals text tokens)) one other (is tokens scanned) (it tokens scanned)
