-- Each text has a content, by the reading of its tokens.
use Rattle.std.proofs.Common.{◌≡◌, ℕ, ◌<◌, ◌≤◌, ◌^◌, List, length, Result, Ok, Err, inl, refl, arith}
use Rattle.go_tree_nodes.specs.text_core.declared.rule.Rule.{Rule}
use Rattle.go_tree_nodes.specs.text_core.declared.rule.Rule.TheVariants.{P1, P2}
use Rattle.go_tree_nodes.specs.token_core.declared.token.LexFault.{LexFault}
use Rattle.go_tree_nodes.specs.token_core.declared.token.Token.{Token}
use Rattle.go_tree_nodes.specs.Terminals.{terminals}
use Rattle.go_tree_nodes.specs.Trees.{FileTree}
use Rattle.go_scan_core.specs.Cutting.{tokens_of}
use Rattle.go_scan_core.specs.Tokens.{IsAnswer}
use Rattle.go_scan_core.proofs.Answered.{answer_of_tokens, not_both}
use Rattle.go_scan_core.proofs.TokenLemmas.{tokens_filled, tokens_in_order}
use Rattle.go_parse_reader.specs.declared.types.stop.Stop.{Stop}
use Rattle.go_parse_reader.specs.declared.types.stop.Stop.TheVariants as stop
use Rattle.go_parse_reader.specs.types.mirrors.Marks.{Stuck, Grammar, TooHigh}
use Rattle.go_parse_core.specs.declared.error.ParseError.TheVariants as errors
use Rattle.go_parse_core.specs.declared.error.SynFault.{SynFault}
use Rattle.go_parse_core.specs.mirrors.FileReading.{file_at}
use Rattle.go_parse_core.proofs.CodeParse.{parsed, refused, refused_read}
use Rattle.go_graph_core.specs.Sources.{IsContent}
use Rattle.go_exists_laws.specs.Texts.{EachTextHasAContent, IsText}

abbrev HasContent : List ℕ → Type 0
HasContent text = (c : Result FileTree SynFault) × IsContent text c

-- a fault at the first byte; of P1 and P2 no other place is asked
abbrev at_start : Rule → SynFault
at_start rule = record { offset = 0; rule = rule }

module _ (text : List ℕ) (is : IsText text) where
  of_reading : (tokens : List Token) → tokens_of text ≡ Ok tokens → (r : Result FileTree Stuck) → file_at 199 (terminals text tokens) ≡ r → HasContent text
  of_reading tokens e (Ok f) read = (Ok f, parsed text tokens f (answer_of_tokens text (Ok tokens) e) (tokens_in_order text tokens is.utf8 e) (tokens_filled text tokens is.utf8 e) is.short read)
  of_reading tokens e (Err Grammar) read =
      let scanned : IsAnswer text (Ok tokens) = answer_of_tokens text (Ok tokens) e in
      let fault : SynFault = at_start P1 in
      (Err fault, (refused text tokens (stop.Grammar 0) (errors.Fault fault) scanned read (refl, omega arith), refused_read text tokens (stop.Grammar 0) (errors.Fault fault) scanned read (refl, omega arith)))
  of_reading tokens e (Err TooHigh) read =
      let scanned : IsAnswer text (Ok tokens) = answer_of_tokens text (Ok tokens) e in
      let fault : SynFault = at_start P2 in
      (Err fault, (refused text tokens (stop.TooHigh 0) (errors.Fault fault) scanned read (refl, omega arith), refused_read text tokens (stop.TooHigh 0) (errors.Fault fault) scanned read (refl, omega arith)))

  of_tokens : (r : Result (List Token) LexFault) → tokens_of text ≡ r → HasContent text
  of_tokens (Ok tokens) e = of_reading tokens e (file_at 199 (terminals text tokens)) refl
  of_tokens (Err bad) e =
      let scanned : IsAnswer text (Err bad) = answer_of_tokens text (Err bad) e in
      let fault : SynFault = record { offset = bad.offset; rule = bad.rule } in
      (Err fault, (inl scanned, (λ tokens other. absurd (not_both text tokens bad other scanned))))

pub each_text_has_a_content : EachTextHasAContent
each_text_has_a_content text is = of_tokens text is (tokens_of text) refl
