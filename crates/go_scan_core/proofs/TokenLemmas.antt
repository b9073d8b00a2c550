-- What holds of the tokens of each text, for those who read them.
use Rattle.std.proofs.Common.{◌≡◌, ℕ, List, length, Result, Ok, subst}
use Rattle.std.specs.List.{All}
use Rattle.std.specs.Str.{IsUtf8}
use Rattle.std.proofs.lemmas.List.Elements.{All-weaker}
use Rattle.go_token_core.specs.declared.token.Comment.{Comment}
use Rattle.go_token_core.specs.declared.token.Token.{Token}
use Rattle.go_token_core.specs.declared.token.LexFault.{LexFault}
use Rattle.go_scan_core.specs.Cutting.{comments_of, tokens_of}
use Rattle.go_scan_core.specs.Parts.{comments_in}
use Rattle.go_scan_core.specs.Texts.{CommentHasItsText, HasItsText, IsFilled}
use Rattle.go_scan_core.specs.Tokens.{CommentsInOrder, TokensInOrder, IsAnswer, IsAnswerOf}
use Rattle.go_scan_core.proofs.AnswerLemmas.{answer_is_computed, comments_are_computed}
use Rattle.go_scan_core.proofs.OrderLemmas.{text_comments_order, text_order}
use Rattle.go_scan_core.proofs.TextLemmas.{filled_by_text, text_comments, text_texts}

answer_of : (text : List ℕ) (r : Result (List Token) LexFault) → tokens_of text ≡ r → IsAnswer text r
answer_of text r e = subst (IsAnswer text) e (answer_is_computed text)

-- they follow one another
pub tokens_in_order : (text : List ℕ) (ts : List Token) → IsUtf8 text → tokens_of text ≡ Ok ts → TokensInOrder 0 ts (length text)
tokens_in_order text ts u e = text_order text ts u (answer_of text (Ok ts) e)

-- each covers its spelling
pub tokens_have_texts : (text : List ℕ) (ts : List Token) → IsUtf8 text → tokens_of text ≡ Ok ts → All (HasItsText text) ts
tokens_have_texts text ts u e = text_texts text ts u (answer_of text (Ok ts) e)

-- none is empty but a semicolon
pub tokens_filled : (text : List ℕ) (ts : List Token) → IsUtf8 text → tokens_of text ≡ Ok ts → All IsFilled ts
tokens_filled text ts u e = All-weaker (HasItsText text) IsFilled (filled_by_text text) ts (tokens_have_texts text ts u e)

comments_answer : (text : List ℕ) (r : Result (List Comment) LexFault) → comments_of text ≡ r → IsAnswerOf comments_in text r
comments_answer text r e = subst (IsAnswerOf comments_in text) e (comments_are_computed text)

-- comments follow one another
pub comments_in_order : (text : List ℕ) (cs : List Comment) → IsUtf8 text → comments_of text ≡ Ok cs → CommentsInOrder 0 cs (length text)
comments_in_order text cs u e = text_comments_order text cs u (comments_answer text (Ok cs) e)

-- each covers a comment of its kind
pub comments_have_texts : (text : List ℕ) (cs : List Comment) → IsUtf8 text → comments_of text ≡ Ok cs → All (CommentHasItsText text) cs
comments_have_texts text cs u e = text_comments text cs u (comments_answer text (Ok cs) e)
