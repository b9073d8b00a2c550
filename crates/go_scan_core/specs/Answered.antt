-- The tokens and the comments that are computed are the one answer to a text.
use Rattle.std.specs.Prelude.{◌≡◌, ◌↔◌, ℕ, List, Result}
use Rattle.go_token_core.specs.declared.token.Comment.{Comment}
use Rattle.go_token_core.specs.declared.token.Token.{Token}
use Rattle.go_token_core.specs.declared.token.LexFault.{LexFault}
use Rattle.go_scan_core.specs.Cutting.{comments_of, tokens_of}
use Rattle.go_scan_core.specs.Parts.{comments_in}
use Rattle.go_scan_core.specs.Tokens.{IsAnswer, IsAnswerOf}

-- what is computed is an answer to the text in the words of the grammar, and each answer is what is
-- computed
abbrev pub TokensAreTheAnswer : Type 0
TokensAreTheAnswer = (text : List ℕ) (answer : Result (List Token) LexFault) → IsAnswer text answer ↔ answer ≡ tokens_of text

abbrev pub CommentsAreTheAnswer : Type 0
CommentsAreTheAnswer = (text : List ℕ) (answer : Result (List Comment) LexFault) → IsAnswerOf comments_in text answer ↔ answer ≡ comments_of text

-- a text has one list of comments, or one fault
abbrev pub OneListOfComments : Type 0
OneListOfComments = (text : List ℕ) (one other : Result (List Comment) LexFault) → IsAnswerOf comments_in text one → IsAnswerOf comments_in text other → one ≡ other
