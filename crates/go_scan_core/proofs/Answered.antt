-- The answers to a text and what is computed are the same.
use Rattle.std.proofs.Common.{◌≡◌, ℕ, List, Result, Ok, Err, sym, subst}
use Rattle.go_token_core.specs.declared.token.Comment.{Comment}
use Rattle.go_token_core.specs.declared.token.Token.{Token}
use Rattle.go_token_core.specs.declared.token.LexFault.{LexFault}
use Rattle.go_scan_core.specs.Answered.{CommentsAreTheAnswer, OneListOfComments, TokensAreTheAnswer}
use Rattle.go_scan_core.specs.Cutting.{comments_of, tokens_of}
use Rattle.go_scan_core.specs.Parts.{comments_in}
use Rattle.go_scan_core.specs.Tokens.{IsAnswer, IsAnswerOf, OneAnswer, tokens_by_line}
use Rattle.go_scan_core.proofs.AnswerLemmas.{answer_is_computed, comments_are_computed}
use Rattle.go_scan_core.proofs.UniqueLemmas.{one_of}

-- ---- tokens: an answer is `Ok` of some tokens or `Err` of a fault

pub answer_of_tokens : (text : List ℕ) (answer : Result (List Token) LexFault) → tokens_of text ≡ answer → IsAnswer text answer
answer_of_tokens text answer e = subst (IsAnswer text) e (answer_is_computed text)

pub tokens_of_answer : (text : List ℕ) (answer : Result (List Token) LexFault) → IsAnswer text answer → tokens_of text ≡ answer
tokens_of_answer text answer a = one_of tokens_by_line text (tokens_of text) answer (answer_is_computed text) a

pub one_list : (text : List ℕ) (one other : List Token) → IsAnswer text (Ok one) → IsAnswer text (Ok other) → one ≡ other
one_list text one other a b = let e : Ok one ≡ Ok other = one_of tokens_by_line text (Ok one) (Ok other) a b in cc

pub one_fault : (text : List ℕ) (one other : LexFault) → IsAnswer text (Err one) → IsAnswer text (Err other) → one ≡ other
one_fault text one other a b = let e : Err one ≡ Err other = one_of tokens_by_line text (Err one) (Err other) a b in cc

pub not_both : (text : List ℕ) (tokens : List Token) (fault : LexFault) → IsAnswer text (Ok tokens) → IsAnswer text (Err fault) → ⊥
not_both text tokens fault a b = let e : Ok tokens ≡ Err fault = one_of tokens_by_line text (Ok tokens) (Err fault) a b in cc

-- ---- comments

pub answer_of_comments : (text : List ℕ) (answer : Result (List Comment) LexFault) → comments_of text ≡ answer → IsAnswerOf comments_in text answer
answer_of_comments text answer e = subst (IsAnswerOf comments_in text) e (comments_are_computed text)

pub comments_of_answer : (text : List ℕ) (answer : Result (List Comment) LexFault) → IsAnswerOf comments_in text answer → comments_of text ≡ answer
comments_of_answer text answer a = one_of comments_in text (comments_of text) answer (comments_are_computed text) a

-- ---- the laws

pub one_answer : OneAnswer
one_answer = one_of tokens_by_line

pub one_list_of_comments : OneListOfComments
one_list_of_comments = one_of comments_in

pub tokens_are_the_answer : TokensAreTheAnswer
tokens_are_the_answer text answer = (λ a. sym (tokens_of_answer text answer a), λ e. answer_of_tokens text answer (sym e))

pub comments_are_the_answer : CommentsAreTheAnswer
comments_are_the_answer text answer = (λ a. sym (comments_of_answer text answer a), λ e. answer_of_comments text answer (sym e))
