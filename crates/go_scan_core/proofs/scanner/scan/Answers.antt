use Rattle.std.proofs.Common.{◌≡◌, List, ℕ, Result, Ok, Err, Vec, IfOk, subst}
use Rattle.go_token_core.specs.declared.token.ScanError.{ScanError}
use Rattle.go_token_core.specs.declared.token.ScanError.TheVariants as errors
use Rattle.go_token_core.specs.declared.token.Token.{Token}
use Rattle.go_scan_core.specs.Cutting.{Answers, tokens_of}
use Rattle.go_scan_core.specs.Tokens.{IsAnswer, Scans}
use Rattle.go_scan_core.proofs.AnswerLemmas.{answer_is_computed}
use Rattle.go_scan_core.proofs.TokenLemmas.{tokens_filled, tokens_have_texts, tokens_in_order}
use Rattle.go_scan_core.proofs.scanner.scan.Goals as goal

scans : {A : Type 0} (text : _) (r : Result (Vec Token A) ScanError) → Answers r (tokens_of text) → Scans text r
scans text (Ok v) h = subst (IsAnswer text) h (answer_is_computed text)
scans text (Err errors.Memory) h = tt
scans text (Err (errors.Fault fault)) h = subst (IsAnswer text) h (answer_is_computed text)

-- what holds of the tokens of the text holds of those that are answered
of_answer : {A : Type 0} (P : List Token → Type 0) (text : List ℕ) (r : Result (Vec Token A) ScanError) → ((ts : List Token) → tokens_of text ≡ Ok ts → P ts) → Answers r (tokens_of text) → IfOk r (λ v. P v.items)
of_answer P text (Ok v) holds h = holds v.items h
of_answer P text (Err e) holds h = tt

pub returns-clause-answer : goal.returns-clause-answer
returns-clause-answer c = scans c.args.text.now c.tokens_alone.result c.tokens_alone.ensures

pub returns-clause-spans : goal.returns-clause-spans
returns-clause-spans c = of_answer _ c.args.text.now c.tokens_alone.result (λ ts e. tokens_in_order c.args.text.now ts c.utf8.text e) c.tokens_alone.ensures

pub returns-clause-slices : goal.returns-clause-slices
returns-clause-slices c = of_answer _ c.args.text.now c.tokens_alone.result (λ ts e. tokens_have_texts c.args.text.now ts c.utf8.text e) c.tokens_alone.ensures

pub returns-clause-filled : goal.returns-clause-filled
returns-clause-filled c = of_answer _ c.args.text.now c.tokens_alone.result (λ ts e. tokens_filled c.args.text.now ts c.utf8.text e) c.tokens_alone.ensures
