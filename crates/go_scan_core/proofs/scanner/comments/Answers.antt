use Rattle.std.proofs.Common.{◌≡◌, List, ℕ, Result, Ok, Err, Vec, IfOk, subst}
use Rattle.go_token_core.specs.declared.token.Comment.{Comment}
use Rattle.go_token_core.specs.declared.token.ScanError.{ScanError}
use Rattle.go_token_core.specs.declared.token.ScanError.TheVariants as errors
use Rattle.go_scan_core.specs.Cutting.{Answers, comments_of}
use Rattle.go_scan_core.specs.Parts.{comments_in}
use Rattle.go_scan_core.specs.Tokens.{FindsComments, IsAnswerOf}
use Rattle.go_scan_core.proofs.AnswerLemmas.{comments_are_computed}
use Rattle.go_scan_core.proofs.TokenLemmas.{comments_have_texts, comments_in_order}
use Rattle.go_scan_core.proofs.scanner.comments.Goals as goal

finds : {A : Type 0} (text : _) (r : Result (Vec Comment A) ScanError) → Answers r (comments_of text) → FindsComments text r
finds text (Ok v) h = subst (IsAnswerOf comments_in text) h (comments_are_computed text)
finds text (Err errors.Memory) h = tt
finds text (Err (errors.Fault fault)) h = subst (IsAnswerOf comments_in text) h (comments_are_computed text)

-- what holds of the comments of the text holds of those that are answered
of_answer : {A : Type 0} (P : List Comment → Type 0) (text : List ℕ) (r : Result (Vec Comment A) ScanError) → ((cs : List Comment) → comments_of text ≡ Ok cs → P cs) → Answers r (comments_of text) → IfOk r (λ v. P v.items)
of_answer P text (Ok v) holds h = holds v.items h
of_answer P text (Err e) holds h = tt

pub returns-clause-answer : goal.returns-clause-answer
returns-clause-answer c = finds c.args.text.now c.comments_alone.result c.comments_alone.ensures

pub returns-clause-spans : goal.returns-clause-spans
returns-clause-spans c = of_answer _ c.args.text.now c.comments_alone.result (λ cs e. comments_in_order c.args.text.now cs c.utf8.text e) c.comments_alone.ensures

pub returns-clause-slices : goal.returns-clause-slices
returns-clause-slices c = of_answer _ c.args.text.now c.comments_alone.result (λ cs e. comments_have_texts c.args.text.now cs c.utf8.text e) c.comments_alone.ensures
