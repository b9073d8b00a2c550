use Rattle.go_explain_core.proofs.Everywhere.{examples_apart, meanings_apart, numbers_apart, texts_apart}
use Rattle.go_explain_core.proofs.laws.rules_are_told_apart.Goals as goal

pub returns : goal.returns
returns c = record { number = numbers_apart; meaning = meanings_apart; example = examples_apart; text = texts_apart }
