use Rattle.go_token_core.proofs.escapes.+digits.Given as goal

abbrev pub decreases-digits : goal.decreases-digits
decreases-digits l = l.count
