use Rattle.go_term_core.proofs.SettlingMentions.{settled_mentions_written}
use Rattle.go_term_core.proofs.settling.laws.settled_mentions_written.Goals as goal

pub returns : goal.returns
returns c = settled_mentions_written
