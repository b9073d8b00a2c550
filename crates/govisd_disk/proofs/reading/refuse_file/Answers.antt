use Rattle.govisd_disk.proofs.ReadingLemmas.{on_ok}
use Rattle.govisd_disk.proofs.reading.refuse_file.Goals as goal

pub returns : goal.returns
returns c = on_ok c.keep_unread.result (λ h. record { kept = h; said = c.in_ok-note_rule.ensures }) c.keep_unread.ensures
