use Rattle.govisd_disk.proofs.ReadingLemmas.{on_ok}
use Rattle.govisd_disk.proofs.reading.miss_file.Goals as goal

pub returns : goal.returns
returns c = on_ok c.keep_unread.result (λ h. record { kept = h; said = c.in_ok-note_unread.ensures }) c.keep_unread.ensures
