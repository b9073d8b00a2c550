use Rattle.govisd_disk.proofs.reading.keep_unread.Goals as goal

pub returns-in-Ok : goal.returns-in-Ok
returns-in-Ok c = record { text = c.in_ok-text.text; is = c.in_ok-text.ensures.ok; kept = c.in-Ok.ensures.entries }
