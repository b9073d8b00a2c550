use Rattle.std.proofs.Common.{refl, rules}
use Rattle.std.specs.IoError.{error_kind}
use Rattle.govisd_disk.specs.Reads.{IsKept, IsRefused, IsUnread}
use Rattle.govisd_disk.proofs.ReadingLemmas.{on_ok}
use Rattle.govisd_disk.proofs.reading.add_file.Goals as goal

pub returns-in-Ok : goal.returns-in-Ok
returns-in-Ok c = IsKept c.in-Ok-Ok.text (search rules) (search rules) c.in-Ok.ensures.entries refl

pub returns-in-Ok-Err : goal.returns-in-Ok-Err
returns-in-Ok-Err c = on_ok c.refuse_file.result (λ h. IsRefused c.in-Ok-Err.rule (search rules) h) c.refuse_file.ensures

pub returns : goal.returns
returns c = on_ok c.miss_file.result (λ h. IsUnread (error_kind c.in-Err.error) h) c.miss_file.ensures
