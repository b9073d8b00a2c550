use Rattle.std.specs.IoError.{error_kind}
use Rattle.std.proofs.lemmas.Result.{IfOk-weaker}
use Rattle.govisd_disk.specs.Finds.{ByUnread}
use Rattle.govisd_disk.proofs.finding.read_by.Goals as goal

pub returns-in-Ok : goal.returns-in-Ok
returns-in-Ok g c = IfOk-weaker c.read_path.result _ _ (λ r h. (c.named_folder-given.result.now, c.named_folder-given.ensures, h)) c.read_path.ensures

pub returns-in-Err : goal.returns-in-Err
returns-in-Err g c =
    IfOk-weaker c.refuse_folder.result _ _ (λ r h. (c.named_folder-given.result.now, c.named_folder-given.ensures, ByUnread (error_kind c.in-Err.error) h)) c.refuse_folder.ensures
