use Rattle.std.specs.Prelude.{string_bytes}
use Rattle.std.proofs.lemmas.Result.{IfOk-weaker}
use Rattle.govisd_disk.specs.Finds.{ByModule, ByNoModule}
use Rattle.govisd_disk.proofs.finding.read_in.Goals as goal

pub returns-in-Refused : goal.returns-in-Refused
returns-in-Refused g c = IfOk-weaker c.refuse_hinted.result _ _ (λ r is. ByNoModule (string_bytes c.in-Refused.said) is) c.refuse_hinted.ensures

pub returns-in-Found : goal.returns-in-Found
returns-in-Found g c = IfOk-weaker c.read_above.result _ _ (λ r h. ByModule (string_bytes c.in-Found.root.own) (string_bytes c.in-Found.root.told) h) c.read_above.ensures
