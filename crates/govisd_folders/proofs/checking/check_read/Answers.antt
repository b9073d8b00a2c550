use Rattle.std.proofs.lemmas.Result.{IfOk-weaker}
use Rattle.govisd_disk.specs.Finds.{read_shown}
use Rattle.govisd_folders.proofs.checking.check_read.Goals as goal

pub returns : goal.returns
returns g c =
    IfOk-weaker c.answer_on.result _ _
    (λ a on. record { look = c.look_of-look.result; is = c.look_of-look.ensures; came = read_shown c.in_ok-read.read; read = c.in_ok-read.ensures; answer = on })
    c.answer_on.ensures
