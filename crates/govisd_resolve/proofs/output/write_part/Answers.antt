use Rattle.std.proofs.Common.{[], arith}
use Rattle.govisd_resolve.proofs.OutputLemmas.{appends_kept, appends_none}
use Rattle.govisd_resolve.proofs.output.write_part.Goals as goal

-- an interrupted write took none of the bytes, and is not the end
pub returns-in-Err : goal.returns-in-Err
returns-in-Err g c = (omega arith, appends_kept _ _ _ [] (appends_none (g.W.Write.contents c.args.writer.now)) c.in-Err.ensures.bytes)
