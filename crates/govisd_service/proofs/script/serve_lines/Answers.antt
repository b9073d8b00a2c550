use Rattle.govisd_service.proofs.LinesServed.{script_served}
use Rattle.govisd_service.proofs.script.serve_lines.Goals as goal

pub returns : goal.returns
returns g c = script_served (g.R.Read.remaining c.args.reader.now.reader) c.serve-end.result (g.R.Read.remaining c.serve-end.new.reader.reader) (g.W.Write.contents c.args.writer.now) (g.W.Write.contents c.serve-end.new.writer) c.in-Ok.desk c.serve-end.new.desk c.in-Ok.ensures c.serve-end.ensures.end
