use Rattle.govisd_service.proofs.LinesServed.{connection_served}
use Rattle.govisd_service.proofs.connections.serve_connection.Goals as goal

pub returns : goal.returns
returns g c = connection_served (g.R.Read.remaining c.args.reader.now.reader) c.serve-end.result (g.R.Read.remaining c.serve-end.new.reader.reader) (g.W.Write.contents c.args.writer.now) (g.W.Write.contents c.serve-end.new.writer) c.new-desk.result c.serve-end.new.desk c.new-desk.ensures c.serve-end.ensures.end
