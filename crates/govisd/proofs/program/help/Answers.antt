use Rattle.govisd.proofs.MadeLemmas.{no_command}
use Rattle.govisd.proofs.program.help.Goals as goal

pub returns-in-None-command_help : goal.returns-in-None-command_help
returns-in-None-command_help g c =
    no_command c.unknown_command.result c.refuse_name.result (g.W.Write.contents c.args.out.now) (g.E.Write.contents c.args.err.now) (g.E.Write.contents c.refuse_name.new.err) c.args.topic c.in-Some.name c.in-Some.is c.in-None-command_help.ensures c.unknown_command.ensures c.refuse_name.ensures
