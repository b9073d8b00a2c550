use Rattle.govisd.proofs.MadeLemmas.{no_rule}
use Rattle.govisd.proofs.program.explain_rule.Goals as goal

pub returns-in-None-rule_named : goal.returns-in-None-rule_named
returns-in-None-rule_named g c =
    no_rule c.unknown.result c.refuse_name.result (g.W.Write.contents c.args.out.now) (g.E.Write.contents c.args.err.now) (g.E.Write.contents c.refuse_name.new.err) c.args.is_json c.args.word c.in-Some.word c.in-Some.is c.in-None-rule_named.ensures c.unknown.ensures c.refuse_name.ensures
