use Rattle.std.proofs.Common.{None, arith}
use Rattle.std.proofs.lemmas.Str.Pattern.{split_parts}
use Rattle.govisd_folders.proofs.lines.first_line.Goals as goal

pub returns-in-Some : goal.returns-in-Some
returns-in-Some c = let cut = rw c.in-Some.is at (split_parts 10 c.args.text.now c.split_once.result c.split_once.ensures.cases (omega arith)) in cut.1

pub returns-in-None : goal.returns-in-None
returns-in-None c = split_parts 10 c.args.text.now None c.in-None.ensures.cases (omega arith)
