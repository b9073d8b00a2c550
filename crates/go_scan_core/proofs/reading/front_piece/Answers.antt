use Rattle.std.proofs.Common.{length, sym, ap, ◌∙◌, arith}
use Rattle.go_scan_core.specs.declared.front.Front.TheVariants.{Quote, Backquote, GeneralComment}
use Rattle.go_scan_core.proofs.FrontLemmas.{front_says}
use Rattle.go_scan_core.proofs.reading.front_piece.Goals as goal

pub enclosed-requires : goal.enclosed-requires
enclosed-requires c = let says = front_says c.args.text.now Quote (sym c.front_at.ensures ∙ c.in-Quote.is) in omega (arith, ap length says.1)

pub enclosed-requires-in-Backquote : goal.enclosed-requires-in-Backquote
enclosed-requires-in-Backquote c = let says = front_says c.args.text.now Backquote (sym c.front_at.ensures ∙ c.in-Backquote.is) in omega (arith, ap length says.1)

pub enclosed-requires-in-GeneralComment : goal.enclosed-requires-in-GeneralComment
enclosed-requires-in-GeneralComment c = let says = front_says c.args.text.now GeneralComment (sym c.front_at.ensures ∙ c.in-GeneralComment.is) in omega (arith, ap length says.1)
