use Rattle.go_term_core.specs.Shapes.{shape}
use Rattle.go_typexpr_core.proofs.AliasesMaking.{none_shown, target_shown}
use Rattle.go_typexpr_core.proofs.aliases.targets.Aliases.target.Goals as goal

pub returns-in_ok-ended-in-Some : goal.returns-in_ok-ended-in-Some
returns-in_ok-ended-in-Some c =
    target_shown c.args.self.now c.self.inside.written.items c.deref.result.now c.self.inside.ends.items c.args.decl c.self.view_is c.deref.ensures.value
    c.deref-in-Some.result.now c.deref-in-Some-2.result.now c.in-Some.place c.end_at.result (shape c.in_ok-ended-in-Some.field-0) c.deref-in-Some.ensures.value c.deref-in-Some-2.ensures.value c.in-Some.ensures c.end_at.ensures c.in_ok-ended-in-Some.ensures

pub returns-in-None : goal.returns-in-None
returns-in-None c = none_shown c.args.self.now c.self.inside.written.items c.deref.result.now c.self.inside.ends.items c.args.decl c.self.view_is c.deref.ensures.value c.in-None.ensures
