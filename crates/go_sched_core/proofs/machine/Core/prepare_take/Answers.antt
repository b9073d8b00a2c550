use Rattle.std.proofs.Common.{rules, ◌≡◌, ◌+◌, ◌∷◌, ℕ, Bool, true, false, List, Option, Some, None, length, refl, sym, ap, ◌∙◌, subst, arith}
use Rattle.std.specs.Prelude.{nat_eq}
use Rattle.go_sched_core.specs.declared.event.Event.TheVariants.{Take}
use Rattle.go_sched_core.specs.Service.{Service}
use Rattle.go_sched_core.specs.mirrors.Fitting.{IsBeginning}
use Rattle.go_sched_core.proofs.Lists.{first_of, none_from}
use Rattle.go_sched_core.proofs.machine.Core.prepare_take.Goals as goal

pub prepare_formed-requires-clause-begins : goal.prepare_formed-requires-clause-begins
prepare_formed-requires-clause-begins c =
    let w = c.self.inside.waiting in
    let first = first_of w (λ z. let t : nat_eq (length w) 0 ≡ true = ap (λ n. nat_eq n 0) z in let f : nat_eq (length w) 0 ≡ false = sym c.is_empty.ensures ∙ c.if-is_empty.false in cc) in
    record {
      first = first.0;
      others = first.1;
      event = refl;
      none = ap (λ (s : Service). s.running) (sym c.self.view_is) ∙ none_from c.self.inside.running c.in_default.not-Some;
      waiting = ap (λ (s : Service). s.waiting) (sym c.self.view_is) ∙ first.2;
      formed = c.in-Ok.ensures.formed;
      numbered = search rules;
    }
