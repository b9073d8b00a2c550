use Rattle.std.proofs.Common.{◌≡◌, ℕ, List, Bool, Option, true, false, length, map, sym, ap, ◌∙◌, subst}
use Rattle.std.specs.Prelude.{MatchOption}
use Rattle.std.proofs.lemmas.List.{length-map}
use Rattle.go_machine_core.specs.Programs.{linked_shown}
use Rattle.go_machine_core.specs.link.Packages.{package_shown}
use Rattle.go_machine_core.specs.link.Reaching.{IsFirstOutside, ReachesOutside, lacks_object}
use Rattle.go_machine_core.specs.link.Order.{starts_of}
use Rattle.go_machine_core.specs.link.mirrors.Numbering.{AreBelow, any_marked}
use Rattle.go_machine_core.proofs.LinkSettled.{cut_of, led_outside, runnable_of}
use Rattle.go_machine_core.proofs.LinkWithin.{entry_within, starts_below}
use Rattle.go_machine_core.proofs.link.linking.begin.Goals as goal

pub returns-then-lacks : goal.returns-then-lacks
returns-then-lacks c =
    let fs = map linked_shown c.args.functions.now in
    let ps = map package_shown c.args.packages.now in
    let marks = c.in_ok-reached.reached.items in
    let lacks : any_marked lacks_object ps marks ≡ true = ap (λ (m : List Bool). any_marked lacks_object ps m) (sym c.deref.ensures.value) ∙ (sym c.marked_lacks-lacks.ensures ∙ c.if-lacks.true) in
    cut_of fs ps c.args.order.now c.args.number c.in-Some.entry marks c.in-Some.ensures c.in_ok-reached.ensures lacks

pub outside_of-requires-clause-starts : goal.outside_of-requires-clause-starts
outside_of-requires-clause-starts c =
    let fs = map linked_shown c.args.functions.now in
    let ps = map package_shown c.args.packages.now in
    let marks = c.deref-2.result.now in
    let main = c.in-Some.entry.main in
    let entry = entry_within (length fs) ps c.args.number c.in-Some.entry c.requires.within.mains (sym c.in-Some.ensures) in
    let low = starts_below (length fs) ps c.args.order.now marks main c.requires.within.inits entry.main in
    let low' : AreBelow (length c.args.functions.now) (starts_of ps c.args.order.now marks main) = subst (λ (n : ℕ). AreBelow n (starts_of ps c.args.order.now marks main)) (length-map c.args.functions.now linked_shown) low in
    subst (λ (ns : List ℕ). AreBelow (length c.args.functions.now) ns) (sym (c.deref-3.ensures.value ∙ c.in_ok-starts.ensures)) low'

pub returns-in-Some-outside : goal.returns-in-Some-outside
returns-in-Some-outside c =
    let fs = map linked_shown c.args.functions.now in
    let ps = map package_shown c.args.packages.now in
    let marks = c.in_ok-reached.reached.items in
    let starts = c.in_ok-starts.starts.items in
    let there : starts ≡ starts_of ps c.args.order.now marks c.in-Some.entry.main = c.in_ok-starts.ensures ∙ ap (λ (m : List Bool). starts_of ps c.args.order.now m c.in-Some.entry.main) c.deref-2.ensures.value in
    let lacks : any_marked lacks_object ps marks ≡ false = ap (λ (m : List Bool). any_marked lacks_object ps m) (sym c.deref.ensures.value) ∙ (sym c.marked_lacks-lacks.ensures ∙ c.if-lacks.false) in
    led_outside fs ps c.args.order.now c.args.number c.in-Some.entry marks c.in-Some.ensures c.in_ok-reached.ensures starts c.in-Some-outside.number there lacks
    (subst (λ (ns : List ℕ). IsFirstOutside fs ns c.in-Some-outside.number) c.deref-3.ensures.value
    (subst (λ (o : Option ℕ). MatchOption o (¬ ReachesOutside fs c.deref-3.result.now) (IsFirstOutside fs c.deref-3.result.now)) c.in-Some-outside.is c.in_ok-outside.ensures))

pub returns : goal.returns
returns c =
    let fs = map linked_shown c.args.functions.now in
    let ps = map package_shown c.args.packages.now in
    let marks = c.in_ok-reached.reached.items in
    let starts = c.in_ok-starts.starts.items in
    let there : starts ≡ starts_of ps c.args.order.now marks c.in-Some.entry.main = c.in_ok-starts.ensures ∙ ap (λ (m : List Bool). starts_of ps c.args.order.now m c.in-Some.entry.main) c.deref-2.ensures.value in
    let lacks : any_marked lacks_object ps marks ≡ false = ap (λ (m : List Bool). any_marked lacks_object ps m) (sym c.deref.ensures.value) ∙ (sym c.marked_lacks-lacks.ensures ∙ c.if-lacks.false) in
    runnable_of fs ps c.args.order.now c.args.number c.in-Some.entry marks c.in-Some.ensures c.in_ok-reached.ensures starts there lacks
    (λ r. subst (λ (o : Option ℕ). MatchOption o (¬ ReachesOutside fs c.deref-3.result.now) (IsFirstOutside fs c.deref-3.result.now)) c.in-None.is c.in_ok-outside.ensures (subst (λ (ns : List ℕ). ReachesOutside fs ns) (sym c.deref-3.ensures.value) r))
