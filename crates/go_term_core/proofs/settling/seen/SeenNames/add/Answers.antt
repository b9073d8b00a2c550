use Rattle.std.proofs.Common.{◌≡◌, true, false, map, not, sym, ap, ◌∙◌, ◌∷◌}
use Rattle.std.proofs.lemmas.Result.{IfOk-weaker, on_ok_weaker}
use Rattle.go_term_core.specs.settling.Settled.{is_among_names}
use Rattle.go_term_core.proofs.SettlingNames.{SameNames, seen_again, has_last, among_few, among_more, more_few, more_more}
use Rattle.go_term_core.proofs.settling.seen.SeenNames.add.Goals as goal

pub returns-then-is_among-clause-added : goal.returns-then-is_among-clause-added
returns-then-is_among-clause-added c =
    let name = c.args.name.now in
    let few = map (λ n. n.now) c.self.inside.few.items in
    let more = map (λ n. n.now) c.self.inside.more.keys in
    let h : is_among_names few name ≡ true = sym (ap (λ l. is_among_names (map (λ n. n.now) l) name) c.deref.ensures.value) ∙ (sym c.is_among.ensures ∙ c.if-is_among.true) in
    let there : is_among_names c.args.self.now name ≡ true = sym (ap (λ l. is_among_names l name) c.self.view_is) ∙ among_few few more name h in
    sym (ap not there)

pub returns-then-is_among-clause-seen : goal.returns-then-is_among-clause-seen
returns-then-is_among-clause-seen c n =
    let name = c.args.name.now in
    let few = map (λ n. n.now) c.self.inside.few.items in
    let more = map (λ n. n.now) c.self.inside.more.keys in
    let h : is_among_names few name ≡ true = sym (ap (λ l. is_among_names (map (λ n. n.now) l) name) c.deref.ensures.value) ∙ (sym c.is_among.ensures ∙ c.if-is_among.true) in
    let there : is_among_names c.args.self.now name ≡ true = sym (ap (λ l. is_among_names l name) c.self.view_is) ∙ among_few few more name h in
    sym (seen_again name c.args.self.now there n)

pub returns-then-is_empty-clause-seen : goal.returns-then-is_empty-clause-seen
returns-then-is_empty-clause-seen c n =
    let name = c.args.name.now in
    let few = map (λ n. n.now) c.self.inside.few.items in
    let few' = map (λ n. n.now) c.push.new.names.items in
    let more = map (λ n. n.now) c.self.inside.more.keys in
    let same : SameNames few' (name ∷ few) = λ m. ap (λ l. is_among_names l m) c.in_ok-push.ensures ∙ has_last few name m in
    more_few few few' more name same n ∙ ap (λ l. is_among_names (name ∷ l) n) c.self.view_is

pub returns-clause-added : goal.returns-clause-added
returns-clause-added c =
    let name = c.args.name.now in
    let few = map (λ n. n.now) c.self.inside.few.items in
    let more = map (λ n. n.now) c.self.inside.more.keys in
    let h : is_among_names few name ≡ false = sym (ap (λ l. is_among_names (map (λ n. n.now) l) name) c.deref.ensures.value) ∙ (sym c.is_among.ensures ∙ c.if-is_among.false) in
    let is : is_among_names c.args.self.now name ≡ is_among_names more name = sym (ap (λ l. is_among_names l name) c.self.view_is) ∙ among_more few more name h in
    IfOk-weaker c.insert.result _ _ (λ x e. e ∙ ap not (sym is)) c.insert.ensures.added

pub returns-clause-seen : goal.returns-clause-seen
returns-clause-seen c =
    let name = c.args.name.now in
    let few = map (λ n. n.now) c.self.inside.few.items in
    let more = map (λ n. n.now) c.self.inside.more.keys in
    let more' = map (λ n. n.now) c.insert.new.names.keys in
    on_ok_weaker c.insert.result (λ same n. more_more few more more' name same n ∙ ap (λ l. is_among_names (name ∷ l) n) c.self.view_is) c.insert.ensures.seen
