use Rattle.std.proofs.Common.{◌≡◌, Bor, Bool, ◌++◌, List, [], ℕ, map, drop, ◌+◌, length, get_or, sym, ap, subst, ◌∙◌, append_assoc, append-nil}
use Rattle.std.proofs.lemmas.Option.{slice_get_within}
use Rattle.std.specs.Prelude.{Some}
use Rattle.std.specs.Option.{option_map}
use Rattle.go_candidate_core.specs.after_dot.mirrors.Kept.{named_if}
use Rattle.go_candidate_core.specs.after_dot.mirrors.Keyed.{keys_left}
use Rattle.go_candidate_core.proofs.AfterDotKeyed.{field_there, fields_past, names_end, names_turn}
use Rattle.go_candidate_core.proofs.after_dot.keys.names_left.Goals as goal

pub is_left-requires-clause-within : goal.is_left-requires-clause-within
is_left-requires-clause-within g c =
    let d : Bor (List ℕ) = record { ref_ptr = (0, 0); now = [] } in
    let fields = (g.E.Literals.literals c.args.env.now).fields c.args.t.now in
    let at = c.loop-at.at in
    let one = field_there c.args.fields.now fields at d c.requires c.loop-at-test.true in
    slice_get_within fields at one.0 one.1

pub is_left-requires-clause-named : goal.is_left-requires-clause-named
is_left-requires-clause-named g c =
    let d : Bor (List ℕ) = record { ref_ptr = (0, 0); now = [] } in
    let fields = (g.E.Literals.literals c.args.env.now).fields c.args.t.now in
    let at = c.loop-at.at in
    let one = field_there c.args.fields.now fields at d c.requires c.loop-at-test.true in
    ap (option_map (λ f. f.name)) one.1 ∙ ap Some one.2

pub loop-at-preserved : goal.loop-at-preserved
loop-at-preserved g c =
    let d : Bor (List ℕ) = record { ref_ptr = (0, 0); now = [] } in
    let fields = (g.E.Literals.literals c.args.env.now).fields c.args.t.now in
    let at = c.loop-at.at in
    let one = field_there c.args.fields.now fields at d c.requires c.loop-at-test.true in
    let others : List (List ℕ) = map (λ n. n.now) c.args.others.now.keys in
    let seen : List (List ℕ) = map (λ n. n.now) c.loop-at.seen.keys ++ others in
    let seen' : List (List ℕ) = map (λ n. n.now) c.is_left.new.seen.keys ++ others in
    names_turn fields seen seen' at one.0 _ _ _ _ c.in_ok-left.left one.1 one.2 c.in_ok-left.ensures.seen (c.in_ok-left.ensures.left one.0 one.1) c.in_ok-add_if.ensures c.loop-at.invariant

pub returns : goal.returns
returns g c =
    let fields = (g.E.Literals.literals c.args.env.now).fields c.args.t.now in
    names_end fields (map (λ n. n.now) c.loop-at.seen.keys ++ map (λ n. n.now) c.args.others.now.keys) c.loop-at.at (map (λ n. n.now) c.loop-at.names.items) _ (fields_past c.args.fields.now fields c.loop-at.at c.requires c.loop-at-test.false) c.loop-at.invariant
