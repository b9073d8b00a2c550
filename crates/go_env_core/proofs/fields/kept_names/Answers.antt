use Rattle.std.proofs.Common.{◌+◌, ◌++◌, map, drop, sym, ap, ◌∙◌, append_assoc, append-nil}
use Rattle.go_term_core.specs.Shapes.{fields_in}
use Rattle.go_env_core.specs.Fields.{TheField, fields_seen}
use Rattle.go_env_core.specs.mirrors.Seen.{hider_shown, is_kept, name_unless}
use Rattle.go_env_core.proofs.Seeing.{next_named, none_left}
use Rattle.go_env_core.proofs.fields.kept_names.Goals as goal

pub loop-field-preserved : goal.loop-field-preserved
loop-field-preserved c s ls =
    let o = hider_shown c.args.hider in
    let home = c.args.home.now in
    let fs = c.args.fields.now in
    let i = c.loop-field.field-index in
    let f = c.field-item.result in
    let names = map (λ n. n.now) c.loop-field.names.items in
    let rest = map (λ (g : TheField). g.name) (fields_seen s o home (fields_in ls (drop (i + 1) fs))) in
    ap (λ l. l ++ rest) c.in_ok-add_kept.ensures
    ∙ (append_assoc names (name_unless (is_kept o f.name home) f.name) rest
    ∙ (ap (λ l. names ++ l) (sym (next_named s o home ls fs i f c.loop-field-test.true c.field-item.is)) ∙ c.loop-field.invariant s ls))

pub returns : goal.returns
returns c s ls =
    let o = hider_shown c.args.hider in
    let home = c.args.home.now in
    let fs = c.args.fields.now in
    let names = map (λ n. n.now) c.loop-field.names.items in
    sym (append-nil names)
    ∙ (ap (λ l. names ++ map (λ (g : TheField). g.name) l) (sym (none_left s o home ls fs c.loop-field.field-index c.loop-field-test.false)) ∙ c.loop-field.invariant s ls)
