use Rattle.std.proofs.Common.{map, refl, ap, ◌∙◌, ◌++◌}
use Rattle.go_collections_core.specs.text_core.declared.rule.Rule.TheVariants as rules
use Rattle.go_term_core.specs.Shapes.{fields_in}
use Rattle.go_term_core.specs.settling.Settled.{is_among_names}
use Rattle.go_embed_core.specs.Faults.{member_fault_if, named_faults}
use Rattle.go_embed_core.proofs.Naming.{named_step}
use Rattle.go_embed_core.proofs.Noting.{notes_end}
use Rattle.go_embed_core.proofs.hidden.named_faults.Goals as goal

pub loop-field-preserved : goal.loop-field-preserved
loop-field-preserved c =
    let f = c.field-item.result in
    λ ls. named_step ls (map (λ y. y.now) c.args.names.now.keys) c.args.fields.now c.loop-field.field-index f c.loop-field.faults.items c.note_if.new.faults.items _ c.loop-field-test.true c.field-item.is
    (c.in_ok-note_if.ensures ∙ ap (λ b. c.loop-field.faults.items ++ member_fault_if b f.place rules.B5) (c.has_name-is_hidden.ensures ∙ ap (is_among_names (map (λ y. y.now) c.args.names.now.keys)) c.as_str.ensures)) (c.loop-field.invariant ls)

pub returns : goal.returns
returns c = λ ls. notes_end (λ l. named_faults (map (λ y. y.now) c.args.names.now.keys) (fields_in ls l)) c.args.fields.now c.loop-field.field-index c.loop-field.faults.items _ refl c.loop-field-test.false (c.loop-field.invariant ls)
