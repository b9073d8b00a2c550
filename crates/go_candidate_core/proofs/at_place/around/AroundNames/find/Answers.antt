use Rattle.std.proofs.Common.{◌≡◌, Option, sym, ap, subst, ◌∙◌}
use Rattle.std.specs.Prelude.{IfOk}
use Rattle.std.specs.Option.{option_map}
use Rattle.go_cursor_core.specs.scope_stack.Blocks.{or_else}
use Rattle.go_body_core.specs.env_core.declared.meaning.Meaning.{Meaning}
use Rattle.go_body_core.specs.env_core.Found.{found_of}
use Rattle.go_body_core.specs.env_core.Looks.{here_look}
use Rattle.go_body_core.specs.env_core.Scenes.{scene_shown}
use Rattle.go_candidate_core.specs.at_place.Locals.{meaning_shown}
use Rattle.go_candidate_core.proofs.at_place.around.AroundNames.find.Goals as goal

pub returns-in-Some : goal.returns-in-Some
returns-in-Some c =
    let h = c.args.self.now.here in
    subst (λ (m : Option Meaning). IfOk c.found_local.result (λ found. found ≡ found_of (scene_shown h.scene.now) h.file h.known.now c.args.name.now (or_else m (here_look h c.args.name.now 0))))
    (sym (ap (option_map (λ l. meaning_shown l.now)) c.in-Some.is) ∙ c.latest.ensures) c.found_local.ensures

pub returns-in-None : goal.returns-in-None
returns-in-None c =
    let h = c.args.self.now.here in
    subst (λ (m : Option Meaning). IfOk c.find.result (λ found. found ≡ found_of (scene_shown h.scene.now) h.file h.known.now c.args.name.now (or_else m (here_look h c.args.name.now 0))))
    (sym (ap (option_map (λ l. meaning_shown l.now)) c.in-None.is) ∙ c.latest.ensures) c.find.ensures
