-- States one after the other: what the laws of a walk rest on.
use Rattle.std.proofs.Common.{◌≡◌, ℕ, List, [], ◌++◌, refl, sym, ap, ◌∙◌}
use Rattle.std.proofs.lemmas.List.{append_assoc, append-nil}
use Rattle.go_scope_core.specs.Models.{ScopesModel, scopes_model}
use Rattle.go_local_core.specs.Steps.{Steps, Done, Inner}
use Rattle.go_names_core.specs.declared.meaning.Outside.{Outside}
use Rattle.go_names_core.specs.Scenes.{NameScene, name_scene, entered}
use Rattle.go_names_core.specs.mirrors.Run.{Noted, noted, also, Ran, ran, before, run}
use Rattle.go_names_core.specs.mirrors.States.{State, LeadsTo, EntersTo, LeavesTo}

pub also_assoc : {N : Type 0} (a b c : Noted N) → also (also a b) c ≡ also a (also b c)
also_assoc a b c = ap (λ ns. noted ns ((a.faults ++ b.faults) ++ c.faults)) (append_assoc a.notes b.notes c.notes) ∙ ap (noted (a.notes ++ (b.notes ++ c.notes))) (append_assoc a.faults b.faults c.faults)

pub also_none : {N : Type 0} (a : Noted N) → also a (noted [] []) ≡ a
also_none a = ap (λ ns. noted ns (a.faults ++ [])) (append-nil a.notes) ∙ ap (noted a.notes) (append-nil a.faults)

pub before_more : {X N : Type 0} (a b : Noted N) (r : Ran X N) → before a (before b r) ≡ before (also a b) r
before_more a b r = ap (λ n. ran n r.locals) (sym (also_assoc a b r.noted))

-- the same scene, from its parts
scene_same : {X : Type 0} (s t : ScopesModel) (ms : List X) → t.blocks ≡ s.blocks → t.file ≡ s.file → t.open_blocks ≡ s.open_blocks → name_scene t ms ≡ name_scene s ms
scene_same s t ms e f g = ap (λ b. name_scene (scopes_model b t.file t.open_blocks) ms) e ∙ (ap (λ n. name_scene (scopes_model s.blocks n t.open_blocks) ms) f ∙ ap (λ o. name_scene (scopes_model s.blocks s.file o) ms) g)

module _ {X N : Type 0} (outside : Outside → X) where
  pub leads_none : (a : State X N) → LeadsTo outside a (λ rest. rest) a
  leads_none a ok = (ok, record { rules = refl; around = (refl, refl); outer = λ outer block e. (block, e); noted = λ rest. refl })

  pub leads_more : (a b c : State X N) (f g : Steps → Steps) → LeadsTo outside a f b → LeadsTo outside b g c → LeadsTo outside a (λ rest. f (g rest)) c
  leads_more a b c f g first second ok =
      let there = second ok in
      let here = first there.0 in (
        here.0,
        record {
          rules = there.1.rules ∙ here.1.rules;
          around = (there.1.around.0 ∙ here.1.around.0, there.1.around.1 ∙ here.1.around.1);
          outer = λ outer block e. let mid = here.1.outer outer block e in there.1.outer outer mid.0 mid.1;
          noted = λ rest. here.1.noted (g rest) ∙ there.1.noted rest;
        },
      )

  pub leads_inner : (a b c d : State X N) (f : Steps → Steps) (o e : ℕ) → EntersTo a b → LeadsTo outside b f c → LeavesTo c d → LeadsTo outside a (λ rest. Inner o e (f Done) rest) d
  leads_inner a b c d f o e enters leads leaves ok =
      let left = leaves ok in
      let along = leads left.0 in
      let in_block = enters along.0 in
      let rules : d.rules ≡ a.rules = left.1 ∙ (along.1.rules ∙ in_block.1) in
      let last = along.1.outer a.scene.scopes.open_blocks [] (ap (λ (s : NameScene X). s.scopes.open_blocks) in_block.2) in
      let open_same : d.scene.scopes.open_blocks ≡ a.scene.scopes.open_blocks = left.5 a.scene.scopes.open_blocks last.0 last.1 in
      let blocks_same : d.scene.scopes.blocks ≡ a.scene.scopes.blocks = left.2.0 ∙ (along.1.around.0 ∙ ap (λ (s : NameScene X). s.scopes.blocks) in_block.2) in
      let file_same : d.scene.scopes.file ≡ a.scene.scopes.file = left.2.1 ∙ (along.1.around.1 ∙ ap (λ (s : NameScene X). s.scopes.file) in_block.2) in
      let inner : Ran X N = run a.rules outside (entered a.scene) (f Done) in
      let inside : before a.noted inner ≡ ran c.noted c.scene.locals =
      ap (λ n. before n inner) (sym in_block.3)
      ∙ (ap (λ r. before b.noted (run r outside (entered a.scene) (f Done))) (sym in_block.1)
      ∙ (ap (λ s. before b.noted (run b.rules outside s (f Done))) (sym in_block.2)
      ∙ (along.1.noted Done ∙ ap (λ n. ran n c.scene.locals) (also_none c.noted)))) in
      let said : also a.noted inner.noted ≡ d.noted = ap (λ (r : Ran X N). r.noted) inside ∙ sym left.4 in
      let means : inner.locals ≡ d.scene.locals = ap (λ (r : Ran X N). r.locals) inside ∙ sym left.3 in
      let there : name_scene a.scene.scopes inner.locals ≡ d.scene = ap (name_scene a.scene.scopes) means ∙ sym (scene_same a.scene.scopes d.scene.scopes d.scene.locals blocks_same file_same open_same) in (
        in_block.0,
        record {
          rules = rules;
          around = (blocks_same, file_same);
          outer = λ outer block h. (block, open_same ∙ h);
          noted = λ rest.
              before_more a.noted inner.noted (run a.rules outside (name_scene a.scene.scopes inner.locals) rest)
              ∙ (ap (λ n. before n (run a.rules outside (name_scene a.scene.scopes inner.locals) rest)) said
              ∙ (ap (λ s. before d.noted (run a.rules outside s rest)) there ∙ ap (λ r. before d.noted (run r outside d.scene rest)) (sym rules)));
        },
      )
