-- What `lsp` does: its status, and what it says. Nothing is stated of an editor's messages.
use Rattle.std.specs.Prelude.{◌≡◌, ℕ, List, [], Option, codes}
use Rattle.govisd_editor.specs.Ends.{status_of}
use Rattle.govisd_editor.specs.declared.serving.EditorEnd.{EditorEnd}
use Rattle.govisd_editor.specs.declared.serving.EditorEnd.TheVariants.{Done, Left, Cut, ReadFault, WriteFault, Memory}
use Rattle.govisd.specs.declared.program.Ran.{Ran}
use Rattle.govisd.specs.Says.{SaysText}

-- why serving an editor ended before the editor said `exit`
abbrev pub editor_end_text : EditorEnd → List ℕ
editor_end_text Done = []
editor_end_text Left = []
editor_end_text Cut = codes "govisd: the editor's messages ended before it said exit\n"
editor_end_text ReadFault = codes "govisd: standard input cannot be read\n"
editor_end_text WriteFault = codes "govisd: standard output cannot be written\n"
editor_end_text Memory = codes "govisd: memory ran out\n"

-- an editor was served: how that ended, and what was said
pub record ServesEditor (ran : Ran) (err err' : Option (List ℕ)) : Type 0 where
  pub ending : EditorEnd
  pub status : ran.status ≡ status_of ending
  pub says : SaysText ran.is_told (editor_end_text ending) err err'
