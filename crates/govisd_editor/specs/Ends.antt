-- How serving an editor ends.
use Rattle.std.specs.Prelude.{ℕ}
use Rattle.govisd_editor.specs.declared.serving.EditorEnd.{EditorEnd}
use Rattle.govisd_editor.specs.declared.serving.EditorEnd.TheVariants.{Done, Left, Cut, ReadFault, WriteFault, Memory}

-- the exit status: 0 where the editor said `exit` after `shutdown`
abbrev pub status_of : EditorEnd → ℕ
status_of Done = 0
status_of Left = 1
status_of Cut = 1
status_of ReadFault = 1
status_of WriteFault = 1
status_of Memory = 1
