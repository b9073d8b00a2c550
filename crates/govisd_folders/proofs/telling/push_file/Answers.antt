use Rattle.std.proofs.Common.{◌∙◌, ap}
use Rattle.go_folder_core.specs.Folders.{joined_path}
use Rattle.govisd_folders.specs.Telling.{file_text}
use Rattle.govisd_disk.proofs.ScopeLemmas.{some_from}
use Rattle.govisd_folders.proofs.telling.push_file.Goals as goal

pub push_run-requires-clause-lies : goal.push_run-requires-clause-lies
push_run-requires-clause-lies c =
    let page = c.args.page.now in
    let inside = c.as_str.ensures.value ∙ (c.in_ok-inside.ensures ∙ ap (joined_path c.folder_of.result.now) c.name.ensures) in
    record {
      source = c.in-Some.source.now;
      lies = some_from _ _ _ _ c.source_in.ensures c.in-Some.is;
      folder = c.folder_of.result.now;
      below = c.folder_of.ensures;
      named = c.as_str-2.ensures.value ∙ (c.in_ok-file.ensures ∙ ap (file_text page.look.format page.given.now) inside);
      same = c.text-text.ensures;
    }
