use Rattle.std.proofs.Common.{refl}
use Rattle.govisd_disk.proofs.ReadingLemmas.{file_taken}
use Rattle.govisd_disk.proofs.reading.add_source.Goals as goal

pub returns-in-File : goal.returns-in-File
returns-in-File c =
    file_taken c.add_file.result c.args.kind c.args.own.now c.args.name c.args.files.now.entries c.add_file.new.files.entries c.args.found.now _ c.in-File.is (record { folders = refl; files = refl; passed = refl }) c.add_file.ensures
